-- What is read of files with CronJobs: manifests, and what a client prints of a cluster.
use Rattle.std.specs.Prelude.{◌≡◌, ◌⊎◌, ℕ, List, [], ◌∷◌, ◌++◌, false, filter, not}
use Rattle.std.specs.FinMap as map
use Rattle.cj_base.specs.declared.faults.FieldFault.{FieldFault}
use Rattle.cj_base.specs.declared.refusal.Refusal.TheVariants.{Invalid, Syntax}
use Rattle.cj_types.specs.declared.cron.CronJobDraft.{CronJobDraft}
use Rattle.cj_zone.specs.declared.zone.Zone.{Zone}
use Rattle.cj_manifest.specs.Drafts.{cron_draft}
use Rattle.cj_manifest.specs.Faults.{cron_faults}
use Rattle.cj_manifest.specs.Reading.{IsReading, IsRefused}
use Rattle.cj_manifest.specs.Warnings.{cron_warnings}
use Rattle.cj_cluster.specs.declared.cron.ClusterCron.{ClusterCron}
use Rattle.cj_cluster.specs.declared.kubectl.fault.ListFault.{ListFault}
use Rattle.cj_cluster.specs.declared.kubectl.list.ClusterList.{ClusterList}
use Rattle.cj_cluster.specs.kubectl.Reading.{IsClusterList, IsRefusedList}
use Rattle.cj_answers.specs.Clusters.{is_other, is_read}
use Rattle.cj_inspect.specs.declared.cron_files.CronFile.{CronFile}
use Rattle.cj_inspect.specs.declared.cron_files.FileCrons.{FileCrons}

-- a CronJob of a draft: its name and its spec are the draft's
pub record IsCron (draft : CronJobDraft) (c : ClusterCron) : Type 0 where
  pub key : c.cron.key ≡ draft.key
  pub spec : c.cron.spec ≡ draft.spec

-- a file of that one alone
pub record IsDrafted (name : List ℕ) (draft : CronJobDraft) (r : FileCrons) : Type 0 where
  pub cron : ClusterCron
  pub is_cron : IsCron draft cron
  pub name_is : r.name ≡ name
  pub crons : r.crons ≡ cron ∷ []
  pub notes : r.list.notes ≡ []

-- a file of a list: its CronJobs, in the order of their keys
pub record IsListed (name : List ℕ) (list : ClusterList) (r : FileCrons) : Type 0 where
  pub name_is : r.name ≡ name
  pub crons : r.crons ≡ map.values list.cluster.crons
  pub list_is : r.list ≡ list

-- the bytes are the manifest of a CronJob, without a fault, which says this
pub record Drafts (zones : List Zone) (bytes : List ℕ) (draft : CronJobDraft) : Type 0 where
  pub warnings : List (List ℕ)
  pub reading : IsReading CronJobDraft (cron_faults zones) cron_draft cron_warnings bytes draft
      warnings

-- they are none: no JSON, or a value with faults
abbrev pub DraftsNone : List Zone → List ℕ → Type 0
DraftsNone zones bytes =
    IsRefused (cron_faults zones) bytes Syntax
    ⊎ ((faults : List FieldFault) × IsRefused (cron_faults zones) bytes (Invalid faults))

-- a manifest
-- rule: upcoming-files
pub record IsManifest (zones : List Zone) (name bytes : List ℕ) (r : FileCrons) : Type 0 where
  pub draft : CronJobDraft
  pub reads : Drafts zones bytes draft
  pub drafted : IsDrafted name draft r

-- a list without the notes of objects of other kinds
abbrev pub without_others : ClusterList → ClusterList
without_others list = record {
  cluster = list.cluster;
  notes = filter (λ n. not (is_other n.said)) list.notes;
}

-- an item of the list that these bytes are is refused; so it is that of the same manifests as a
-- server would have them, without objects of other kinds
-- rule: upcoming-manifests
pub record IsServed (zones : List Zone) (bytes : List ℕ) (list : ClusterList) : Type 0 where
  pub own : ClusterList
  pub read : IsClusterList zones bytes own
  pub refused : is_read own.notes ≡ false
  pub served : List ℕ
  pub whole : ClusterList
  pub is_whole : IsClusterList zones served whole
  pub is : list ≡ without_others whole

-- the list that the bytes are, or that
-- rule: upcoming-manifests
abbrev pub IsServedList : List Zone → List ℕ → ClusterList → Type 0
IsServedList zones bytes list = IsClusterList zones bytes list ⊎ IsServed zones bytes list

-- else what a client prints
-- rules: upcoming-files, cluster-list
pub record IsPrinted (zones : List Zone) (name bytes : List ℕ) (r : FileCrons) : Type 0 where
  pub none : DraftsNone zones bytes
  pub list : ClusterList
  pub read : IsServedList zones bytes list
  pub listed : IsListed name list r

-- what is read of a file
-- rule: upcoming-files
abbrev pub IsFile : List Zone → CronFile → FileCrons → Type 0
IsFile zones file r =
    IsManifest zones file.name.now file.bytes.now r ⊎ IsPrinted zones file.name.now file.bytes.now r

-- that of one file more, at the end
pub record AddsFile (zones : List Zone) (file : CronFile) (found more : List FileCrons)
    : Type 0 where
  pub read : FileCrons
  pub is_file : IsFile zones file read
  pub more_is : more ≡ found ++ read ∷ []

-- of these files, one after another
abbrev pub AddsFiles : List Zone → List CronFile → List FileCrons → List FileCrons → Type 0
AddsFiles zones [] found all = all ≡ found
AddsFiles zones (file ∷ files) found all =
    (more : List FileCrons) × AddsFile zones file found more × AddsFiles zones files more all

-- what is read of each of the files, in their order
-- rule: upcoming-files
abbrev pub AreFiles : List Zone → List CronFile → List FileCrons → Type 0
AreFiles zones files found = AddsFiles zones files [] found

-- the file is the first that is neither, for this fault
-- rule: upcoming-files
abbrev pub Stops : List Zone → List CronFile → CronFile → ListFault → Type 0
Stops zones [] bad fault = ⊥
Stops zones (file ∷ files) bad fault =
    ((file ≡ bad) × IsRefusedList bad.bytes.now fault)
    ⊎ ((read : FileCrons) × IsFile zones file read × Stops zones files bad fault)

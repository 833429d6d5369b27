-- What a reading of a printed cluster answers.
use Rattle.std.specs.Prelude.{◌≡◌, ℕ, ◌+◌, ◌&&◌, List, [], ◌∷◌, ◌++◌, codes, bytes_eq, Bool, true, false, Option, Some, None, is_none, is_some, unwrap_or, Result, Ok, Err}
use Rattle.std.specs.FinMap as map
use Rattle.serde_json.specs.Data.{Data, Items, no_items, item}
use Rattle.cj_base.specs.declared.cause.Cause.{Cause}
use Rattle.cj_base.specs.declared.field.Field.TheVariants as At
use Rattle.cj_base.specs.declared.faults.FieldFault.{FieldFault}
use Rattle.cj_types.specs.Keys.{Place, fault_of}
use Rattle.cj_types.specs.Objects.{cron_of}
use Rattle.cj_types.specs.declared.cron.CronJobDraft.{CronJobDraft}
use Rattle.cj_types.specs.declared.job.Job.{Job}
use Rattle.cj_zone.specs.declared.zone.Zone.{Zone}
use Rattle.cj_cluster.specs.Content.{nothing, with_cron, with_job}
use Rattle.cj_cluster.specs.declared.cron.ClusterCron.{ClusterCron}
use Rattle.cj_cluster.specs.declared.cron.CronMarks.{CronMarks}
use Rattle.cj_cluster.specs.declared.times.JobTimes.{JobTimes}
use Rattle.cj_manifest.specs.Drafts.{cron_draft, given, job_head, value_or}
use Rattle.cj_manifest.specs.Faults.{cron_faults, head_faults}
use Rattle.cj_manifest.specs.Members.{present}
use Rattle.cj_manifest.specs.Owners.{text_at}
use Rattle.cj_manifest.specs.Reading.{IsNoValue, Reads}
use Rattle.cj_manifest.specs.Values.{an_object, required, text}
use Rattle.cj_manifest.specs.declared.head.JobHead.{JobHead}
use Rattle.cj_cluster.specs.declared.kubectl.fault.ListFault.{ListFault}
use Rattle.cj_cluster.specs.declared.kubectl.fault.ListFault.TheVariants.{Form, Memory, Syntax}
use Rattle.cj_cluster.specs.declared.kubectl.item.Item.{Item}
use Rattle.cj_cluster.specs.declared.kubectl.item.Item.TheVariants as Read
use Rattle.cj_cluster.specs.declared.kubectl.list.ClusterList.{ClusterList}
use Rattle.cj_cluster.specs.declared.kubectl.notes.Said.{Said}
use Rattle.cj_cluster.specs.declared.kubectl.notes.Said.TheVariants.{Kind, Refused, Taken}
use Rattle.cj_cluster.specs.declared.kubectl.times.CronTimes.{CronTimes}
use Rattle.cj_cluster.specs.declared.kubectl.times.RunTimes.{RunTimes}
use Rattle.cj_cluster.specs.kubectl.Faults.{cron_server_faults, job_server_faults}
use Rattle.cj_cluster.specs.declared.kubectl.notes.ListedKind.{ListedKind}
use Rattle.cj_cluster.specs.declared.kubectl.notes.ListedKind.TheVariants as Of
use Rattle.cj_cluster.specs.kubectl.Lists.{item_kind, items_of, typed}
use Rattle.cj_cluster.specs.kubectl.Named.{cron_named, key_text, object_named}
use Rattle.cj_cluster.specs.kubectl.NamedTimes.{named_time}
use Rattle.cj_cluster.specs.kubectl.Objects.{cron_made, job_made, outcome_of}
use Rattle.cj_cluster.specs.kubectl.Rows.{AreCronTimes, AreRunTimes, active_of, deleting_of, finish_row, stuck_of}

-- ---- an item

-- the item is refused with these faults, where there are any; else it is read further
abbrev pub Unless : List FieldFault → Item → Type 0 → Type 0
Unless [] r Further = Further
Unless (fault ∷ faults) r Further = r ≡ Read.Faulty (fault ∷ faults)

abbrev pub marks_of : Data → CronMarks
marks_of d = record { is_deleting = deleting_of d; is_stuck = stuck_of d }

-- the CronJob of a draft, by its value and its times
abbrev pub cron_at : ℕ → Data → CronJobDraft → CronTimes → ClusterCron
cron_at place d draft times =
    cron_made place draft (unwrap_or draft.meta.uid []) (value_or 0 times.created)
    (value_or [] (active_of d))
    (given times.last) (given times.success) (marks_of d)

-- what is read of a CronJob whose manifest has no fault
pub record IsSoundCron (place : ℕ) (d : Data) (r : Item) : Type 0 where
  pub draft : CronJobDraft
  pub times : CronTimes
  pub drafted : cron_draft d ≡ Some draft
  pub timed : AreCronTimes d times
  pub answer : Unless (cron_server_faults draft.meta.uid d times) r
      (r ≡ Read.Cron (cron_at place d draft times))

-- rule: cluster-faults
abbrev pub IsCronItem : List Zone → ℕ → Data → Item → Type 0
IsCronItem zones place d r = Unless (cron_faults zones d) r (IsSoundCron place d r)

abbrev pub job_at : ℕ → Data → JobHead → RunTimes → Job
job_at place d head times =
    job_made place head (value_or 0 times.created)
    (outcome_of (given (finish_row d)) (given times.ended))

-- the time that the annotation says, else that of the name
abbrev pub or_named : Option ℕ → Option ℕ → Option ℕ
or_named None named = named
or_named (Some time) named = Some time

-- the time in the name of the Job
abbrev pub named_in : Job → Option ℕ
named_in job = named_time (cron_of job) job.key.name

-- rules: cluster-job, cluster-named
abbrev pub times_of : Job → RunTimes → JobTimes
times_of job times =
    record {
      scheduled = or_named (given times.scheduled) (named_in job);
      is_named = is_none (given times.scheduled) && is_some (named_in job);
      ended = given times.ended;
      is_manual = times.is_manual;
      is_suspended = times.is_suspended;
    }

-- what is read of a Job whose head has no fault
pub record IsSoundJob (place : ℕ) (d : Data) (r : Item) : Type 0 where
  pub head : JobHead
  pub times : RunTimes
  pub headed : job_head d ≡ Some head
  pub timed : AreRunTimes d times
  pub answer : Unless (job_server_faults d times) r
      (r ≡ Read.Run (job_at place d head times) (times_of (job_at place d head times) times))

-- rule: cluster-faults
abbrev pub IsJobItem : ℕ → Data → Item → Type 0
IsJobItem place d r = Unless (head_faults d) r (IsSoundJob place d r)

-- by whether the kind is a CronJob's, and whether it is a Job's
abbrev pub IsOfKind : Bool → Bool → List Zone → ℕ → Data → List ℕ → Item → Type 0
IsOfKind true is_job zones place d kind r = IsCronItem zones place d r
IsOfKind false true zones place d kind r = IsJobItem place d r
IsOfKind false false zones place d kind r = r ≡ Read.Other kind

abbrev pub kind_field : Data → Result (List ℕ) Cause
kind_field d = required text (present (codes "kind") d)

abbrev pub IsKindItem : List Zone → ℕ → Data → Result (List ℕ) Cause → Item → Type 0
IsKindItem zones place d (Err cause) r = r ≡ Read.Faulty (fault_of At.Kind (Some cause))
IsKindItem zones place d (Ok kind) r =
    IsOfKind (bytes_eq kind (codes "CronJob")) (bytes_eq kind (codes "Job")) zones place d kind r

abbrev pub IsObjectItem : List Zone → ℕ → Result Data Cause → Item → Type 0
IsObjectItem zones place (Err cause) r = r ≡ Read.Faulty (fault_of At.Whole (Some cause))
IsObjectItem zones place (Ok d) r = IsKindItem zones place d (kind_field d) r

-- what is read of the item at a place
-- rule: cluster-list
abbrev pub IsItem : List Zone → ℕ → Data → Item → Type 0
IsItem zones place d r = IsObjectItem zones place (an_object d) r

-- ---- the list

abbrev pub start : ClusterList
start = record { cluster = nothing; notes = [] }

-- with one more note, which names the CronJob that the item is of
abbrev pub noted : ℕ → Data → Said → ClusterList → ClusterList
noted place d said s = record {
  cluster = s.cluster;
  notes = s.notes
      ++ record {
        place = place;
        object = object_named d;
        cron = cron_named d;
        said = said;
      } ∷ [];
}

-- an earlier object of that kind has the name
-- rule: cluster-faults
abbrev pub taken : ListedKind → Place → Said
taken kind key = Taken kind (key_text key.namespace key.name)

-- with a CronJob, where none is at its key
abbrev pub adds_cron : ℕ → Data → ClusterCron → Option ClusterCron → ClusterList → ClusterList
adds_cron place d cron None s = record { cluster = with_cron cron s.cluster; notes = s.notes }
adds_cron place d cron (Some other) s = noted place d (taken Of.Cron cron.cron.key) s

abbrev pub adds_job : ℕ → Data → Job → JobTimes → Option Job → ClusterList → ClusterList
adds_job place d job times None s =
    record { cluster = with_job job times s.cluster; notes = s.notes }
adds_job place d job times (Some other) s = noted place d (taken Of.Run job.key) s

-- with what is read at a place: the first object of a name stands
-- rule: cluster-list
abbrev pub adds : ℕ → Data → Item → ClusterList → ClusterList
adds place d (Read.Cron cron) s = adds_cron place d cron (map.get s.cluster.crons cron.cron.key) s
adds place d (Read.Run job times) s = adds_job place d job times (map.get s.cluster.jobs job.key) s
adds place d (Read.Other kind) s = noted place d (Kind kind) s
adds place d (Read.Faulty faults) s = noted place d (Refused faults) s

-- with the item at a place
pub record AddsItem (zones : List Zone) (place : ℕ) (d : Data) (s more : ClusterList) : Type 0 where
  pub read : Item
  pub is_item : IsItem zones place d read
  pub more_is : more ≡ adds place d read s

-- the items of a list, by the kind that they have and by its version
pub record TypeMeta : Type 0 where
  pub kind : Option (List ℕ)
  pub version : Option (List ℕ)

abbrev pub type_of : Data → TypeMeta
type_of d = record { kind = item_kind d; version = text_at (codes "apiVersion") d }

-- with the items from a place on, one after another: one that is refused ends nothing
-- rules: cluster-list, cluster-faults
abbrev pub AddsItems : List Zone → TypeMeta → ℕ → Items → ClusterList → ClusterList → Type 0
AddsItems zones t place no_items s all = all ≡ s
AddsItems zones t place (item d ds) s all =
    (more : ClusterList) × AddsItem zones place (typed t.kind t.version d) s more
    × AddsItems zones t (place + 1) ds more all

-- what the bytes of a list say
-- rule: cluster-list
pub record IsClusterList (zones : List Zone) (bytes : List ℕ) (r : ClusterList) : Type 0 where
  pub value : Data
  pub items : Items
  pub reads : Reads bytes value
  pub listed : items_of value ≡ Some items
  pub added : AddsItems zones (type_of value) 1 items start r

-- why bytes are none
-- rule: cluster-list
abbrev pub IsRefusedList : List ℕ → ListFault → Type 0
IsRefusedList bytes Syntax = IsNoValue bytes
IsRefusedList bytes Form = (d : Data) × Reads bytes d × (items_of d ≡ None)
IsRefusedList bytes Memory = Unit {0}

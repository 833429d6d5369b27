-- Reading and writing agree: an object that was made of a manifest is written as a manifest with
-- the same draft.
use Rattle.std.specs.Prelude.{◌≡◌, ◌<◌, ◌^◌, ℕ, List, [], Option, Some}
use Rattle.std.specs.Fmt.{decimal}
use Rattle.serde_json.specs.Data.{Data}
use Rattle.serde_json.specs.Read.{read}
use Rattle.serde_json.specs.Written.{compact_text}
use Rattle.cj_base.specs.declared.faults.FieldFault.{FieldFault}
use Rattle.cj_types.specs.declared.cron.CronJob.{CronJob}
use Rattle.cj_types.specs.declared.cron.CronJobDraft.{CronJobDraft}
use Rattle.cj_types.specs.declared.job.Job.{Job}
use Rattle.cj_types.specs.declared.job.JobDraft.{JobDraft}
use Rattle.cj_types.specs.declared.meta.DraftMeta.{DraftMeta}
use Rattle.cj_types.specs.declared.meta.Meta.{Meta}
use Rattle.cj_types.specs.Uids.{uid_text}
use Rattle.cj_json.specs.Objects.{cron_written, job_written}
use Rattle.cj_zone.specs.declared.zone.Zone.{Zone}
use Rattle.cj_manifest.specs.Drafts.{cron_draft, job_draft}
use Rattle.cj_manifest.specs.Faults.{cron_faults, job_faults}
use Rattle.cj_manifest.specs.Reading.{IsReading, Says}
use Rattle.cj_manifest.specs.Warnings.{cron_warnings, job_warnings}

-- labels and annotations are the draft's, and the generation fits 64 bits
pub record IsMetaOf (draft : DraftMeta) (meta : Meta) : Type 0 where
  pub labels : meta.labels ≡ draft.labels
  pub annotations : meta.annotations ≡ draft.annotations
  pub generation : meta.generation < 2 ^ 64

-- a CronJob that has what the draft says, as the one that a create makes of it; with any uid,
-- version, times and status
pub record IsCronOf (draft : CronJobDraft) (o : CronJob) : Type 0 where
  pub key : o.key ≡ draft.key
  pub meta : IsMetaOf draft.meta o.meta
  pub spec : o.spec ≡ draft.spec

-- a Job that has what the draft says, as the one that a create makes of it; with any uid, version,
-- time and outcome
pub record IsJobOf (draft : JobDraft) (o : Job) : Type 0 where
  pub key : o.key ≡ draft.key
  pub meta : IsMetaOf draft.meta o.meta
  pub owners : o.owners ≡ draft.owners
  pub spec : o.spec ≡ draft.spec

-- the draft's metadata with the object's uid and version
abbrev pub identified : DraftMeta → Meta → DraftMeta
identified draft meta = record draft { uid = Some (uid_text meta.uid); version = Some (decimal meta.version) }

-- the object can be written, its JSON value has no fault and no warning and reads as this draft,
-- and so does its text
pub record ReadsBack (X : Type 0) (faults : Data → List FieldFault) (draft : Data → Option X)
    (warnings : Data → List (List ℕ)) (made : Option Data) (x : X) : Type 0 where
  pub value : Data
  pub written : made ≡ Some value
  pub reads : read (compact_text value) ≡ Some value
  pub says : Says X (faults value) (draft value) (warnings value) x []

-- where bytes are read as the manifest of a CronJob under the zones of a table, each CronJob that
-- has what the draft says reads back, under the same zones, as that draft with the CronJob's uid
-- and version
-- rule: reads-back
abbrev pub CronReadsBack : Type 0
CronReadsBack = (zones : List Zone) (bytes : List ℕ) (draft : CronJobDraft)
    (warnings : List (List ℕ)) (o : CronJob) →
    IsReading CronJobDraft (cron_faults zones) cron_draft cron_warnings bytes draft warnings
    → IsCronOf draft o →
    ReadsBack CronJobDraft (cron_faults zones) cron_draft cron_warnings (cron_written o)
    (record draft { meta = identified draft.meta o.meta })

-- where bytes are read as the manifest of a Job, each Job that has what the draft says reads back
-- as that draft with the Job's uid and version
-- rule: reads-back
abbrev pub JobReadsBack : Type 0
JobReadsBack = (bytes : List ℕ) (draft : JobDraft) (warnings : List (List ℕ)) (o : Job) →
    IsReading JobDraft job_faults job_draft job_warnings bytes draft warnings → IsJobOf draft o →
    ReadsBack JobDraft job_faults job_draft job_warnings (job_written o)
    (record draft { meta = identified draft.meta o.meta })

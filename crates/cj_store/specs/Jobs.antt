-- The answers of calls on Jobs, with the first refusal that holds. A write answers the object that
-- it leaves, and a deletion the last object with the version of the deletion.
use Rattle.std.specs.Prelude.{ℕ, Bool, true, ◌==◌, List, Option, Some, None, Result, Ok, Err, is_some, if◌then◌else◌}
use Rattle.std.specs.List.{filter}
use Rattle.std.specs.FinMap as map
use Rattle.cj_base.specs.declared.refusal.Refusal.{Refusal}
use Rattle.cj_base.specs.declared.refusal.Refusal.TheVariants.{NotPermitted, NotFound, AlreadyExists, Conflict, AlreadyFinished}
use Rattle.cj_types.specs.Keys.{Place}
use Rattle.cj_types.specs.Current.{is_current}
use Rattle.cj_types.specs.Owners.{controller_of}
use Rattle.cj_types.specs.declared.job.Job.{Job}
use Rattle.cj_types.specs.declared.job.JobDraft.{JobDraft}
use Rattle.cj_types.specs.declared.policy.Outcome.{Outcome}
use Rattle.cj_types.specs.declared.policy.Outcome.TheVariants.{Complete, Failed}
use Rattle.cj_table.specs.jobs.Owners.{is_job_of}
use Rattle.cj_store.specs.Content.{Content}
use Rattle.cj_store.specs.Equal.{same_job_spec, same_owners}
use Rattle.cj_store.specs.Metadata.{new_meta, touched, updated, version_not_allowed}

abbrev pub new_job : Content → JobDraft → ℕ → Job
new_job s draft now = record { key = draft.key; meta = new_meta s draft.meta now; owners = draft.owners; spec = draft.spec; outcome = None }

-- a controller's create: refused where the name is taken; a uid or version in the draft is dropped
-- rule: owned-create
abbrev pub job_made : Content → JobDraft → ℕ → Result Job Refusal
job_made s draft now = if is_some (map.get s.jobs draft.key) then Err AlreadyExists else Ok
    (new_job s draft now)

-- a user's create: refused also with a controller reference, and with a version
-- rules: create, owned-create, refusals
abbrev pub job_created : Content → JobDraft → ℕ → Result Job Refusal
job_created s draft now =
    if is_some (controller_of draft.owners) then Err NotPermitted
    else if is_some draft.meta.version then Err version_not_allowed
    else job_made s draft now

-- the current object with the draft's labels, annotations and spec
abbrev pub updated_job : Content → JobDraft → Job → Job
updated_job s draft job = record job { meta = updated s draft.meta (same_job_spec draft.spec job.spec) job.meta; spec = draft.spec }

abbrev pub job_updated_from : Content → JobDraft → Option Job → Result Job Refusal
job_updated_from s draft None = Err NotFound
job_updated_from s draft (Some job) =
    if is_current draft.meta job.meta then
    if same_owners draft.owners job.owners then Ok (updated_job s draft job) else Err NotPermitted
    else Err (Conflict job.meta.version)

-- an update, conditional on the version and the uid that the draft gives; owner references can't
-- change
-- rules: update, refusals
abbrev pub job_updated : Content → JobDraft → Result Job Refusal
job_updated s draft = job_updated_from s draft (map.get s.jobs draft.key)

-- no uid is given, or this one
abbrev pub is_asked : Option ℕ → ℕ → Bool
is_asked None uid = true
is_asked (Some asked) uid = uid == asked

abbrev pub last_job : Content → Job → Job
last_job s job = record job { meta = touched s job.meta }

abbrev pub job_deleted_from : Content → Option ℕ → Option Job → Result Job Refusal
job_deleted_from s uid None = Err NotFound
job_deleted_from s uid (Some job) = if is_asked uid job.meta.uid then Ok (last_job s job) else Err
    NotFound

-- a deletion, with a uid as its precondition where one is given
-- rule: deletion
abbrev pub job_deleted : Content → Place → Option ℕ → Result Job Refusal
job_deleted s key uid = job_deleted_from s uid (map.get s.jobs key)

-- a Job that ends now with success has this moment as its completion time
-- rule: job-end
abbrev pub ended_at : ℕ → Outcome → Outcome
ended_at now (Complete _) = Complete now
ended_at now Failed = Failed

abbrev pub ended_job : Content → Outcome → ℕ → Job → Job
ended_job s outcome now job = record job { meta = touched s job.meta; outcome = Some (ended_at now outcome) }

abbrev pub job_ended_from : Content → ℕ → Outcome → ℕ → Option Job → Result Job Refusal
job_ended_from s uid outcome now None = Err NotFound
job_ended_from s uid outcome now (Some job) =
    if job.meta.uid == uid then
    if is_some job.outcome then Err AlreadyFinished else Ok (ended_job s outcome now job)
    else Err NotFound

-- the end of the Job with this uid, which is final
-- rules: job-end, refusals
abbrev pub job_ended : Content → Place → ℕ → Outcome → ℕ → Result Job Refusal
job_ended s key uid outcome now = job_ended_from s uid outcome now (map.get s.jobs key)

-- the Jobs of a CronJob's key, in order of name
-- rule: jobs-of
abbrev pub jobs_of : Content → Place → List Job
jobs_of s key = filter (is_job_of key) (map.values s.jobs)

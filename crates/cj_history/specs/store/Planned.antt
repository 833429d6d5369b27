-- Which write a call makes, with the first refusal that holds, by the writes before it: API
-- conventions, "HTTP Status codes" and "Concurrency Control and Consistency".
use Rattle.std.specs.Prelude.{ℕ, ◌==◌, List, Option, Some, None, Result, Ok, Err, is_some, if◌then◌else◌}
use Rattle.cj_base.specs.declared.refusal.Refusal.{Refusal}
use Rattle.cj_base.specs.declared.refusal.Refusal.TheVariants.{NotPermitted, NotFound, AlreadyExists, Conflict, AlreadyFinished}
use Rattle.cj_types.specs.Keys.{Place}
use Rattle.cj_types.specs.Current.{is_current}
use Rattle.cj_types.specs.Owners.{controller_of}
use Rattle.cj_types.specs.declared.cron.CronJob.{CronJob}
use Rattle.cj_types.specs.declared.cron.CronJobDraft.{CronJobDraft}
use Rattle.cj_types.specs.declared.cron.CronStatus.{CronStatus}
use Rattle.cj_types.specs.declared.job.Job.{Job}
use Rattle.cj_types.specs.declared.job.JobDraft.{JobDraft}
use Rattle.cj_types.specs.declared.policy.Outcome.{Outcome}
use Rattle.cj_types.specs.declared.event.Event.{Event}
use Rattle.cj_store.specs.Equal.{same_owners}
use Rattle.cj_store.specs.Metadata.{version_not_allowed}
use Rattle.cj_store.specs.Jobs.{is_asked}
use Rattle.cj_history.specs.store.Written.{current_cron, current_job, cron_created, cron_updated, status_set, cron_deleted, job_created, job_updated, job_ended, job_deleted}

-- a create gives no version, and its name is free
-- rule: looking-back
abbrev pub create_cron : List Event → CronJobDraft → ℕ → Result Event Refusal
create_cron ws d now =
    if is_some d.meta.version then Err version_not_allowed
    else if is_some (current_cron ws d.key) then Err AlreadyExists
    else Ok (cron_created ws d now)

-- an update is of the current object, where it gives a version or a uid
abbrev pub update_cron_from : List Event → CronJobDraft → Option CronJob → Result Event Refusal
update_cron_from ws d None = Err NotFound
update_cron_from ws d (Some c) = if is_current d.meta c.meta then Ok (cron_updated ws d c) else Err
    (Conflict c.meta.version)

-- rule: looking-back
abbrev pub update_cron : List Event → CronJobDraft → Result Event Refusal
update_cron ws d = update_cron_from ws d (current_cron ws d.key)

-- an update of a status gives both
abbrev pub set_status_from : List Event → ℕ → ℕ → CronStatus → Option CronJob → Result Event Refusal
set_status_from ws uid version status None = Err NotFound
set_status_from ws uid version status (Some c) =
    if c.meta.uid == uid then
    if c.meta.version == version then Ok (status_set ws status c) else Err (Conflict c.meta.version)
    else Err NotFound

-- rule: looking-back
abbrev pub set_status : List Event → Place → ℕ → ℕ → CronStatus → Result Event Refusal
set_status ws k uid version status = set_status_from ws uid version status (current_cron ws k)

abbrev pub delete_cron_from : List Event → Option CronJob → Result Event Refusal
delete_cron_from ws None = Err NotFound
delete_cron_from ws (Some c) = Ok (cron_deleted ws c)

abbrev pub delete_cron : List Event → Place → Result Event Refusal
delete_cron ws k = delete_cron_from ws (current_cron ws k)

-- a worker's Job only needs a free name; a user's has no controller and gives no version
abbrev pub make_job : List Event → JobDraft → ℕ → Result Event Refusal
make_job ws d now = if is_some (current_job ws d.key) then Err AlreadyExists else Ok
    (job_created ws d now)

abbrev pub create_job : List Event → JobDraft → ℕ → Result Event Refusal
create_job ws d now =
    if is_some (controller_of d.owners) then Err NotPermitted
    else if is_some d.meta.version then Err version_not_allowed
    else make_job ws d now

-- an update of a Job leaves its owners
abbrev pub update_job_from : List Event → JobDraft → Option Job → Result Event Refusal
update_job_from ws d None = Err NotFound
update_job_from ws d (Some j) =
    if is_current d.meta j.meta then
    if same_owners d.owners j.owners then Ok (job_updated ws d j) else Err NotPermitted
    else Err (Conflict j.meta.version)

abbrev pub update_job : List Event → JobDraft → Result Event Refusal
update_job ws d = update_job_from ws d (current_job ws d.key)

-- a deletion may ask for a uid
abbrev pub delete_job_from : List Event → Option ℕ → Option Job → Result Event Refusal
delete_job_from ws uid None = Err NotFound
delete_job_from ws uid (Some j) = if is_asked uid j.meta.uid then Ok (job_deleted ws j) else Err
    NotFound

-- rule: looking-back
abbrev pub delete_job : List Event → Place → Option ℕ → Result Event Refusal
delete_job ws k uid = delete_job_from ws uid (current_job ws k)

-- an end is final
abbrev pub end_job_from : List Event → ℕ → Outcome → ℕ → Option Job → Result Event Refusal
end_job_from ws uid outcome now None = Err NotFound
end_job_from ws uid outcome now (Some j) =
    if j.meta.uid == uid then
    if is_some j.outcome then Err AlreadyFinished else Ok (job_ended ws outcome now j)
    else Err NotFound

-- rule: looking-back
abbrev pub end_job : List Event → Place → ℕ → Outcome → ℕ → Result Event Refusal
end_job ws k uid outcome now = end_job_from ws uid outcome now (current_job ws k)

-- The answers of calls on CronJobs, with the first refusal that holds. A write answers the object
-- that it leaves, and a deletion the last object with the version of the deletion.
use Rattle.std.specs.Prelude.{ℕ, ◌==◌, Option, Some, None, Result, Ok, Err, [], is_some, if◌then◌else◌}
use Rattle.std.specs.FinMap as map
use Rattle.cj_base.specs.declared.refusal.Refusal.{Refusal}
use Rattle.cj_base.specs.declared.refusal.Refusal.TheVariants.{NotFound, AlreadyExists, Conflict}
use Rattle.cj_types.specs.Keys.{Place}
use Rattle.cj_types.specs.Current.{is_current}
use Rattle.cj_types.specs.declared.cron.CronJob.{CronJob}
use Rattle.cj_types.specs.declared.cron.CronJobDraft.{CronJobDraft}
use Rattle.cj_types.specs.declared.cron.CronStatus.{CronStatus}
use Rattle.cj_store.specs.Content.{Content}
use Rattle.cj_store.specs.Equal.{same_cron_spec}
use Rattle.cj_store.specs.Metadata.{new_meta, touched, updated, version_not_allowed}

-- the status of a new CronJob: no Job runs, and none was ever scheduled
abbrev pub first_status : CronStatus
first_status = record { active = []; last_schedule_time = None; last_successful_time = None }

abbrev pub new_cron : Content → CronJobDraft → ℕ → CronJob
new_cron s draft now = record { key = draft.key; meta = new_meta s draft.meta now; spec = draft.spec; status = first_status }

-- a create: refused with a version, and where the name is taken; a uid in the draft is dropped
-- rules: create, refusals
abbrev pub cron_created : Content → CronJobDraft → ℕ → Result CronJob Refusal
cron_created s draft now =
    if is_some draft.meta.version then Err version_not_allowed
    else if is_some (map.get s.crons draft.key) then Err AlreadyExists
    else Ok (new_cron s draft now)

-- the current object with the draft's labels, annotations and spec
abbrev pub updated_cron : Content → CronJobDraft → CronJob → CronJob
updated_cron s draft cron = record cron { meta = updated s draft.meta (same_cron_spec draft.spec cron.spec) cron.meta; spec = draft.spec }

abbrev pub cron_updated_from : Content → CronJobDraft → Option CronJob → Result CronJob Refusal
cron_updated_from s draft None = Err NotFound
cron_updated_from s draft (Some cron) = if is_current draft.meta cron.meta then Ok
    (updated_cron s draft cron) else Err (Conflict cron.meta.version)

-- an update, conditional on the version and the uid that the draft gives
-- rules: update, refusals
abbrev pub cron_updated : Content → CronJobDraft → Result CronJob Refusal
cron_updated s draft = cron_updated_from s draft (map.get s.crons draft.key)

abbrev pub with_status : Content → CronStatus → CronJob → CronJob
with_status s status cron = record cron { meta = touched s cron.meta; status = status }

abbrev pub status_set_from : Content → ℕ → ℕ → CronStatus → Option CronJob → Result CronJob Refusal
status_set_from s uid version status None = Err NotFound
status_set_from s uid version status (Some cron) =
    if cron.meta.uid == uid then
    if cron.meta.version == version then Ok (with_status s status cron) else Err
    (Conflict cron.meta.version)
    else Err NotFound

-- an update of the status of the object with this uid, conditional on its version
-- rule: status-update
abbrev pub status_set : Content → Place → ℕ → ℕ → CronStatus → Result CronJob Refusal
status_set s key uid version status = status_set_from s uid version status (map.get s.crons key)

abbrev pub last_cron : Content → CronJob → CronJob
last_cron s cron = record cron { meta = touched s cron.meta }

abbrev pub cron_deleted_from : Content → Option CronJob → Result CronJob Refusal
cron_deleted_from s None = Err NotFound
cron_deleted_from s (Some cron) = Ok (last_cron s cron)

-- rule: deletion
abbrev pub cron_deleted : Content → Place → Result CronJob Refusal
cron_deleted s key = cron_deleted_from s (map.get s.crons key)

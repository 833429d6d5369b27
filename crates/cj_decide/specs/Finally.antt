-- The steps after the start: batch/v1, `CronJobStatus`, and the history limits of `CronJobSpec`.
use Rattle.std.specs.Prelude.{◌≡◌, ◌≢◌, ℕ, List, [], ◌++◌, Option, None, Some, if◌then◌else◌}
use Rattle.cj_types.specs.declared.cron.CronJob.{CronJob}
use Rattle.cj_types.specs.declared.cron.CronSpec.{CronSpec}
use Rattle.cj_types.specs.declared.cron.CronStatus.{CronStatus}
use Rattle.cj_types.specs.declared.job.Job.{Job}
use Rattle.cj_types.specs.Made.{made_name}
use Rattle.cj_types.specs.Uids.{uid_text}
use Rattle.cj_status.specs.declared.surplus_jobs.HistoryLimits.{HistoryLimits}
use Rattle.cj_status.specs.declared.listing.Pick.TheVariants as Meant
use Rattle.cj_status.specs.declared.order.Sorting.TheVariants.{ByName}
use Rattle.cj_status.specs.declared.refs.JobRef.{JobRef}
use Rattle.cj_status.specs.Active.{names_with, still_active}
use Rattle.cj_status.specs.Picked.{picked}
use Rattle.cj_status.specs.Success.{success_of}
use Rattle.cj_status.specs.Surplus.{surplus_of}
use Rattle.cj_decide.specs.declared.start.Claim.{Claim}
use Rattle.cj_decide.specs.declared.start_decision.StartDecision.{StartDecision}

-- the names with that of the Job that is created, if there is one
abbrev pub with_made : CronJob → Option ℕ → List (List ℕ) → List (List ℕ)
with_made cron None names = names
with_made cron (Some time) names = names_with (made_name cron.key.name time) names

-- the names for which the live read found an unfinished Job that isn't deleted, and the name of the
-- Job that is created
abbrev pub active_after : CronJob → List (Option Job) → StartDecision → List (List ℕ)
active_after cron found v =
    with_made cron v.time (if v.replaces then [] else still_active (uid_text cron.meta.uid)
    cron.status.active found)

-- the status after the claim, if there is one, or else the CronJob's
abbrev pub standing : CronJob → Option Claim → CronStatus
standing cron None = cron.status
standing cron (Some claim) = claim.status

-- the status at the end
-- rule: final-status
abbrev pub final : CronJob → List Job → List (Option Job) → StartDecision → Option Claim
    → CronStatus
final cron jobs found v claim = record {
  active = active_after cron found v;
  last_schedule_time = (standing cron claim).last_schedule_time;
  last_successful_time = success_of cron.status.last_successful_time jobs (uid_text cron.meta.uid);
}

-- the status as a step, unless it changes nothing
-- rule: final-status
abbrev pub IsStatusStep : CronStatus → CronStatus → Option CronStatus → Type 0
IsStatusStep old new None = new ≡ old
IsStatusStep old new (Some status) = (status ≡ new) × (new ≢ old)

-- how many finished Jobs of each outcome are kept
abbrev pub limits_of : CronSpec → HistoryLimits
limits_of spec = record { successful = spec.successful_limit; failed = spec.failed_limit }

-- the listed Jobs of another uid by name, then the CronJob's own that are no longer kept
-- rule: cleanup
abbrev pub cleanup_of : CronJob → List Job → List JobRef
cleanup_of cron jobs =
    picked Meant.Foreign ByName (uid_text cron.meta.uid) jobs
    ++ surplus_of (limits_of cron.spec) (uid_text cron.meta.uid) jobs

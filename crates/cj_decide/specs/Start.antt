-- The steps for the time that is claimed: batch/v1, `CronJobStatus`, and Kubernetes CronJob
-- documentation, "Job creation".
use Rattle.std.specs.Prelude.{ℕ, Some}
use Rattle.cj_types.specs.declared.cron.CronJob.{CronJob}
use Rattle.cj_types.specs.declared.cron.CronStatus.{CronStatus}
use Rattle.cj_types.specs.declared.job.JobDraft.{JobDraft}
use Rattle.cj_types.specs.Made.{made_job, made_name}
use Rattle.cj_zone.specs.TimeText.{time_text_of}
use Rattle.cj_status.specs.Active.{names_with}
use Rattle.cj_decide.specs.declared.start.Claim.{Claim}

-- the claim's status: the CronJob's, with the time as the last one scheduled, and with the name of
-- the Job to create
-- rule: claim-status
abbrev pub claimed : CronJob → ℕ → CronStatus
claimed cron time = record {
  active = names_with (made_name cron.key.name time) cron.status.active;
  last_schedule_time = Some time;
  last_successful_time = cron.status.last_successful_time;
}

abbrev pub claim_of : CronJob → ℕ → Claim
claim_of cron time = record { time = time; status = claimed cron time }

-- the Job to create for the time
abbrev pub draft_of : CronJob → ℕ → JobDraft
draft_of cron time = made_job cron time (time_text_of time)

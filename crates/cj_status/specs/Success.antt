-- The field `lastSuccessfulTime` of batch/v1's `CronJobStatus`: when a Job last succeeded.
use Rattle.std.specs.Prelude.{ℕ, Bool, true, max, List, fold, Option, None, Some}
use Rattle.cj_types.specs.declared.job.Job.{Job}
use Rattle.cj_types.specs.declared.policy.Outcome.{Outcome}
use Rattle.cj_types.specs.declared.policy.Outcome.TheVariants.{Complete}
use Rattle.cj_status.specs.Mine.{is_mine}

-- the completion time of a Job, by whether it is the CronJob's own, and by its outcome
abbrev pub completed_by : Bool → Option Outcome → Option ℕ
completed_by true (Some (Complete time)) = Some time
completed_by own outcome = None

-- when a Job of the CronJob with this uid succeeded, if it did
abbrev pub completed_at : List ℕ → Job → Option ℕ
completed_at uid job = completed_by (is_mine uid job) job.outcome

-- the later of two optional times
abbrev pub later : Option ℕ → Option ℕ → Option ℕ
later None b = b
later (Some s) None = Some s
later (Some s) (Some t) = Some (max s t)

-- the greatest of the given time, if any, and the completion times of the Jobs
-- rule: final-status
abbrev pub success_of : Option ℕ → List Job → List ℕ → Option ℕ
success_of standing jobs uid = fold (λ last job. later last (completed_at uid job)) standing jobs

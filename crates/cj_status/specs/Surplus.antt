-- Which finished Jobs are no longer kept: batch/v1, `successfulJobsHistoryLimit` and
-- `failedJobsHistoryLimit` of `CronJobSpec`.
use Rattle.std.specs.Prelude.{ℕ, Bool, nat_lt, not, List, ◌++◌, filter, length}
use Rattle.cj_types.specs.declared.job.Job.{Job}
use Rattle.cj_status.specs.declared.surplus_jobs.HistoryLimits.{HistoryLimits}
use Rattle.cj_status.specs.declared.order.Sorting.TheVariants.{ByAge}
use Rattle.cj_status.specs.declared.listing.Pick.{Pick}
use Rattle.cj_status.specs.declared.listing.Pick.TheVariants as Meant
use Rattle.cj_status.specs.declared.refs.JobRef.{JobRef}
use Rattle.cj_status.specs.Picked.{picked}
use Rattle.cj_status.specs.Refs.{is_older}

-- how many Jobs are newer: created later, or at the same time with a later name
abbrev pub newer_count : List JobRef → JobRef → ℕ
newer_count all r = length (filter (is_older r) all)

-- a finished Job is kept where fewer of its outcome than that outcome's limit are newer
-- rule: kept
abbrev pub is_kept : ℕ → List JobRef → JobRef → Bool
is_kept limit all r = nat_lt (newer_count all r) limit

abbrev pub not_kept : ℕ → List JobRef → List JobRef
not_kept limit all = filter (λ r. not (is_kept limit all r)) all

-- the CronJob's own Jobs of one outcome that are not kept, the oldest first
abbrev pub surplus_by : Pick → ℕ → List ℕ → List Job → List JobRef
surplus_by pick limit uid jobs = not_kept limit (picked pick ByAge uid jobs)

-- the Jobs that are not kept: first those that succeeded, then those that failed
-- rule: kept
abbrev pub surplus_of : HistoryLimits → List ℕ → List Job → List JobRef
surplus_of limits uid jobs =
    surplus_by Meant.Completed limits.successful uid jobs
    ++ surplus_by Meant.Failed limits.failed uid jobs

-- A due time between two Jobs of a CronJob for which there is none: Kubernetes CronJob
-- documentation, "CronJob limitations" (missed schedules), "Concurrency policy" and "Jobs history
-- limits".
use Rattle.std.specs.Prelude.{◌≡◌, ◌⊎◌, ℕ, zero, suc, ◌+◌, ◌<◌, Bool, true, false, not, ◌&&◌, ◌==◌, nat_lt, List, [], Option, Some, None, filter, length}
use Rattle.std.specs.FinMap as map
use Rattle.cj_types.specs.declared.cron.CronSpec.{CronSpec}
use Rattle.cj_types.specs.declared.job.Job.{Job}
use Rattle.cj_types.specs.declared.policy.Policy.{Policy}
use Rattle.cj_types.specs.declared.policy.Policy.TheVariants.{Allow, Forbid, Replace}
use Rattle.cj_schedule.specs.Grammar.{IsSchedule}
use Rattle.cj_schedule.specs.Matches.{Sets}
use Rattle.cj_zone.specs.declared.zone.Zone.{Zone}
use Rattle.cj_due.specs.Due.{reach, IsLeastDue}
use Rattle.cj_status.specs.Mine.{is_complete, is_failed}
use Rattle.cj_cluster.specs.declared.cron.ClusterCron.{ClusterCron}
use Rattle.cj_cluster.specs.Content.{Content, is_of}
use Rattle.cj_audit.specs.declared.ending.Ending.{Ending}
use Rattle.cj_audit.specs.declared.ending.Ending.TheVariants.{Success, Failure}
use Rattle.cj_audit.specs.declared.finding.Finding.{Finding}
use Rattle.cj_audit.specs.declared.kind.FindingKind.TheVariants.{Missing}
use Rattle.cj_audit.specs.declared.run.Run.{Run}
use Rattle.cj_audit.specs.Pairs.{before_end}
use Rattle.cj_audit.specs.Runs.{IsRunOf}
use Rattle.cj_audit.specs.Times.{zone_for}

-- a time that is known is this one
abbrev pub is_time : ℕ → Option ℕ → Bool
is_time time None = false
is_time time (Some at) = time == at

-- a time that is known is before this one
abbrev pub is_earlier : ℕ → Option ℕ → Bool
is_earlier time None = false
is_earlier time (Some at) = nat_lt at time

-- a time that is known is after this one
abbrev pub is_later : ℕ → Option ℕ → Bool
is_later time None = false
is_later time (Some at) = nat_lt time at

-- the Job was made for this time, for an earlier one, for a later one
abbrev pub is_at : ℕ → Run → Bool
is_at time run = is_time time run.times.scheduled

abbrev pub is_before : ℕ → Run → Bool
is_before time run = is_earlier time run.times.scheduled

abbrev pub is_behind : ℕ → Run → Bool
is_behind time run = is_later time run.times.scheduled

-- the Job ended so
abbrev pub ends : Ending → Job → Bool
ends Success job = is_complete job
ends Failure job = is_failed job

-- how many Jobs are kept that ended so
abbrev pub limit_of : Ending → CronSpec → ℕ
limit_of Success spec = spec.successful_limit
limit_of Failure spec = spec.failed_limit

-- a Job that ended so and that clean-up may remove: one that the CronJob controls, though it be
-- made by hand
abbrev pub is_ended : Ending → ClusterCron → Job → Bool
is_ended e c job = is_of c job && ends e job

abbrev pub ended_count : Ending → ClusterCron → List Job → ℕ
ended_count e c jobs = length (filter (is_ended e c) jobs)

-- the Job was made for an earlier time, and ended so
abbrev pub is_older : Ending → ℕ → Run → Bool
is_older e time run = ends e run.job && is_before time run

-- some Job that the CronJob's controller made passes the test
pub record HasRun (content : Content) (c : ClusterCron) (p : Run → Bool) : Type 0 where
  pub run : Run
  pub run_of : IsRunOf content c run
  pub passes : p run ≡ true

-- clean-up, which removes the oldest first, would have left a Job of this time that ended so: an
-- older one of its kind is still there, or there are fewer than are kept
-- rule: audit-missing
abbrev pub IsKept : Content → ClusterCron → ℕ → Ending → Type 0
IsKept content c time e =
    HasRun content c (is_older e time)
    ⊎ (ended_count e c (map.values content.jobs) < limit_of e c.cron.spec)

-- the policy lets a Job start at the time, by when the one before it ended
-- rule: audit-missing
abbrev pub may_start : Policy → Option ℕ → ℕ → Bool
may_start Allow ended time = true
may_start Forbid ended time = not (before_end time ended)
may_start Replace ended time = false

-- the next due time after another, or one further on in a row of due times that are free: one of
-- so many
-- rule: audit-missing
abbrev pub IsInRow : ℕ → Sets → Zone → (ℕ → Type 0) → ℕ → ℕ → Type 0
IsInRow zero s z Free last time = ⊥
IsInRow (suc n) s z Free last time =
    (next : ℕ) × IsLeastDue s z last (last + reach) next
    × ((time ≡ next) ⊎ (Free next × IsInRow n s z Free next time))

-- how many times of a row are told, as a controller counts no more missed ones
-- rule: audit-missing
abbrev pub row_most : ℕ
row_most = 100

-- the time is in the row of due times behind another that have no Job, by the CronJob's schedule
-- and its zone's clock
-- rule: audit-missing
pub record IsNextOf (zones : List Zone) (content : Content) (c : ClusterCron) (last time : ℕ)
    : Type 0 where
  pub schedule : Sets
  pub zone : Zone
  pub reads : IsSchedule c.cron.spec.schedule schedule
  pub in_zone : zone_for c.cron.spec.time_zone zones ≡ Some zone
  pub row : IsInRow row_most schedule zone (λ t. HasRun content c (is_at t) → ⊥) last time

-- the finding on the time, which names no Job
abbrev pub missing_finding : ClusterCron → ℕ → Finding
missing_finding c time = record {
  namespace = c.cron.key.namespace;
  cron = c.cron.key.name;
  time = time;
  first = [];
  second = None;
  kind = Missing;
}

-- a due time behind a Job's own, with none between that has a Job, for which there is no Job of the
-- CronJob, though there are Jobs for later times; neither the policy nor clean-up nor suspension
-- explains it
-- rule: audit-missing
pub record IsMissingOf (zones : List Zone) (content : Content) (c : ClusterCron) (f : Finding)
    : Type 0 where
  pub run : Run
  pub run_of : IsRunOf content c run
  pub last : ℕ
  pub scheduled : run.times.scheduled ≡ Some last
  pub time : ℕ
  pub next : IsNextOf zones content c last time
  pub none : HasRun content c (is_at time) → ⊥
  pub later : HasRun content c (is_behind time)
  pub starts : may_start c.cron.spec.policy run.times.ended time ≡ true
  pub kept : (e : Ending) → IsKept content c time e
  pub awake : c.cron.spec.suspend ≡ false
  pub is : f ≡ missing_finding c time

-- What the Jobs of a CronJob tell together of the times that have none.
use Rattle.std.specs.Prelude.{◌≡◌, ℕ, Bool, true, false, not, ◌&&◌, ◌||◌, nat_lt, min, max, List, Option, Some, None, fold, Contains}
use Rattle.std.specs.Ordering.{nat_cmp}
use Rattle.std.specs.List.{list_any}
use Rattle.std.specs.BTreeSet.{BTreeSet, contains}
use Rattle.cj_types.specs.declared.cron.CronSpec.{CronSpec}
use Rattle.cj_types.specs.declared.job.Job.{Job}
use Rattle.cj_schedule.specs.Matches.{Sets}
use Rattle.cj_zone.specs.declared.zone.Zone.{Zone}
use Rattle.cj_cluster.specs.declared.cron.ClusterCron.{ClusterCron}
use Rattle.cj_audit.specs.declared.ending.Ending.{Ending}
use Rattle.cj_audit.specs.declared.ending.Ending.TheVariants.{Success, Failure}
use Rattle.cj_audit.specs.declared.finding.Finding.{Finding}
use Rattle.cj_audit.specs.declared.marks.Ended.{Ended}
use Rattle.cj_audit.specs.declared.marks.Marks.{Marks}
use Rattle.cj_audit.specs.declared.run.Run.{Run}
use Rattle.cj_audit.specs.Missing.{ended_count, ends, is_at, is_behind, is_earlier, is_later, is_older, limit_of, may_start, missing_finding, row_most, IsInRow}

-- the earlier of two times, if there are any
abbrev pub earlier : Option ℕ → Option ℕ → Option ℕ
earlier None b = b
earlier (Some s) None = Some s
earlier (Some s) (Some t) = Some (min s t)

-- the later of two times, if there are any
abbrev pub later : Option ℕ → Option ℕ → Option ℕ
later None b = b
later (Some s) None = Some s
later (Some s) (Some t) = Some (max s t)

-- a time where the test holds
abbrev pub time_where : Bool → Option ℕ → Option ℕ
time_where true time = time
time_where false time = None

-- the scheduled time of a Job that ended so
abbrev pub ended_time : Ending → Run → Option ℕ
ended_time e run = time_where (ends e run.job) run.times.scheduled

-- the least scheduled time of the Jobs that ended so
abbrev pub oldest : Ending → Option ℕ → List Run → Option ℕ
oldest e first runs = fold (λ time run. earlier time (ended_time e run)) first runs

-- the greatest scheduled time of the Jobs
abbrev pub latest : Option ℕ → List Run → Option ℕ
latest first runs = fold (λ time (run : Run). later time run.times.scheduled) first runs

-- the new set has what the old has and the scheduled time of the Job
pub record Marked (run : Run) (old new : BTreeSet ℕ) : Type 0 where
  pub has : (t : ℕ) → contains nat_cmp new t ≡ (contains nat_cmp old t || is_at t run)

-- the set has just the scheduled times of the Jobs
pub record AreTimes (runs : List Run) (times : BTreeSet ℕ) : Type 0 where
  pub has : (t : ℕ) → contains nat_cmp times t ≡ list_any (is_at t) runs

abbrev pub ended_of : Ending → ClusterCron → List Run → List Job → Ended
ended_of e c runs jobs = record { oldest = oldest e None runs; count = ended_count e c jobs }

pub record AreMarks (c : ClusterCron) (runs : List Run) (jobs : List Job) (m : Marks) : Type 0 where
  pub times : AreTimes runs m.times
  pub latest : m.latest ≡ latest None runs
  pub completed : m.completed ≡ ended_of Success c runs jobs
  pub failed : m.failed ≡ ended_of Failure c runs jobs

-- clean-up would have left a Job of this time
abbrev pub keeps : Ended → ℕ → ℕ → Bool
keeps ended limit time = is_earlier time ended.oldest || nat_lt ended.count limit

-- later times have a Job, and this one has none, where clean-up would have left it
abbrev pub lacks : Marks → CronSpec → ℕ → Bool
lacks m spec time =
    is_later time m.latest
    && (not (contains nat_cmp m.times time) && (keeps m.completed spec.successful_limit time
    && keeps m.failed spec.failed_limit time))

-- the marks of the Jobs
abbrev pub kept_in : Ending → ClusterCron → List Run → List Job → ℕ → Bool
kept_in e c runs jobs time =
    list_any (is_older e time) runs || nat_lt (ended_count e c jobs) (limit_of e c.cron.spec)

abbrev pub lacks_in : ClusterCron → List Run → List Job → ℕ → Bool
lacks_in c runs jobs time =
    list_any (is_behind time) runs
    && (not (list_any (is_at time) runs) && (kept_in Success c runs jobs time
    && kept_in Failure c runs jobs time))

-- a time behind the Job's own lacks a Job
pub record IsHoleNote (c : ClusterCron) (m : Marks) (run : Run) (time : ℕ) (f : Finding)
    : Type 0 where
  pub starts : may_start c.cron.spec.policy run.times.ended time ≡ true
  pub lacks : lacks m c.cron.spec time ≡ true
  pub is : f ≡ missing_finding c time

-- one of so many in the row of due times behind another that have no Job
pub record IsRowNote (n : ℕ) (s : Sets) (z : Zone) (c : ClusterCron) (m : Marks) (run : Run)
    (last : ℕ) (f : Finding) : Type 0 where
  pub time : ℕ
  pub row : IsInRow n s z (λ t. contains nat_cmp m.times t ≡ false) last time
  pub hole : IsHoleNote c m run time f

pub record IsGapNote (s : Sets) (z : Zone) (c : ClusterCron) (m : Marks) (run : Run) (f : Finding)
    : Type 0 where
  pub last : ℕ
  pub scheduled : run.times.scheduled ≡ Some last
  pub note : IsRowNote row_most s z c m run last f

-- what is noted of these Jobs, which the CronJob's controller made, among all that name it
pub record IsMissingIn (s : Option Sets) (z : Option Zone) (c : ClusterCron) (runs : List Run)
    (jobs : List Job)
    (f : Finding) : Type 0 where
  pub schedule : Sets
  pub zone : Zone
  pub is_schedule : s ≡ Some schedule
  pub is_zone : z ≡ Some zone
  pub awake : c.cron.spec.suspend ≡ false
  pub run : Run
  pub run_in : Contains runs run
  pub last : ℕ
  pub scheduled : run.times.scheduled ≡ Some last
  pub time : ℕ
  pub row : IsInRow row_most schedule zone (λ t. not (list_any (is_at t) runs) ≡ true) last time
  pub starts : may_start c.cron.spec.policy run.times.ended time ≡ true
  pub lacks : lacks_in c runs jobs time ≡ true
  pub is : f ≡ missing_finding c time

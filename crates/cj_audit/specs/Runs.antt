-- The Jobs of a CronJob with their times.
use Rattle.std.specs.Prelude.{◌≡◌, Bool, true, false, List, [], ◌∷◌, ◌++◌, Option, Some, None, Contains, All, if◌then◌else◌}
use Rattle.std.specs.FinMap as map
use Rattle.cj_types.specs.Keys.{place_cmp}
use Rattle.cj_types.specs.declared.job.Job.{Job}
use Rattle.cj_cluster.specs.declared.cron.ClusterCron.{ClusterCron}
use Rattle.cj_cluster.specs.declared.times.JobTimes.{JobTimes}
use Rattle.cj_cluster.specs.Content.{Content, is_of}
use Rattle.cj_audit.specs.declared.run.Run.{Run}

-- a Job of the cluster, with the times at its key, that the CronJob controls and that nobody made
-- by hand
pub record IsRunOf (content : Content) (c : ClusterCron) (run : Run) : Type 0 where
  pub there : Contains (map.values content.jobs) run.job
  pub timed : map.get content.times run.job.key ≡ Some run.times
  pub owned : is_of c run.job ≡ true
  pub made : run.times.is_manual ≡ false

-- all of them
pub record AreRunsOf (content : Content) (c : ClusterCron) (runs : List Run) : Type 0 where
  pub each : All (IsRunOf content c) runs
  pub all : (run : Run) → IsRunOf content c run → Contains runs run

-- a Job with its times, unless somebody made it by hand
abbrev pub run_unless : Bool → Job → JobTimes → List Run
run_unless true job times = []
run_unless false job times = record { job = job; times = times } ∷ []

-- the run, if the Job has these times
abbrev pub run_with : Job → Option JobTimes → List Run
run_with job None = []
run_with job (Some times) = run_unless times.is_manual job times

-- the run, if the Job is the CronJob's
abbrev pub run_at : map.FinMap place_cmp JobTimes → ClusterCron → Job → List Run
run_at times c job = if is_of c job then run_with job (map.get times job.key) else []

abbrev pub runs_in : map.FinMap place_cmp JobTimes → ClusterCron → List Job → List Run
runs_in times c [] = []
runs_in times c (job ∷ jobs) = run_at times c job ++ runs_in times c jobs

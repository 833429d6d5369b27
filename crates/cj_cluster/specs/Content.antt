-- What a cluster holds: Kubernetes, "Objects In Kubernetes" (one object of a kind and a name in a
-- namespace) and "Owners and Dependents".
use Rattle.std.specs.Prelude.{◌≡◌, ℕ, Bool, false, ◌&&◌, ◌||◌, List, Option, Some, None, is_some, refl}
use Rattle.std.specs.Coded.{Coded, code_by, coded×}
use Rattle.std.specs.FinMap as map
use Rattle.cj_types.specs.Keys.{Place, place_cmp, coded_place}
use Rattle.cj_types.specs.declared.job.Job.{Job}
use Rattle.cj_types.specs.contracts.job.Job.{the_row as job}
use Rattle.cj_table.specs.jobs.Owners.{is_job_of}
use Rattle.cj_types.specs.Owners.{controller_of}
use Rattle.cj_types.specs.declared.owners.OwnerRef.{OwnerRef}
use Rattle.std.specs.Str.{bytes_eq}
use Rattle.cj_cluster.specs.declared.cron.ClusterCron.{ClusterCron}
use Rattle.cj_cluster.specs.declared.cron.CronMarks.{CronMarks}
use Rattle.cj_cluster.specs.declared.times.JobTimes.{JobTimes}
use Rattle.cj_cluster.specs.contracts.cron.ClusterCron.{the_row as cluster_cron}
use Rattle.cj_cluster.specs.contracts.times.JobTimes.{the_row as job_times}

-- the CronJobs by key, the Jobs by key, and the times of each Job by its key
pub record Content : Type 0 where
  pub crons : map.FinMap place_cmp ClusterCron
  pub jobs : map.FinMap place_cmp Job
  pub times : map.FinMap place_cmp JobTimes

abbrev pub coded_content : Coded Content
coded_content =
    code_by (map.FinMap place_cmp ClusterCron
    × (map.FinMap place_cmp Job × map.FinMap place_cmp JobTimes))
    (coded× (map.code coded_place cluster_cron.coded)
    (coded× (map.code coded_place job.coded) (map.code coded_place job_times.coded)))
    (λ c. (c.crons, (c.jobs, c.times)))
    (λ p. record { crons = p.0; jobs = (p.1).0; times = (p.1).1 })
    (λ _. refl)

-- its controller starts nothing, whatever its spec says
-- rules: cluster-deleting, cluster-stuck
abbrev pub is_halted : CronMarks → Bool
is_halted marks = marks.is_deleting || marks.is_stuck

abbrev pub nothing : Content
nothing = record { crons = map.empty; jobs = map.empty; times = map.empty }

-- each CronJob is at its own key, each Job too, and each Job has its times
pub record IsSound (c : Content) : Type 0 where
  pub crons_keyed : (k : Place) (cron : ClusterCron) → map.get c.crons k ≡ Some cron
      → cron.cron.key ≡ k
  pub timed : (k : Place) → is_some (map.get c.times k) ≡ is_some (map.get c.jobs k)

-- with one CronJob more
abbrev pub with_cron : ClusterCron → Content → Content
with_cron cron c =
    record { crons = map.insert c.crons cron.cron.key cron; jobs = c.jobs; times = c.times }

-- with one Job more
abbrev pub with_job : Job → JobTimes → Content → Content
with_job job times c = record {
  crons = c.crons;
  jobs = map.insert c.jobs job.key job;
  times = map.insert c.times job.key times;
}

-- the reference, if there is one, has this uid
abbrev pub has_uid : List ℕ → Option OwnerRef → Bool
has_uid uid None = false
has_uid uid (Some owner) = bytes_eq owner.uid uid

-- the controller of the Job is this CronJob, by its name in the Job's namespace and by its uid
-- rule: audit-owner
abbrev pub is_of : ClusterCron → Job → Bool
is_of cron job = is_job_of cron.cron.key job && has_uid cron.uid (controller_of job.owners)

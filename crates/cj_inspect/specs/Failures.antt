-- The Jobs of CronJobs that failed, as `why` tells people of them.
use Rattle.std.specs.Prelude.{ℕ, nat_lt, ◌&&◌, if◌then◌else◌, List, [], ◌∷◌, ◌++◌, filter, length, Bool, true, false, Option, Some, None, codes, decimal}
use Rattle.std.specs.FinMap as map
use Rattle.cj_types.specs.Keys.{place_cmp}
use Rattle.cj_types.specs.declared.job.Job.{Job}
use Rattle.cj_status.specs.Mine.{is_failed}
use Rattle.cj_table.specs.jobs.Owners.{owned_by}
use Rattle.cj_cluster.specs.Content.{Content, is_of}
use Rattle.cj_cluster.specs.declared.cron.ClusterCron.{ClusterCron}
use Rattle.cj_cluster.specs.declared.times.JobTimes.{JobTimes}

-- the Job is the CronJob's, and failed
abbrev pub is_failure : ClusterCron → Job → Bool
is_failure c job = is_of c job && is_failed job

-- those of the list, in the order of their names
-- rule: why-failures
abbrev pub failures : Content → ClusterCron → List Job
failures content c = filter (is_failure c) (owned_by content.jobs c.cron.key)

-- the scheduled time of a Job, where something tells it
abbrev pub time_by : Option JobTimes → Option ℕ
time_by None = None
time_by (Some times) = times.scheduled

-- one time is before another; a Job that tells none is before all that do
abbrev pub is_before : Option ℕ → Option ℕ → Bool
is_before (Some one) (Some other) = nat_lt one other
is_before (Some one) None = false
is_before None (Some other) = true
is_before None None = false

-- of two Jobs in the order of their names the one with the later time, else the second
-- rule: why-failures
abbrev pub later : map.FinMap place_cmp JobTimes → Job → Job → Job
later times last job =
    if is_before (time_by (map.get times job.key)) (time_by (map.get times last.key))
    then last
    else job

-- the last of them
abbrev pub last_of : map.FinMap place_cmp JobTimes → Job → List Job → Job
last_of times last [] = last
last_of times last (job ∷ jobs) = last_of times (later times last job) jobs

-- so many Jobs of a CronJob failed, the last of them of that name
-- rule: why-failures
abbrev pub count_line : ClusterCron → ℕ → List ℕ → List ℕ
count_line c count last =
    c.cron.key.namespace ++ (codes "/" ++ (c.cron.key.name ++ (codes ": "
    ++ (decimal count ++ (codes " of its Jobs in the list failed, last "
    ++ (last ++ codes "\n"))))))

-- a line where there are such
abbrev pub failed_line : map.FinMap place_cmp JobTimes → ClusterCron → List Job → List ℕ
failed_line times c [] = []
failed_line times c (job ∷ jobs) =
    count_line c (length (job ∷ jobs)) (last_of times job jobs).key.name

-- a line for each CronJob of which some failed
-- rule: why-failures
abbrev pub failed_lines : Content → List ClusterCron → List ℕ
failed_lines content [] = []
failed_lines content (c ∷ cs) =
    failed_line content.times c (failures content c) ++ failed_lines content cs

-- What is said of a list's Jobs beside its findings.
use Rattle.std.specs.Prelude.{ℕ, zero, suc, ◌&&◌, not, List, [], ◌++◌, length, filter, Option, Some, None, is_none, is_some, Bool, false, codes, decimal}
use Rattle.std.specs.List.{list_any}
use Rattle.std.specs.FinMap as map
use Rattle.cj_types.specs.Keys.{place_cmp}
use Rattle.cj_types.specs.Objects.{cron_of}
use Rattle.cj_types.specs.declared.job.Job.{Job}
use Rattle.cj_cluster.specs.Content.{Content}
use Rattle.cj_cluster.specs.declared.kubectl.notes.ItemNote.{ItemNote}
use Rattle.cj_cluster.specs.declared.times.JobTimes.{JobTimes}
use Rattle.cj_audit.specs.Findings.{tells_crons}
use Rattle.cj_audit.specs.Manual.{is_manual}

-- a Job that nobody made by hand is of a CronJob
abbrev pub is_made : map.FinMap place_cmp JobTimes → Job → Bool
is_made times job = is_some (cron_of job) && not (is_manual times job)

-- the list has Jobs of CronJobs, and no CronJob, so that nothing can be said of them
-- rule: audit-jobs-alone
abbrev pub has_jobs_alone : Content → List ItemNote → Bool
has_jobs_alone content notes =
    list_any (is_made content.times) (map.values content.jobs) && not (tells_crons content notes)

-- the Job's scheduled time is that of its name
abbrev pub named_by : Option JobTimes → Bool
named_by None = false
named_by (Some times) = times.is_named

-- nothing tells the Job's scheduled time
abbrev pub timeless_by : Option JobTimes → Bool
timeless_by None = false
timeless_by (Some times) = is_none times.scheduled

-- how many Jobs of CronJobs pass the test by their times
abbrev pub made_count : (Option JobTimes → Bool) → map.FinMap place_cmp JobTimes → List Job → ℕ
made_count p times jobs =
    length (filter (λ (job : Job). is_made times job && p (map.get times job.key)) jobs)

abbrev pub count_line : ℕ → List ℕ → List ℕ
count_line zero words = []
count_line (suc n) words = decimal (suc n) ++ words

-- how many Jobs have their time from their name alone, and how many tell none
-- rule: audit-times
abbrev pub times_words : map.FinMap place_cmp JobTimes → List Job → List ℕ
times_words times jobs =
    count_line (made_count named_by times jobs) (codes " Jobs have no annotation of their scheduled time, as before Kubernetes 1.27; it is taken from their names\n")
    ++ count_line (made_count timeless_by times jobs) (codes " Jobs tell no scheduled time, so only beside and stray are looked for in them\n")

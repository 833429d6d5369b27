-- Jobs of a CronJob, in the words of Kubernetes' page "Jobs".
use Rattle.std.specs.Prelude.{ℕ, Bool, is_none, List, Option}
use Rattle.cj_types.specs.declared.job.Job.{Job}
use Rattle.cj_types.specs.Owners.{cron_name_of}

-- a Job that is neither Complete nor Failed
-- rule: unfinished
abbrev pub is_unfinished : Job → Bool
is_unfinished job = is_none job.outcome

-- the name of the CronJob of batch/v1 that the Job's controller reference names
abbrev pub cron_of : Job → Option (List ℕ)
cron_of job = cron_name_of job.owners

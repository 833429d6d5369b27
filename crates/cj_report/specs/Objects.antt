-- The lines of the objects at the end.
use Rattle.std.specs.Prelude.{ℕ, List, [], ◌∷◌, ◌++◌, length, codes, Option, Some, None}
use Rattle.std.specs.Fmt.{decimal}
use Rattle.cj_types.specs.declared.cron.CronJob.{CronJob}
use Rattle.cj_types.specs.declared.job.Job.{Job}
use Rattle.cj_types.specs.declared.owners.OwnerRef.{OwnerRef}
use Rattle.cj_types.specs.declared.policy.Outcome.{Outcome}
use Rattle.cj_types.specs.declared.policy.Outcome.TheVariants.{Complete, Failed}
use Rattle.cj_types.specs.Owners.{controller_of}
use Rattle.cj_zone.specs.TimeText.{time_text_of}

abbrev pub moment_text : Option ℕ → List ℕ
moment_text None = codes "-"
moment_text (Some time) = time_text_of time

-- `cron NAMESPACE/NAME last TIME success TIME active COUNT`
-- rule: object-lines
unfoldable pub cron_line : CronJob → List ℕ
cron_line cron =
    codes "cron " ++ (cron.key.namespace ++
    (codes "/" ++ (cron.key.name ++ (codes " last "
    ++ (moment_text cron.status.last_schedule_time
    ++ (codes " success " ++ (moment_text cron.status.last_successful_time
    ++ (codes " active " ++ (decimal (length cron.status.active) ++ codes "\n")))))))))

-- the name in the controller reference
abbrev pub name_in : Option OwnerRef → List ℕ
name_in None = codes "-"
name_in (Some owner) = owner.name

abbrev pub owner_text : List OwnerRef → List ℕ
owner_text owners = name_in (controller_of owners)

abbrev pub state_text : Option Outcome → List ℕ
state_text None = codes "Running"
state_text (Some (Complete time)) = codes "Complete"
state_text (Some Failed) = codes "Failed"

-- `job NAMESPACE/NAME OWNER STATE`
-- rule: object-lines
unfoldable pub job_line : Job → List ℕ
job_line job =
    codes "job " ++ (job.key.namespace ++
    (codes "/" ++ (job.key.name ++ (codes " "
    ++ (owner_text job.owners ++ (codes " " ++ (state_text job.outcome ++ codes "\n")))))))

-- a line for each CronJob
-- rule: object-lines
abbrev pub cron_lines : List CronJob → List ℕ
cron_lines [] = []
cron_lines (cron ∷ crons) = cron_line cron ++ cron_lines crons

-- a line for each Job
-- rule: object-lines
abbrev pub job_lines : List Job → List ℕ
job_lines [] = []
job_lines (job ∷ jobs) = job_line job ++ job_lines jobs

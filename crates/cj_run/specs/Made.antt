-- Which run each Job takes that a CronJob makes, and which answers name the Job.
use Rattle.std.specs.Prelude.{ℕ, ◌+◌, ◌^◌, ◌-◌, nat_lt, max, min, List, [], ◌∷◌, ◌++◌, Option, Some, None, Result, Ok, bytes_eq, if◌then◌else◌}
use Rattle.std.specs.List.{filter_map}
use Rattle.std.specs.FinMap as map
use Rattle.cj_base.specs.declared.refusal.Refusal.{Refusal}
use Rattle.cj_types.specs.Keys.{Place, place_cmp}
use Rattle.cj_types.specs.Owners.{controller_of}
use Rattle.cj_types.specs.declared.event.Event.{Event}
use Rattle.cj_types.specs.declared.event.Event.TheVariants.{Added}
use Rattle.cj_types.specs.declared.event.Object.TheVariants as Kind
use Rattle.cj_types.specs.declared.job.Job.{Job}
use Rattle.cj_types.specs.declared.owners.OwnerRef.{OwnerRef}
use Rattle.cj_calls.specs.declared.reply.Reply.{Reply}
use Rattle.cj_calls.specs.declared.reply.Reply.TheVariants.{Events, Jobs}
use Rattle.cj_hub.specs.declared.receipt.Receipt.{Receipt}
use Rattle.cj_script.specs.simulation.Runs.{RunTable, run_of}
use Rattle.cj_script.specs.declared.simulation.run.Run.{Run}
use Rattle.cj_script.specs.declared.simulation.run.RunEnd.{RunEnd}
use Rattle.cj_script.specs.declared.simulation.run.RunEnd.TheVariants.{Complete, Failed}
use Rattle.cj_informer.specs.Informs.{key_of_job}
use Rattle.cj_runner.specs.declared.running.Ending.{Ending}
use Rattle.cj_runner.specs.declared.running.Ending.TheVariants as Ends
use Rattle.cj_runner.specs.declared.running.Running.{Running}
use Rattle.cj_run.specs.declared.made.Count.{Count}

-- how many Jobs the CronJob with each key made, and that CronJob's uid
abbrev pub Counts : Type 0
Counts = map.FinMap place_cmp Count

-- what was noted of the Jobs that were made: the last one's uid, 0 before the first; how many of
-- each CronJob, and those that run and will end
pub record Notes : Type 0 where
  pub last : ℕ
  pub counts : Counts
  pub running : List Running

abbrev pub notes : ℕ → Counts → List Running → Notes
notes last counts running = record { last = last; counts = counts; running = running }

abbrev pub no_notes : Notes
no_notes = notes 0 map.empty []

-- how many Jobs a CronJob with this uid made before
-- rule: run-jobs
abbrev pub made_before : Option Count → List ℕ → ℕ
made_before None uid = 0
made_before (Some count) uid = if bytes_eq count.uid uid then count.jobs else 0

-- the count after one Job more, which stays at the last that is counted
abbrev pub counted : List ℕ → ℕ → Count
counted uid before = record { uid = uid; jobs = min (before + 1) (2 ^ 64 - 1) }

-- the end that the scenario says, as a runner makes it
abbrev pub ending_of : RunEnd → Ending
ending_of Complete = Ends.Complete
ending_of Failed = Ends.Failed

-- the Job as it runs
-- rule: run-jobs
abbrev pub running_as : ℕ → Job → Run → Running
running_as now job run = record { key = job.key; uid = job.meta.uid; made = now; seconds = run.seconds; outcome = ending_of run.end }

-- the Jobs that run, with another one where it ends at all
abbrev pub with_run : List Running → ℕ → Job → Option Run → List Running
with_run rs now job None = rs
with_run rs now job (Some run) = rs ++ running_as now job run ∷ []

-- a Job of the CronJob with this key and uid is noted: it takes the run of its number
-- rule: run-jobs
abbrev pub noted_of : RunTable → ℕ → Job → Place → List ℕ → Notes → Notes
noted_of runs now job key uid n =
    let before = made_before (map.get n.counts key) uid in
    notes n.last (map.insert n.counts key (counted uid before))
    (with_run n.running now job (run_of runs key before))

-- a Job is noted that was made at the moment; one that no CronJob made isn't
abbrev pub noted_by : RunTable → ℕ → Job → Option Place → Option OwnerRef → Notes → Notes
noted_by runs now job (Some key) (Some owner) n = noted_of runs now job key owner.uid n
noted_by runs now job None owner n = n
noted_by runs now job (Some key) None n = n

abbrev pub noted : RunTable → ℕ → Job → Notes → Notes
noted runs now job n = noted_by runs now job (key_of_job job) (controller_of job.owners) n

-- a Job that an answer names is noted where its uid is above the last that was noted before that
-- answer
-- rule: run-jobs
abbrev pub seen : RunTable → ℕ → ℕ → Job → Notes → Notes
seen runs now before job n =
    let n' = notes (max n.last job.meta.uid) n.counts n.running in
    if nat_lt before job.meta.uid then noted runs now job n' else n'

-- all Jobs that an answer names are noted, one after the other
-- rule: run-jobs
abbrev pub noted_all : RunTable → ℕ → ℕ → List Job → Notes → Notes
noted_all runs now before [] n = n
noted_all runs now before (job ∷ jobs) n = noted_all runs now before jobs
    (seen runs now before job n)

-- ---- which Jobs answers name

-- the Job that an event says was created
abbrev pub job_added : Event → Option Job
job_added (Added (Kind.Job job)) = Some job
job_added event = None

-- the Jobs that an answer to the informer names: those that its events say were created, or all
-- that it lists
-- rule: run-jobs
abbrev pub jobs_told : Result Reply Refusal → List Job
jobs_told (Ok (Events events)) = filter_map job_added events
jobs_told (Ok (Jobs jobs version)) = jobs
jobs_told answer = []

-- of the Jobs that an answer names those are noted that are later than what was noted before it
-- rule: run-jobs
abbrev pub noted_told : RunTable → ℕ → Result Reply Refusal → Notes → Notes
noted_told runs at answer n = noted_all runs at n.last (jobs_told answer) n

-- so after each of the receipts, one after the other
-- rule: run-jobs
abbrev pub noted_news : RunTable → ℕ → List Receipt → Notes → Notes
noted_news runs at [] n = n
noted_news runs at (r ∷ rs) n = noted_news runs at rs (noted_told runs at r.entry.answer n)

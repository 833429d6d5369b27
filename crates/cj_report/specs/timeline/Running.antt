-- The Jobs that workers made and that run. A Job's run begins with its making, and ends with its
-- end by a runner, with its drop by a worker, or with its deletion by a user, whichever comes
-- first. Histories have their newest entry first.
use Rattle.std.specs.Prelude.{List, [], ◌∷◌, Option, Some, None, Result, Ok}
use Rattle.std.specs.FinMap as map
use Rattle.cj_base.specs.declared.refusal.Refusal.{Refusal}
use Rattle.cj_types.specs.declared.job.Job.{Job}
use Rattle.cj_types.specs.declared.policy.Outcome.{Outcome}
use Rattle.cj_types.specs.declared.policy.Outcome.TheVariants as Ends
use Rattle.cj_types.specs.Keys.{Place, place_cmp}
use Rattle.cj_calls.specs.Rows.{Told}
use Rattle.cj_calls.specs.declared.call.Call.{Call}
use Rattle.cj_calls.specs.declared.call.Call.TheVariants as Of
use Rattle.cj_calls.specs.declared.reply.Reply.{Reply}
use Rattle.cj_calls.specs.declared.reply.Reply.TheVariants as Is
use Rattle.cj_report.specs.declared.timeline.bar.How.{How}
use Rattle.cj_report.specs.declared.timeline.bar.How.TheVariants.{Complete, Failed, Dropped, Deleted}

abbrev pub Jobs : Type 0
Jobs = map.FinMap place_cmp Job

-- ---- the making

abbrev pub job_in : Reply → Option Job
job_in (Is.Job job) = Some job
job_in other = None

-- the Job that an accepted making made
-- rule: job-bars
abbrev pub made_by : Call → Result Reply Refusal → Option Job
made_by Of.MakeNext (Ok reply) = job_in reply
made_by call answer = None

-- ---- the end

abbrev pub dropped_in : Reply → Option Place
dropped_in (Is.Dropped (Some (key, version))) = Some key
dropped_in other = None

-- the Job that an accepted call ended, dropped or deleted
-- rule: job-bars
abbrev pub ended_by : Call → Result Reply Refusal → Option Place
ended_by (Of.EndJob key uid outcome at) (Ok reply) = Some key
ended_by (Of.DeleteJob key) (Ok reply) = Some key
ended_by Of.DropNext (Ok reply) = dropped_in reply
ended_by call answer = None

abbrev pub how_of : Outcome → How
how_of (Ends.Complete time) = Complete
how_of Ends.Failed = Failed

-- how such a call ends it
-- rule: job-bars
abbrev pub how_by : Call → How
how_by (Of.EndJob key uid outcome at) = how_of outcome
how_by (Of.DeleteJob key) = Deleted
how_by call = Dropped

-- ---- those that run

abbrev pub without : Option Place → Jobs → Jobs
without None jobs = jobs
without (Some key) jobs = map.remove jobs key

abbrev pub with_made : Option Job → Jobs → Jobs
with_made None jobs = jobs
with_made (Some job) jobs = map.insert jobs job.key job

-- rule: job-bars
abbrev pub running : List Told → Jobs
running [] = map.empty
running (e ∷ h) = with_made (made_by e.call e.answer)
    (without (ended_by e.call e.answer) (running h))

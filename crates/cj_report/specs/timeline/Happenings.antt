-- Which entries of a history are worth a line of its time line, and in which words: what was done
-- to a CronJob or a Job, and what a sync reported. The words are those of `kubectl get events`,
-- with a small first letter.
use Rattle.std.specs.Prelude.{ℕ, ◌||◌, List, [], ◌∷◌, ◌++◌, codes, if◌then◌else◌, is_some, Option, Some, None, Result, Ok, Err}
use Rattle.std.specs.FinMap as map
use Rattle.cj_base.specs.declared.refusal.Refusal.{Refusal}
use Rattle.cj_types.specs.declared.cron.CronJob.{CronJob}
use Rattle.cj_types.specs.declared.job.Job.{Job}
use Rattle.cj_types.specs.declared.policy.Reason.{Reason}
use Rattle.cj_types.specs.declared.policy.Reason.TheVariants as Why
use Rattle.cj_types.specs.Keys.{Place}
use Rattle.cj_types.specs.Printed.{policy_name}
use Rattle.cj_calls.specs.declared.caller.Role.{Role}
use Rattle.cj_calls.specs.declared.caller.Role.TheVariants.{User}
use Rattle.cj_calls.specs.declared.call.Call.{Call}
use Rattle.cj_calls.specs.declared.call.Call.TheVariants as Of
use Rattle.cj_calls.specs.declared.reply.Reply.{Reply}
use Rattle.cj_calls.specs.declared.reply.Reply.TheVariants as Is
use Rattle.cj_report.specs.Called.{call_word}
use Rattle.cj_report.specs.Objects.{owner_text, state_text}
use Rattle.cj_report.specs.Reasons.{is_told}
use Rattle.cj_report.specs.Words.{refusal_name}
use Rattle.cj_report.specs.declared.timeline.what.What.{What}
use Rattle.cj_report.specs.history.Fields.{due_word, reasons_word}
use Rattle.cj_report.specs.timeline.Running.{Jobs, dropped_in}

-- ---- what happened

-- a user's write, which may be refused
abbrev pub written : What → Result Reply Refusal → Option What
written what (Ok reply) = Some what
written what (Err refusal) = Some What.Refused

abbrev pub dropped_what : Option Place → Option What
dropped_what None = None
dropped_what (Some key) = Some What.Dropped

-- what a sync reported: that the Job's name was taken, that no Job was started, or that many times
-- were missed
-- rule: timeline
abbrev pub told_what : List Reason → Option What
told_what [] = None
told_what (r ∷ rs) =
    if is_told Why.FailedCreate (r ∷ rs) then Some What.NotMade
    else if is_told Why.JobAlreadyActive (r ∷ rs)
    || is_told Why.UnknownTimeZone (r ∷ rs) then Some What.Skipped
    else Some What.Behind

-- what an accepted call did
-- rule: timeline
abbrev pub done_what : Call → Reply → Option What
done_what (Of.CreateCron draft at) reply = Some What.Created
done_what (Of.CreateJob draft at) reply = Some What.Created
done_what (Of.UpdateCron draft) reply = Some What.Updated
done_what (Of.UpdateJob draft) reply = Some What.Updated
done_what (Of.DeleteCron key) reply = Some What.Deleted
done_what (Of.DeleteJob key) reply = Some What.Deleted
done_what (Of.EndJob key uid outcome at) reply = Some What.Ended
done_what Of.MakeNext reply = Some What.Made
done_what Of.DropNext reply = dropped_what (dropped_in reply)
done_what (Of.Finish end reasons) reply = told_what reasons
done_what call reply = None

-- of what was refused, only a user's calls count
abbrev pub refused_what : Role → Option What
refused_what User = Some What.Refused
refused_what role = None

-- rule: timeline
unfoldable pub what_of : Role → Call → Result Reply Refusal → Option What
what_of role call (Ok reply) = done_what call reply
what_of role call (Err refusal) = refused_what role

-- rule: timeline
abbrev pub what_word : What → List ℕ
what_word What.Created = codes "created"
what_word What.Updated = codes "updated"
what_word What.Deleted = codes "deleted"
what_word What.Refused = codes "refused"
what_word What.Made = codes "made"
what_word What.Ended = codes "ended"
what_word What.Dropped = codes "dropped"
what_word What.Skipped = codes "skipped"
what_word What.NotMade = codes "not-made"
what_word What.Behind = codes "behind"

-- ---- how

-- a CronJob with its policy and its schedule
abbrev pub cron_how : CronJob → List ℕ
cron_how cron = codes "CronJob, " ++ (policy_name cron.spec.policy
    ++ (codes ", " ++ cron.spec.schedule))

abbrev pub written_how : Reply → List ℕ
written_how (Is.Cron cron) = cron_how cron
written_how (Is.Job job) = codes "Job"
written_how reply = []

-- a Job with the time that it is for, and its CronJob
abbrev pub job_how : Job → List ℕ
job_how job = codes "for " ++ (due_word job ++ (codes ", by " ++ owner_text job.owners))

abbrev pub made_how : Reply → List ℕ
made_how (Is.Job job) = job_how job
made_how reply = []

abbrev pub ended_how : Reply → List ℕ
ended_how (Is.Job job) = state_text job.outcome
ended_how reply = []

-- a Job goes while it runs, or once it has ended
abbrev pub dropped_how : Jobs → Option Place → List ℕ
dropped_how jobs None = []
dropped_how jobs (Some key) = if is_some (map.get jobs key) then codes "while it ran" else codes
    "after its end"

-- rule: timeline
unfoldable pub done_how : Jobs → Call → Reply → List ℕ
done_how jobs (Of.CreateCron draft at) reply = written_how reply
done_how jobs (Of.CreateJob draft at) reply = written_how reply
done_how jobs (Of.UpdateCron draft) reply = written_how reply
done_how jobs (Of.UpdateJob draft) reply = written_how reply
done_how jobs (Of.DeleteCron key) reply = codes "CronJob"
done_how jobs (Of.DeleteJob key) reply = codes "Job"
done_how jobs (Of.EndJob key uid outcome at) reply = ended_how reply
done_how jobs Of.MakeNext reply = made_how reply
done_how jobs Of.DropNext reply = dropped_how jobs (dropped_in reply)
done_how jobs (Of.Finish end reasons) reply = reasons_word reasons
done_how jobs call reply = []

-- a refused call goes by its name, with the refusal's
abbrev pub refused_how : Call → Refusal → List ℕ
refused_how call refusal = call_word call ++ (codes " " ++ refusal_name refusal)

-- rule: timeline
abbrev pub how_text : Jobs → Call → Result Reply Refusal → List ℕ
how_text jobs call (Ok reply) = done_how jobs call reply
how_text jobs call (Err refusal) = refused_how call refusal

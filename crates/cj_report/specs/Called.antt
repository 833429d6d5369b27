-- Who called, for what, and which object that is about.
use Rattle.std.specs.Prelude.{ℕ, List, codes, Option, Some, None, option_map, Result, Ok, Err}
use Rattle.cj_base.specs.declared.refusal.Refusal.{Refusal}
use Rattle.cj_types.specs.declared.cron.CronJob.{CronJob}
use Rattle.cj_types.specs.Keys.{Place}
use Rattle.cj_calls.specs.declared.caller.Role.{Role}
use Rattle.cj_calls.specs.declared.caller.Role.TheVariants.{Informer, Runner, User, Worker}
use Rattle.cj_calls.specs.declared.call.Call.{Call}
use Rattle.cj_calls.specs.declared.call.Call.TheVariants as Of
use Rattle.cj_calls.specs.declared.reply.Reply.{Reply}
use Rattle.cj_calls.specs.declared.reply.Reply.TheVariants as Is

abbrev pub role_word : Role → List ℕ
role_word User = codes "User"
role_word Runner = codes "Runner"
role_word Informer = codes "Informer"
role_word Worker = codes "Worker"

-- the name of a call with a small first letter, as a script has it
-- rule: explain-refused
unfoldable pub call_word : Call → List ℕ
call_word (Of.CreateCron draft at) = codes "createCron"
call_word (Of.UpdateCron draft) = codes "updateCron"
call_word (Of.DeleteCron key) = codes "deleteCron"
call_word (Of.GetCron key) = codes "getCron"
call_word (Of.GetJob key) = codes "getJob"
call_word Of.ListCrons = codes "listCrons"
call_word Of.ListJobs = codes "listJobs"
call_word (Of.CreateJob draft at) = codes "createJob"
call_word (Of.UpdateJob draft) = codes "updateJob"
call_word (Of.DeleteJob key) = codes "deleteJob"
call_word (Of.EndJob key uid outcome at) = codes "endJob"
call_word (Of.Watch version max) = codes "watch"
call_word (Of.Add key) = codes "add"
call_word (Of.Tick millis) = codes "tick"
call_word Of.Shut = codes "shut"
call_word (Of.Feed max) = codes "feed"
call_word Of.Take = codes "take"
call_word Of.SeeCron = codes "seeCron"
call_word Of.SeeJobs = codes "seeJobs"
call_word Of.SeeActive = codes "seeActive"
call_word (Of.Claim plan) = codes "claim"
call_word Of.DropNext = codes "drop"
call_word Of.MakeNext = codes "make"
call_word Of.SetStatus = codes "setStatus"
call_word (Of.Finish end reasons) = codes "finish"

-- ---- what it is about

abbrev pub cron_place : CronJob → Place
cron_place cron = cron.key

-- the object that an answer is
abbrev pub place_in : Reply → Option Place
place_in (Is.Job job) = Some job.key
place_in (Is.Key key) = Some key
place_in (Is.SeenCron cron) = option_map cron_place cron
place_in (Is.Dropped (Some (key, version))) = Some key
place_in other = None

abbrev pub place_answered : Result Reply Refusal → Option Place
place_answered (Ok reply) = place_in reply
place_answered (Err refusal) = None

-- the object that a call names, or else the one of its answer
-- rule: history-lines
unfoldable pub about : Call → Result Reply Refusal → Option Place
about (Of.CreateCron draft at) answer = Some draft.key
about (Of.UpdateCron draft) answer = Some draft.key
about (Of.DeleteCron key) answer = Some key
about (Of.GetCron key) answer = Some key
about (Of.GetJob key) answer = Some key
about (Of.CreateJob draft at) answer = Some draft.key
about (Of.UpdateJob draft) answer = Some draft.key
about (Of.DeleteJob key) answer = Some key
about (Of.EndJob key uid outcome at) answer = Some key
about (Of.Add key) answer = Some key
about (Of.Claim plan) answer = option_map cron_place plan.cron
about call answer = place_answered answer

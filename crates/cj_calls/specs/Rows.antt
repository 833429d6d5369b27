-- Entries of the history, and the answers that a call can have: the statuses of Kubernetes API
-- conventions, "HTTP Status codes", and the replies of client-go's work queue.
use Rattle.std.specs.Prelude.{Bool, true, false, Result, Ok, Err}
use Rattle.cj_base.specs.declared.refusal.Refusal.{Refusal}
use Rattle.cj_base.specs.declared.refusal.Refusal.TheVariants as No
use Rattle.cj_calls.specs.declared.caller.Caller.{Caller}
use Rattle.cj_calls.specs.declared.call.Call.{Call}
use Rattle.cj_calls.specs.declared.call.Call.TheVariants as Of
use Rattle.cj_calls.specs.declared.reply.Reply.{Reply}
use Rattle.cj_calls.specs.declared.reply.Reply.TheVariants as Is

-- an entry as contracts see it
pub record Told : Type 0 where
  pub caller : Caller
  pub call : Call
  pub answer : Result Reply Refusal

-- the replies of each call
abbrev pub is_reply : Call → Reply → Bool
is_reply (Of.CreateCron d n) (Is.Cron c) = true
is_reply (Of.UpdateCron d) (Is.Cron c) = true
is_reply (Of.DeleteCron k) (Is.Version v) = true
is_reply (Of.GetCron k) (Is.Cron c) = true
is_reply (Of.GetJob k) (Is.Job j) = true
is_reply Of.ListCrons (Is.Crons l v) = true
is_reply Of.ListJobs (Is.Jobs l v) = true
is_reply (Of.CreateJob d n) (Is.Job j) = true
is_reply (Of.UpdateJob d) (Is.Job j) = true
is_reply (Of.DeleteJob k) (Is.Version v) = true
is_reply (Of.EndJob k u o n) (Is.Job j) = true
is_reply (Of.Watch v m) (Is.Events l) = true
is_reply (Of.Add k) Is.Done = true
is_reply (Of.Tick m) Is.Done = true
is_reply Of.Shut Is.Done = true
is_reply (Of.Feed m) (Is.Version v) = true
is_reply Of.Take (Is.Key k) = true
is_reply Of.SeeCron (Is.SeenCron c) = true
is_reply Of.SeeJobs (Is.SeenJobs l) = true
is_reply Of.SeeActive (Is.SeenActive l) = true
is_reply (Of.Claim p) (Is.Claimed c) = true
is_reply Of.DropNext (Is.Dropped d) = true
is_reply Of.MakeNext (Is.Job j) = true
is_reply Of.SetStatus (Is.Version v) = true
is_reply (Of.Finish e r) Is.Done = true
is_reply _ _ = false

-- the refusals of each call; a caller whose role may not make it is refused with any
abbrev pub is_refused : Call → Refusal → Bool
is_refused call No.NotPermitted = true
is_refused (Of.CreateCron d n) (No.Invalid f) = true
is_refused (Of.CreateCron d n) No.AlreadyExists = true
is_refused (Of.UpdateCron d) No.NotFound = true
is_refused (Of.UpdateCron d) (No.Conflict v) = true
is_refused (Of.DeleteCron k) No.NotFound = true
is_refused (Of.GetCron k) No.NotFound = true
is_refused (Of.GetJob k) No.NotFound = true
is_refused (Of.CreateJob d n) (No.Invalid f) = true
is_refused (Of.CreateJob d n) No.AlreadyExists = true
is_refused (Of.UpdateJob d) No.NotFound = true
is_refused (Of.UpdateJob d) (No.Conflict v) = true
is_refused (Of.DeleteJob k) No.NotFound = true
is_refused (Of.EndJob k u o n) No.NotFound = true
is_refused (Of.EndJob k u o n) No.AlreadyFinished = true
is_refused (Of.Watch v m) (No.Expired o) = true
is_refused Of.Take No.OutOfPhase = true
is_refused Of.Take No.ShutDown = true
is_refused Of.SeeCron No.OutOfPhase = true
is_refused Of.SeeJobs No.OutOfPhase = true
is_refused Of.SeeActive No.OutOfPhase = true
is_refused (Of.Claim p) No.OutOfPhase = true
is_refused (Of.Claim p) No.Stale = true
is_refused (Of.Claim p) No.NotFound = true
is_refused (Of.Claim p) (No.Conflict v) = true
is_refused Of.DropNext No.OutOfPhase = true
is_refused Of.MakeNext No.OutOfPhase = true
is_refused Of.MakeNext No.AlreadyExists = true
is_refused Of.SetStatus No.OutOfPhase = true
is_refused Of.SetStatus No.NotFound = true
is_refused Of.SetStatus (No.Conflict v) = true
is_refused (Of.Finish e r) No.OutOfPhase = true
is_refused _ _ = false

-- the answer is one that this caller's call can have
-- rule: roles
abbrev pub is_in_row : Call → Result Reply Refusal → Bool
is_in_row call (Ok reply) = is_reply call reply
is_in_row call (Err refusal) = is_refused call refusal

-- What a call on the queue is answered, by the operations before it and, for a worker, by its sync,
-- which its own entries say.
use Rattle.std.specs.Prelude.{◌≡◌, ℕ, true, false, if◌then◌else◌, List, Option, Some, None, Result, Ok, Err}
use Rattle.cj_base.specs.declared.refusal.Refusal.{Refusal}
use Rattle.cj_base.specs.declared.refusal.Refusal.TheVariants as No
use Rattle.cj_types.specs.Keys.{Place}
use Rattle.cj_queue.specs.Parts.{key_eq}
use Rattle.cj_calls.specs.declared.caller.Caller.{Caller}
use Rattle.cj_calls.specs.declared.caller.Role.{Role}
use Rattle.cj_calls.specs.declared.caller.Role.TheVariants.{Informer, Worker}
use Rattle.cj_calls.specs.declared.call.Call.{Call}
use Rattle.cj_calls.specs.declared.call.Call.TheVariants as Of
use Rattle.cj_calls.specs.declared.end.End.{End}
use Rattle.cj_calls.specs.declared.end.End.TheVariants.{Well, Again}
use Rattle.cj_calls.specs.declared.reply.Reply.{Reply}
use Rattle.cj_calls.specs.declared.reply.Reply.TheVariants as Say
use Rattle.cj_calls.specs.Rows.{Told}
use Rattle.cj_state.specs.phases.Steps.{step_at, is_over}
use Rattle.cj_state.specs.declared.phases.sync.Phase.{Phase}
use Rattle.cj_state.specs.declared.phases.sync.Phase.TheVariants.{Works}
use Rattle.cj_state.specs.declared.phases.sync.InFlight.{InFlight}
use Rattle.cj_state.specs.Legal.{IsLegal, answer_of}
use Rattle.cj_world_laws.specs.legal.InFlightSyncs.{sync}
use Rattle.cj_history.specs.queue.Deeds.{Operation, operations}
use Rattle.cj_history.specs.queue.LookBacks.{queued, shut, since, Before}

abbrev pub Answer : Type 0
Answer = Result Reply Refusal

-- the key is queued, and became so before each other queued key
-- rule: looking-back
pub record IsFirst (h : List Operation) (k : Place) : Type 0 where
  pub there : queued h k ≡ true
  pub before : (j : Place) → queued h j ≡ true → key_eq j k ≡ false
      → Before (since h k) k (since h j) j

abbrev pub NoneQueued : List Operation → Type 0
NoneQueued h = (k : Place) → queued h k ≡ false

-- a Take of one who holds no key: the first of the line; where there is none it tells whether the
-- queue is shut
abbrev pub OnTake : List Operation → Answer → Type 0
OnTake h (Ok (Say.Key k)) = IsFirst h k
OnTake h (Err No.ShutDown) = NoneQueued h × (shut h ≡ true)
OnTake h (Err No.Empty) = NoneQueued h × (shut h ≡ false)
OnTake h a = ⊥

abbrev pub TakeSays : List Operation → Option InFlight → Answer → Type 0
TakeSays h None a = OnTake h a
TakeSays h (Some s) a = a ≡ Err No.OutOfPhase

-- a sync ends well where no step of the plan is left, and may be given up at any time
abbrev pub on_end : End → Phase → Answer
on_end (Again now) p = Ok Say.Done
on_end Well (Works work) = if is_over (step_at work.plan.steps work.place) then Ok Say.Done else Err
    No.OutOfPhase
on_end Well p = Err No.OutOfPhase

abbrev pub on_finish : End → Option InFlight → Answer
on_finish end None = Err No.OutOfPhase
on_finish end (Some s) = on_end end s.phase

-- the answer after these operations to a caller with this sync; the store's calls are told
-- elsewhere
-- rule: looking-back
abbrev pub Says : List Operation → Option InFlight → Role → Call → Answer → Type 0
Says h o Informer (Of.Add k) a = a ≡ Ok Say.Done
Says h o Informer (Of.Tick now) a = a ≡ Ok Say.Done
Says h o Informer Of.Shut a = a ≡ Ok Say.Done
Says h o Worker Of.Take a = TakeSays h o a
Says h o Worker (Of.Finish end reasons) a = a ≡ on_finish end o
Says h o role call a = Unit {0}

-- whoever called whatever before
abbrev pub AnswerLaw : Type 0
AnswerLaw = (window : ℕ) (h : List Told) (caller : Caller) (call : Call) → IsLegal window h
    → Says (operations h) (sync h caller.number) caller.role call (answer_of window h caller call)

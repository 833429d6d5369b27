-- What each entry of a history did to the work queue, by its call and its answer: client-go,
-- package workqueue, whose names of the calls stand in brackets. A refused call did nothing. A
-- history has its newest entry first.
use Rattle.std.specs.Prelude.{ℕ, List, [], ◌∷◌, Option, Some, None, Result, Ok, Err}
use Rattle.cj_base.specs.declared.refusal.Refusal.{Refusal}
use Rattle.cj_types.specs.Keys.{Place}
use Rattle.cj_calls.specs.declared.call.Call.{Call}
use Rattle.cj_calls.specs.declared.call.Call.TheVariants as Of
use Rattle.cj_calls.specs.declared.end.End.{End}
use Rattle.cj_calls.specs.declared.end.End.TheVariants.{Well, Again}
use Rattle.cj_calls.specs.declared.reply.Reply.{Reply}
use Rattle.cj_calls.specs.declared.reply.Reply.TheVariants as Is
use Rattle.cj_calls.specs.Rows.{Told}
use Rattle.cj_state.specs.declared.phases.sync.Phase.{Phase}
use Rattle.cj_state.specs.declared.phases.sync.Phase.TheVariants.{Works}
use Rattle.cj_state.specs.declared.phases.sync.InFlight.{InFlight}
use Rattle.cj_world_laws.specs.legal.InFlightSyncs.{sync}

-- a key is added (Add), the moment is told, a key is taken (Get), a sync ends well, with the next
-- time of its CronJob in seconds, or is to be tried again, from a moment in milliseconds on (Done,
-- Forget, AddAfter, AddRateLimited), the queue is shut (ShutDown)
pub data Deed : Type 0 where
  adds : Place → Deed
  ticks : ℕ → Deed
  takes : Place → Deed
  ends : Option ℕ → Deed
  fails : ℕ → Deed
  shuts : Deed
  nothing : Deed

-- the next time of the plan that a worker works on
abbrev pub next_in : Phase → Option ℕ
next_in (Works work) = work.plan.steps.next
next_in phase = None

abbrev pub next_of : Option InFlight → Option ℕ
next_of None = None
next_of (Some s) = next_in s.phase

abbrev pub finish : Option InFlight → End → Deed
finish o Well = ends (next_of o)
finish o (Again now) = fails now

abbrev pub accepted : Option InFlight → Call → Reply → Deed
accepted o (Of.Add k) Is.Done = adds k
accepted o (Of.Tick now) Is.Done = ticks now
accepted o Of.Take (Is.Key k) = takes k
accepted o (Of.Finish end reasons) Is.Done = finish o end
accepted o Of.Shut Is.Done = shuts
accepted o call reply = nothing

abbrev pub deed : Option InFlight → Call → Result Reply Refusal → Deed
deed o call (Ok reply) = accepted o call reply
deed o call (Err refusal) = nothing

-- who did it, by number, and what; takes and ends are a worker's, so that there one number is one
-- caller (caller_law of cj_world_laws)
pub record Operation : Type 0 where
  pub by : ℕ
  pub deed : Deed

-- of each entry of a history, by the sync that its caller's own entries before it say
-- rule: queued-history
abbrev pub operations : List Told → List Operation
operations [] = []
operations (e ∷ h) = record { by = e.caller.number; deed = deed (sync h e.caller.number) e.call e.answer } ∷ operations h

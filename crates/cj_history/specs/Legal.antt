-- Legal histories by looking back alone: no state of the store, the queue or the workers stands in
-- these words. A history has its newest entry first.
use Rattle.std.specs.Prelude.{◌≡◌, ◌↔◌, ℕ, true, List, [], ◌∷◌, Result}
use Rattle.cj_base.specs.declared.refusal.Refusal.{Refusal}
use Rattle.cj_calls.specs.Rows.{Told}
use Rattle.cj_calls.specs.declared.caller.Caller.{Caller}
use Rattle.cj_calls.specs.declared.call.Call.{Call}
use Rattle.cj_calls.specs.declared.reply.Reply.{Reply}
use Rattle.cj_state.specs.Legal.{IsLegal, is_entered, answer_of}
use Rattle.cj_world_laws.specs.legal.InFlightSyncs.{sync}
use Rattle.cj_world_laws.specs.legal.Exclusive.{Exclusive}
use Rattle.cj_history.specs.store.Writes.{writes}
use Rattle.cj_history.specs.store.Mirrors.{fed}
use Rattle.cj_history.specs.store.Answers as store
use Rattle.cj_history.specs.queue.Deeds.{operations}
use Rattle.cj_history.specs.queue.Answers as queue

-- what the call is answered by the entries before it: by their writes and operations, and by its
-- caller's sync among them
-- rule: looking-back
pub record IsAnswered (window : ℕ) (h : List Told) (caller : Caller) (call : Call)
    (a : Result Reply Refusal) : Type 0 where
  pub of_store : store.Says window (fed window h) (writes h) (sync h caller.number) caller.role call
      a
  pub of_queue : queue.Says (operations h) (sync h caller.number) caller.role call a

-- each answer is such a one, and is one that is entered
-- rule: looking-back
abbrev pub IsLawful : ℕ → List Told → Type 0
IsLawful window [] = Unit {0}
IsLawful window (e ∷ h) = IsAnswered window h e.caller e.call e.answer
    × (is_entered e.answer ≡ true) × IsLawful window h

-- that is what a legal history is, with the state that its calls leave one after the other
-- rule: looking-back
abbrev pub LegalLaw : Type 0
LegalLaw = (window : ℕ) (h : List Told) → IsLegal window h ↔ IsLawful window h

-- a call has just one answer, which is the one that the state gives
-- rule: looking-back
abbrev pub OneAnswer : Type 0
OneAnswer = (window : ℕ) (h : List Told) (caller : Caller) (call : Call) (a : Result Reply Refusal)
    → IsLawful window h
    → IsAnswered window h caller call a ↔ (a ≡ answer_of window h caller call)

-- between two Takes of a key its first taker has ended its sync
abbrev pub AlwaysExclusive : Type 0
AlwaysExclusive = (window : ℕ) (h : List Told) → IsLawful window h → Exclusive h

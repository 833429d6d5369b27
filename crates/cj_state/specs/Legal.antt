-- Histories: who called what and what was answered, the newest entry first. The state that a
-- history leaves is what its calls leave one after the other, so that a legal history is one of a
-- single store and a single queue, which take one call at a time.
use Rattle.std.specs.Prelude.{◌≡◌, ℕ, Bool, true, false, List, [], ◌∷◌, Result, Err}
use Rattle.std.specs.List.{AllByRecursion}
use Rattle.cj_base.specs.declared.refusal.Refusal.{Refusal}
use Rattle.cj_base.specs.declared.refusal.Refusal.TheVariants.{Empty, HistoryFull, OutOfMemory}
use Rattle.cj_decide.specs.Decision.{IsDecided}
use Rattle.cj_calls.specs.Rows.{Told}
use Rattle.cj_calls.specs.declared.caller.Caller.{Caller}
use Rattle.cj_calls.specs.declared.call.Call.{Call}
use Rattle.cj_calls.specs.declared.call.Call.TheVariants as Of
use Rattle.cj_calls.specs.declared.reply.Reply.{Reply}
use Rattle.cj_state.specs.declared.state.State.{State}
use Rattle.cj_state.specs.Step.{step_of, start}

-- the state that a history leaves, where the watch keeps so many events
-- rule: history
abbrev pub state_of : ℕ → List Told → State
state_of window [] = start window
state_of window (e ∷ h) = (step_of (state_of window h) e.caller e.call).state

-- what the call is answered after the history
-- rule: history
abbrev pub answer_of : ℕ → List Told → Caller → Call → Result Reply Refusal
answer_of window h caller call = (step_of (state_of window h) caller call).answer

-- what is entered: neither that nothing can be taken, nor that the history is full, nor want of
-- memory
abbrev pub is_entered : Result Reply Refusal → Bool
is_entered (Err Empty) = false
is_entered (Err HistoryFull) = false
is_entered (Err OutOfMemory) = false
is_entered _ = true

-- each answer is the one that the entries before it give
-- rule: legal
abbrev pub IsLegal : ℕ → List Told → Type 0
IsLegal window [] = Unit {0}
IsLegal window (e ∷ h) = (e.answer ≡ answer_of window h e.caller e.call)
    × (is_entered e.answer ≡ true) × IsLegal window h

-- a plan that comes in is the decision of what it rests on
abbrev pub IsPlanned : Call → Type 0
IsPlanned (Of.Claim p) = IsDecided p
IsPlanned _ = Unit {0}

-- rule: legal
abbrev pub ArePlanned : List Told → Type 0
ArePlanned h = AllByRecursion (λ e. IsPlanned e.call) h

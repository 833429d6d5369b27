-- A world as its callers see it, and what one call adds to it.
use Rattle.std.specs.Prelude.{◌≡◌, ◌≢◌, ◌↔◌, ◌≤◌, true, false, List, ◌∷◌, length, Result, Err, Option, Some, None, if◌then◌else◌}
use Rattle.cj_base.specs.declared.refusal.Refusal.{Refusal}
use Rattle.cj_base.specs.declared.refusal.Refusal.TheVariants.{Empty, HistoryFull}
use Rattle.cj_types.specs.WorldLimits.{Kept, last_history}
use Rattle.cj_calls.specs.declared.caller.Caller.{Caller}
use Rattle.cj_calls.specs.declared.call.Call.{Call}
use Rattle.cj_calls.specs.declared.reply.Reply.{Reply}
use Rattle.cj_calls.specs.Rows.{Told}
use Rattle.cj_state.specs.declared.state.State.{State}
use Rattle.cj_state.specs.WorkerCalls.{handled}
use Rattle.cj_state.specs.Step.{step_of}
use Rattle.cj_state.specs.Legal.{state_of, answer_of, is_entered, IsLegal, ArePlanned}

-- how much is kept, and the entries, the newest first
pub record WorldLog : Type 0 where
  pub limits : Kept
  pub history : List Told

abbrev pub told : Caller → Call → Result Reply Refusal → Told
told caller call answer = record { caller = caller; call = call; answer = answer }

-- what the history leaves
-- rule: objects
abbrev pub state_in : WorldLog → State
state_in w = state_of w.limits.window w.history

-- what a world keeps
pub record Stands (limits : Kept) (h : List Told) (s : State) : Type 0 where
  pub legal : IsLegal limits.window h
  pub planned : ArePlanned h
  pub short : length h ≤ limits.history
  pub small : limits.history ≤ last_history
  pub state_is : s ≡ state_of limits.window h

-- what one call answers and adds. It is refused with HistoryFull exactly at a full history, before
-- anything else; there, where nothing can be taken, and for want of memory nothing is added. Else
-- the answer is the one that the history gives, and the entry is added.
-- rule: entered
pub record Applied (limits : Kept) (h : List Told) (caller : Caller) (call : Call)
    (r : Result Reply Refusal) (h' : List Told) : Type 0 where
  pub entered : is_entered r ≡ true
      → (r ≡ answer_of limits.window h caller call) × (h' ≡ told caller call r ∷ h)
  pub unentered : is_entered r ≡ false → h' ≡ h
  pub empty : r ≡ Err Empty → answer_of limits.window h caller call ≡ Err Empty
  pub full : (r ≡ Err HistoryFull) ↔ (limits.history ≤ length h)

-- the same of the state and the entries
pub record Advanced (s : State) (h : List Told) (caller : Caller) (call : Call)
    (r : Result Reply Refusal) (s' : State) (h' : List Told) : Type 0 where
  pub entered : is_entered r ≡ true
      → (step_of s caller call ≡ handled r s') × (h' ≡ told caller call r ∷ h)
  pub unentered : is_entered r ≡ false → (s' ≡ s) × (h' ≡ h)
  pub empty : r ≡ Err Empty → (step_of s caller call).answer ≡ Err Empty
  pub full : r ≢ Err HistoryFull
  pub other : is_entered r ≡ false → r ≡ Err Empty

-- the receipts of an entry: two, where the answer is entered
abbrev pub receipts_of : Caller → Call → Result Reply Refusal → Option (Told × Told)
receipts_of caller call r = if is_entered r then Some (told caller call r, told caller call r) else
    None

-- a call that was entered: two receipts of its entry, which was added
-- rule: entered
pub record Entered (limits : Kept) (h : List Told) (caller : Caller) (call : Call) (p : Told × Told)
    (h' : List Told) : Type 0 where
  pub answer : Result Reply Refusal
  pub is_entered : is_entered answer ≡ true
  pub first : p.0 ≡ told caller call answer
  pub second : p.1 ≡ told caller call answer
  pub applied : Applied limits h caller call answer h'

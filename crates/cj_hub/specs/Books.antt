-- The book under the lock: a world, and the passes that it enrolled.
use Rattle.std.specs.Prelude.{◌≡◌, ℕ, ◌+◌, ◌<◌, ◌≤◌, Bool, true, false, List, [], ◌∷◌, Result, Some, IfSome, slice_get, slice_index_or, length}
use Rattle.cj_base.specs.declared.refusal.Refusal.{Refusal}
use Rattle.cj_base.specs.declared.refusal.Refusal.TheVariants.{Empty, HistoryFull, Estranged, OutOfMemory}
use Rattle.cj_types.specs.WorldLimits.{Kept}
use Rattle.cj_calls.specs.Rows.{Told}
use Rattle.cj_calls.specs.declared.call.Call.{Call}
use Rattle.cj_calls.specs.declared.call.Call.TheVariants as Of
use Rattle.cj_calls.specs.declared.caller.Caller.{Caller}
use Rattle.cj_calls.specs.declared.caller.Role.{Role}
use Rattle.cj_calls.specs.declared.caller.Role.TheVariants.{User}
use Rattle.cj_calls.specs.declared.reply.Reply.{Reply}
use Rattle.cj_state.specs.declared.state.State.{State}
use Rattle.cj_state.specs.Legal.{state_of, answer_of, is_entered}
use Rattle.cj_world.specs.Worlds.{told}
use Rattle.cj_hub.specs.declared.receipt.Receipt.{Receipt}
use Rattle.cj_hub.specs.declared.enrolled.Enrolled.{Enrolled}
use Rattle.cj_hub.specs.Receipts.{PassView, caller_of, with_receipt, placed, Stands, last_of, IsExact}

-- a book: how much is kept, its history with the newest entry first, the role of each pass that it
-- enrolled, and whether work on it was given up
pub record BookView : Type 0 where
  pub limits : Kept
  pub history : List Told
  pub roles : List Role
  pub given_up : Bool

abbrev pub not_enrolled : Enrolled
not_enrolled = record { role = User; count = 0 }

-- each pass has as many entries as the book counts of it, and nobody else has any
-- rule: hub-call
abbrev pub IsCounted : List Enrolled → List Told → Type 0
IsCounted enrolled h = (n : ℕ) →
    (slice_index_or enrolled n not_enrolled).count ≡ length (placed n h)

abbrev pub IsEnrolled : BookView → PassView → Type 0
IsEnrolled b p = slice_get b.roles p.number ≡ Some p.role

-- the book enrolled the pass with this role, has as many entries of it as the pass has receipts,
-- and has the last of them at its place
-- rule: hub-call
pub record Knows (b : BookView) (p : PassView) : Type 0 where
  pub enrolled : IsEnrolled b p
  pub counts : length p.receipts ≡ length (placed p.number b.history)
  pub stands : IfSome (last_of p.receipts) (Stands b.history)

-- the book enrolled the pass, whose receipts are exactly its entries
-- rule: closing
abbrev pub Fits : BookView → PassView → Type 0
Fits b p = IsEnrolled b p × IsExact b.history p

-- rule: hub-call
abbrev pub IsFull : BookView → Type 0
IsFull b = b.limits.history ≤ length b.history

abbrev pub state_in : BookView → State
state_in b = state_of b.limits.window b.history

-- what the history answers to a call
abbrev pub answer_in : BookView → Caller → Call → Result Reply Refusal
answer_in b caller call = answer_of b.limits.window b.history caller call

-- one call was entered: the receipt is of it, with the answer that the history gives, at the place
-- after the last, and the entry was added
-- rule: hub-call
pub record IsEntered (b : BookView) (caller : Caller) (call : Call) (r : Receipt)
    (b' : BookView) : Type 0 where
  pub room : length b.history < b.limits.history
  pub entry : r.entry ≡ told caller call (answer_in b caller call)
  pub entered : is_entered (answer_in b caller call) ≡ true
  pub place : r.place ≡ length b.history + 1
  pub book : b' ≡ record b { history = r.entry ∷ b.history }

-- one call of the pass was entered, and the pass has its receipt
-- rule: hub-call
pub record IsStep (b : BookView) (p : PassView) (call : Call) (r : Receipt) (b' : BookView)
    (p' : PassView) : Type 0 where
  pub entered : IsEntered b (caller_of p) call r b'
  pub pass : p' ≡ with_receipt p r

-- a Take where the line is empty and the queue isn't shut
-- rule: hub-call
pub record FindsNothing (s : State) (call : Call) : Type 0 where
  pub call_is : call ≡ Of.Take
  pub line : s.queue.row.line ≡ []
  pub open_still : s.queue.shut ≡ false

-- why nothing was entered: for want of memory, or because nothing was there to take
abbrev pub IsUnentered : State → Call → Refusal → Type 0
IsUnentered s call Empty = FindsNothing s call
IsUnentered s call OutOfMemory = Unit {0}
IsUnentered s call _ = ⊥

-- a refusal of the hub itself: Empty to a Take alone, where the line is empty and the queue isn't
-- shut
-- rule: hub-call
abbrev pub IsHubRefusal : State → Call → Refusal → Type 0
IsHubRefusal s call Empty = FindsNothing s call
IsHubRefusal s call HistoryFull = Unit {0}
IsHubRefusal s call Estranged = Unit {0}
IsHubRefusal s call OutOfMemory = Unit {0}
IsHubRefusal s call _ = ⊥

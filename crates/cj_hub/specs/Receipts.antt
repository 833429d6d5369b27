-- Receipts and passes, and when they fit a history, which has its newest entry first.
use Rattle.std.specs.Prelude.{◌≡◌, ℕ, ◌+◌, ◌-◌, ◌<◌, ◌≤◌, ◌==◌, if◌then◌else◌, List, [], ◌∷◌, ◌++◌, Option, Some, IfSome, slice_get, length}
use mathlib.Core.List.{reverse}
use Rattle.cj_calls.specs.Rows.{Told}
use Rattle.cj_calls.specs.declared.call.Call.{Call}
use Rattle.cj_calls.specs.declared.caller.Caller.{Caller}
use Rattle.cj_calls.specs.declared.caller.Role.{Role}
use Rattle.cj_hub.specs.declared.receipt.Receipt.{Receipt}

-- a pass: its number and role, and the receipts that it got, in order
-- rule: passes
pub record PassView : Type 0 where
  pub number : ℕ
  pub role : Role
  pub receipts : List Receipt

abbrev pub caller_of : PassView → Caller
caller_of p = record { number = p.number; role = p.role }

abbrev pub receipt_of : ℕ → Told → Receipt
receipt_of place e = record { place = place; entry = e }

abbrev pub with_receipt : PassView → Receipt → PassView
with_receipt p r = record p { receipts = p.receipts ++ r ∷ [] }

-- a pass without receipts
-- rule: passes
abbrev pub fresh : ℕ → Role → PassView
fresh n role = record { number = n; role = role; receipts = [] }

-- the entries with the number, the oldest first, each with its place: the first entry of a history
-- has place 1
-- rule: closing
abbrev pub placed : ℕ → List Told → List Receipt
placed n [] = []
placed n (e ∷ h) = if e.caller.number == n then placed n h ++ receipt_of (length h + 1) e ∷ []
    else placed n h

-- the receipt's entry is at its place among these, the oldest first
abbrev pub StandsAmong : List Told → Receipt → Type 0
StandsAmong es r = (1 ≤ r.place) × (slice_get es (r.place - 1) ≡ Some r.entry)

-- the receipt's entry is at its place in the history
-- rule: receipts
abbrev pub Stands : List Told → Receipt → Type 0
Stands h r = StandsAmong (reverse h) r

abbrev pub last_of : List Receipt → Option Receipt
last_of rs = slice_get rs (length rs - 1)

-- the place is after that of the last receipt
-- rule: receipts
abbrev pub Follows : List Receipt → ℕ → Type 0
Follows rs place = IfSome (last_of rs) (λ r. r.place < place)

-- the receipts of the pass are exactly its entries, in order, each at its place
-- rule: closing
abbrev pub IsExact : List Told → PassView → Type 0
IsExact h p = p.receipts ≡ placed p.number h

-- the receipt of a call through a pass, and the pass after it: the receipt names the pass's caller
-- and the call, is later than the last one, and is added
-- rule: receipts
pub record IsReceipt (before : PassView) (call : Call) (r : Receipt)
    (after : PassView) : Type 0 where
  pub caller : r.entry.caller ≡ caller_of before
  pub call_given : r.entry.call ≡ call
  pub later : Follows before.receipts r.place
  pub kept : after ≡ with_receipt before r

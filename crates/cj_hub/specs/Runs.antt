-- What calls through a desk add.
use Rattle.std.specs.Prelude.{◌≡◌, ◌≤◌, Bool, IsTrue, List, [], ◌∷◌, ◌++◌, Result, Ok, Err, IsOk, IsErr, length, map}
use Rattle.std.specs.List.{AllByRecursion}
use Rattle.cj_base.specs.declared.refusal.Refusal.{Refusal}
use Rattle.cj_base.specs.declared.refusal.Refusal.TheVariants.{Empty, HistoryFull, Estranged, OutOfMemory}
use Rattle.cj_calls.specs.Rows.{Told, is_in_row}
use Rattle.cj_calls.specs.declared.call.Call.{Call}
use Rattle.cj_calls.specs.declared.call.Call.TheVariants as Of
use Rattle.cj_calls.specs.declared.reply.Reply.{Reply}
use Rattle.cj_world.specs.Worlds.{WorldLog}
use Rattle.cj_hub.specs.declared.asking.CallError.{CallError}
use Rattle.cj_hub.specs.declared.asking.CallError.TheVariants.{Refused, Unentered}
use Rattle.cj_hub.specs.declared.receipt.Receipt.{Receipt}
use Rattle.cj_hub.specs.Receipts.{PassView, caller_of}

-- a refusal that isn't entered: Empty to a Take alone
-- rule: desks
abbrev pub IsDeskRefusal : Call → Refusal → Type 0
IsDeskRefusal call Empty = call ≡ Of.Take
IsDeskRefusal call HistoryFull = Unit {0}
IsDeskRefusal call Estranged = Unit {0}
IsDeskRefusal call OutOfMemory = Unit {0}
IsDeskRefusal call _ = ⊥

-- what a Take can be refused with that waits while there is nothing to take
-- rule: waiting-take
abbrev pub IsWaitRefusal : Refusal → Type 0
IsWaitRefusal HistoryFull = Unit {0}
IsWaitRefusal Estranged = Unit {0}
IsWaitRefusal OutOfMemory = Unit {0}
IsWaitRefusal _ = ⊥

-- the history has as many entries as its limit
-- rule: desks
abbrev pub IsFullHistory : WorldLog → Type 0
IsFullHistory w = w.limits.history ≤ length w.history

-- a history that is known is full, and the desk shows that it answered HistoryFull
-- rule: desks
abbrev pub FoundFull : Bool → WorldLog → Type 0 → Type 0
FoundFull tells w shown = (IsTrue tells → IsFullHistory w) × shown

-- where the refusal is HistoryFull, P holds
-- rule: desks
abbrev pub IfFull : Refusal → Type 0 → Type 0
IfFull HistoryFull P = P
IfFull _ P = Unit {0}

-- where the answer is HistoryFull, P holds
-- rule: desks
abbrev pub TellsFull : {X : Type 0} → Result X Refusal → Type 0 → Type 0
TellsFull (Ok x) P = Unit {0}
TellsFull (Err e) P = IfFull e P

-- a refusal at a full history: HistoryFull, or Estranged to a pass that isn't known
-- rule: desks
abbrev pub IsFullRefusal : Refusal → Type 0
IsFullRefusal HistoryFull = Unit {0}
IsFullRefusal Estranged = Unit {0}
IsFullRefusal _ = ⊥

-- the answer is a refusal of a full history
-- rule: desks
abbrev pub IsTurnedAway : {X : Type 0} → Result X Refusal → Type 0
IsTurnedAway (Ok x) = ⊥
IsTurnedAway (Err e) = IsFullRefusal e

-- what the desk answered, by what came of the call: one that was entered as refused has a receipt
-- too
-- rule: desks
abbrev pub at_desk : {X : Type 0} → Result X CallError → Result (Unit {0}) Refusal
at_desk (Ok x) = Ok tt
at_desk (Err (Refused r)) = Ok tt
at_desk (Err (Unentered e)) = Err e

-- a history with these entries more, one after the other
abbrev pub more : List Told → List Told → List Told
more h [] = h
more h (e ∷ es) = more (e ∷ h) es

abbrev pub extended : WorldLog → List Told → WorldLog
extended w es = record w { history = more w.history es }

-- the pass got receipts of these entries, all its own, and a history that is known gained just
-- these
-- rule: desks
pub record Gains (tells : Bool) (w w' : WorldLog) (p p' : PassView) (es : List Told) : Type 0 where
  pub told : IsTrue tells → w' ≡ extended w es
  pub news : List Receipt
  pub entries : map (λ r. r.entry) news ≡ es
  pub own : AllByRecursion (λ e. e.caller ≡ caller_of p) es
  pub kept : p' ≡ record p { receipts = p.receipts ++ news }

-- the entries gained meet F
-- rule: desks
pub record Adds (tells : Bool) (w w' : WorldLog) (p p' : PassView)
    (F : List Told → Type 0) : Type 0 where
  pub entries : List Told
  pub gains : Gains tells w w' p p' entries
  pub meets : F entries

-- one entry, of this call with an answer that meets P
pub record IsOne (call : Call) (P : Result Reply Refusal → Type 0) (es : List Told) : Type 0 where
  pub entry : Told
  pub only : es ≡ entry ∷ []
  pub of : entry.call ≡ call
  pub says : P entry.answer
  pub row : IsTrue (is_in_row call entry.answer)

-- what one call adds, by what came of it: an entry with a reply, which the receipt has; an entry
-- with a refusal; or nothing
-- rule: desks
abbrev pub IsAsked : Call → Result Receipt CallError → List Told → Type 0
IsAsked call (Ok r) es = IsOne call (λ a. IsOk a × (a ≡ r.entry.answer)) es
IsAsked call (Err (Refused r)) es = IsOne call (λ a. IsErr a × (a ≡ r.entry.answer)) es
IsAsked call (Err (Unentered e)) es = (es ≡ []) × IsDeskRefusal call e

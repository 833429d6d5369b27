-- Calls with what they are answered, one after the other.
use Rattle.std.specs.Prelude.{◌≡◌, IsTrue, IsOk, List, [], ◌∷◌, ◌++◌, Result, Ok, Err, map, ◌⊎◌}
use Rattle.cj_base.specs.declared.refusal.Refusal.{Refusal}
use Rattle.cj_calls.specs.Rows.{Told, is_in_row}
use Rattle.cj_calls.specs.declared.call.Call.{Call}
use Rattle.cj_calls.specs.declared.reply.Reply.{Reply}
use Rattle.cj_hub.specs.Runs.{IsDeskRefusal}
use Rattle.cj_hub.specs.declared.receipt.Receipt.{Receipt}

-- a call and its answer
pub record Exchange : Type 0 where
  pub call : Call
  pub answer : Result Reply Refusal

abbrev pub accepted : Call → Reply → Exchange
accepted call reply = record { call = call; answer = Ok reply }

abbrev pub refused : Call → Refusal → Exchange
refused call refusal = record { call = call; answer = Err refusal }

-- the calls and answers of entries, whoever made them
abbrev pub exchanges : List Told → List Exchange
exchanges es = map (λ e. record { call = e.call; answer = e.answer }) es

-- a call is entered as refused, or not at all
-- rule: informer-step
abbrev pub IsRefused : Call → Refusal → List Exchange → Type 0
IsRefused call refusal xs = (xs ≡ refused call refusal ∷ []) ⊎
    ((xs ≡ []) × IsDeskRefusal call refusal)

-- the entries are of the first of these exchanges, and of a call that is refused in place of its
-- answer
-- rule: informer-step
pub record BreaksOff (whole : List Exchange) (refusal : Refusal) (es : List Told) : Type 0 where
  pub made : List Exchange
  pub next : Exchange
  pub rest : List Exchange
  pub last : List Exchange
  pub begins : whole ≡ made ++ next ∷ rest
  pub entered : exchanges es ≡ made ++ last
  pub stops : IsRefused next.call refusal last

-- the entries are of just these exchanges, in order, or of the first of them up to a refusal
-- rule: informer-step
abbrev pub Goes : {X : Type 0} → List Exchange → Result X Refusal → List Told → Type 0
Goes whole (Ok x) es = exchanges es ≡ whole
Goes whole (Err refusal) es = BreaksOff whole refusal es

-- ---- one call

-- a receipt of the call, with a reply
pub record IsAccepted (call : Call) (answer : Result Reply Refusal) (es : List Told) : Type 0 where
  pub entered : exchanges es ≡ record { call = call; answer = answer } ∷ []
  pub ok : IsOk answer
  pub row : IsTrue (is_in_row call answer)

abbrev pub HasSaid : Call → Result Receipt Refusal → List Told → Type 0
HasSaid call (Ok receipt) es = IsAccepted call receipt.entry.answer es
HasSaid call (Err refusal) es = IsRefused call refusal (exchanges es)

-- what a call that is accepted with a reply, or refused, adds: by what is kept of the reply
abbrev pub Says : {X : Type 0} → Call → (X → Reply) → Result X Refusal → List Told → Type 0
Says call reply (Ok x) es = exchanges es ≡ accepted call (reply x) ∷ []
Says call reply (Err refusal) es = IsRefused call refusal (exchanges es)

-- A key is in one worker's hands at a time: client-go, package workqueue ("a single item will not
-- be processed multiple times concurrently").
use Rattle.std.specs.Prelude.{◌≡◌, ℕ, List, ◌∷◌, ◌++◌, Ok}
use Rattle.cj_types.specs.Keys.{Place}
use Rattle.cj_types.specs.declared.policy.Reason.{Reason}
use Rattle.cj_calls.specs.Rows.{Told}
use Rattle.cj_calls.specs.declared.caller.Caller.{Caller}
use Rattle.cj_calls.specs.declared.call.Call.TheVariants as Of
use Rattle.cj_calls.specs.declared.end.End.{End}
use Rattle.cj_calls.specs.declared.reply.Reply.TheVariants as Is
use Rattle.cj_state.specs.Legal.{IsLegal}

-- the entry is a Take of the key
pub record IsTake (k : Place) (e : Told) : Type 0 where
  pub call : e.call ≡ Of.Take
  pub answer : e.answer ≡ Ok (Is.Key k)

-- the entry is the end of the caller's sync
pub record IsFinish (caller : Caller) (e : Told) : Type 0 where
  pub by : e.caller ≡ caller
  pub end : End
  pub reasons : List Reason
  pub call : e.call ≡ Of.Finish end reasons
  pub answer : e.answer ≡ Ok Is.Done

-- an entry among these is such an end
pub data SomeFinish (caller : Caller) : List Told → Type 0 where
  here : (e : Told) (h : List Told) → IsFinish caller e → SomeFinish caller (e ∷ h)
  later : (e : Told) (h : List Told) → SomeFinish caller h → SomeFinish caller (e ∷ h)

-- between two Takes of a key its first taker has ended its sync; a history has its newest entry
-- first
-- rule: exclusive
abbrev pub Exclusive : List Told → Type 0
Exclusive h = (k : Place) (after between before : List Told) (second first : Told)
    → h ≡ after ++ second ∷ (between ++ first ∷ before)
    → IsTake k second → IsTake k first → SomeFinish first.caller between

-- whoever calls whatever
-- rule: exclusive
abbrev pub AlwaysExclusive : Type 0
AlwaysExclusive = (window : ℕ) (h : List Told) → IsLegal window h → Exclusive h

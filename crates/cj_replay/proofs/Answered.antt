-- What a call is answered, of what one call of the world says.
use Rattle.std.proofs.Common.{◌≡◌, ◌≤◌, ◌∙◌, ℕ, Bool, true, false, List, ◌∷◌, length, refl, sym, ap, arith}
use Rattle.std.proofs.lemmas.Bool.Decides.{nat_tests}
use Rattle.std.specs.Prelude.{nat_le, Result, Ok, Err, if◌then◌else◌}
use Rattle.cj_base.specs.declared.refusal.Refusal.{Refusal}
use Rattle.cj_base.specs.declared.refusal.Refusal.TheVariants.{Empty, HistoryFull, OutOfMemory}
use Rattle.cj_types.specs.WorldLimits.{Kept}
use Rattle.cj_calls.specs.declared.call.Call.{Call}
use Rattle.cj_calls.specs.declared.caller.Caller.{Caller}
use Rattle.cj_calls.specs.declared.reply.Reply.{Reply}
use Rattle.cj_calls.specs.Rows.{Told}
use Rattle.cj_state.specs.Legal.{answer_of, is_entered}
use Rattle.cj_world.specs.Worlds.{Applied, told}
use Rattle.cj_replay.specs.Runs.{after, answered, wants_memory}

-- Where a is at most b, nat_le says so.
le_true : (a b : ℕ) → a ≤ b → nat_le a b ≡ true
le_true a b h = grind (arith, nat_tests)

-- Where a is not at most b, nat_le denies it.
le_false : (a b : ℕ) → (a ≤ b → ⊥) → nat_le a b ≡ false
le_false a b h = by (nat_le a b) refl
  where
    by : (t : Bool) → nat_le a b ≡ t → nat_le a b ≡ false
    by true e = let le : a ≤ b = grind (arith, nat_tests) in absurd (h le)
    by false e = e

module _ (limits : Kept) (h : List Told) (caller : Caller) (call : Call) where
  -- The answer to the call, by whether the history is full.
  abbrev at : Bool → Result Reply Refusal
  at b = if b then Err HistoryFull else answer_of limits.window h caller call

  -- Where the history isn't full, the call is answered as the history gives.
  with_room : (limits.history ≤ length h → ⊥) → answered limits h caller call ≡ answer_of limits.window h caller call
  with_room n = ap at (le_false limits.history (length h) n)

  -- Where the history is full, the call is answered with HistoryFull.
  at_full : limits.history ≤ length h → answered limits h caller call ≡ Err HistoryFull
  at_full f = ap at (le_true limits.history (length h) f)

  module _ (h' : List Told) where
    -- For given: what the world answers is what answered says, whether it is entered or not.
    given_by : (r : Result Reply Refusal) → Applied limits h caller call r h' → wants_memory r ≡ false → (b : Bool)
        → is_entered r ≡ b → r ≡ answered limits h caller call
    given_by r a m true e =
        let room : limits.history ≤ length h → ⊥ = λ f. absurd (cc (sym e ∙ ap is_entered (a.full.1 f))) in
        (a.entered e).0 ∙ sym (with_room room)
    given_by (Ok x) a m false e = absurd (cc e)
    given_by (Err Empty) a m false e =
        let room : limits.history ≤ length h → ⊥ = λ f. absurd (cc (a.full.1 f)) in
        sym (with_room room ∙ a.empty refl)
    given_by (Err HistoryFull) a m false e = sym (at_full (a.full.0 refl))
    given_by (Err OutOfMemory) a m false e = absurd (cc m)
    given_by (Err x) a m false e = absurd (cc e)

    -- For left: the history has the entry more if the answer is entered, and is else as it was.
    left_by : (r : Result Reply Refusal) → Applied limits h caller call r h' → (b : Bool) → is_entered r ≡ b
        → h' ≡ (if b then told caller call r ∷ h else h)
    left_by r a true e = (a.entered e).1
    left_by r a false e = a.unentered e

-- For answer_to: what the world answers, unless for want of memory, is what answered says.
pub given : (limits : Kept) (h : List Told) (caller : Caller) (call : Call) (r : Result Reply Refusal) (h' : List
    Told) (b : Bool)
    → Applied limits h caller call r h' → b ≡ wants_memory r → b ≡ false → r ≡ answered limits h caller call
given limits h caller call r h' b a e f = given_by limits h caller call h' r a (sym e ∙ f) (is_entered r) refl

-- For answer_to: one call of the world leaves the history that after says.
pub left : (limits : Kept) (h : List Told) (caller : Caller) (call : Call) (r : Result Reply Refusal) (h' : List Told)
    → Applied limits h caller call r h' → h' ≡ after h caller call r
left limits h caller call r h' a = left_by limits h caller call h' r a (is_entered r) refl

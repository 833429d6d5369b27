-- A list of earlier due instants grows one by one.
use Rattle.std.proofs.Common.{◌≡◌, ℕ, zero, suc, List, [], ◌∷◌, ◌++◌, refl, sym, subst, inl, inr, append_assoc, append-nil}
use Rattle.cj_schedule.specs.Matches.{Sets}
use Rattle.cj_zone.specs.declared.zone.Zone.{Zone}
use Rattle.cj_due.specs.Due.{IsQuiet, IsLatestDue}
use Rattle.cj_answers.specs.PreviousText.{AreBefore, floor_of, upto}

-- what is left of the instants, before one with so many to come, makes them all
pub record Recedes (s : Sets) (z : Zone) (before count at left : ℕ) (times : List ℕ) : Type 0 where
  pub whole : (rest : List ℕ) → AreBefore s z at left rest → AreBefore s z before count (times ++ rest)

-- Before the first one there is none, and all are still to come.
pub recedes_start : (s : Sets) (z : Zone) (before count : ℕ) → Recedes s z before count before count []
recedes_start s z before count = record { whole = λ rest h. h }

-- one instant more
pub recedes_one : (s : Sets) (z : Zone) (before count at left more t : ℕ) (times : List ℕ) → left ≡ suc more
    → Recedes s z before count at left times → IsLatestDue s z (floor_of at) (upto at) t
    → Recedes s z before count t more (times ++ t ∷ [])
recedes_one s z before count at left more t times e h latest = record {
  whole = λ rest is.
      let go : AreBefore s z at (suc more) (t ∷ rest) =
      inl (record { t = t; rest = rest; latest = latest; first = refl; more = is }) in
      let P : ℕ → Type 0 = λ n. AreBefore s z at n (t ∷ rest) in
      let Q : List ℕ → Type 0 = λ x. AreBefore s z before count x in
      subst Q (sym (append_assoc times (t ∷ []) rest)) (h.whole (t ∷ rest) (subst P (sym e) go));
}

-- an end where nothing is due
pub recedes_none : (s : Sets) (z : Zone) (before count at left more : ℕ) (times : List ℕ) → left ≡ suc more
    → Recedes s z before count at left times → IsQuiet s z (floor_of at) (upto at) → AreBefore s z before count times
recedes_none s z before count at left more times e h quiet =
    let go : AreBefore s z at (suc more) [] = inr (record { quiet = quiet; none = refl }) in
    let P : ℕ → Type 0 = λ n. AreBefore s z at n [] in
    let Q : List ℕ → Type 0 = λ x. AreBefore s z before count x in
    subst Q (append-nil times) (h.whole [] (subst P (sym e) go))

-- none to come
pub recedes_done : (s : Sets) (z : Zone) (before count at left : ℕ) (times : List ℕ) → left ≡ zero
    → Recedes s z before count at left times → AreBefore s z before count times
recedes_done s z before count at left times e h =
    let P : ℕ → Type 0 = λ n. AreBefore s z at n [] in
    let Q : List ℕ → Type 0 = λ x. AreBefore s z before count x in
    subst Q (append-nil times) (h.whole [] (subst P (sym e) refl))

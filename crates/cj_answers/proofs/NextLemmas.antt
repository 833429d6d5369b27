-- A text of due instants grows line by line.
use Rattle.std.proofs.Common.{◌≡◌, ℕ, zero, suc, ◌+◌, List, [], ◌++◌, codes, refl, sym, subst, inl, inr, append_assoc, append-nil}
use Rattle.cj_schedule.specs.Matches.{Sets}
use Rattle.cj_zone.specs.declared.zone.Zone.{Zone}
use Rattle.cj_due.specs.Due.{reach, IsQuiet, IsLeastDue}
use Rattle.cj_answers.specs.NextText.{line_of, IsNextText}

-- what is left of a text, from one instant with so many lines to come, makes it the whole text
pub record Continues (s : Sets) (z : Zone) (after count at left : ℕ) (text : List ℕ) : Type 0 where
  pub whole : (rest : List ℕ) → IsNextText s z at left rest → IsNextText s z after count (text ++ rest)

-- Before the first line the text is empty, and all of its lines are still to come.
pub continues_start : (s : Sets) (z : Zone) (after count : ℕ) → Continues s z after count after count []
continues_start s z after count = record { whole = λ rest h. h }

-- one line more
pub continues_line : (s : Sets) (z : Zone) (after count at left more t : ℕ) (text : List ℕ) → left ≡ suc more
    → Continues s z after count at left text → IsLeastDue s z at (at + reach) t
    → Continues s z after count t more (text ++ line_of t)
continues_line s z after count at left more t text e h least = record {
  whole = λ rest is.
      let go : IsNextText s z at (suc more) (line_of t ++ rest) =
      inl (record { t = t; rest = rest; least = least; first = refl; more = is }) in
      let P : ℕ → Type 0 = λ n. IsNextText s z at n (line_of t ++ rest) in
      let Q : List ℕ → Type 0 = λ x. IsNextText s z after count x in
      subst Q (sym (append_assoc text (line_of t) rest)) (h.whole (line_of t ++ rest) (subst P (sym e) go));
}

-- the line `none`, and an end
pub continues_none : (s : Sets) (z : Zone) (after count at left more : ℕ) (text : List ℕ) → left ≡ suc more
    → Continues s z after count at left text → IsQuiet s z at (at + reach)
    → IsNextText s z after count (text ++ codes "none\n")
continues_none s z after count at left more text e h quiet =
    let go : IsNextText s z at (suc more) (codes "none\n") = inr (record { quiet = quiet; says = refl }) in
    let P : ℕ → Type 0 = λ n. IsNextText s z at n (codes "none\n") in
    h.whole (codes "none\n") (subst P (sym e) go)

-- no line to come
pub continues_done : (s : Sets) (z : Zone) (after count at left : ℕ) (text : List ℕ) → left ≡ zero
    → Continues s z after count at left text → IsNextText s z after count text
continues_done s z after count at left text e h =
    let P : ℕ → Type 0 = λ n. IsNextText s z at n [] in
    let Q : List ℕ → Type 0 = λ x. IsNextText s z after count x in
    subst Q (append-nil text) (h.whole [] (subst P (sym e) refl))

-- A text of the next times grows time by time.
use Rattle.std.proofs.Common.{◌≡◌, ℕ, zero, suc, ◌+◌, List, [], ◌++◌, refl, sym, subst, inl, inr, append_assoc, append-nil}
use Rattle.cj_schedule.specs.Matches.{Sets}
use Rattle.cj_zone.specs.declared.zone.Zone.{Zone}
use Rattle.cj_due.specs.Due.{reach, IsQuiet, IsLeastDue}
use Rattle.cj_upcoming.specs.Coming.{none_line, time_line, AddsStep, AreComing}

-- what is left of a text, from one instant with so many times to come, makes it the whole text
pub record Continues (s : Sets) (z : Zone) (start count at left : ℕ) (text : List ℕ) : Type 0 where
  pub whole : (rest : List ℕ) → AreComing s z start at left rest → AreComing s z start start count (text ++ rest)

module _ (s : Sets) (z : Zone) (start count : ℕ) where
  -- Before the first time the text is empty, and all times are still to come.
  pub continues_start : Continues s z start count start count []
  continues_start = record { whole = λ rest h. h }

  -- With one time more the rest goes on from it.
  pub continues_time : (at left more t : ℕ) (old new : List ℕ) → left ≡ suc more → Continues s z start count at left old
      → IsLeastDue s z at (at + reach) t → AddsStep s z start at t old new → Continues s z start count t more new
  continues_time at left more t old new e h least step = record {
    whole = λ rest is.
        let added = step.lines ++ time_line z start t in
        let go : AreComing s z start at (suc more) (added ++ rest) =
        inl (record {
          t = t;
          rest = rest;
          least = least;
          lines = step.lines;
          named = step.named;
          more = is;
          are = refl;
        }) in
        let P : ℕ → Type 0 = λ n. AreComing s z start at n (added ++ rest) in
        let Q : List ℕ → Type 0 = λ x. AreComing s z start start count x in
        let R : List ℕ → Type 0 = λ x. AreComing s z start start count (x ++ rest) in
        subst R (sym step.are) (subst Q (sym (append_assoc old added rest))
        (h.whole (added ++ rest) (subst P (sym e) go)));
  }

  -- Where nothing is due any more the text ends.
  pub continues_none : (at left more : ℕ) (old new : List ℕ) → left ≡ suc more → Continues s z start count at left old
      → IsQuiet s z at (at + reach) → new ≡ old ++ none_line → AreComing s z start start count new
  continues_none at left more old new e h quiet grown =
      let go : AreComing s z start at (suc more) none_line = inr (record { quiet = quiet; says = refl }) in
      let P : ℕ → Type 0 = λ n. AreComing s z start at n none_line in
      let Q : List ℕ → Type 0 = λ x. AreComing s z start start count x in
      subst Q (sym grown) (h.whole none_line (subst P (sym e) go))

  -- No time is to come.
  pub continues_done : (at left : ℕ) (text : List ℕ) → left ≡ zero → Continues s z start count at left text
      → AreComing s z start start count text
  continues_done at left text e h =
      let P : ℕ → Type 0 = λ n. AreComing s z start at n [] in
      let Q : List ℕ → Type 0 = λ x. AreComing s z start start count x in
      subst Q (append-nil text) (h.whole [] (subst P (sym e) refl))

-- Rows of due times that have no Job.
use Rattle.std.proofs.Common.{◌≡◌, ◌⊎◌, inl, inr, ◌<◌, ◌+◌, ℕ, zero, suc, Bool, true, false, nat_lt, refl, ◌∙◌, subst, arith}
use Rattle.std.proofs.lemmas.Bool.Decides.{nat_tests}
use Rattle.std.specs.BTreeSet.{BTreeSet, contains}
use Rattle.std.specs.Ordering.{nat_cmp}
use Rattle.cj_schedule.specs.Matches.{Sets}
use Rattle.cj_zone.specs.declared.zone.Zone.{Zone}
use Rattle.cj_due.specs.Due.{due, reach, IsLeastDue, IsQuiet}
use Rattle.cj_cluster.specs.declared.cron.ClusterCron.{ClusterCron}
use Rattle.cj_audit.specs.declared.finding.Finding.{Finding}
use Rattle.cj_audit.specs.declared.marks.Marks.{Marks}
use Rattle.cj_audit.specs.declared.run.Run.{Run}
use Rattle.cj_audit.specs.Marks.{IsHoleNote, IsRowNote}
use Rattle.cj_audit.specs.Missing.{row_most, IsInRow}
use Rattle.cj_audit.specs.Notes.{Notes}
use Rattle.cj_audit.proofs.Noting.{notes_as, notes_none, notes_then}

-- A test of two numbers is the order of them.
below : (x y : ℕ) → nat_lt x y ≡ true → x < y
below x y h = grind (arith, nat_tests)

-- There is one least due time.
least_same : (s : Sets) (z : Zone) (lo hi t u : ℕ) → IsLeastDue s z lo hi t → IsLeastDue s z lo hi u → t ≡ u
least_same s z lo hi t u a b = by (nat_lt t u) (nat_lt u t) refl refl
  where
    by : (p q : Bool) → nat_lt t u ≡ p → nat_lt u t ≡ q → t ≡ u
    by true q e f = let low : due s z t ≡ false = b.least t a.above (below t u e) in
        let high : due s z t ≡ true = a.is_due in absurd (cc (low, high))
    by false true e f = let low : due s z u ≡ false = a.least u b.above (below u t f) in
        let high : due s z u ≡ true = b.is_due in absurd (cc (low, high))
    by false false e f = grind (arith, nat_tests)

-- A row by one test is one by another that holds where the first does.
pub row_map : (s : Sets) (z : Zone) (P Q : ℕ → Type 0) → ((t : ℕ) → P t → Q t) → (n last time : ℕ)
    → IsInRow n s z P last time → IsInRow n s z Q last time
row_map s z P Q f zero last time h = h
row_map s z P Q f (suc n) last time (next, least, inl same) = (next, least, inl same)
row_map s z P Q f (suc n) last time (next, least, inr (free, rest)) =
    (next, least, inr (f next free, row_map s z P Q f n next time rest))

module _ (s : Sets) (z : Zone) (c : ClusterCron) (m : Marks) (run : Run) where
  -- what gains from here on the rest of the row has gained from the start all of it
  pub record Rows (first n last : ℕ) (old now : BTreeSet Finding) : Type 0 where
    pub goes_on : (end : BTreeSet Finding) → Notes (IsRowNote n s z c m run last) now end
        → Notes (IsRowNote row_most s z c m run first) old end

  -- At the start all of the row is to come.
  pub rows_start : (first : ℕ) (a : BTreeSet Finding) → Rows first row_most first a a
  rows_start first a = record { goes_on = λ end h. h }

  -- the test that no Job has the time
  abbrev Free : ℕ → Type 0
  Free t = contains nat_cmp m.times t ≡ false

  -- For one_more: the next time is noted first, then those behind it.
  to_row : (n last time : ℕ) (f : Finding) → IsLeastDue s z last (last + reach) time → Free time
      → IsHoleNote c m run time f ⊎ IsRowNote n s z c m run time f → IsRowNote (suc n) s z c m run last f
  to_row n last time f least free (inl h) = record { time = time; row = (time, least, inl refl); hole = h }
  to_row n last time f least free (inr h) =
      record { time = h.time; row = (time, least, inr (free, h.row)); hole = h.hole }

  -- And the other way round.
  from_row : (n last time : ℕ) (f : Finding) → IsLeastDue s z last (last + reach) time
      → IsRowNote (suc n) s z c m run last f
      → IsHoleNote c m run time f ⊎ (Free time × IsRowNote n s z c m run time f)
  from_row n last time f least h = by h.row
    where
      by : IsInRow (suc n) s z Free last h.time
          → IsHoleNote c m run time f ⊎ (Free time × IsRowNote n s z c m run time f)
      by (next, other, inl same) =
          let one : next ≡ time = least_same s z last (last + reach) next time other least in
          inl (subst (λ t. IsHoleNote c m run t f) (same ∙ one) h.hole)
      by (next, other, inr (free, rest)) =
          let one : next ≡ time = least_same s z last (last + reach) next time other least in
          inr (
            subst Free one free,
            record {
              time = h.time;
              row = subst (λ t. IsInRow n s z Free t h.time) one rest;
              hole = h.hole;
            },
          )

  -- With the next time of a row noted, which no Job has, those behind it are still to be noted.
  pub rows_step : (first n more last time : ℕ) (a b d : BTreeSet Finding) → more ≡ suc n → Rows first more last a b
      → IsLeastDue s z last (last + reach) time → Notes (IsHoleNote c m run time) b d → Free time
      → Rows first n time a d
  rows_step first n more last time a b d is rows least noted free =
      let here : Rows first (suc n) last a b = subst (λ k. Rows first k last a b) is rows in
      record {
        goes_on = λ end h. here.goes_on end (notes_as (λ f. IsHoleNote c m run time f ⊎ IsRowNote n s z c m run time f)
            (IsRowNote (suc n) s z c m run last) b end (λ f k. to_row n last time f least free k)
            (λ f k. elim (from_row n last time f least k) [ inl hole ↦ inl hole | inr rest ↦ inr rest.1 ])
            (notes_then (IsHoleNote c m run time) (IsRowNote n s z c m run time) b d end noted h));
      }

  -- Where a Job has the next time, the row ends with it.
  pub rows_stop : (first n more last time : ℕ) (a b d : BTreeSet Finding) → more ≡ suc n → Rows first more last a b
      → IsLeastDue s z last (last + reach) time → Notes (IsHoleNote c m run time) b d
      → contains nat_cmp m.times time ≡ true → Notes (IsRowNote row_most s z c m run first) a d
  rows_stop first n more last time a b d is rows least noted has =
      let here : Rows first (suc n) last a b = subst (λ k. Rows first k last a b) is rows in
      here.goes_on d (notes_as (IsHoleNote c m run time) (IsRowNote (suc n) s z c m run last) b d
      (λ f k. record { time = time; row = (time, least, inl refl); hole = k })
      (λ f k. elim (from_row n last time f least k) [ inl hole ↦ hole | inr rest ↦ absurd (clash rest.0) ]) noted)
    where
      clash : Free time → ⊥
      clash free = cc (has, free)

  -- Where nothing is due any more, the row ends.
  pub rows_quiet : (first n last : ℕ) (a b : BTreeSet Finding) → Rows first n last a b
      → IsQuiet s z last (last + reach) → Notes (IsRowNote row_most s z c m run first) a b
  rows_quiet first n last a b rows quiet =
      rows.goes_on b (notes_none (IsRowNote n s z c m run last) b (λ f h. none n h.time h.row))
    where
      none : (k time : ℕ) → IsInRow k s z Free last time → ⊥
      none zero time h = h
      none (suc k) time (next, least, rest) =
          let low : due s z next ≡ false = quiet next least.above least.within in
          let high : due s z next ≡ true = least.is_due in
          cc (low, high)

  -- Of a row of no more times nothing is to come.
  pub rows_end : (first n last : ℕ) (a b : BTreeSet Finding) → n ≡ 0 → Rows first n last a b
      → Notes (IsRowNote row_most s z c m run first) a b
  rows_end first n last a b is rows =
      let here : Rows first zero last a b = subst (λ k. Rows first k last a b) is rows in
      here.goes_on b (notes_none (IsRowNote zero s z c m run last) b (λ f h. h.row))

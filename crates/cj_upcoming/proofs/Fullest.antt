-- The first of minutes in order are the fullest.
use Rattle.std.proofs.Common.{◌≡◌, inl, inr, ◌<◌, ◌≤◌, ℕ, zero, suc, false, List, [], ◌∷◌, length, take, drop, min, refl, sym, ap, ◌∙◌, subst, arith}
use Rattle.std.specs.List.{All, AllByRecursion}
use Rattle.std.specs.List.Sorted.{IsPermutation}
use Rattle.std.specs.Ordering.{nat_cmp, is_lt, ordering_then}
use Rattle.std.specs.declared.cmp.Ordering.{Ordering}
use Rattle.std.specs.declared.cmp.Ordering.TheVariants.{Less, Equal, Greater}
use Rattle.std.proofs.lemmas.Cmp.{ranked}
use Rattle.std.proofs.lemmas.List.{take-append-drop, length-take}
use Rattle.cj_status.specs.Order.{IsRising}
use Rattle.cj_upcoming.specs.declared.minute.Minute.{Minute}
use Rattle.cj_upcoming.specs.Minutes.{is_fuller, IsPeaks}
use Rattle.cj_upcoming.proofs.Members.{IsIn, all_in}

-- What holds of all of a list holds of each that stands in it.
in_each : (P : Minute → Type 0) (xs : List Minute) (a : Minute) → AllByRecursion P xs → IsIn a xs → P a
in_each P [] a all h = absurd h
in_each P (x ∷ xs) a all (inl is) = subst P (sym is) all.0
in_each P (x ∷ xs) a all (inr rest) = in_each P xs a all.1 rest

-- What stands in the rest of a list stands in it.
in_drop : (n : ℕ) (xs : List Minute) (a : Minute) → IsIn a (drop n xs) → IsIn a xs
in_drop zero xs a h = h
in_drop (suc n) [] a h = h
in_drop (suc n) (x ∷ xs) a h = inr (in_drop n xs a h)

-- Of minutes in order none behind a place is fuller than one before it.
none_fuller : (n : ℕ) (xs : List Minute) → IsRising is_fuller xs → (p r : Minute) → IsIn p (take n xs)
    → IsIn r (drop n xs) → is_fuller r p ≡ false
none_fuller zero xs h p r first rest = absurd first
none_fuller (suc n) [] h p r first rest = absurd first
none_fuller (suc n) (x ∷ xs) h p r (inl is) rest =
    subst (λ y. is_fuller r y ≡ false) (sym is) (in_each (λ y. is_fuller y x ≡ false) xs r h.0 (in_drop n xs r rest))
none_fuller (suc n) (x ∷ xs) h p r (inr first) rest = none_fuller n xs h.1 p r first rest

-- What isn't fuller has no more starts.
no_more : (r p : Minute) → is_fuller r p ≡ false → r.count ≤ p.count
no_more r p h = by (nat_cmp p.count r.count) (nat_cmp r.first p.first) p.count r.count refl h
  where
    by : (o q : Ordering) (x y : ℕ) → o ≡ nat_cmp x y → is_lt (ordering_then o q) ≡ false → y ≤ x
    by Less q x y e k = absurd (cc k)
    by Equal q x y e k = let same : x ≡ y = ranked x y Equal e in omega arith
    by Greater q x y e k = let above : y < x = ranked x y Greater e in omega arith

-- The first of minutes in order are in order.
rising_take : (n : ℕ) (xs : List Minute) → IsRising is_fuller xs → IsRising is_fuller (take n xs)
rising_take zero xs h = tt
rising_take (suc n) [] h = tt
rising_take (suc n) (x ∷ xs) h = (all_take n xs h.0, rising_take n xs h.1)
  where
    all_take : (k : ℕ) (ys : List Minute) → AllByRecursion (λ y. is_fuller y x ≡ false) ys
        → AllByRecursion (λ y. is_fuller y x ≡ false) (take k ys)
    all_take zero ys a = tt
    all_take (suc k) [] a = tt
    all_take (suc k) (y ∷ ys) a = (a.0, all_take k ys a.1)

-- For peaks: the first so many of all minutes in order are the peaks.
pub first_are_peaks : (most : ℕ) (minutes all : List Minute) → IsPermutation minutes all → IsRising is_fuller all
    → length all ≡ length minutes → IsPeaks most minutes (take most all)
first_are_peaks most minutes all same order long = record {
  rest = drop most all;
  same = subst (λ xs. IsPermutation minutes xs) (sym (take-append-drop most all)) same;
  size = length-take most all ∙ ap (min most) long;
  greatest = all_in (λ p. All (λ r. r.count ≤ p.count) (drop most all)) (take most all) (λ p first.
      all_in (λ r. r.count ≤ p.count) (drop most all)
      (λ r rest. no_more r p (none_fuller most all order p r first rest)));
  order = rising_take most all order;
}

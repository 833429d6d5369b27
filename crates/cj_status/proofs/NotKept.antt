-- What a list in order keeps as surplus.
use Rattle.std.proofs.Common.{◌≡◌, ◌∙◌, ap, sym, subst, refl, ℕ, ◌+◌, ◌-◌, ◌<◌, ◌≤◌, suc, Bool, true, false, not, cond, nat_lt, List, [], ◌∷◌, ◌++◌, take, drop, length, filter, position, unwrap_or, Some, None, arith, one-add, get_or}
use Rattle.std.specs.List.{position_or_len, AllByRecursion}
use Rattle.std.proofs.lemmas.Bool.Decides.{nat_tests}
use Rattle.std.specs.Cmp.{IsStrictWeakOrder}
use Rattle.std.proofs.lemmas.List.{take-append-drop, length-drop}
use Rattle.std.proofs.Math.Seq.{drop-cons}
use Rattle.std.proofs.lemmas.List.Sums.{prefix_len-le-length, count_by-le-length, length-filter}
use Rattle.cj_status.specs.declared.refs.JobRef.{JobRef}
use Rattle.cj_status.specs.declared.order.Sorting.TheVariants.{ByAge}
use Rattle.cj_status.specs.Order.{IsRising}
use Rattle.cj_status.specs.Refs.{is_older}
use Rattle.cj_status.specs.Surplus.{not_kept}
use Rattle.cj_status.proofs.Orders.{by_sorting}
use Rattle.cj_status.proofs.Sorts.{all_map}

-- how many pass
abbrev pub count : {X : Type 0} → (X → Bool) → List X → ℕ
count p xs = length (filter p xs)

-- the place of the first that passes, or the end
abbrev pub place_of : {X : Type 0} → (X → Bool) → List X → ℕ
place_of p xs = unwrap_or (position p xs) (length xs)

-- those than which as many as the limit are above
abbrev pub above_cut : {X : Type 0} → (X → X → Bool) → ℕ → List X → List X
above_cut lt limit xs = filter (λ r. not (nat_lt (count (lt r) xs) limit)) xs

-- For place_is: a place up to the length is itself, where none below the length means the length.
or_len : (n m : ℕ) → n ≤ m → unwrap_or (cond (nat_lt n m) (Some n) None) m ≡ n
or_len n m h =
    elim (nat_lt n m) as (λ b. nat_lt n m ≡ b → unwrap_or (cond b (Some n) None) m ≡ n) [
      | true ↦ λ e. refl
      | false ↦ λ e. grind (arith, nat_tests)
    ] refl

-- The place of the first that passes, or the end, is what position_or_len gives.
place_is : {X : Type 0} (p : X → Bool) (xs : List X) → place_of p xs ≡ position_or_len p xs
place_is p xs = or_len (position_or_len p xs) (length xs) (prefix_len-le-length (λ x. not (p x)) xs)

-- Where all of a list pass, as many pass as the list has.
count_all : {X : Type 0} (p : X → Bool) (xs : List X) → AllByRecursion (λ s. p s ≡ true) xs → count p xs ≡ length xs
count_all p [] h = refl
count_all p (x ∷ xs) h = rw (h.0) (ap suc (count_all p xs h.1))

-- Where none of the front passes, as many of the whole pass as of the rest.
count_after : {X : Type 0} (p : X → Bool) (a b : List X) → AllByRecursion (λ s. p s ≡ false) a
    → count p (a ++ b) ≡ count p b
count_after p [] b h = refl
count_after {X} p (x ∷ a) b h = ap (λ v. length (cond v (x ∷ filter p (a ++ b)) (filter p (a ++ b)))) h.0
    ∙ count_after p a b h.1

-- Of the whole at least as many pass as of the rest alone.
count_more : {X : Type 0} (p : X → Bool) (a b : List X) → count p b ≤ count p (a ++ b)
count_more p [] b = omega arith
count_more {X} p (x ∷ a) b =
    elim (p x) as (λ v. count p b ≤ length (cond v (x ∷ filter p (a ++ b)) (filter p (a ++ b)))) [
      | true ↦ omega (arith, count_more p a b)
      | false ↦ count_more p a b
    ]

-- No more pass than the list has.
count_bound : {X : Type 0} (p : X → Bool) (xs : List X) → count p xs ≤ length xs
count_bound p xs = subst (λ n. n ≤ length xs) (sym (length-filter p xs)) (count_by-le-length p xs)

-- Where none of a list precedes x, the one that stands in its midst doesn't either.
low_at : {X : Type 0} (lt : X → X → Bool) (x : X) (a : List X) (p : X) (b : List X)
    → AllByRecursion (λ y. lt y x ≡ false) (a ++ p ∷ b) → lt p x ≡ false
low_at lt x [] p b h = h.0
low_at lt x (y ∷ a) p b h = low_at lt x a p b h.1

-- In a rising list one precedes none of those before it.
front_low : {X : Type 0} (lt : X → X → Bool) (a : List X) (p : X) (b : List X) → IsRising lt (a ++ p ∷ b)
    → AllByRecursion (λ s. lt p s ≡ false) a
front_low lt [] p b h = tt
front_low lt (x ∷ a) p b h = (low_at lt x a p b h.0, front_low lt a p b h.1)

-- In a rising list none of those behind one precedes it.
back_high : {X : Type 0} (lt : X → X → Bool) (a : List X) (p : X) (b : List X) → IsRising lt (a ++ p ∷ b)
    → AllByRecursion (λ s. lt s p ≡ false) b
back_high lt [] p b h = h.0
back_high lt (x ∷ a) p b h = back_high lt a p b h.1

-- Where r precedes p and s doesn't, r precedes s.
above : {X : Type 0} (lt : X → X → Bool) (o : IsStrictWeakOrder lt) (r p s : X) → lt r p ≡ true → lt s p ≡ false
    → lt r s ≡ true
above lt o r p s t f =
    elim (lt r s) as (λ b. lt r s ≡ b → b ≡ true) [
      | true ↦ λ e. refl
      | false ↦ λ e. sym (o.chain r s p e f) ∙ t
    ] refl

-- as many as stand from p on are above r just where p is
many_above : {X : Type 0} (lt : X → X → Bool) (o : IsStrictWeakOrder lt) (a : List X) (p : X) (b : List X) (r : X)
    → IsRising lt (a ++ p ∷ b) → not (nat_lt (count (lt r) (a ++ p ∷ b)) (length (p ∷ b))) ≡ lt r p
many_above lt o a p b r h =
    elim (lt r p) as (λ v. lt r p ≡ v → not (nat_lt (count (lt r) (a ++ p ∷ b)) (length (p ∷ b))) ≡ v) [
      | true ↦ λ e.
          let c = count_all (lt r) (p ∷ b) (e, all_map (λ s f. above lt o r p s e f) b (back_high lt a p b h)) in
          let m = count_more (lt r) a (p ∷ b) in
          grind (arith, nat_tests)
      | false ↦ λ e.
          let c = count_after (lt r) a (p ∷ b) (all_map (λ s f. o.chain r p s e f) a (front_low lt a p b h)) in
          let n : count (lt r) (p ∷ b) ≡ count (lt r) b = rw (e) (omega arith) in
          let l = count_bound (lt r) b in
          grind (arith, nat_tests)
    ] refl

-- Two tests that agree leave the same of a list.
filter_same : {X : Type 0} {p q : X → Bool} (e : (x : X) → p x ≡ q x) (xs : List X) → filter p xs ≡ filter q xs
filter_same e [] = refl
filter_same {X} {p} {q} e (x ∷ xs) = rw (e x, filter_same e xs) refl

-- Where none of a list passes, nothing of it is left.
filter_none : {X : Type 0} (p : X → Bool) (xs : List X) → AllByRecursion (λ s. p s ≡ false) xs → filter p xs ≡ []
filter_none p [] h = refl
filter_none p (x ∷ xs) h = rw (h.0) (filter_none p xs h.1)

-- Of a rising list, those that precede p are the ones that stand before the first that doesn't.
filter_cut : {X : Type 0} (lt : X → X → Bool) (o : IsStrictWeakOrder lt) (p : X) (xs : List X) → IsRising lt xs
    → filter (λ r. lt r p) xs ≡ take (position_or_len (λ r. not (lt r p)) xs) xs
filter_cut lt o p [] h = refl
filter_cut lt o p (x ∷ xs) h =
    elim (lt x p) as (λ b. lt x p ≡ b → cond b (x ∷ filter (λ r. lt r p) xs) (filter (λ r. lt r p) xs)
    ≡ take (cond (not (not b)) (1 + position_or_len (λ r. not (lt r p)) xs) 0) (x ∷ xs)) [
      | true ↦ λ e. rw (one-add (position_or_len (λ r. not (lt r p)) xs)) (ap (λ l. x ∷ l) (filter_cut lt o p xs h.1))
      | false ↦ λ e. filter_none (λ r. lt r p) xs (all_map (λ z w. o.chain z x p w e) xs h.0)
    ] refl

-- A list is what stands before a place, the one there, and what stands behind it.
split_at : {X : Type 0} (xs : List X) (i : ℕ) (d : X) → i < length xs → xs ≡ take i xs ++ get_or xs i d
    ∷ drop (suc i) xs
split_at xs i d h = sym (take-append-drop i xs) ∙ ap (λ l. take i xs ++ l) (drop-cons xs i d h)

-- Behind the place from which on l of n stand, one less than l do.
tail_length : (n l t : ℕ) → 0 < l → l ≤ n → t ≡ n - suc (n - l) → suc t ≡ l
tail_length n l t a b e = omega arith

-- What holds of everything holds of all of a list.
all_of : {X : Type 0} {P : X → Type 0} (f : (x : X) → P x) (xs : List X) → AllByRecursion P xs
all_of f [] = tt
all_of f (x ∷ xs) = (f x, all_of f xs)

-- A count up to a number that is below the limit is below the limit.
few : (c n l : ℕ) → c ≤ n → n < l → not (nat_lt c l) ≡ false
few c n l a b = grind (arith, nat_tests)

-- up to the element from which on as many stand as the limit is
surplus_is : {X : Type 0} (lt : X → X → Bool) (o : IsStrictWeakOrder lt) (xs : List X) (limit : ℕ) (d : X)
    → IsRising lt xs
    → 0 < limit → limit ≤ length xs
    → take (place_of (λ r. not (lt r (get_or xs (length xs - limit) d))) xs) xs ≡ above_cut lt limit xs
surplus_is lt o xs limit d h l m =
    let i : ℕ = length xs - limit in
    let p = get_or xs i d in
    let w : i < length xs = omega arith in
    let e = split_at xs i d w in
    let n : length (p ∷ drop (suc i) xs) ≡ limit = tail_length (length xs) limit (length (drop (suc i) xs)) l m
    (length-drop (suc i) xs) in
    ap (λ k. take k xs) (place_is (λ r. not (lt r p)) xs) ∙ sym (filter_cut lt o p xs h)
    ∙ filter_same (λ r. sym (
    ap (λ k. not (nat_lt (count (lt r) xs) k)) (sym n)
    ∙ ap (λ ys. not (nat_lt (count (lt r) ys) (length (p ∷ drop (suc i) xs)))) e
    ∙ many_above lt o (take i xs) p (drop (suc i) xs) r (subst (IsRising lt) e h))) xs

-- For leave_surplus: where the limit is above the number of Jobs, none of them goes.
pub surplus_none : (xs : List JobRef) (limit : ℕ) → length xs < limit → not_kept limit xs ≡ []
surplus_none xs limit h = filter_none (λ r. not (nat_lt (count (is_older r) xs) limit)) xs
    (all_of (λ r. few (count (is_older r) xs) (length xs) limit (count_bound (is_older r) xs) h) xs)

-- Where a test holds of everything, all of a list is left.
all_true : {X : Type 0} (p : X → Bool) (e : (x : X) → p x ≡ true) (xs : List X) → filter p xs ≡ xs
all_true p e [] = refl
all_true p e (x ∷ xs) = rw (e x) (ap (λ l. x ∷ l) (all_true p e xs))

-- No count is below a limit of 0.
at_least_none : (n : ℕ) → not (nat_lt n 0) ≡ true
at_least_none n = grind (arith, nat_tests)

-- For leave_surplus: where the limit is 0, all Jobs go.
pub surplus_all : (xs : List JobRef) → not_kept 0 xs ≡ xs
surplus_all xs = all_true (λ r. not (nat_lt (count (is_older r) xs) 0)) (λ r. at_least_none (count (is_older r) xs)) xs

-- the surplus that the code leaves
pub surplus_by : (xs ys new : List JobRef) (limit n keep : ℕ) (p : JobRef)
    → new ≡ take keep xs → keep ≡ place_of (λ r. not (is_older r p)) ys → p ≡ get_or xs (n - limit) p → ys ≡ xs
    → n ≡ length xs
    → IsRising is_older xs → 0 < limit → limit ≤ n → new ≡ not_kept limit xs
surplus_by xs ys new limit n keep p a b d e f h l m =
    let i : limit ≤ length xs = omega arith in
    a ∙ ap (λ k. take k xs) (b ∙ ap (place_of (λ r. not (is_older r p))) e
    ∙ ap (λ q. place_of (λ r. not (is_older r q)) xs) (d ∙ ap (λ k. get_or xs (k - limit) p) f))
    ∙ surplus_is is_older (by_sorting ByAge) xs limit p h l i

-- A subdomain read up to its first dot.
use Rattle.std.proofs.Common.{◌≡◌, ℕ, ◌+◌, ◌≤◌, ◌<◌, Bool, true, false, cond, ◌&&◌, ◌==◌, List, [], ◌∷◌, length, take, drop, Some, None, refl, ap, subst, ◌∙◌, arith}
use Rattle.std.specs.Prelude.{position, not}
use Rattle.std.specs.List.{slice_split, position_or_len, list_all, onto_first}
use Rattle.std.proofs.lemmas.List.Splits.{slice_split_first, slice_split-cons_no}
use Rattle.std.proofs.lemmas.Bool.Decides.{nat_tests}
use Rattle.cj_types.specs.Names.{is_label, is_subdomain}

abbrev is_dot : ℕ → Bool
is_dot b = b == 46

-- Where a place is found by a test, the test holds, and it is that place.
found : (t : Bool) (n i : ℕ) → cond t (Some n) None ≡ Some i → (t ≡ true) × (n ≡ i)
found true n i h = (refl, cc h)
found false n i h = absurd (cc h)

-- Where no place is found by a test, the test doesn't hold.
missed : (t : Bool) (n : ℕ) → cond t (Some n) None ≡ None → t ≡ false
missed true n h = absurd (cc h)
missed false n h = refl

-- A text is a subdomain just where it is a label up to its first dot, and a subdomain behind it.
pub at_dot : (bs : List ℕ) (i : ℕ) → position (λ b. b == 46) bs ≡ Some i
    → is_subdomain bs ≡ (is_label (take i bs) && is_subdomain (drop (i + 1) bs))
unfolding is_subdomain
at_dot bs i h =
    let f = found _ _ _ h in
    let lt : position_or_len is_dot bs < length bs = grind (arith, nat_tests, f.0) in
    subst (λ k. list_all is_label (slice_split is_dot bs)
    ≡ (is_label (take k bs) && list_all is_label (slice_split is_dot (drop (k + 1) bs)))) f.1
    (ap (list_all is_label) (slice_split_first is_dot bs 0 lt))

-- For whole: where no dot is met in a byte and what follows, the byte is none, and none follows.
past : (t : Bool) (n m : ℕ) → m + 1 ≤ cond (not t) (1 + n) 0 → (t ≡ false) × (m ≤ n)
past true n m h = absurd (omega (arith, h))
past false n m h = (refl, omega (arith, h))

-- A text in which no dot is met is a single part when it is split at its dots.
whole : (bs : List ℕ) → length bs ≤ position_or_len is_dot bs → slice_split is_dot bs ≡ bs ∷ []
whole [] h = refl
whole (b ∷ bs) h =
    let p = past (is_dot b) (position_or_len is_dot bs) (length bs) (omega (arith, h)) in
    slice_split-cons_no is_dot b bs p.0 ∙ ap (onto_first b) (whole bs p.1)

-- A test together with what is true is that test.
last : (b : Bool) → (b && true) ≡ b
last true = refl
last false = refl

-- A text without a dot is a subdomain just where it is a label.
pub no_dot : (bs : List ℕ) → position (λ b. b == 46) bs ≡ None → is_subdomain bs ≡ is_label bs
unfolding is_subdomain
no_dot bs h =
    let le : length bs ≤ position_or_len is_dot bs = grind (arith, nat_tests, missed _ _ h) in
    ap (list_all is_label) (whole bs le) ∙ last (is_label bs)

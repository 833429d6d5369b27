-- The nearest name, looked for from the front.
use Rattle.std.proofs.Common.{◌≡◌, ◌∙◌, ℕ, ◌+◌, ◌<◌, ◌≤◌, List, ◌∷◌, length, drop, map, get_or, refl, sym, ap, arith, subst, suc, Some, None, Bool, true, false, if◌then◌else◌}
use Rattle.std.specs.Prelude.{Option, nat_lt}
use Rattle.std.specs.Borrow.{Bor}
use Rattle.std.proofs.lemmas.Bool.Decides.{nat_tests}
use Rattle.std.proofs.Math.Seq.{drop-cons}
use Rattle.cj_answers.specs.Nearest.{below, edits, nearest}

-- whether one number is below another, of three
lt_yes : (a b : ℕ) → a < b → nat_lt a b ≡ true
lt_yes a b h = grind (arith, nat_tests)

-- it isn't
lt_no : (a b : ℕ) → b ≤ a → nat_lt a b ≡ false
lt_no a b h = grind (arith, nat_tests)

-- nor is what is above it
lt_trans : (a b c : ℕ) → nat_lt a b ≡ true → b ≤ c → nat_lt a c ≡ true
lt_trans a b c h l = grind (arith, nat_tests)

-- nor below what is smaller
lt_back : (a b c : ℕ) → nat_lt a b ≡ false → c ≤ b → nat_lt a c ≡ false
lt_back a b c h l = grind (arith, nat_tests)

-- For below_first, by whether the other name is nearer.
first_by : (text : List ℕ) (most : ℕ) (other : Option (List ℕ)) (name b : List ℕ) (e : ℕ) → e ≡ edits text name
    → e < most
    → (t : Bool) → nat_lt (edits text b) e ≡ t
    → below text most other (if t then Some b else Some name) ≡ (if t then Some b else Some name)
first_by text most other name b e is less true at =
    let h : nat_lt (edits text b) most ≡ true = lt_trans (edits text b) e most at (omega (arith, less)) in rw h refl
first_by text most other name b e is less false at =
    let h : nat_lt (edits text name) most ≡ true = rw (← is) (lt_yes e most less) in rw h refl

-- a name that is below all that were found so far takes their place
below_first : (text : List ℕ) (most : ℕ) (other rest : Option (List ℕ)) (name : List ℕ) (e : ℕ) → e ≡ edits text name
    → e < most
    → below text most other (below text (edits text name) (Some name) rest) ≡ below text e (Some name) rest
below_first text most other None name e is less =
    let h : nat_lt (edits text name) most ≡ true = rw (← is) (lt_yes e most less) in rw h refl
below_first text most other (Some b) name e is less =
    rw (← is) (first_by text most other name b e is less (nat_lt (edits text b) e) refl)

-- For below_rest, by whether the other name is nearer.
rest_by : (text : List ℕ) (most : ℕ) (other : Option (List ℕ)) (name b : List ℕ) (e : ℕ) → e ≡ edits text name
    → most ≤ e
    → (t : Bool) → nat_lt (edits text b) e ≡ t
    → below text most other (if t then Some b else Some name) ≡ below text most other (Some b)
rest_by text most other name b e is less true at = refl
rest_by text most other name b e is less false at =
    let h : nat_lt (edits text name) most ≡ false = rw (← is) (lt_no e most less) in
    let k : nat_lt (edits text b) most ≡ false = lt_back (edits text b) e most at less in rw (h, k) refl

-- one that isn't leaves them
below_rest : (text : List ℕ) (most : ℕ) (other rest : Option (List ℕ)) (name : List ℕ) (e : ℕ) → e ≡ edits text name
    → most ≤ e
    → below text most other (below text (edits text name) (Some name) rest) ≡ below text most other rest
below_rest text most other None name e is less =
    let h : nat_lt (edits text name) most ≡ false = rw (← is) (lt_no e most less) in rw h refl
below_rest text most other (Some b) name e is less =
    rw (← is) (rest_by text most other name b e is less (nat_lt (edits text b) e) refl)

-- the names that are left, one by one
left_one : (names : List (Bor (List ℕ))) (i : ℕ) (d : Bor (List ℕ)) → i < length names
    → map (λ (n : Bor (List ℕ)). n.now) (drop i names) ≡ (get_or names i d).now
    ∷ map (λ (n : Bor (List ℕ)). n.now) (drop (i + 1) names)
left_one names i d h =
    let e : suc i ≡ i + 1 = omega arith in
    subst (λ k. map (λ (n : Bor (List ℕ)). n.now) (drop i names) ≡ (get_or names i d).now
    ∷ map (λ (n : Bor (List ℕ)). n.now) (drop k names))
    e (ap (map (λ (n : Bor (List ℕ)). n.now)) (drop-cons names i d h))

module _ (text : List ℕ) (names : List (Bor (List ℕ))) (i : ℕ) (d : Bor (List ℕ)) (most e : ℕ)
    (found all : Option (List ℕ))
    (inside : i < length names) (is : e ≡ edits text (get_or names i d).now)
    (upto : below text most found (nearest text (map (λ n. n.now) (drop i names))) ≡ all) where
  -- For meant: its loop, where the name is below those found so far.
  pub found_nearer : e < most
      → below text e (Some (get_or names i d).now) (nearest text (map (λ n. n.now) (drop (i + 1) names))) ≡ all
  found_nearer less = sym (below_first text most found _ _ e is less)
      ∙ (ap (λ ns. below text most found (nearest text ns)) (sym (left_one names i d inside)) ∙ upto)

  -- and where it isn't.
  pub found_other : most ≤ e
      → below text most found (nearest text (map (λ n. n.now) (drop (i + 1) names))) ≡ all
  found_other less = sym (below_rest text most found _ _ e is less)
      ∙ (ap (λ ns. below text most found (nearest text ns)) (sym (left_one names i d inside)) ∙ upto)

-- What stands in a list, by recursion on it.
use Rattle.std.proofs.Common.{◌≡◌, ◌⊎◌, inl, inr, ◌<◌, ℕ, zero, suc, Bool, true, false, ◌||◌, List, [], ◌∷◌, length, get_or, refl, sym, ap, ◌∙◌, arith}
use Rattle.std.specs.List.{All, Contains, list_any}

-- a stands in the list
abbrev pub IsIn : {A : Type 0} → A → List A → Type 0
IsIn a [] = ⊥
IsIn a (x ∷ xs) = (a ≡ x) ⊎ IsIn a xs

module _ {A : Type 0} where
  -- What stands behind the first of a list stands at a place of the list.
  one_on : (a x : A) (xs : List A) → Contains xs a → Contains (x ∷ xs) a
  one_on a x xs (k, inside, is) = (suc k, omega arith, is)

  -- What stands in a list stands at one of its places.
  pub in_contains : (a : A) (xs : List A) → IsIn a xs → Contains xs a
  in_contains a [] h = absurd h
  in_contains a (x ∷ xs) (inl is) = (zero, omega arith, sym is)
  in_contains a (x ∷ xs) (inr rest) = one_on a x xs (in_contains a xs rest)

  -- What is read at a place of a list stands in it.
  get_in : (xs : List A) (k : ℕ) (d : A) → k < length xs → IsIn (get_or xs k d) xs
  get_in [] k d inside = absurd (omega arith)
  get_in (x ∷ xs) zero d inside = inl refl
  get_in (x ∷ xs) (suc k) d inside = inr (get_in xs k d (omega arith))

  -- What holds of each that stands in a list holds of all of it.
  pub all_in : (P : A → Type 0) (xs : List A) → ((a : A) → IsIn a xs → P a) → All P xs
  all_in P xs h = λ k d inside. h (get_or xs k d) (get_in xs k d inside)

  -- Where one that stands in a list passes the test, any does.
  pub any_true : (p : A → Bool) (a : A) (xs : List A) → IsIn a xs → p a ≡ true → list_any p xs ≡ true
  any_true p a [] h t = absurd h
  any_true p a (x ∷ xs) (inl is) t = rw (ap p (sym is) ∙ t) refl
  any_true p a (x ∷ xs) (inr rest) t = by (p x) (list_any p xs) (any_true p a xs rest t)
    where
      by : (b c : Bool) → c ≡ true → (b || c) ≡ true
      by true c h = refl
      by false c h = h

-- What stands in a list, by recursion on it.
use Rattle.std.proofs.Common.{◌≡◌, ◌⊎◌, inl, inr, ◌<◌, ℕ, zero, suc, Bool, true, false, ◌||◌, cond, List, [], ◌∷◌, ◌++◌, filter, length, get_or, refl, sym, ap, ◌∙◌, subst, arith}
use Rattle.std.specs.List.{All, AllByRecursion, Contains, list_any}
use Rattle.std.proofs.lemmas.List.Elements.{All-contains}

-- a stands in the list
abbrev pub IsIn : {A : Type 0} → A → List A → Type 0
IsIn a [] = ⊥
IsIn a (x ∷ xs) = (a ≡ x) ⊎ IsIn a xs

module _ {A : Type 0} where
  -- What stands behind the first of a list stands at a place of the list.
  one_on : (a x : A) (xs : List A) → Contains xs a → Contains (x ∷ xs) a
  one_on a x xs (k, inside, is) = (suc k, omega arith, is)

  -- What stands in a list stands at one of its places.
  pub in_contains : (a : A) (xs : List A) → IsIn a xs → Contains xs a
  in_contains a [] h = absurd h
  in_contains a (x ∷ xs) (inl is) = (zero, omega arith, sym is)
  in_contains a (x ∷ xs) (inr rest) = one_on a x xs (in_contains a xs rest)

  -- What stands at a place of a list stands in it.
  in_at : (a : A) (xs : List A) (k : ℕ) → k < length xs → get_or xs k a ≡ a → IsIn a xs
  in_at a [] k inside is = absurd (omega arith)
  in_at a (x ∷ xs) zero inside is = inl (sym is)
  in_at a (x ∷ xs) (suc k) inside is = inr (in_at a xs k (omega arith) is)

  -- The same of the library's word for it.
  pub contains_in : (a : A) (xs : List A) → Contains xs a → IsIn a xs
  contains_in a xs (k, inside, is) = in_at a xs k inside is

  -- What is read at a place of a list stands in it.
  get_in : (xs : List A) (k : ℕ) (d : A) → k < length xs → IsIn (get_or xs k d) xs
  get_in [] k d inside = absurd (omega arith)
  get_in (x ∷ xs) zero d inside = inl refl
  get_in (x ∷ xs) (suc k) d inside = inr (get_in xs k d (omega arith))

  -- What holds of each that stands in a list holds of all of it.
  pub all_in : (P : A → Type 0) (xs : List A) → ((a : A) → IsIn a xs → P a) → All P xs
  all_in P xs h = λ k d inside. h (get_or xs k d) (get_in xs k d inside)

  -- What holds of all of a list holds of each that stands in it.
  pub in_all : (P : A → Type 0) (xs : List A) (a : A) → All P xs → IsIn a xs → P a
  in_all P xs a all h = All-contains P xs a all (in_contains a xs h)

  -- The same of the word that goes down the list.
  pub in_each : (P : A → Type 0) (xs : List A) (a : A) → AllByRecursion P xs → IsIn a xs → P a
  in_each P [] a all h = absurd h
  in_each P (x ∷ xs) a all (inl is) = subst P (sym is) all.0
  in_each P (x ∷ xs) a all (inr rest) = in_each P xs a all.1 rest

  -- What stands in two lists joined stands in one of them.
  pub in_either : (a : A) (xs ys : List A) → IsIn a (xs ++ ys) → IsIn a xs ⊎ IsIn a ys
  in_either a [] ys h = inr h
  in_either a (x ∷ xs) ys (inl is) = inl (inl is)
  in_either a (x ∷ xs) ys (inr rest) = elim (in_either a xs ys rest) [ inl i ↦ inl (inr i) | inr j ↦ inr j ]

  -- What stands in the first of two lists stands in both joined.
  pub in_left : (a : A) (xs ys : List A) → IsIn a xs → IsIn a (xs ++ ys)
  in_left a [] ys h = absurd h
  in_left a (x ∷ xs) ys (inl is) = inl is
  in_left a (x ∷ xs) ys (inr rest) = inr (in_left a xs ys rest)

  -- What stands in the second of two lists stands in both joined.
  pub in_right : (a : A) (xs ys : List A) → IsIn a ys → IsIn a (xs ++ ys)
  in_right a [] ys h = h
  in_right a (x ∷ xs) ys h = inr (in_right a xs ys h)

  -- What a filter leaves stood in the list, and passes the test.
  pub in_filter : (p : A → Bool) (a : A) (xs : List A) → IsIn a (filter p xs) → IsIn a xs × (p a ≡ true)
  in_filter p a [] h = absurd h
  in_filter p a (x ∷ xs) h = by (p x) refl (λ rest. in_filter p a xs rest) h
    where
      by : (b : Bool) → p x ≡ b → (IsIn a (filter p xs) → IsIn a xs × (p a ≡ true))
          → IsIn a (cond b (x ∷ filter p xs) (filter p xs)) → IsIn a (x ∷ xs) × (p a ≡ true)
      by true e more (inl is) = (inl is, ap p is ∙ e)
      by true e more (inr rest) = let k = more rest in (inr k.0, k.1)
      by false e more rest = let k = more rest in (inr k.0, k.1)

  -- What stands in a list and passes the test is left by the filter.
  pub filter_in : (p : A → Bool) (a : A) (xs : List A) → IsIn a xs → p a ≡ true → IsIn a (filter p xs)
  filter_in p a [] h t = absurd h
  filter_in p a (x ∷ xs) (inl is) t =
      let e : p x ≡ true = ap p (sym is) ∙ t in
      subst (λ b. IsIn a (cond b (x ∷ filter p xs) (filter p xs))) (sym e) (inl is)
  filter_in p a (x ∷ xs) (inr rest) t = by (p x) (filter_in p a xs rest t)
    where
      by : (b : Bool) → IsIn a (filter p xs) → IsIn a (cond b (x ∷ filter p xs) (filter p xs))
      by true k = inr k
      by false k = k

  -- Where one that stands in a list passes the test, any does.
  pub any_true : (p : A → Bool) (a : A) (xs : List A) → IsIn a xs → p a ≡ true → list_any p xs ≡ true
  any_true p a [] h t = absurd h
  any_true p a (x ∷ xs) (inl is) t = rw (ap p (sym is) ∙ t) refl
  any_true p a (x ∷ xs) (inr rest) t = by (p x) (list_any p xs) (any_true p a xs rest t)
    where
      by : (b c : Bool) → c ≡ true → (b || c) ≡ true
      by true c h = refl
      by false c h = h

  -- Where none that stands in a list passes the test, not any does.
  pub any_false : (p : A → Bool) (xs : List A) → ((a : A) → IsIn a xs → p a ≡ true → ⊥) → list_any p xs ≡ false
  any_false p [] h = refl
  any_false p (x ∷ xs) h = by (p x) (list_any p xs) refl (any_false p xs (λ a i. h a (inr i)))
    where
      by : (b c : Bool) → p x ≡ b → c ≡ false → (b || c) ≡ false
      by true c e f = absurd (h x (inl refl) e)
      by false c e f = f

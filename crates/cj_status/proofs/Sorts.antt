-- A list that a stable sort put in order is the list in order.
use Rattle.std.proofs.Common.{◌≡◌, ◌∙◌, ap, sym, subst, refl, ℕ, ◌<◌, ◌≤◌, suc, Bool, true, false, not, ◌&&◌, cond, List, [], ◌∷◌, filter, length, arith, get_or}
use Rattle.std.specs.List.{AllByRecursion}
use Rattle.std.specs.List.Sorted.{IsSortedBy, IsStableBy, ties}
use Rattle.std.specs.Cmp.{IsStrictWeakOrder}
use Rattle.std.proofs.lemmas.List.Sorted.{sorted_far}
use Rattle.cj_status.specs.Order.{put_in, in_order, IsRising}

module _ {X : Type 0} where
  -- Where all of a list meet P, and what meets P meets Q, all of it meet Q.
  pub all_map : {P Q : X → Type 0} (f : (x : X) → P x → Q x) (xs : List X) → AllByRecursion P xs → AllByRecursion Q xs
  all_map f [] h = tt
  all_map f (x ∷ xs) h = (f x h.0, all_map f xs h.1)

  -- Where all of a list meet P, those that a test keeps do.
  all_filter : (P : X → Type 0) (p : X → Bool) (xs : List X) → AllByRecursion P xs → AllByRecursion P (filter p xs)
  all_filter P p [] h = tt
  all_filter P p (x ∷ xs) h =
      elim (p x) as (λ b. AllByRecursion P (cond b (x ∷ filter p xs) (filter p xs))) [
        | true ↦ (h.0, all_filter P p xs h.1)
        | false ↦ all_filter P p xs h.1
      ]

  -- What holds of each place of a list holds of all that stands in it.
  all_at : (P : X → Type 0) (d : X) (xs : List X) → ((k : ℕ) → k < length xs → P (get_or xs k d)) → AllByRecursion P xs
  all_at P d [] h = tt
  all_at P d (x ∷ xs) h = (h 0 (omega arith), all_at P d xs (λ k l. h (suc k) (omega arith)))

  -- For rises: a list in which no place's element precedes that of an earlier place is rising.
  rises_by : (lt : X → X → Bool) (d : X) (xs : List X)
      → ((i j : ℕ) → i ≤ j → j < length xs → lt (get_or xs j d) (get_or xs i d) ≡ false) → IsRising lt xs
  rises_by lt d [] h = tt
  rises_by lt d (x ∷ xs) h = (
    all_at (λ y. lt y x ≡ false) d xs (λ k l. h 0 (suc k) (omega arith) (omega arith)),
    rises_by lt d xs (λ i j a b. h (suc i) (suc j) (omega arith) (omega arith)),
  )

  -- A sorted list is rising: nothing in it precedes what stands before it.
  pub rises : (lt : X → X → Bool) (o : IsStrictWeakOrder lt) (xs : List X) → IsSortedBy lt xs → IsRising lt xs
  rises lt o [] h = tt
  rises lt o (x ∷ xs) h = rises_by lt x (x ∷ xs) (λ i j a b. sorted_far lt o (x ∷ xs) h i j x a b)

  -- ---- two rising lists with the same ties in the same order are one

  -- Nothing precedes itself.
  none_below : (lt : X → X → Bool) (o : IsStrictWeakOrder lt) (x : X) → lt x x ≡ false
  none_below lt o x =
      elim (lt x x) as (λ b. lt x x ≡ b → b ≡ false) [
        | true ↦ λ e. sym e ∙ o.one_way x x e
        | false ↦ λ e. refl
      ] refl

  -- Everything ties with itself.
  ties_self : (lt : X → X → Bool) (o : IsStrictWeakOrder lt) (x : X) → ties lt x x ≡ true
  ties_self lt o x = rw (none_below lt o x) refl

  -- For one_order: where the ties of a stand alike in a list that begins with a and in a rising one
  -- that begins with b, a doesn't precede b.
  head_low : (lt : X → X → Bool) (o : IsStrictWeakOrder lt) (a b : X) (xs ys : List X) → IsRising lt (b ∷ ys)
      → filter (ties lt a) (b ∷ ys) ≡ filter (ties lt a) (a ∷ xs) → lt a b ≡ false
  head_low lt o a b xs ys h e =
      let all = all_filter (λ y. lt y b ≡ false) (ties lt a) (b ∷ ys) (none_below lt o b, h.0) in
      let first : filter (ties lt a) (a ∷ xs) ≡ a ∷ filter (ties lt a) xs =
      ap (λ v. cond v (a ∷ filter (ties lt a) xs) (filter (ties lt a) xs)) (ties_self lt o a) in
      (subst (AllByRecursion (λ y. lt y b ≡ false)) (e ∙ first) all).0

  -- For one_order: where the ties of a stand alike in a list that begins with a and in one that
  -- begins with a tie of a, both begin with a.
  head_same : (lt : X → X → Bool) (a b : X) (xs ys : List X) → ties lt a a ≡ true → ties lt a b ≡ true
      → filter (ties lt a) (b ∷ ys) ≡ filter (ties lt a) (a ∷ xs) → b ≡ a
  head_same lt a b xs ys f g e =
      let l : b ∷ filter (ties lt a) ys ≡ a ∷ filter (ties lt a) xs =
      sym (ap (λ v. cond v (b ∷ filter (ties lt a) ys) (filter (ties lt a) ys)) g) ∙ e
      ∙ ap (λ v. cond v (a ∷ filter (ties lt a) xs) (filter (ties lt a) xs)) f in
      cc

  -- For one_order: of two lists that begin alike and of which a test keeps the same, it keeps the
  -- same of what is behind their firsts.
  tail_same : (p : X → Bool) (a : X) (xs ys : List X) → filter p (a ∷ ys) ≡ filter p (a ∷ xs)
      → filter p ys ≡ filter p xs
  tail_same p a xs ys e = by (p a) e
    where
      by : (b : Bool) → cond b (a ∷ filter p ys) (filter p ys) ≡ cond b (a ∷ filter p xs) (filter p xs)
          → filter p ys ≡ filter p xs
      by true f = cc
      by false f = f

  -- For one_order: a list that isn't empty has a tie of its first, the first itself.
  no_head : (lt : X → X → Bool) (o : IsStrictWeakOrder lt) (b : X) (ys : List X) → filter (ties lt b) (b ∷ ys) ≡ [] → ⊥
  no_head lt o b ys e =
      let l : b ∷ filter (ties lt b) ys ≡ [] = sym
      (ap (λ v. cond v (b ∷ filter (ties lt b) ys) (filter (ties lt b) ys)) (ties_self lt o b)) ∙ e in
      absurd (cc)

  -- Two of which neither precedes the other are ties.
  ties_of : (lt : X → X → Bool) (a b : X) → lt a b ≡ false → lt b a ≡ false → ties lt a b ≡ true
  ties_of lt a b e f = rw (e, f) refl

  -- For sorted_is: two rising lists in which the ties of each stand alike are the same.
  one_order : (lt : X → X → Bool) (o : IsStrictWeakOrder lt) (xs ys : List X) → IsRising lt xs → IsRising lt ys
      → IsStableBy lt xs ys → ys ≡ xs
  one_order lt o [] [] h k e = refl
  one_order lt o [] (b ∷ ys) h k e = absurd (no_head lt o b ys (e b))
  one_order lt o (a ∷ xs) [] h k e = absurd (no_head lt o a xs (sym (e a)))
  one_order lt o (a ∷ xs) (b ∷ ys) h k e =
      let below = head_low lt o a b xs ys k (e a) in
      let above = head_low lt o b a ys xs h (sym (e b)) in
      let same : b ≡ a = head_same lt a b xs ys (ties_self lt o a) (ties_of lt a b below above) (e a) in
      let rest = one_order lt o xs ys h.1 k.1 (λ x. tail_same (ties lt x) a xs ys
      (subst (λ z. filter (ties lt x) (z ∷ ys) ≡ filter (ties lt x) (a ∷ xs)) same (e x))) in
      cc

  -- ---- the list in order rises, and its ties stand as they stood

  -- For rising_put: where x and all of a list meet P, all of the list with x put in do.
  all_put : (lt : X → X → Bool) (P : X → Type 0) (x : X) (xs : List X) → P x → AllByRecursion P xs
      → AllByRecursion P (put_in lt x xs)
  all_put lt P x [] p h = (p, tt)
  all_put lt P x (y ∷ ys) p h =
      elim (lt y x) as (λ b. AllByRecursion P (cond b (y ∷ put_in lt x ys) (x ∷ y ∷ ys))) [
        | true ↦ (h.0, all_put lt P x ys p h.1)
        | false ↦ (p, h)
      ]

  -- A rising list with x put in is rising.
  rising_put : (lt : X → X → Bool) (o : IsStrictWeakOrder lt) (x : X) (xs : List X) → IsRising lt xs
      → IsRising lt (put_in lt x xs)
  rising_put lt o x [] h = (tt, tt)
  rising_put lt o x (y ∷ ys) h =
      elim (lt y x) as (λ b. lt y x ≡ b → IsRising lt (cond b (y ∷ put_in lt x ys) (x ∷ y ∷ ys))) [
        | true ↦ λ e. (all_put lt (λ z. lt z y ≡ false) x ys (o.one_way y x e) h.0, rising_put lt o x ys h.1)
        | false ↦ λ e. ((e, all_map (λ z w. o.chain z y x w e) ys h.0), h)
      ] refl

  -- Every list put in order is rising.
  pub rising_in_order : (lt : X → X → Bool) (o : IsStrictWeakOrder lt) (xs : List X) → IsRising lt (in_order lt xs)
  rising_in_order lt o [] = tt
  rising_in_order lt o (x ∷ xs) = rising_put lt o x (in_order lt xs) (rising_in_order lt o xs)

  -- one that precedes x is no tie of what ties with x
  apart : (lt : X → X → Bool) (o : IsStrictWeakOrder lt) (z x y : X) → lt y x ≡ true → ties lt z x ≡ true
      → ties lt z y ≡ false
  apart lt o z x y e t =
      elim (ties lt z y) as (λ b. ties lt z y ≡ b → b ≡ false) [
        | true ↦ λ f. absurd (clash lt o z x y e (both (lt z x) (lt x z) t) (both (lt z y) (lt y z) f))
        | false ↦ λ f. refl
      ] refl
    where
      both : (a b : Bool) → not a && not b ≡ true → (a ≡ false) × (b ≡ false)
      both false false e = (refl, refl)
      both false true e = absurd (cc)
      both true b e = absurd (cc)

      clash : (lt : X → X → Bool) (o : IsStrictWeakOrder lt) (z x y : X) → lt y x ≡ true
          → (lt z x ≡ false) × (lt x z ≡ false) → (lt z y ≡ false) × (lt y z ≡ false) → ⊥
      clash lt o z x y e f g = let h = o.chain y z x g.1 f.0 in absurd (cc)

  -- The ties of z stand in a list with x put in as in the list with x in front.
  stable_put : (lt : X → X → Bool) (o : IsStrictWeakOrder lt) (z x : X) (xs : List X)
      → filter (ties lt z) (put_in lt x xs) ≡ filter (ties lt z) (x ∷ xs)
  stable_put lt o z x [] = refl
  stable_put lt o z x (y ∷ ys) =
      elim (lt y x) as (λ b. lt y x ≡ b → filter (ties lt z) (cond b (y ∷ put_in lt x ys) (x ∷ y ∷ ys))
      ≡ filter (ties lt z) (x ∷ y ∷ ys)) [
        | true ↦ λ e. later (ties lt z x) (ties lt z y) (filter (ties lt z) ys) refl refl (stable_put lt o z x ys)
            (λ t. apart lt o z x y e t)
        | false ↦ λ e. refl
      ] refl
    where
      later : (a b : Bool) (fs : List X) → ties lt z x ≡ a → ties lt z y ≡ b
          → filter (ties lt z) (put_in lt x ys) ≡ cond (ties lt z x) (x ∷ filter (ties lt z) ys) (filter (ties lt z) ys)
          → (ties lt z x ≡ true → ties lt z y ≡ false)
          → cond (ties lt z y) (y ∷ filter (ties lt z) (put_in lt x ys)) (filter (ties lt z) (put_in lt x ys))
          ≡ cond (ties lt z x) (x ∷ cond (ties lt z y) (y ∷ filter (ties lt z) ys) (filter (ties lt z) ys))
          (cond (ties lt z y) (y ∷ filter (ties lt z) ys) (filter (ties lt z) ys))
      later true b fs e f h n = rw (n e, e) (h ∙ rw e refl)
      later false b fs e f h n = rw (e) (ap (λ l. cond (ties lt z y) (y ∷ l) l) (h ∙ rw e refl))

  -- The ties of z stand in a list put in order as they stood in the list.
  stable_in_order : (lt : X → X → Bool) (o : IsStrictWeakOrder lt) (xs : List X) (z : X)
      → filter (ties lt z) (in_order lt xs) ≡ filter (ties lt z) xs
  stable_in_order lt o [] z = refl
  stable_in_order lt o (x ∷ xs) z =
      stable_put lt o z x (in_order lt xs) ∙ ap (λ l. cond (ties lt z x) (x ∷ l) l) (stable_in_order lt o xs z)

  -- For sort: a sorted list in which the ties stand as in another is that other put in order.
  pub sorted_is : (lt : X → X → Bool) (o : IsStrictWeakOrder lt) (xs ys : List X) → IsSortedBy lt ys
      → IsStableBy lt xs ys → ys ≡ in_order lt xs
  sorted_is lt o xs ys h e = one_order lt o (in_order lt xs) ys (rising_in_order lt o xs) (rises lt o ys h)
      (λ x. e x ∙ sym (stable_in_order lt o xs x))

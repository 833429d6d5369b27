-- Texts, references and tables: what their tests and look-ups say.
use Rattle.std.proofs.Common.{◌≡◌, ◌≢◌, ◌⊎◌, inl, inr, ℕ, Bool, true, false, not, ◌&&◌, ◌||◌, List, [], ◌∷◌, ◌++◌, Option, Some, None, refl, sym, ap, subst, ◌∙◌, ◌<◌, arith}
use Rattle.std.specs.Prelude.{nat_lt, if◌then◌else◌}
use Rattle.std.proofs.lemmas.Bool.Decides.{nat_tests}
use Rattle.std.proofs.lemmas.Slice.Eq.{bytes_eq-Decides}
use Rattle.cj_fence.specs.declared.table.Row.{Row}
use Rattle.cj_fence.specs.declared.refs.Ref.{Ref}
use Rattle.cj_fence.specs.declared.objects.Job.{Job}
use Rattle.cj_fence.specs.Texts.{is_same}
use Rattle.cj_fence.specs.Tables.{find, without, put}
use Rattle.cj_fence.specs.Objects.{is_ref, has_ref, without_ref, with_uid, look}

-- Texts that test as one are one.
pub same_true : (a b : List ℕ) → is_same a b ≡ true → a ≡ b
unfolding is_same
same_true a b e = (bytes_eq-Decides a b).0 e

-- A text tests as one with itself.
pub same_self : (a : List ℕ) → is_same a a ≡ true
unfolding is_same
same_self a = (bytes_eq-Decides a a).1 refl

-- Texts that are one test so.
pub same_is : (a b : List ℕ) → a ≡ b → is_same a b ≡ true
same_is a b e = ap (λ (z : List ℕ). is_same a z) (sym e) ∙ same_self a

-- Texts that don't test as one are two.
pub same_false : (a b : List ℕ) → is_same a b ≡ false → a ≢ b
same_false a b e h = absurd (cc (sym (same_is a b h) ∙ e))

-- Of two that are both true each is.
pub both_true : (a b : Bool) → (a && b) ≡ true → (a ≡ true) × (b ≡ true)
both_true true b e = (refl, e)
both_true false b e = absurd (cc e)

-- Of two of which one is true, one is.
pub one_true : (a b : Bool) → (a || b) ≡ true → (a ≡ true) ⊎ (b ≡ true)
one_true true b e = inl refl
one_true false b e = inr e

-- Of two of which the first is true, one is.
pub first_true : (a b : Bool) → a ≡ true → (a || b) ≡ true
first_true a b e = ap (λ (z : Bool). z || b) e

-- Of two of which the second is true, one is.
pub second_true : (a b : Bool) → b ≡ true → (a || b) ≡ true
second_true true b e = refl
second_true false b e = e

-- A negation that is true is of something false.
pub not_true : (a : Bool) → not a ≡ true → a ≡ false
not_true true e = absurd (cc e)
not_true false e = refl

-- What isn't true is false.
pub is_false : (a : Bool) → (a ≡ true → ⊥) → a ≡ false
is_false true n = absurd (n refl)
is_false false n = refl

-- References of one name and one uid are one.
pub ref_parts : (a b : Ref) → a.name ≡ b.name → a.uid ≡ b.uid → a ≡ b
ref_parts a b n u =
    let f : List ℕ → Ref = λ z. record { name = z; uid = a.uid } in
    let g : List ℕ → Ref = λ z. record { name = b.name; uid = z } in
    ap f n ∙ ap g u

-- References that test as one are one.
pub ref_true : (a b : Ref) → is_ref a b ≡ true → a ≡ b
ref_true a b e =
    let h = both_true (is_same a.name b.name) (is_same a.uid b.uid) e in
    ref_parts a b (same_true a.name b.name h.0) (same_true a.uid b.uid h.1)

-- A reference tests as one with itself.
pub ref_self : (a : Ref) → is_ref a a ≡ true
ref_self a = ap (λ (z : Bool). z && is_same a.uid a.uid) (same_self a.name) ∙ same_self a.uid

-- one of these
abbrev pub IsIn : {X : Type 0} → X → List X → Type 0
IsIn x [] = ⊥
IsIn x (y ∷ ys) = (x ≡ y) ⊎ IsIn x ys

-- What is in the first list is in the longer one.
pub in_front : {X : Type 0} (x : X) (xs ys : List X) → IsIn x xs → IsIn x (xs ++ ys)
in_front x [] ys h = absurd h
in_front x (y ∷ xs) ys (inl e) = inl e
in_front x (y ∷ xs) ys (inr h) = inr (in_front x xs ys h)

-- Of two that aren't true neither is.
pub neither : (a b : Bool) → (a || b) ≡ false → (a ≡ false) × (b ≡ false)
neither true b e = absurd (cc e)
neither false b e = (refl, e)

-- What a test finds in a list is in it.
pub is_in : (xs : List Ref) (r : Ref) → has_ref xs r ≡ true → IsIn r xs
is_in [] r e = absurd (cc e)
is_in (x ∷ xs) r e = by_part (λ k. is_in xs r k) (one_true (is_ref x r) (has_ref xs r) e)
  where
    by_part : (has_ref xs r ≡ true → IsIn r xs) → (is_ref x r ≡ true) ⊎ (has_ref xs r ≡ true) → IsIn r (x ∷ xs)
    by_part f (inl a) = inl (sym (ref_true x r a))
    by_part f (inr b) = inr (f b)

-- What a test doesn't find in a list isn't in it.
pub not_in : (xs : List Ref) (r : Ref) → has_ref xs r ≡ false → IsIn r xs → ⊥
not_in [] r e i = i
not_in (x ∷ xs) r e (inl s) = by_part (is_ref x r) (subst (λ (z : Ref). is_ref x z ≡ true) (sym s) (ref_self x)) e
  where
    by_part : (b : Bool) → b ≡ true → (b || has_ref xs r) ≡ false → ⊥
    by_part true q g = absurd (cc g)
    by_part false q g = absurd (cc q)
not_in (x ∷ xs) r e (inr i) = not_in xs r (neither (is_ref x r) (has_ref xs r) e).1 i

-- What is left of a list without a reference was in it.
pub fewer : (q r : Ref) (xs : List Ref) → IsIn r (without_ref q xs) → IsIn r xs
fewer q r [] i = i
fewer q r (x ∷ xs) i = by_test (λ k. fewer q r xs k) (is_ref x q) i
  where
    by_test : (IsIn r (without_ref q xs) → IsIn r xs) → (b : Bool)
        → IsIn r (if b then without_ref q xs else x ∷ without_ref q xs) → IsIn r (x ∷ xs)
    by_test f true k = inr (f k)
    by_test f false (inl e) = inl e
    by_test f false (inr k) = inr (f k)

-- What was in a list is the reference, or is left without it.
pub left_or : (q r : Ref) (xs : List Ref) → IsIn r xs → (r ≡ q) ⊎ IsIn r (without_ref q xs)
left_or q r [] i = absurd i
left_or q r (x ∷ xs) (inl e) = by_test (is_ref x q) refl
  where
    by_test : (b : Bool) → is_ref x q ≡ b
        → (r ≡ q) ⊎ IsIn r (if b then without_ref q xs else x ∷ without_ref q xs)
    by_test true t = inl (e ∙ ref_true x q t)
    by_test false t = inr (inl e)
left_or q r (x ∷ xs) (inr i) = by_test (left_or q r xs i) (is_ref x q)
  where
    by_test : (r ≡ q) ⊎ IsIn r (without_ref q xs) → (b : Bool)
        → (r ≡ q) ⊎ IsIn r (if b then without_ref q xs else x ∷ without_ref q xs)
    by_test (inl e) b = inl e
    by_test (inr k) true = inr k
    by_test (inr k) false = inr (inr k)

-- The element put behind is in the list.
pub in_end : {X : Type 0} (x : X) (xs : List X) → IsIn x (xs ++ x ∷ [])
in_end x [] = inl refl
in_end x (y ∷ xs) = inr (in_end x xs)

-- What is in a list with an element put behind is in the list or this element.
pub in_either : {X : Type 0} (x y : X) (xs : List X) → IsIn x (xs ++ y ∷ []) → IsIn x xs ⊎ (x ≡ y)
in_either x y [] (inl e) = inr e
in_either x y [] (inr h) = absurd h
in_either x y (z ∷ xs) (inl e) = inl (inl e)
in_either x y (z ∷ xs) (inr h) = step (in_either x y xs h)
  where
    step : IsIn x xs ⊎ (x ≡ y) → IsIn x (z ∷ xs) ⊎ (x ≡ y)
    step (inl a) = inl (inr a)
    step (inr e) = inr e

module _ {X : Type 0} where
  -- For without_at: what is to be shown of the rows behind one.
  abbrev Apart : List ℕ → List ℕ → List (Row X) → X → Type 0
  Apart k q rs y = find q (without k rs) ≡ Some y → (k ≢ q) × (find q rs ≡ Some y)

  -- For without_at: a row of another name stays.
  keep : (k q : List ℕ) (r : Row X) (rs : List (Row X)) (y : X) → Apart k q rs y → (t : Bool) → is_same r.name q ≡ t
      → is_same r.name k ≡ false → (if t then Some r.object else find q (without k rs)) ≡ Some y
      → (k ≢ q) × ((if t then Some r.object else find q rs) ≡ Some y)
  keep k q r rs y f true e n g = ((λ z. same_false r.name k n (same_true r.name q e ∙ sym z)), g)
  keep k q r rs y f false e n g = f g

  -- For without_at: a row of the name goes.
  away : (k q : List ℕ) (r : Row X) (rs : List (Row X)) (y : X) → Apart k q rs y → (t : Bool) → is_same r.name q ≡ t
      → r.name ≡ k → find q (without k rs) ≡ Some y
      → (k ≢ q) × ((if t then Some r.object else find q rs) ≡ Some y)
  away k q r rs y f true e n g = absurd ((f g).0 (sym n ∙ same_true r.name q e))
  away k q r rs y f false e n g = f g

  -- For without_at: by the test of the row's name.
  by_name : (k q : List ℕ) (r : Row X) (rs : List (Row X)) (y : X) → Apart k q rs y → (t : Bool)
      → is_same r.name k ≡ t → find q (if t then without k rs else r ∷ without k rs) ≡ Some y
      → (k ≢ q) × (find q (r ∷ rs) ≡ Some y)
  by_name k q r rs y f true e g = away k q r rs y f (is_same r.name q) refl (same_true r.name k e) g
  by_name k q r rs y f false e g = keep k q r rs y f (is_same r.name q) refl e g

  -- What stands without a name is at another name and was there before.
  pub without_at : (k q : List ℕ) (rs : List (Row X)) (y : X) → Apart k q rs y
  without_at k q [] y h = absurd (cc h)
  without_at k q (r ∷ rs) y h = by_name k q r rs y (without_at k q rs y) (is_same r.name k) refl h

  -- What stands after a put is what was put at its name, or was there before at another name.
  pub put_at : (k q : List ℕ) (x : X) (rs : List (Row X)) (y : X) → find q (put k x rs) ≡ Some y
      → ((k ≡ q) × (x ≡ y)) ⊎ ((k ≢ q) × (find q rs ≡ Some y))
  unfolding put
  put_at k q x rs y h = by_name (is_same k q) refl h
    where
      by_name : (t : Bool) → is_same k q ≡ t → (if t then Some x else find q (without k rs)) ≡ Some y
          → ((k ≡ q) × (x ≡ y)) ⊎ ((k ≢ q) × (find q rs ≡ Some y))
      by_name true e g = inl (same_true k q e, cc)
      by_name false e g = inr (without_at k q rs y g)

  -- At its name stands what was put there.
  pub put_self : (k : List ℕ) (x : X) (rs : List (Row X)) → find k (put k x rs) ≡ Some x
  unfolding put
  put_self k x rs = ap (λ (t : Bool). if t then Some x else find k (without k rs)) (same_self k)

-- The Job of a reference stands under its name and has its uid.
pub look_found : (jobs : List (Row Job)) (r : Ref) (j : Job) → look jobs r ≡ Some j
    → (find r.name jobs ≡ Some j) × (j.uid ≡ r.uid)
look_found jobs r j h = by_found (find r.name jobs) refl h
  where
    by_uid : (i : Job) (t : Bool) → is_same i.uid r.uid ≡ t → (if t then Some i else None) ≡ Some j
        → (Some i ≡ Some j) × (j.uid ≡ r.uid)
    by_uid i true e g = let s : i ≡ j = cc g in (g, ap (λ (z : Job). z.uid) (sym s) ∙ same_true i.uid r.uid e)
    by_uid i false e g = absurd (cc g)

    by_found : (o : Option Job) → find r.name jobs ≡ o → with_uid r.uid o ≡ Some j
        → (o ≡ Some j) × (j.uid ≡ r.uid)
    by_found None e g = absurd (cc g)
    by_found (Some i) e g = by_uid i (is_same i.uid r.uid) refl g

-- A Job with the reference's uid under its name is the reference's.
pub look_is : (jobs : List (Row Job)) (r : Ref) (j : Job) → find r.name jobs ≡ Some j → j.uid ≡ r.uid
    → look jobs r ≡ Some j
look_is jobs r j f u =
    ap (λ (o : Option Job). with_uid r.uid o) f ∙ ap (λ (t : Bool). if t then Some j else None) (same_is j.uid r.uid u)

-- The Job of a reference, after a put, is the one that was put, or was there before.
pub look_put : (n : List ℕ) (x : Job) (jobs : List (Row Job)) (r : Ref) (j : Job) → look (put n x jobs) r ≡ Some j
    → ((n ≡ r.name) × (x ≡ j) × (x.uid ≡ r.uid)) ⊎ (look jobs r ≡ Some j)
look_put n x jobs r j e =
    let f = look_found (put n x jobs) r j e in
    by_name f.1 (put_at n r.name x jobs j f.0)
  where
    by_name : j.uid ≡ r.uid → ((n ≡ r.name) × (x ≡ j)) ⊎ ((n ≢ r.name) × (find r.name jobs ≡ Some j))
        → ((n ≡ r.name) × (x ≡ j) × (x.uid ≡ r.uid)) ⊎ (look jobs r ≡ Some j)
    by_name u (inl p) = inl (p.0, p.1, ap (λ (z : Job). z.uid) p.1 ∙ u)
    by_name u (inr p) = inr (look_is jobs r j p.1 u)

-- The Job of a reference, after one went, was there before.
pub look_without : (n : List ℕ) (jobs : List (Row Job)) (r : Ref) (j : Job) → look (without n jobs) r ≡ Some j
    → look jobs r ≡ Some j
look_without n jobs r j e =
    let f = look_found (without n jobs) r j e in
    look_is jobs r j (without_at n r.name jobs j f.0).1 f.1

-- Two times are one, or one is before the other.
pub either_way : (a b : ℕ) → (a < b) ⊎ ((a ≡ b) ⊎ (b < a))
either_way a b = by_test (nat_lt a b) refl (nat_lt b a) refl
  where
    by_test : (p : Bool) → nat_lt a b ≡ p → (q : Bool) → nat_lt b a ≡ q → (a < b) ⊎ ((a ≡ b) ⊎ (b < a))
    by_test true e q g = let l : a < b = grind (arith, nat_tests) in inl l
    by_test false e true g = let l : b < a = grind (arith, nat_tests) in inr (inr l)
    by_test false e false g = let l : a ≡ b = grind (arith, nat_tests) in inr (inl l)

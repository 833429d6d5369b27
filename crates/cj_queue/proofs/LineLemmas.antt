-- Lines in which no key stands twice.
use Rattle.std.proofs.Common.{◌≡◌, Bool, true, false, cond, not, ◌&&◌, ◌||◌, List, [], ◌∷◌, ◌++◌, refl, ap, ◌∙◌}
use Rattle.std.specs.Bool.{OnTrue, OnFalse}
use Rattle.std.proofs.lemmas.List.Folds.{list_any-append}
use Rattle.cj_types.specs.Keys.{Place}
use Rattle.cj_queue.specs.Parts.{key_eq, stands_in, are_distinct}
use Rattle.cj_queue.proofs.Sets.{eq_turned}

-- Where neither of two tests holds, the second fails.
or_right : (a b : Bool) → (a || b) ≡ false → b ≡ false
or_right true b e = absurd (cc e)
or_right false b e = e

-- Where neither of two tests holds, the first fails.
or_left : (a b : Bool) → (a || b) ≡ false → a ≡ false
or_left true b e = absurd (cc e)
or_left false b e = refl

-- ---- no key twice

-- Of two tests that hold together, the first holds.
and_left : (a b : Bool) → (a && b) ≡ true → a ≡ true
and_left true b e = refl
and_left false b e = absurd (cc e)

-- Of two tests that hold together, the second holds.
and_right : (a b : Bool) → (a && b) ≡ true → b ≡ true
and_right true b e = e
and_right false b e = absurd (cc e)

-- What is not true is false.
not_true : (a : Bool) → not a ≡ true → a ≡ false
not_true true e = absurd (cc e)
not_true false e = refl

-- Where no key stands twice, the first one doesn't stand among those behind it.
pub head_once : (k : Place) (ks : List Place) → are_distinct (k ∷ ks) ≡ true → stands_in ks k ≡ false
head_once k ks e = not_true (stands_in ks k) (and_left (not (stands_in ks k)) (are_distinct ks) e)

-- Where no key stands twice, none stands twice behind the first one.
pub tail_once : (k : Place) (ks : List Place) → are_distinct (k ∷ ks) ≡ true → are_distinct ks ≡ true
tail_once k ks e = and_right (not (stands_in ks k)) (are_distinct ks) e

-- For push_once: where two tests fail, it is true that neither holds.
both_false : (a b : Bool) → a ≡ false → b ≡ false → not (a || (b || false)) ≡ true
both_false true b p q = absurd (cc p)
both_false false true p q = absurd (cc q)
both_false false false p q = refl

-- Two tests that hold hold together.
both_true : (a b : Bool) → a ≡ true → b ≡ true → (a && b) ≡ true
both_true true b p q = q
both_true false b p q = absurd (cc p)

-- Where no key stands twice and k doesn't stand, no key stands twice with k put last.
pub push_once : (ks : List Place) (k : Place) → are_distinct ks ≡ true → stands_in ks k ≡ false
    → are_distinct (ks ++ k ∷ []) ≡ true
push_once [] k e absent = refl
push_once (x ∷ ks) k e absent =
    let apart : key_eq x k ≡ false = eq_turned x k ∙ or_left (key_eq k x) (stands_in ks k) absent in
    both_true _ _
    (ap not (list_any-append (key_eq x) ks (k ∷ [])) ∙ both_false (stands_in ks x) (key_eq x k)
    (head_once x ks e) apart)
    (push_once ks k (tail_once x ks e) (or_right (key_eq k x) (stands_in ks k) absent))

-- No test is both true and false.
pub true_or_false : (b : Bool) → b ≡ true → b ≡ false → ⊥
true_or_false true p q = absurd (cc q)
true_or_false false p q = absurd (cc p)

-- what implies what is false, fails
pub refuted : (a : Bool) → (a ≡ true → ⊥) → a ≡ false
refuted true f = absurd (f refl)
refuted false f = refl

-- ---- clauses by a test

-- What holds where a test does, where it does.
pub on_true : (b : Bool) (P : Type 0) → b ≡ true → OnTrue b P → P
on_true true P e h = h
on_true false P e h = absurd (cc e)

-- What holds where a test fails, where it fails.
pub on_false : (b : Bool) (P : Type 0) → b ≡ false → OnFalse b P → P
on_false true P e h = absurd (cc e)
on_false false P e h = h

-- ---- a key put last

-- A key put last stands in the line, with those that stood there.
pub in_last : (l : List Place) (k q : Place) → stands_in (l ++ k ∷ []) q ≡ cond (key_eq k q) true (stands_in l q)
in_last l k q =
    list_any-append (key_eq q) l (k ∷ []) ∙ ap (λ t. stands_in l q || (t || false)) (eq_turned q k)
    ∙ by (stands_in l q) (key_eq k q)
  where
    by : (x t : Bool) → (x || (t || false)) ≡ cond t true x
    by true true = refl
    by true false = refl
    by false true = refl
    by false false = refl

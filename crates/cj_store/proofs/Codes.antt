-- The test on codes is equality of values.
use Rattle.std.proofs.Common.{◌≡◌, ◌≢◌, Bool, true, false, ◌&&◌, MatchBool, IsTrue, ◌↔◌, refl, ap, ◌∙◌, sym, arith}
use Rattle.std.specs.Coded.{Coded}
use Rattle.std.proofs.lemmas.Bool.Decides.{nat_tests}
use base.Stored.{Gv, gnil, gnum, gcons}
use Rattle.cj_store.specs.Equal.{same_code, is_same}

-- Where two tests are true together, each of them is true.
both : (a b : Bool) → (a && b) ≡ true → (a ≡ true) × (b ≡ true)
both true true e = (refl, refl)
both true false e = absurd (cc e)
both false b e = absurd (cc e)

-- Codes that the test takes for the same are equal.
pub same_code-equal : (x y : Gv) → same_code x y ≡ true → x ≡ y
same_code-equal gnil gnil e = refl
same_code-equal gnil (gnum n) e = absurd (cc e)
same_code-equal gnil (gcons c d) e = absurd (cc e)
same_code-equal (gnum m) gnil e = absurd (cc e)
same_code-equal (gnum m) (gnum n) e = let h : m ≡ n = grind (arith, nat_tests, e) in ap gnum h
same_code-equal (gnum m) (gcons c d) e = absurd (cc e)
same_code-equal (gcons a b) gnil e = absurd (cc e)
same_code-equal (gcons a b) (gnum n) e = absurd (cc e)
same_code-equal (gcons a b) (gcons c d) e =
    let parts = both (same_code a c) (same_code b d) e in
    let l = same_code-equal a c parts.0 in
    let r = same_code-equal b d parts.1 in
    λ i. gcons (l i) (r i)

-- A code is the same as itself by the test.
pub same_code-itself : (x : Gv) → same_code x x ≡ true
same_code-itself gnil = refl
same_code-itself (gnum n) = grind (arith, nat_tests)
same_code-itself (gcons a b) = rw (same_code-itself a, same_code-itself b) refl

-- Values that the test takes for the same are equal.
pub is_same-equal : {X : Type 0} (c : Coded X) (x y : X) → is_same c x y ≡ true → x ≡ y
unfolding is_same
is_same-equal c x y e = c.inj x y (same_code-equal (c.code x) (c.code y) e)

-- A value is the same as itself by the test.
pub is_same-itself : {X : Type 0} (c : Coded X) (x : X) → is_same c x x ≡ true
unfolding is_same
is_same-itself c x = same_code-itself (c.code x)

-- A truth value that tells whether a fact holds is that of any test of the same fact.
either : (b t : Bool) (P : Type 0) → MatchBool b P (P → ⊥) → (t ≡ true → P) → (P → t ≡ true) → b ≡ t
either true true P m f g = refl
either true false P m f g = sym (g m)
either false true P m f g = absurd (m (f refl))
either false false P m f g = refl

-- a truth value that tells equality is the test's
pub told : {X : Type 0} (c : Coded X) (x y : X) (b : Bool) → MatchBool b (x ≡ y) (x ≢ y) → b ≡ is_same c x y
told c x y b m = either b (is_same c x y) (x ≡ y) m (is_same-equal c x y)
    (λ e. ap (λ z. is_same c x z) (sym e) ∙ is_same-itself c x)

-- For equality_laws: the test of two values is true just where they are equal.
pub same_is_equal : {X : Type 0} (c : Coded X) (x y : X) → IsTrue (is_same c x y) ↔ (x ≡ y)
same_is_equal c x y = (is_same-equal c x y, λ e. ap (λ z. is_same c x z) (sym e) ∙ is_same-itself c x)

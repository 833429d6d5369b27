-- What stands where after an insert and after a removal, with the other keys apart.
use Rattle.std.proofs.Common.{◌≡◌, ◌≢◌, ◌⊎◌, inl, inr, ℕ, Bool, true, false, cond, Option, Some, None, refl, sym, ap, ◌∙◌, arith}
use Rattle.std.proofs.lemmas.Bool.Decides.{nat_tests}
use Rattle.std.specs.Ordering.{eq_by_cmp, nat_cmp}
use Rattle.std.specs.declared.cmp.Ordering.{Ordering}
use Rattle.std.specs.Cmp.{IsTotalOrder, eq_by_cmp_equiv, nat_cmp_total}
use Rattle.std.specs.FinMap as map
use Rattle.cj_table.specs.Apart.{IsApart, PlacesApart, NumbersApart}
use Rattle.cj_table.proofs.Order.{places_total}
use Rattle.cj_table.proofs.Puts.{one_key}

-- Two numbers that tie in their order are the same.
one_number : (q k : ℕ) → eq_by_cmp nat_cmp q k ≡ true → q ≡ k
one_number q k e = grind (arith, nat_tests)

module _ {K : Type 0} (R : K → K → Ordering) (X : Type 0) (o : IsTotalOrder R)
    (exact : (q k : K) → eq_by_cmp R q k ≡ true → q ≡ k) where
  -- A key ties with itself.
  self_true : (k : K) → eq_by_cmp R k k ≡ true
  self_true k = (eq_by_cmp_equiv o).refl k

  -- Keys that don't tie are not the same.
  differ : (q k : K) → eq_by_cmp R q k ≡ false → q ≢ k
  differ q k e h = absurd (cc (sym (self_true k) ∙ ap (λ z. eq_by_cmp R z k) (sym h) ∙ e))

  -- For apart: at a key other than k, what stood there is chosen.
  kept : (q k : K) (new old : Option X) (t : Bool) → eq_by_cmp R q k ≡ t → q ≢ k → cond t new old ≡ old
  kept q k new old true e n = absurd (n (exact q k e))
  kept q k new old false e n = refl

  -- For apart: what is found after an insert is the new value, at k, or what stood at another key.
  put_either : (q k : K) (x y : X) (old : Option X) (t : Bool) → eq_by_cmp R q k ≡ t → cond t (Some x) old ≡ Some y
      → ((q ≡ k) × (x ≡ y)) ⊎ ((q ≢ k) × (old ≡ Some y))
  put_either q k x y old true e h = inl (exact q k e, cc)
  put_either q k x y old false e h = inr (differ q k e, h)

  -- For apart: what is found after a removal stood there before, at a key other than k.
  removal_either : (q k : K) (y : X) (old : Option X) (t : Bool) → eq_by_cmp R q k ≡ t → cond t None old ≡ Some y
      → (q ≢ k) × (old ≡ Some y)
  removal_either q k y old true e h = absurd (cc h)
  removal_either q k y old false e h = (differ q k e, h)

  -- Where keys that tie are the same, an insert or a removal changes its own key alone.
  pub apart : IsApart R X
  apart = record {
    put_here = λ m k x. map.get-insert o m k x k ∙ ap (λ t. cond t (Some x) (map.get m k)) (self_true k);
    put_other = λ m k q x n. map.get-insert o m k x q ∙ kept q k (Some x) (map.get m q) (eq_by_cmp R q k) refl n;
    after_put = λ m k q x y h. put_either q k x y (map.get m q) (eq_by_cmp R q k) refl
        (sym (map.get-insert o m k x q) ∙ h);
    removal_here = λ m k. map.get-remove o m k k ∙ ap (λ t. cond t None (map.get m k)) (self_true k);
    removal_other = λ m k q n. map.get-remove o m k q ∙ kept q k None (map.get m q) (eq_by_cmp R q k) refl n;
    after_removal = λ m k q y h. removal_either q k y (map.get m q) (eq_by_cmp R q k) refl
        (sym (map.get-remove o m k q) ∙ h);
  }

-- For apart_laws: in maps by key, an insert or a removal changes its own key alone.
pub places_apart : (X : Type 0) → PlacesApart X
places_apart X = apart _ X places_total one_key

-- For apart_laws: in maps by number, an insert or a removal changes its own number alone.
pub numbers_apart : (X : Type 0) → NumbersApart X
numbers_apart X = apart nat_cmp X nat_cmp_total one_number

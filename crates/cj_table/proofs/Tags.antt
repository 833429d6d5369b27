-- No two keys tie in the order by hash.
use Rattle.std.proofs.Common.{◌≡◌, Bool, true, false, refl, sym, subst}
use Rattle.std.specs.Cmp.{IsTotalOrder, eq_by_cmp_equiv}
use Rattle.std.specs.Ordering.{eq_by_cmp, is_eq, nat_cmp}
use Rattle.std.specs.declared.cmp.Ordering.{Ordering}
use Rattle.std.specs.declared.cmp.Ordering.TheVariants.{Less, Equal, Greater}
use Rattle.std.specs.FinMap.{IsAntisymmetric}
use Rattle.cj_types.specs.Keys.{place_cmp}
use Rattle.cj_table.specs.Tags.{hash_of, hash_cmp, hash_total}
use Rattle.cj_table.proofs.Order.{both_equal, places_total, places_exact}

-- keys that compare alike are one
pub hash_exact : IsAntisymmetric hash_cmp
hash_exact x y h = places_exact x y (both_equal (nat_cmp (hash_of x) (hash_of y)) (place_cmp x y) h).1

-- For one_way: an order that is_eq accepts is Equal.
is_equal : (o : Ordering) → is_eq o ≡ true → o ≡ Equal
is_equal Less h = absurd (cc h)
is_equal Equal h = refl
is_equal Greater h = absurd (cc h)

-- For one_tie: two tests of which each holds where the other does are the same.
same_test : (b c : Bool) → (b ≡ true → c ≡ true) → (c ≡ true → b ≡ true) → b ≡ c
same_test true c f g = sym (f refl)
same_test false true f g = g refl
same_test false false f g = refl

module _ {K : Type 0} {R S : K → K → Ordering} where
  -- For one_tie: keys that tie in one order tie in any other.
  one_way : IsAntisymmetric R → IsTotalOrder S → (x y : K) → eq_by_cmp R x y ≡ true → eq_by_cmp S x y ≡ true
  one_way exact total x y h =
      subst (λ z. eq_by_cmp S x z ≡ true) (exact x y (is_equal (R x y) h)) ((eq_by_cmp_equiv total).refl x)

-- The same keys tie in both orders.
pub one_tie : eq_by_cmp hash_cmp ≡ eq_by_cmp place_cmp
one_tie = λ i x y. same_test (eq_by_cmp hash_cmp x y) (eq_by_cmp place_cmp x y)
    (one_way hash_exact places_total x y) (one_way places_exact hash_total x y) i

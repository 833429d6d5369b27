-- The laws of the order of keys.
use Rattle.std.proofs.Common.{◌≡◌, refl}
use Rattle.std.specs.Cmp.{IsTotalOrder, on_total, then_total}
use Rattle.std.specs.Cmp.Lexicographic.{slice_cmp, nat_list_cmp_total}
use Rattle.std.specs.Ordering.{nat_cmp, ordering_then}
use Rattle.std.specs.declared.cmp.Ordering.{Ordering}
use Rattle.std.specs.declared.cmp.Ordering.TheVariants.{Less, Equal, Greater}
use Rattle.std.specs.FinMap.{IsAntisymmetric, slice_cmp-IsAntisymmetric, nat_cmp-IsAntisymmetric}
use Rattle.cj_types.specs.Keys.{place_cmp}

-- Keys are in a total order, by namespace, then name.
pub places_total : IsTotalOrder place_cmp
places_total = then_total (on_total (λ k. k.namespace) nat_list_cmp_total) (on_total (λ k. k.name) nat_list_cmp_total)

-- Where two orders, one asked after the other, give Equal, each of them is Equal.
pub both_equal : (o p : Ordering) → ordering_then o p ≡ Equal → (o ≡ Equal) × (p ≡ Equal)
both_equal Less p h = cc
both_equal Equal p h = (refl, h)
both_equal Greater p h = cc

-- keys that compare alike are one
pub places_exact : IsAntisymmetric place_cmp
places_exact x y h =
    let parts = both_equal (slice_cmp nat_cmp x.namespace y.namespace) (slice_cmp nat_cmp x.name y.name) h in
    let a : x.namespace ≡ y.namespace = slice_cmp-IsAntisymmetric nat_cmp-IsAntisymmetric _ _ parts.0 in
    let b : x.name ≡ y.name = slice_cmp-IsAntisymmetric nat_cmp-IsAntisymmetric _ _ parts.1 in
    λ i. record { namespace = a i; name = b i }

-- The orders of starts and of minutes.
use Rattle.std.proofs.Common.{◌≡◌, ap, refl, sym, ◌∙◌}
use Rattle.std.specs.Cmp.{IsTotalOrder, IsStrictWeakOrder}
use Rattle.std.specs.Ordering.{ordering_then, ordering_reverse}
use Rattle.std.specs.declared.cmp.Ordering.{Ordering}
use Rattle.std.specs.declared.cmp.Ordering.TheVariants.{Less, Equal, Greater}
use Rattle.std.specs.FinMap.{IsAntisymmetric, nat_cmp-IsAntisymmetric}
use Rattle.std.proofs.lemmas.Cmp.{nat_cmp_total, on_total, then_total}
use Rattle.std.proofs.lemmas.List.Sorted.{ranks_by}
use Rattle.cj_upcoming.specs.declared.minute.Minute.{Minute}
use Rattle.cj_upcoming.specs.Starts.{start_cmp}
use Rattle.cj_upcoming.specs.Minutes.{fuller_cmp, is_fuller}

-- Where two orders, one asked after the other, give Equal, each of them is Equal.
both_equal : (o p : Ordering) → ordering_then o p ≡ Equal → (o ≡ Equal) × (p ≡ Equal)
both_equal Less p h = cc
both_equal Equal p h = (refl, h)
both_equal Greater p h = cc

-- Starts that compare alike are one.
pub starts_exact : IsAntisymmetric start_cmp
starts_exact x y h =
    let both = both_equal _ _ h in
    let a : x.time ≡ y.time = nat_cmp-IsAntisymmetric _ _ both.0 in
    let b : x.cron ≡ y.cron = nat_cmp-IsAntisymmetric _ _ both.1 in
    λ i. record { time = a i; cron = b i }

-- An order the other way round is one.
flipped : {K : Type 0} {R : K → K → Ordering} → IsTotalOrder R → IsTotalOrder (λ a b. R b a)
flipped o = record {
  antisymm = λ x y. o.antisymm y x;
  trans = λ x y z a b. o.trans z y x b a;
  congr = λ x y z e. o.antisymm z x ∙ ap ordering_reverse (o.congr x y z (o.antisymm x y ∙ ap ordering_reverse e))
      ∙ sym (o.antisymm z y);
}

-- Minutes are in a total order, by their counts and then by their places.
pub minutes_total : IsTotalOrder fuller_cmp
minutes_total = then_total (flipped (on_total (λ (m : Minute). m.count) nat_cmp_total))
    (on_total (λ (m : Minute). m.first) nat_cmp_total)

-- So they can be sorted.
pub minutes_rank : IsStrictWeakOrder is_fuller
minutes_rank = ranks_by {R = fuller_cmp} minutes_total (λ m. m)

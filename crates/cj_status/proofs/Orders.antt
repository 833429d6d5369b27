-- The orders of Jobs are strict weak orders.
use Rattle.std.specs.Cmp.{IsStrictWeakOrder}
use Rattle.std.proofs.lemmas.Cmp.{nat_cmp_total, nat_list_cmp_total, on_total, then_total}
use Rattle.std.proofs.lemmas.List.Sorted.{ranks_by}
use Rattle.cj_status.specs.declared.order.Sorting.{Sorting}
use Rattle.cj_status.specs.declared.order.Sorting.TheVariants.{ByName, ByAge}
use Rattle.cj_status.specs.Refs.{precedes, name_cmp, age_cmp}

-- by creation time, then name, any two compare, and by name alone too
pub by_sorting : (by : Sorting) → IsStrictWeakOrder (precedes by)
by_sorting ByName = ranks_by {R = name_cmp} (on_total (λ r. r.key.name) nat_list_cmp_total) (λ r. r)
by_sorting ByAge = ranks_by {R = age_cmp} (then_total (on_total (λ r. r.created) nat_cmp_total)
    (on_total (λ r. r.key.name) nat_list_cmp_total)) (λ r. r)

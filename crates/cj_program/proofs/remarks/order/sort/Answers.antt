-- sort: its clause ok, since the sorted gaps are those in order.
use Rattle.std.proofs.Common.{rules}
use Rattle.std.specs.Cmp.{IsStrictWeakOrder}
use Rattle.std.proofs.lemmas.Cmp.{nat_cmp_total, nat_list_cmp_total, on_total, then_total}
use Rattle.std.proofs.lemmas.Fn.{always_returns_same}
use Rattle.std.proofs.lemmas.List.Sorted.{ranks_by}
use Rattle.cj_status.proofs.Sorts.{sorted_is}
use Rattle.cj_program.specs.remarks.Order.{comes_before, gap_cmp}
use Rattle.cj_program.proofs.remarks.order.sort.Goals as goal

-- To stand before another is an order that gaps can be sorted by.
ranked : IsStrictWeakOrder comes_before
ranked = ranks_by {R = gap_cmp} (then_total (then_total
    (on_total (λ g. g.cron.key) (then_total (on_total (λ k. k.namespace) nat_list_cmp_total)
    (on_total (λ k. k.name) nat_list_cmp_total)))
    (on_total (λ g. g.cron.meta.uid) nat_cmp_total)) (on_total (λ g. g.time) nat_cmp_total)) (λ g. g)

pub returns-clause-ok : goal.returns-clause-ok
returns-clause-ok c =
    sorted_is comes_before ranked c.args.gaps.now.items c.sort_by.new.self.items
    (c.in_ok-sort_by.ensures.sorted comes_before ranked (always_returns_same _ _ _ (λ a r f k. search rules)))
    (c.sort_by.ensures.stable comes_before ranked (always_returns_same _ _ _ (λ a r f k. search rules)))

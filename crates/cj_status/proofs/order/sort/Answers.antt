-- sort: its clause ok, that what a stable sort gives is the list in order.
use Rattle.std.proofs.Common.{rules}
use Rattle.std.proofs.lemmas.Fn.{always_returns_same}
use Rattle.cj_status.specs.Refs.{precedes}
use Rattle.cj_status.proofs.Orders.{by_sorting}
use Rattle.cj_status.proofs.Sorts.{sorted_is}
use Rattle.cj_status.proofs.order.sort.Goals as goal

pub returns-clause-ok : goal.returns-clause-ok
returns-clause-ok c =
    sorted_is (precedes c.args.by) (by_sorting c.args.by) c.args.items.now.items c.sort_by.new.self.items
    (c.in_ok-sort_by.ensures.sorted (precedes c.args.by) (by_sorting c.args.by)
    (always_returns_same _ _ _ (λ a r f k. search rules)))
    (c.sort_by.ensures.stable (precedes c.args.by) (by_sorting c.args.by)
    (always_returns_same _ _ _ (λ a r f k. search rules)))

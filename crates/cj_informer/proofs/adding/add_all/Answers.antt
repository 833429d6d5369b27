-- add_all: its clause adds, where an item's Add is refused, and its loop's invariant.
use Rattle.std.proofs.Common.{Ok, ◌++◌, arith}
use Rattle.std.specs.List.{filter_map}
use Rattle.cj_hub.proofs.Runs.{adds-then}
use Rattle.cj_informer.specs.Exchanges.{Goes}
use Rattle.cj_informer.specs.Informs.{adds}
use Rattle.cj_informer.proofs.Goes.{handed_on}
use Rattle.cj_informer.proofs.Items.{added_more, added_break}
use Rattle.cj_informer.proofs.adding.add_all.Goals as goal

pub loop-item-preserved : goal.loop-item-preserved
loop-item-preserved g c =
    adds-then c.loop-item.invariant c.in_ok-add_one.ensures.adds
    (λ es fs h k. added_more g.T.Concerns.concerned c.args.items.now c.loop-item.item-index c.item-item.result
    (Ok tt) es fs (omega arith) c.item-item.is h k)

pub returns-in_err-add_one-clause-adds : goal.returns-in_err-add_one-clause-adds
returns-in_err-add_one-clause-adds g c =
    let e = c.in_err-add_one.field-0.0 in
    adds-then c.loop-item.invariant c.in_err-add_one.ensures.adds (λ es fs h k.
    handed_on c.from_residual.result e (λ r. Goes (adds (filter_map g.T.Concerns.concerned c.args.items.now)) r
    (es ++ fs)) c.from_residual.ensures.1
    (added_break g.T.Concerns.concerned c.args.items.now c.loop-item.item-index c.item-item.result e es fs
    (omega arith) c.item-item.is h k))

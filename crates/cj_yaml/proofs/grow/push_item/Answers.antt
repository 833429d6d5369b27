-- nests: the items with the new one.
use Rattle.std.proofs.Common.{◌≤◌, max, arith}
use Rattle.serde_json.specs.Data.{depth, items_depth}
use Rattle.serde_json.specs.View.{view, items_view}
use Rattle.cj_yaml.proofs.Depths.{push_depth}
use Rattle.cj_yaml.proofs.grow.push_item.Goals as goal

pub returns : goal.returns
returns c =
    let old = c.args.items.now.items in
    let grown : items_depth (items_view c.push.new.self.items)
    ≤ max (depth (view c.args.value)) (items_depth (items_view old)) =
    rw c.in_ok-push.ensures.items (push_depth old c.args.value
    (max (depth (view c.args.value)) (items_depth (items_view old))) (omega arith) (omega arith)) in
    record { nests = grown }

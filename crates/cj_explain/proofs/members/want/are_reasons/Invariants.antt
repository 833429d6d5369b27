-- are_reasons: its loop; at each turn all are reasons where the items to come are.
use Rattle.std.proofs.Common.{◌≡◌, drop}
use Rattle.serde_json.specs.View.{items_view}
use Rattle.cj_explain.specs.members.Wants.{all_reasons}
use Rattle.cj_explain.proofs.members.want.are_reasons.Given as goal

abbrev pub invariant-loop-item : goal.invariant-loop-item
invariant-loop-item l = all_reasons (items_view (drop l.item-index l.item-items))
    ≡ all_reasons (items_view l.item-items)

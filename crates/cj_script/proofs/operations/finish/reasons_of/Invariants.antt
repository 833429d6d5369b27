-- reasons_of: at each turn the reasons so far, with the items left, are those of all items.
use Rattle.std.proofs.Common.{◌≡◌, [], drop}
use Rattle.serde_json.specs.View.{items_view}
use Rattle.cj_script.specs.operations.Finishes.{with_reasons}
use Rattle.cj_script.proofs.operations.finish.reasons_of.Given as goal

abbrev pub invariant-loop-item : goal.invariant-loop-item
invariant-loop-item l = with_reasons l.reasons (items_view (drop l.item-index l.item-items))
    ≡ with_reasons [] (items_view l.item-items)

-- items_of: its loop; at each turn what is said of the items to come is what is said of all.
use Rattle.std.proofs.Common.{◌≡◌, drop}
use Rattle.serde_json.specs.View.{view, items_view}
use Rattle.cj_explain.specs.members.Items.{items_from}
use Rattle.cj_explain.proofs.members.items.items_of.Given as goal

abbrev pub invariant-loop-value : goal.invariant-loop-value
invariant-loop-value l = record {
  same : items_from l.kind (view l.whole) l.list l.number (items_view (drop l.value-index l.value-items))
      ≡ items_from l.kind (view l.whole) l.list 0 (items_view l.value-items);
  counted : l.number ≡ l.value-index;
}

-- all_owners, its loop over the items: all are owner references just where all those to come are.
use Rattle.std.proofs.Common.{◌≡◌, drop}
use Rattle.serde_json.specs.View.{items_view}
use Rattle.cj_manifest.specs.Owners.{all_owners}
use Rattle.cj_manifest.proofs.owner.all_owners.Given as goal

abbrev pub invariant-loop-item : goal.invariant-loop-item
invariant-loop-item l = all_owners (items_view (drop l.item-index l.item-items)) ≡ all_owners (items_view l.item-items)

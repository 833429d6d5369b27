-- owners_of, its loop over the items: the owners so far and those of the items to come are all.
use Rattle.std.proofs.Common.{◌≡◌, ◌++◌, drop}
use Rattle.serde_json.specs.View.{items_view}
use Rattle.cj_manifest.specs.Owners.{owner_list}
use Rattle.cj_manifest.proofs.draft_parts.owners_of.Given as goal

abbrev pub invariant-loop-item : goal.invariant-loop-item
invariant-loop-item l = l.owners ++ owner_list (items_view (drop l.item-index l.item-items))
    ≡ owner_list (items_view l.item-items)

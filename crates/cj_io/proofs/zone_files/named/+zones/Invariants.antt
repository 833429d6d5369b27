-- push_in_items and push_in_members: at each turn the names so far, with those in the items or members left,
-- are the names at the start with those in all.
use Rattle.std.proofs.Common.{◌≡◌, ◌++◌, drop}
use Rattle.serde_json.specs.View.{items_view, members_view}
use Rattle.cj_io.specs.zone_files.Named.{zones_in_items, zones_in_members}
use Rattle.cj_io.proofs.zone_files.named.+zones.Given as goal

abbrev pub invariant-push_in_items-loop-item : goal.invariant-push_in_items-loop-item
invariant-push_in_items-loop-item l =
    l.names ++ zones_in_items (items_view (drop l.item-index l.item-items)) ≡ l.initial.names
    ++ zones_in_items (items_view l.item-items)

abbrev pub invariant-push_in_members-loop-key : goal.invariant-push_in_members-loop-key
invariant-push_in_members-loop-key l =
    l.names ++ zones_in_members (members_view l.key-iterator) ≡ l.initial.names
    ++ zones_in_members (members_view l.initial.key-iterator)

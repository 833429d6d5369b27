-- items_within and members_within, their loops: if what is to come nests at most so deep, all does.
use Rattle.std.proofs.Common.{◌≤◌, drop}
use Rattle.serde_json.specs.Data.{items_depth, members_depth}
use Rattle.serde_json.specs.View.{items_view, members_view}
use Rattle.cj_yaml.proofs.notes.+nests.Given as goal

abbrev pub invariant-items_within-loop-item : goal.invariant-items_within-loop-item
invariant-items_within-loop-item l =
    items_depth (items_view (drop l.item-index l.item-items)) ≤ l.room → items_depth (items_view l.item-items) ≤ l.room

abbrev pub invariant-members_within-loop-key : goal.invariant-members_within-loop-key
invariant-members_within-loop-key l =
    members_depth (members_view l._key-iterator) ≤ l.room → members_depth (members_view l.members.entries) ≤ l.room

-- How deep what is left to read may nest, and that what was read of a mapping or list nests so.
use Rattle.std.proofs.Common.{◌+◌, ◌*◌, ◌≤◌}
use Rattle.serde_json.specs.Data.{items_depth, members_depth}
use Rattle.serde_json.specs.View.{items_view, members_view}
use Rattle.cj_yaml.proofs.block.Reader.+block.Given as goal

abbrev pub decreases-value : goal.decreases-value
decreases-value l = 5 * l.slot.room + 3

abbrev pub decreases-present : goal.decreases-present
decreases-present l = 5 * l.slot.room + 2

abbrev pub decreases-content : goal.decreases-content
decreases-content l = 5 * l.slot.room + 1

abbrev pub decreases-nested : goal.decreases-nested
decreases-nested l = 5 * l.slot.room

abbrev pub decreases-mapping : goal.decreases-mapping
decreases-mapping l = 5 * l.room + 4

abbrev pub decreases-list : goal.decreases-list
decreases-list l = 5 * l.room + 4

abbrev pub invariant-mapping-members : goal.invariant-mapping-members
invariant-mapping-members l = members_depth (members_view l.members.entries) ≤ l.room

abbrev pub invariant-list-items : goal.invariant-list-items
invariant-list-items l = items_depth (items_view l.items.items) ≤ l.room

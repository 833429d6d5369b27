-- How deep what is left to read may nest, and that what was read of a mapping or list nests so.
use Rattle.std.proofs.Common.{◌+◌, ◌*◌, ◌≤◌}
use Rattle.serde_json.specs.Data.{items_depth, members_depth}
use Rattle.serde_json.specs.View.{items_view, members_view}
use Rattle.cj_yaml.proofs.block.Reader.+flow.Given as goal

abbrev pub decreases-brackets : goal.decreases-brackets
decreases-brackets l = 5 * l.room

abbrev pub decreases-flow_content : goal.decreases-flow_content
decreases-flow_content l = 5 * l.room + 1

abbrev pub decreases-flow_value : goal.decreases-flow_value
decreases-flow_value l = 5 * l.room + 2

abbrev pub decreases-flow_member : goal.decreases-flow_member
decreases-flow_member l = 5 * l.room + 3

abbrev pub decreases-flow_items : goal.decreases-flow_items
decreases-flow_items l = 5 * l.room + 4

abbrev pub decreases-flow_members : goal.decreases-flow_members
decreases-flow_members l = 5 * l.room + 4

abbrev pub invariant-flow_items-items : goal.invariant-flow_items-items
invariant-flow_items-items l = items_depth (items_view l.items.items) ≤ l.room

abbrev pub invariant-flow_members-members : goal.invariant-flow_members-members
invariant-flow_members-members l = members_depth (members_view l.members.entries) ≤ l.room

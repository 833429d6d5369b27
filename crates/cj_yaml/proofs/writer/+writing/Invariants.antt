-- write_members and write_items, their loops: the text has grown by the entries that are over, and
-- the others behind them make the whole.
use Rattle.std.proofs.Common.{◌≤◌, drop, string_bytes}
use Rattle.serde_json.specs.Data.{items_depth, members_depth}
use Rattle.serde_json.specs.Read.{max_depth}
use Rattle.serde_json.specs.View.{items_view, members_view}
use Rattle.cj_yaml.specs.BlockStyle.{IsList, IsMapping}
use Rattle.cj_yaml.proofs.Blocks.{Begun}
use Rattle.cj_yaml.proofs.writer.+writing.Given as goal

abbrev pub invariant-write_members-loop-key : goal.invariant-write_members-loop-key
invariant-write_members-loop-key l =
    (members_depth (members_view l.key-iterator) ≤ max_depth)
    × Begun (string_bytes l.out) (string_bytes l.initial.out)
    (IsMapping l.column l.behind (members_view l.key-iterator))
    (IsMapping l.column l.compact (members_view l.members.entries))

abbrev pub invariant-write_items-loop-item : goal.invariant-write_items-loop-item
invariant-write_items-loop-item l =
    (items_depth (items_view (drop l.item-index l.item-items)) ≤ max_depth)
    × Begun (string_bytes l.out) (string_bytes l.initial.out)
    (IsList l.column l.behind (items_view (drop l.item-index l.item-items)))
    (IsList l.column l.compact (items_view l.items.items))

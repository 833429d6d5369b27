-- push_in_items and push_in_members: at each turn the text so far, with the path of the items
-- or members left, is the text at the start with the path of all.
use Rattle.std.proofs.Common.{◌≡◌, ◌++◌, drop, string_bytes}
use Rattle.serde_json.specs.View.{items_view, members_view}
use Rattle.cj_scenario.specs.detection.Fractions.{items_path, members_path}
use Rattle.cj_scenario.proofs.detection.fraction.+fractions.Given as goal

abbrev pub invariant-push_in_items-loop-item : goal.invariant-push_in_items-loop-item
invariant-push_in_items-loop-item l =
    string_bytes l.text ++ items_path (items_view (drop l.item-index l.item-items)) ≡ string_bytes l.initial.text
    ++ items_path (items_view l.item-items)

abbrev pub invariant-push_in_members-loop-key : goal.invariant-push_in_members-loop-key
invariant-push_in_members-loop-key l =
    string_bytes l.text ++ members_path (members_view l.key-iterator) ≡ string_bytes l.initial.text
    ++ members_path (members_view l.initial.key-iterator)

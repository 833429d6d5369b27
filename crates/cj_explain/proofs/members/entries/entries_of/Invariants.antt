-- entries_of: its loop; at each turn what is said of the members to come is what is said of all.
use Rattle.std.proofs.Common.{◌≡◌}
use Rattle.serde_json.specs.View.{view, members_view}
use Rattle.cj_explain.specs.members.Items.{entries_from}
use Rattle.cj_explain.proofs.members.entries.entries_of.Given as goal

abbrev pub invariant-loop-key : goal.invariant-loop-key
invariant-loop-key l =
    entries_from l.kind (view l.whole) l.name (members_view l.key-iterator)
    ≡ entries_from l.kind (view l.whole) l.name (members_view l.initial.key-iterator)

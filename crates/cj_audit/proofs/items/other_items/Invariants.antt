-- other_items, its loop: the values so far, with those of the notes left, are those of all.
use Rattle.std.proofs.Common.{◌≡◌, ◌++◌, drop, map}
use Rattle.serde_json.specs.View.{view}
use Rattle.cj_audit.specs.Items.{other_items}
use Rattle.cj_audit.proofs.items.other_items.Given as goal

abbrev pub invariant-loop-note : goal.invariant-loop-note
invariant-loop-note l = map view l.values.items ++ other_items (drop l.note-index l.notes) ≡ other_items l.notes

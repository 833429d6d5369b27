-- refused_items, its loop: the values so far, with those of the notes left, are those of all.
use Rattle.std.proofs.Common.{◌≡◌, ◌++◌, drop, map}
use Rattle.serde_json.specs.View.{view}
use Rattle.cj_explain.specs.RefusedItems.{refused_items}
use Rattle.cj_explain.proofs.refused_items.refused_items.Given as goal

abbrev pub invariant-loop-note : goal.invariant-loop-note
invariant-loop-note l = map view l.values.items ++ refused_items (drop l.note-index l.notes) ≡ refused_items l.notes

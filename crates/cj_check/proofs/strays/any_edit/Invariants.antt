-- any_edit, its loop: one of all edits has the key just where one of those left has it.
use Rattle.std.proofs.Common.{◌≡◌, drop}
use Rattle.serde_json.specs.View.{items_view}
use Rattle.cj_check.specs.Strays.{any_edit}
use Rattle.cj_check.proofs.strays.any_edit.Given as goal

abbrev pub invariant-loop-edit : goal.invariant-loop-edit
invariant-loop-edit l = any_edit l.key (items_view (drop l.edit-index l.edits)) ≡ any_edit l.key (items_view l.edits)

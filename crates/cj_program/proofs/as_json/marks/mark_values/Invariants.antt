-- mark_values: its loop; at each turn the values of those gone through stand there.
use Rattle.std.proofs.Common.{◌≡◌, map, take}
use Rattle.serde_json.specs.View.{view}
use Rattle.cj_program.specs.as_json.Marks.{mark_data}
use Rattle.cj_program.proofs.as_json.marks.mark_values.Given as goal

abbrev pub invariant-loop-mark : goal.invariant-loop-mark
invariant-loop-mark l = map view l.values.items ≡ map mark_data (take l.mark-index l.marks)

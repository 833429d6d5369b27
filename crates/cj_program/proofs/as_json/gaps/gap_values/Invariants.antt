-- gap_values: its loop; at each turn the values of those gone through stand there.
use Rattle.std.proofs.Common.{◌≡◌, map, take}
use Rattle.serde_json.specs.View.{view}
use Rattle.cj_program.specs.as_json.Gaps.{gap_data}
use Rattle.cj_program.proofs.as_json.gaps.gap_values.Given as goal

abbrev pub invariant-loop-gap : goal.invariant-loop-gap
invariant-loop-gap l = map view l.values.items ≡ map gap_data (take l.gap-index l.gaps)

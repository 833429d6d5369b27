-- bar_values: its loop; at each turn the values of those gone through stand there.
use Rattle.std.proofs.Common.{◌≡◌, map, take}
use Rattle.serde_json.specs.View.{view}
use Rattle.cj_program.specs.as_json.Bars.{bar_data}
use Rattle.cj_program.proofs.as_json.bars.bar_values.Given as goal

abbrev pub invariant-loop-bar : goal.invariant-loop-bar
invariant-loop-bar l = map view l.values.items ≡ map bar_data (take l.bar-index l.bars)

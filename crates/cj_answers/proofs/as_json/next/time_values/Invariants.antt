-- time_values, its loop: the values are those of the times gone through.
use Rattle.std.proofs.Common.{◌≡◌, map, take}
use Rattle.serde_json.specs.View.{view}
use Rattle.cj_json.specs.Values.{time_data}
use Rattle.cj_answers.proofs.as_json.next.time_values.Given as goal

abbrev pub invariant-loop-time : goal.invariant-loop-time
invariant-loop-time l = map view l.values.items ≡ map time_data (take l.time-index l.times)

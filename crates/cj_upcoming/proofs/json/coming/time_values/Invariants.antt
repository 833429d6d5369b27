-- time_values: its loop; at each turn the values of the times gone through stand there.
use Rattle.std.proofs.Common.{◌≡◌, map, take}
use Rattle.serde_json.specs.View.{view}
use Rattle.cj_upcoming.specs.json.Coming.{coming_data}
use Rattle.cj_upcoming.proofs.json.coming.time_values.Given as goal

abbrev pub invariant-loop-time : goal.invariant-loop-time
invariant-loop-time l = map view l.values.items ≡ map (coming_data l.zone l.start) (take l.time-index l.times)

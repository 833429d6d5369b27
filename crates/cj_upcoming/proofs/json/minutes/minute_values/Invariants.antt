-- minute_values: its loop; at each turn the values of the minutes gone through stand there.
use Rattle.std.proofs.Common.{◌≡◌, map, take}
use Rattle.serde_json.specs.View.{view}
use Rattle.cj_upcoming.specs.json.Minutes.{minute_data}
use Rattle.cj_upcoming.proofs.json.minutes.minute_values.Given as goal

abbrev pub invariant-loop-minute : goal.invariant-loop-minute
invariant-loop-minute l = map view l.values.items ≡ map (minute_data l.crons l.starts) (take l.minute-index l.minutes)

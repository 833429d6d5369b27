-- standing_values: its loop; at each turn what is told of the rest is still to come.
use Rattle.std.proofs.Common.{map}
use Rattle.serde_json.specs.View.{view}
use Rattle.cj_zone.specs.Table.{zones_of}
use Rattle.cj_upcoming.proofs.Idle.{Tells}
use Rattle.cj_upcoming.proofs.json.standings.standing_values.Given as goal

abbrev pub invariant-loop-cron : goal.invariant-loop-cron
invariant-loop-cron l = Tells (zones_of l.zones) l.from l.crons l.cron-index (map view l.values.items)

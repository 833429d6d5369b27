-- cron_values: its loop; at each turn the values so far and those of the rest are all.
use Rattle.std.proofs.Common.{◌≡◌, ◌++◌, drop, map}
use Rattle.serde_json.specs.View.{view}
use Rattle.cj_upcoming.specs.json.Minutes.{crons_in}
use Rattle.cj_upcoming.proofs.json.minutes.cron_values.Given as goal

abbrev pub invariant-loop-start : goal.invariant-loop-start
invariant-loop-start l =
    map view l.values.items ++ crons_in l.crons (drop l.start-index l.starts) ≡ crons_in l.crons l.starts

-- coming_changes: its loop; at each turn the values so far and those of the rest are all.
use Rattle.std.proofs.Common.{◌≡◌, ◌++◌, drop, map}
use Rattle.serde_json.specs.View.{view}
use Rattle.cj_upcoming.specs.json.Coming.{changes_along}
use Rattle.cj_upcoming.proofs.json.coming.coming_changes.Given as goal

abbrev pub invariant-loop-time : goal.invariant-loop-time
invariant-loop-time l = map view l.values.items
    ++ changes_along l.zone l.after (drop l.time-index l.times) ≡ changes_along l.zone l.fn.start l.times

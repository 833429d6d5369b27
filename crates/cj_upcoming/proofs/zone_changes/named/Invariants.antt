-- named: its loop; at each turn the names so far, with the new ones of the rest, are all.
use Rattle.std.proofs.Common.{◌≡◌, ◌++◌, [], drop}
use Rattle.cj_upcoming.specs.Zones.{named}
use Rattle.cj_upcoming.proofs.zone_changes.named.Given as goal

abbrev pub invariant-loop-cron : goal.invariant-loop-cron
invariant-loop-cron l = l.names.items ++ named l.names.items (drop l.cron-index l.crons) ≡ named [] l.crons

-- latest_in_interval: at each turn nothing is due after the minute in hand, up to hi.
use Rattle.std.proofs.Common.{◌≤◌, ◌+◌, ◌*◌}
use Rattle.cj_due.proofs.DueLemmas.{IsQuietFrom}
use Rattle.cj_due.proofs.latest.latest_in_interval.Given as goal

abbrev pub invariant-loop-minute : goal.invariant-loop-minute
invariant-loop-minute l = record {
  quiet : IsQuietFrom l.schedule l.zone ((l.minute + 1) * 60) l.hi;
  low : l.first ≤ l.minute + 1;
  high : l.minute * 60 ≤ l.hi;
}

abbrev pub decreases-loop-minute : goal.decreases-loop-minute
decreases-loop-minute l = l.minute

-- next_upto: at each turn nothing is due after lo and up to the instant at.
use Rattle.std.proofs.Common.{◌≤◌, ◌-◌}
use Rattle.cj_due.specs.Due.{IsQuiet}
use Rattle.cj_history.proofs.gaps.times.next_upto.Given as goal

abbrev pub invariant-loop-hi : goal.invariant-loop-hi
invariant-loop-hi l = record { quiet : IsQuiet l.schedule l.zone l.fn.lo l.at; low : l.fn.lo ≤ l.at }

abbrev pub decreases-loop-hi : goal.decreases-loop-hi
decreases-loop-hi l = l.hi - l.at

-- changes: its loop; at each turn those found, with those still to come, are all.
use Rattle.std.proofs.Common.{◌≡◌, ◌++◌, ◌-◌}
use Rattle.cj_upcoming.specs.Changes.{changes}
use Rattle.cj_upcoming.proofs.changes.changes.Given as goal

abbrev pub invariant-loop-at : goal.invariant-loop-at
invariant-loop-at l = l.changes.items ++ changes l.zone l.at l.last ≡ changes l.zone l.fn.after l.fn.last

abbrev pub decreases-loop-at : goal.decreases-loop-at
decreases-loop-at l = l.last - l.at

-- count_until: its loop; at each turn the entries counted and the ready ones to come are all that are ready, and those
-- to come are sorted.
use Rattle.std.proofs.Common.{◌≡◌, ◌+◌, length}
use Rattle.std.specs.List.Sorted.{IsStrictlySortedBy}
use Rattle.cj_queue.specs.Times.{ready_in, timed_cmp}
use Rattle.cj_queue.proofs.waits.count_until.Given as goal

abbrev pub invariant-loop-at : goal.invariant-loop-at
invariant-loop-at l = (l.count + length (ready_in l.at-iterator l.now) ≡ length (ready_in l.initial.at-iterator l.now))
    × IsStrictlySortedBy timed_cmp l.at-iterator

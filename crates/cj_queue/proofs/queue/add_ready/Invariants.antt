-- add_ready: its loop; at each turn there is a turn and room for each key to come, and with these removed from the
-- times and added to the row, both are as all the keys leave them.
use Rattle.std.proofs.Common.{◌≡◌, ◌≤◌, ◌+◌, length}
use Rattle.cj_queue.specs.Queue.{row_adds}
use Rattle.cj_queue.specs.Times.{ready, without}
use Rattle.cj_queue.proofs.queue.add_ready.Given as goal

abbrev pub invariant-loop : goal.invariant-loop
invariant-loop l =
    (length (ready l.waits l.now) + l.counter ≡ l.count)
    × (length (ready l.waits l.now) ≤ l.work.room)
    × (without l.waits (ready l.waits l.now) ≡ without l.initial.waits (ready l.initial.waits l.now))
    × (row_adds l.work.row (ready l.waits l.now) ≡ row_adds l.initial.work.row (ready l.initial.waits l.now))

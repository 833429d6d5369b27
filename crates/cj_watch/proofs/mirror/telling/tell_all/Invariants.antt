-- tell_all, its loop: at each turn what the Jobs are after all events is what it was at first.
use Rattle.std.proofs.Common.{◌≡◌, ◌≤◌, ◌-◌, length, drop}
use Rattle.cj_watch.specs.mirror.Lagging.{told_all}
use Rattle.cj_watch.proofs.mirror.telling.tell_all.Given as goal

abbrev pub invariant-loop-done : goal.invariant-loop-done
invariant-loop-done l = (told_all l.jobs (drop l.done l.events) ≡ told_all l.initial.jobs
    (drop l.initial.done l.events)) × (l.done ≤ length l.events)

abbrev pub decreases-loop-done : goal.decreases-loop-done
decreases-loop-done l = length l.events - l.done

-- list_jobs, its loop: at each turn the Jobs are those of the list from the place left on.
use Rattle.std.proofs.Common.{◌≡◌, ◌≤◌, length, drop}
use Rattle.cj_watch.specs.mirror.Lagging.{listed}
use Rattle.cj_watch.proofs.mirror.telling.list_jobs.Given as goal

abbrev pub invariant-loop-left : goal.invariant-loop-left
invariant-loop-left l = (l.all ≡ listed (drop l.left l.jobs)) × (l.left ≤ length l.jobs)

abbrev pub decreases-loop-left : goal.decreases-loop-left
decreases-loop-left l = l.left

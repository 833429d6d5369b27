-- deletions: its loop; at each turn there are the calls for the Jobs gone through.
use Rattle.std.proofs.Common.{◌≡◌, take}
use Rattle.cj_control.specs.Coming as coming
use Rattle.cj_control.proofs.coming.deletions.Given as goal

abbrev pub invariant-loop-job : goal.invariant-loop-job
invariant-loop-job l = l.calls.items ≡ coming.deletions (take l.job-index l.jobs)

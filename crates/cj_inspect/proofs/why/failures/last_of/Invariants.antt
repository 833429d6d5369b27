-- last_of: its loop; at each turn the last of the Job so far and of those left is the last of all.
use Rattle.std.proofs.Common.{◌≡◌, drop}
use Rattle.cj_inspect.specs.Failures.{last_of}
use Rattle.cj_inspect.proofs.why.failures.last_of.Given as goal

abbrev pub invariant-loop-job : goal.invariant-loop-job
invariant-loop-job l =
    last_of l.cluster.times l.last (drop l.job-index l.others) ≡ last_of l.cluster.times l.first l.others

-- timeless_count: its loop; at each turn the count is that of the Jobs gone through, and no greater than their number.
use Rattle.std.proofs.Common.{◌≡◌, ◌≤◌, take}
use Rattle.cj_audit.specs.Told.{made_count, timeless_by}
use Rattle.cj_audit.proofs.told.timeless_count.Given as goal

abbrev pub invariant-loop-job : goal.invariant-loop-job
invariant-loop-job l = record {
  counted : l.count ≡ made_count timeless_by l.cluster.times (take l.job-index l.jobs);
  small : l.count ≤ l.job-index;
}

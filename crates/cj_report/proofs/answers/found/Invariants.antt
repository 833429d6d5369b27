-- found, its loop over the Jobs: count is how many of those gone through are there.
use Rattle.std.proofs.Common.{◌≡◌, ◌≤◌, take}
use Rattle.cj_report.specs.Answers.{found}
use Rattle.cj_report.proofs.answers.found.Given as goal

abbrev pub invariant-loop-job : goal.invariant-loop-job
invariant-loop-job l = record {
  counted : l.count ≡ found (take l.job-index l.jobs);
  below : l.count ≤ l.job-index;
}

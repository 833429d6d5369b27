-- count: its loop; count is how many of the Jobs gone through ended so.
use Rattle.std.proofs.Common.{◌≡◌, ◌≤◌, take}
use Rattle.cj_audit.specs.Missing.{ended_count}
use Rattle.cj_audit.proofs.ending.Ending.count.Given as goal

abbrev pub invariant-loop-job : goal.invariant-loop-job
invariant-loop-job l = record {
  counted : l.count ≡ ended_count l.self l.cron (take l.job-index l.jobs);
  below : l.count ≤ l.job-index;
}

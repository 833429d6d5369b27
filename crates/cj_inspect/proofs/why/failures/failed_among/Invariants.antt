-- failed_among: its loop; at each turn those that failed of the Jobs gone through stand there.
use Rattle.std.proofs.Common.{◌≡◌, filter, take}
use Rattle.cj_inspect.specs.Failures.{is_failure}
use Rattle.cj_inspect.proofs.why.failures.failed_among.Given as goal

abbrev pub invariant-loop-job : goal.invariant-loop-job
invariant-loop-job l = l.failed.items ≡ filter (is_failure l.cron) (take l.job-index l.jobs)

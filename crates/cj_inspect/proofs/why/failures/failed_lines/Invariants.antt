-- failed_lines: its loop; at each turn the lines so far, with those of the CronJobs left, are those of all.
use Rattle.std.proofs.Common.{◌≡◌, ◌++◌, drop, string_bytes}
use Rattle.cj_inspect.specs.Failures.{failed_lines}
use Rattle.cj_inspect.proofs.why.failures.failed_lines.Given as goal

abbrev pub invariant-loop-cron : goal.invariant-loop-cron
invariant-loop-cron l =
    string_bytes l.lines ++ failed_lines l.cluster (drop l.cron-index l.crons) ≡ failed_lines l.cluster l.crons

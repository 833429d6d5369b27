-- with_crons: its loop; at each turn what there is so far leads on, with the CronJobs left, to the bounds of all.
use Rattle.std.proofs.Common.{◌≡◌, drop}
use Rattle.cj_inspect.specs.Nights.{with_crons}
use Rattle.cj_inspect.proofs.nights.span.with_crons.Given as goal

abbrev pub invariant-loop-cron : goal.invariant-loop-cron
invariant-loop-cron l = with_crons l.bounds (drop l.cron-index l.crons) ≡ with_crons l.fn.bounds l.crons

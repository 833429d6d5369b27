-- push_crons: at each turn the CronJobs gone through stand behind those that stood there.
use Rattle.std.proofs.Common.{◌≡◌, ◌++◌, take}
use Rattle.cj_inspect.proofs.upcoming.push_crons.Given as goal

abbrev pub invariant-loop-cron : goal.invariant-loop-cron
invariant-loop-cron l = l.all.items ≡ l.initial.all.items ++ take l.cron-index l.crons

-- crons_in: at each turn the CronJobs gone through stand there.
use Rattle.std.proofs.Common.{◌≡◌, map, take}
use Rattle.cj_inspect.proofs.nights.gather.crons_in.Given as goal

abbrev pub invariant-loop-cron : goal.invariant-loop-cron
invariant-loop-cron l = l.found.items ≡ map (λ c. c.cron) (take l.cron-index l.crons)

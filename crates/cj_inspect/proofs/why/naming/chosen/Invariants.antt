-- chosen: its loop; at each turn those that are meant of the CronJobs gone through stand there.
use Rattle.std.proofs.Common.{◌≡◌, filter, take, option_map}
use Rattle.cj_inspect.specs.Why.{is_meant}
use Rattle.cj_inspect.proofs.why.naming.chosen.Given as goal

abbrev pub invariant-loop-cron : goal.invariant-loop-cron
invariant-loop-cron l =
    l.meant.items ≡ filter (is_meant (option_map (λ s. s.now) l.within) l.texts) (take l.cron-index l.crons)

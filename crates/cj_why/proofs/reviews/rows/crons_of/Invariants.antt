-- crons_of: its loop; at each turn the CronJobs of the rows gone through stand there.
use Rattle.std.proofs.Common.{◌≡◌, map, take}
use Rattle.cj_why.proofs.reviews.rows.crons_of.Given as goal

abbrev pub invariant-loop-row : goal.invariant-loop-row
invariant-loop-row l = l.crons.items ≡ map (λ row. row.cron) (take l.row-index l.rows)

-- standings, its loop over the CronJobs: what is noted and what is left are all.
use Rattle.std.proofs.Common.{◌≡◌, ◌++◌, drop}
use Rattle.cj_program.specs.remarks.Standings as said
use Rattle.cj_program.proofs.remarks.standings.standings.Given as goal

abbrev pub invariant-loop-cron : goal.invariant-loop-cron
invariant-loop-cron l =
    l.standing.items ++ said.standings l.zones (drop l.cron-index l.crons) ≡ said.standings l.zones l.crons

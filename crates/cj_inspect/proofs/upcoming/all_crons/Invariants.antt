-- all_crons: at each turn the CronJobs so far, with those of the files left, are those of all.
use Rattle.std.proofs.Common.{◌≡◌, ◌++◌, drop}
use Rattle.cj_inspect.specs.Upcoming.{all_crons}
use Rattle.cj_inspect.proofs.upcoming.all_crons.Given as goal

abbrev pub invariant-loop-file : goal.invariant-loop-file
invariant-loop-file l = l.all.items ++ all_crons (drop l.file-index l.files) ≡ all_crons l.files

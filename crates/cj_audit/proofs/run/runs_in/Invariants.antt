-- runs_in: its loop; at each turn the Jobs so far and those of the rest are all.
use Rattle.std.proofs.Common.{◌≡◌, ◌++◌, drop}
use Rattle.cj_audit.specs.Runs.{runs_in}
use Rattle.cj_audit.proofs.run.runs_in.Given as goal

abbrev pub invariant-loop-job : goal.invariant-loop-job
invariant-loop-job l =
    l.runs.items ++ runs_in l.cluster.times l.cron (drop l.job-index l.jobs) ≡ runs_in l.cluster.times l.cron l.jobs

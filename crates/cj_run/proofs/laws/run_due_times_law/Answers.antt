-- run_due_times_law: its clauses keep_up, each, allowed and ended.
use Rattle.cj_run.proofs.Ahead.{run_keeps_up, run_makes_each, run_makes_each_allowed, run_makes_each_ended}
use Rattle.cj_run.proofs.laws.run_due_times_law.Goals as goal

pub returns-clause-keep_up : goal.returns-clause-keep_up
returns-clause-keep_up c = run_keeps_up

pub returns-clause-each : goal.returns-clause-each
returns-clause-each c = run_makes_each

pub returns-clause-allowed : goal.returns-clause-allowed
returns-clause-allowed c = run_makes_each_allowed

pub returns-clause-ended : goal.returns-clause-ended
returns-clause-ended c = run_makes_each_ended

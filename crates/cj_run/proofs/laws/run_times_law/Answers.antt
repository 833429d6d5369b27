-- run_times_law: its clauses read and created.
use Rattle.cj_run.proofs.Created.{run_creates}
use Rattle.cj_run.proofs.Timed.{read_edits_timed}
use Rattle.cj_run.proofs.laws.run_times_law.Goals as goal

pub returns-clause-read : goal.returns-clause-read
returns-clause-read c = read_edits_timed

pub returns-clause-created : goal.returns-clause-created
returns-clause-created c = run_creates

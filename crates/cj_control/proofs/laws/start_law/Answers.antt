-- start_law: its two clauses.
use Rattle.cj_control.proofs.laws.start_law.Goals as goal
use Rattle.cj_control.proofs.CreatedLemmas.{holds_apart, starts_only}

pub returns-clause-texts : goal.returns-clause-texts
returns-clause-texts c = holds_apart

pub returns-clause-starts : goal.returns-clause-starts
returns-clause-starts c = starts_only

-- number_law: its clauses versions (the n-th write has version n) and uids (none is given twice).
use Rattle.cj_history.proofs.StoreLemmas.Numbered.{numbers_law, uid_law}
use Rattle.cj_history.proofs.store.laws.number_law.Goals as goal

pub returns-clause-versions : goal.returns-clause-versions
returns-clause-versions c = numbers_law

pub returns-clause-uids : goal.returns-clause-uids
returns-clause-uids c = uid_law

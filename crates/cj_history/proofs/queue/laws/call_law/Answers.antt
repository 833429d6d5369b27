-- call_law: its clauses operations (the calls of a history's operations) and fit (the calls of any fit operations).
use Rattle.cj_history.proofs.QueueLemmas.Agreed.{operations_agree, fits_agree}
use Rattle.cj_history.proofs.queue.laws.call_law.Goals as goal

pub returns-clause-operations : goal.returns-clause-operations
returns-clause-operations c = operations_agree

pub returns-clause-fit : goal.returns-clause-fit
returns-clause-fit c = fits_agree

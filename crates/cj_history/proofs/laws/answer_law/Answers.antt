-- answer_law: its clause OneAnswer, that a call has just one answer, that of the state.
use Rattle.cj_history.proofs.One.{one_law}
use Rattle.cj_history.proofs.laws.answer_law.Goals as goal

pub returns : goal.returns
returns c = one_law

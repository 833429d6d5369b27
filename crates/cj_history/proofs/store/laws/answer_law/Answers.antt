-- answer_law: its clause AnswerLaw, that each call on the store is answered as the writes say.
use Rattle.cj_history.proofs.StoreLemmas.Answered.{answers_agree}
use Rattle.cj_history.proofs.store.laws.answer_law.Goals as goal

pub returns : goal.returns
returns c = answers_agree

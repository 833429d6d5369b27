-- answer_law: its clause AnswerLaw, that each call of the queue is answered as the history says.
use Rattle.cj_history.proofs.QueueLemmas.Answered.{answers_agree}
use Rattle.cj_history.proofs.queue.laws.answer_law.Goals as goal

pub returns : goal.returns
returns c = answers_agree

-- queue_laws: its one clause, QueuesAreStingy, which is a lemma by itself.
use Rattle.cj_queue.proofs.LawsLemmas.Queues.{queues_are_stingy}
use Rattle.cj_queue.proofs.laws.laws.queue_laws.Goals as goal

pub returns : goal.returns
returns c = queues_are_stingy

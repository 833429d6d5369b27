-- rest_law: its ensures, that a world is at rest just where its history is quiet.
use Rattle.cj_history.proofs.QueueLemmas.Rest.{rests_agree}
use Rattle.cj_history.proofs.queue.rest.rest_law.Goals as goal

pub returns : goal.returns
returns c = rests_agree

-- queue_law: its clause QueueLaw, that the queue is what the history says; and the samples.
use Rattle.cj_history.proofs.QueueLemmas.Agreed.{queue_agrees}
use Rattle.cj_history.proofs.QueueLemmas.Sample.{legal_take, not_twice, is_held, waits_first, not_yet, failed_once, then_queued, since_then, waits_no_more, held_again}
use Rattle.cj_history.proofs.queue.laws.queue_law.Goals as goal

pub returns : goal.returns
returns c =
    let a = legal_take in let b = not_twice in let d = is_held in let e = waits_first in let f = not_yet in let g =
    failed_once in
    let h = then_queued in let i = since_then in let j = waits_no_more in let k = held_again in queue_agrees

-- no_key_is_lost_law: its clause NoKeyIsLost, that the queue forgets nothing due; and the samples.
use Rattle.cj_history.proofs.ProgressLemmas.Kept.{none_lost}
use Rattle.cj_history.proofs.ProgressLemmas.Sample.{legal_again, wanted_again, kept_again, legal_due, wanted_due, lined_due, retry_then, retried_due}
use Rattle.cj_history.proofs.ProgressLemmas.SyncSample.{is_done}
use Rattle.cj_history.proofs.progress.laws.no_key_is_lost_law.Goals as goal

pub returns : goal.returns
returns c =
    let a = legal_again in let b = wanted_again in let d = kept_again in let e = legal_due in let f
    = wanted_due in let g =
    lined_due in let i = is_done in let j = retry_then in let m = retried_due in none_lost

-- event_law: its clause EventLaw, that a watch is told the writes after its version.
use Rattle.cj_history.proofs.StoreLemmas.Followed.{events_agree}
use Rattle.cj_history.proofs.store.laws.event_law.Goals as goal

pub returns : goal.returns
returns c = events_agree

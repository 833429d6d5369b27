-- push_part: its one clause where the part has no time, from the lemma adds_same of ClockedLemmas.
use Rattle.cj_answers.proofs.ClockedLemmas.{adds_same}
use Rattle.cj_answers.proofs.clocked.push_part.Goals as goal

pub returns-in_ok-push_str-in-None : goal.returns-in_ok-push_str-in-None
returns-in_ok-push_str-in-None c = adds_same _ _ _ _ c.in_ok-push_str-in-None.ensures.bytes

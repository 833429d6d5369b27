-- push_wide: its one clause, from the lemma adds_blanks of ClockedLemmas.
use Rattle.cj_answers.proofs.ClockedLemmas.{adds_blanks}
use Rattle.cj_answers.proofs.clocked.push_wide.Goals as goal

pub returns : goal.returns
returns c = adds_blanks _ _ _ _ _ c.in_ok-push_times.ensures c.in_ok-push_str.ensures.bytes

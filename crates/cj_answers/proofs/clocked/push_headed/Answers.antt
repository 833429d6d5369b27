-- push_headed: its one clause, from the lemma adds_words of ClockedLemmas.
use Rattle.cj_answers.proofs.ClockedLemmas.{adds_words}
use Rattle.cj_answers.proofs.clocked.push_headed.Goals as goal

pub returns : goal.returns
returns c = adds_words _ _ _ _ _ _ _ c.in_ok-push_lines.ensures c.in_ok-push_words.ensures c.in_ok-push_lines-2.ensures

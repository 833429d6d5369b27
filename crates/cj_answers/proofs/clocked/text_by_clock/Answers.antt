-- text_by_clock: its one clause, from the lemma adds_whole of ClockedLemmas.
use Rattle.cj_answers.proofs.ClockedLemmas.{adds_whole}
use Rattle.cj_answers.proofs.clocked.text_by_clock.Goals as goal

pub returns : goal.returns
returns c = adds_whole _ _ _ (rw c.new-shown.ensures.bytes at c.in_ok-push_text.ensures)

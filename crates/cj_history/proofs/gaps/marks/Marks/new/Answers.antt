-- Marks::new: its ensures, that it knows the history without an entry.
use Rattle.cj_history.proofs.GapsLemmas.Known.{knows_nothing}
use Rattle.cj_history.proofs.gaps.marks.Marks.new.Goals as goal

pub returns : goal.returns
returns c = knows_nothing _ c.new.ensures.empty c.new-2.ensures.empty

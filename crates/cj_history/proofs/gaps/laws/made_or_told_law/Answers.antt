-- made_or_told_law: what is told of makings is what was made.
use Rattle.cj_history.proofs.GapsLemmas.Made.{told_is_made}
use Rattle.cj_history.proofs.gaps.laws.made_or_told_law.Goals as goal

pub returns : goal.returns
returns c = told_is_made

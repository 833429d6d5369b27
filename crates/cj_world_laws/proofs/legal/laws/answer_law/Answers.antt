-- answer_law: its ensures, that what a call is answered stands in its row.
use Rattle.cj_world_laws.proofs.LegalLemmas.Fine.{fine}
use Rattle.cj_world_laws.proofs.legal.laws.answer_law.Goals as goal

pub returns : goal.returns
returns c = fine

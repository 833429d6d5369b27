-- created_law: its ensures.
use Rattle.cj_control.proofs.laws.created_law.Goals as goal
use Rattle.cj_control.proofs.CreatedLemmas.{created_back}

pub returns : goal.returns
returns c = created_back

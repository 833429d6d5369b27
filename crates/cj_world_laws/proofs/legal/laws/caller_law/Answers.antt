-- caller_law: its ensures, that numbers alone tell workers apart, and that nobody else has a sync
-- or a claim.
use Rattle.cj_world_laws.proofs.LegalLemmas.Callers.{callers_apart}
use Rattle.cj_world_laws.proofs.legal.laws.caller_law.Goals as goal

pub returns : goal.returns
returns c = callers_apart

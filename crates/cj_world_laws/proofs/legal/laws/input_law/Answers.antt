-- input_law: its ensures, that the plan of a claim rests on just the worker's three answers.
use Rattle.cj_world_laws.proofs.LegalLemmas.Inputs.{rests_exactly}
use Rattle.cj_world_laws.proofs.legal.laws.input_law.Goals as goal

pub returns : goal.returns
returns c = rests_exactly

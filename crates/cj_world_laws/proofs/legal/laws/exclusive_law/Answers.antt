-- exclusive_law: its ensures, that between two Takes of a key its first taker ends its sync.
use Rattle.cj_world_laws.proofs.LegalLemmas.Hands.{always_exclusive}
use Rattle.cj_world_laws.proofs.legal.laws.exclusive_law.Goals as goal

pub returns : goal.returns
returns c = always_exclusive

-- time_law: its ensures, that the time of each accepted claim is the greatest one missed.
use Rattle.cj_world_laws.proofs.once.time_law.Goals as goal
use Rattle.cj_world_laws.proofs.OnceLemmas.Claims.{timely}

pub returns : goal.returns
returns c = timely

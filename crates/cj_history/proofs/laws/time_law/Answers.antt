-- time_law: its clause AlwaysTimely, that each claim is of the greatest time missed.
use Rattle.cj_history.proofs.Claims.{timely}
use Rattle.cj_history.proofs.laws.time_law.Goals as goal

pub returns : goal.returns
returns c = timely

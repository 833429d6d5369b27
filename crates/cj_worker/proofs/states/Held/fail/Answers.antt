-- Held::fail: its clause adds, where the history takes nothing more, so that no call is made.
use Rattle.std.proofs.Common.{refl}
use Rattle.cj_hub.proofs.Runs.{adds-none}
use Rattle.cj_worker.proofs.states.Held.fail.Goals as goal

pub returns-in-Lost-clause-adds : goal.returns-in-Lost-clause-adds
returns-in-Lost-clause-adds g c = adds-none _ _ _ _ _ (λ is. refl) refl (rw c.in-Lost.is (refl, refl))

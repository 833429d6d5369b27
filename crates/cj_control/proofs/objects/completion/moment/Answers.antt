-- moment: where the text prints no instant.
use Rattle.std.proofs.Common.{inr, refl}
use Rattle.cj_control.proofs.objects.completion.moment.Goals as goal

pub returns-in-None : goal.returns-in-None
returns-in-None c = inr ((λ t i. cc (c.in-None.ensures.only t i)), refl)

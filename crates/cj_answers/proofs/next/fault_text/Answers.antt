-- fault_text: its ensures, with the name of the cause in the line.
use Rattle.std.proofs.Common.{◌∙◌, refl}
use Rattle.std.proofs.lemmas.Result.{IfOk-weaker}
use Rattle.cj_answers.proofs.next.fault_text.Goals as goal

pub returns : goal.returns
returns c = IfOk-weaker c.format.result _ _ (λ s e. e ∙ rw c.name-cause.ensures refl) c.format.ensures.ok

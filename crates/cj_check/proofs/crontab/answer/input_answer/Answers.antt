-- input_answer: its ensures, where the zone of the machine is none that is known.
use Rattle.std.proofs.Common.{inl, inr}
use Rattle.std.proofs.lemmas.Result.{IfOk-weaker}
use Rattle.cj_check.proofs.crontab.answer.input_answer.Goals as goal

pub returns-then-is_none : goal.returns-then-is_none
returns-then-is_none g c =
    IfOk-weaker c.refused.result _ _ (λ a is. inl (inr (inr (inr (inr (inr (inl is))))))) c.refused.ensures

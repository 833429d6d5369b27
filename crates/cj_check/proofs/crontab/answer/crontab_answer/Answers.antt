-- crontab_answer: its ensures, where the form, the image or the namespace is refused.
use Rattle.std.proofs.Common.{inl, inr}
use Rattle.std.proofs.lemmas.Result.{IfOk-weaker}
use Rattle.cj_check.proofs.crontab.answer.crontab_answer.Goals as goal

pub returns-then-not-is_yaml : goal.returns-then-not-is_yaml
returns-then-not-is_yaml g c = IfOk-weaker c.refused.result _ _ (λ a is. inl (inl is)) c.refused.ensures

pub returns-then-lacks_image : goal.returns-then-lacks_image
returns-then-lacks_image g c =
    IfOk-weaker c.refused-then-lacks_image.result _ _ (λ a is. inl (inr (inl is))) c.refused-then-lacks_image.ensures

pub returns-then-not-is_namespace : goal.returns-then-not-is_namespace
returns-then-not-is_namespace g c =
    IfOk-weaker c.refused-then-not-is_namespace.result _ _ (λ a is. inl (inr (inr (inl is))))
    c.refused-then-not-is_namespace.ensures

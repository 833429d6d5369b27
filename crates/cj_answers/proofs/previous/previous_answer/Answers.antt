-- previous_answer: its ensures, by whether the form of what is printed is one that there is.
use Rattle.std.proofs.Common.{◌∙◌, sym, inl, inr}
use Rattle.std.proofs.lemmas.Result.{IfOk-weaker}
use Rattle.cj_answers.proofs.previous.previous_answer.Goals as goal

pub returns-then-is_form : goal.returns-then-is_form
returns-then-is_form c =
    IfOk-weaker c.form_answer.result _ _
    (λ a h. inr (record { known = sym c.is_form.ensures ∙ c.if-is_form.true; answer = h }))
    c.form_answer.ensures

pub returns-else-is_form : goal.returns-else-is_form
returns-else-is_form c =
    IfOk-weaker c.refused_form.result _ _
    (λ a h. inl (record { unknown = sym c.is_form.ensures ∙ c.if-is_form.false; answer = h }))
    c.refused_form.ensures

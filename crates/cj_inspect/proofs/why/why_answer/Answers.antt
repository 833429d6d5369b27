-- why_answer: its ensures, by whether the form of what is printed is known.
use Rattle.std.proofs.Common.{◌∙◌, sym, inl, inr}
use Rattle.std.proofs.lemmas.Result.{IfOk-weaker}
use Rattle.cj_inspect.proofs.why.why_answer.Goals as goal

pub returns-then-is_output : goal.returns-then-is_output
returns-then-is_output g c =
    IfOk-weaker c.known_answer.result _ _
    (λ a h. inr (record { known = sym c.is_output.ensures ∙ c.if-is_output.true; answer = h }))
    c.known_answer.ensures

pub returns-else-is_output : goal.returns-else-is_output
returns-else-is_output g c =
    IfOk-weaker c.refused_output.result _ _
    (λ a h. inl (record { unknown = sym c.is_output.ensures ∙ c.if-is_output.false; answer = h }))
    c.refused_output.ensures

-- known_audited: its ensures, by whether there are lines of those that are unknown.
use Rattle.std.proofs.Common.{◌∙◌, sym, inl, inr}
use Rattle.std.proofs.lemmas.Result.{IfOk-weaker}
use Rattle.cj_inspect.proofs.audit.known_audited.Goals as goal

pub returns-then-is_nothing : goal.returns-then-is_nothing
returns-then-is_nothing c =
    IfOk-weaker c.part_audited.result _ _
    (λ a h. inr (record { known = sym c.is_nothing.ensures ∙ c.if-is_nothing.true; audits = h }))
    c.part_audited.ensures

pub returns-else-is_nothing : goal.returns-else-is_nothing
returns-else-is_nothing c =
    IfOk-weaker c.refused_unknown.result _ _
    (λ a h. inl (record { some = sym c.is_nothing.ensures ∙ c.if-is_nothing.false; answer = h }))
    c.refused_unknown.ensures

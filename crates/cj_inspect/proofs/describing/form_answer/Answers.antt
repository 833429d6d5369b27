-- form_answer: its ensures, by whether the form of what is printed is one that there is.
use Rattle.std.specs.Prelude.{Result, Ok, Err, IfOk}
use Rattle.std.proofs.Common.{◌∙◌, sym, inl, inr, rules}
use Rattle.std.proofs.lemmas.Result.{IfOk-weaker}
use Rattle.cj_inspect.proofs.describing.form_answer.Goals as goal

-- what holds of each value holds of the one that there is
of_each : {T E : Type 0} (r : Result T E) (P : T → Type 0) → ((x : T) → P x) → IfOk r P
of_each (Ok x) P all = all x
of_each (Err e) P all = search rules

pub returns-then-is_form : goal.returns-then-is_form
returns-then-is_form g c = of_each c.file_answer.result _ (λ a. inr (sym c.is_form.ensures ∙ c.if-is_form.true))

pub returns-else-is_form : goal.returns-else-is_form
returns-else-is_form g c =
    IfOk-weaker c.refused_form.result _ _
    (λ a h. inl (record { unknown = sym c.is_form.ensures ∙ c.if-is_form.false; answer = h }))
    c.refused_form.ensures

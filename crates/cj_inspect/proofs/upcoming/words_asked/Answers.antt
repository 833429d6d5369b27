-- words_asked: its ensures, by whether the form of what is printed is one that there is.
use Rattle.std.proofs.Common.{◌∙◌, sym, inl}
use Rattle.std.proofs.lemmas.Result.{IfOk-weaker}
use Rattle.cj_inspect.proofs.AskedForms.{in_form}
use Rattle.cj_inspect.proofs.upcoming.words_asked.Goals as goal

pub returns-then-is_form : goal.returns-then-is_form
returns-then-is_form c =
    IfOk-weaker c.window_asked.result _ _
    (λ a h. in_form c.args.upcoming.now c.args.files.now a (sym c.is_form.ensures ∙ c.if-is_form.true) h)
    c.window_asked.ensures

pub returns-in_ok-refused_form : goal.returns-in_ok-refused_form
returns-in_ok-refused_form c =
    inl (record { unknown = sym c.is_form.ensures ∙ c.if-is_form.false; answer = c.in_ok-refused_form.ensures })

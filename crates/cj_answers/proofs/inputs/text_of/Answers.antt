-- text_of: its clause, since what is printed of a value reads back as it.
use Rattle.std.proofs.Common.{◌≡◌, sym, ap, subst, string_bytes}
use Rattle.std.proofs.lemmas.Str.{IsUtf8-string_bytes}
use Rattle.serde_json.specs.View.{view}
use Rattle.cj_answers.specs.Inputs.{IsTextOf}
use Rattle.cj_answers.proofs.inputs.text_of.Goals as goal

pub returns : goal.returns
returns c =
    let is : c.into_bytes.result.items ≡ string_bytes c.in_ok-text.text =
    ap (λ v. v.items) c.into_bytes.ensures.value in
    subst (IsTextOf (view c.args.value.now)) (sym is)
    (λ flat. (IsUtf8-string_bytes c.in_ok-text.text, c.in_ok-text.ensures.reads_back flat))

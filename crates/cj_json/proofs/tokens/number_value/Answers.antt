-- number_value: its text is one token, and no level.
use Rattle.std.proofs.Common.{◌∙◌, arith, inr, refl, sym}
use Rattle.serde_json.specs.Read.{number_of}
use Rattle.serde_json.specs.View.{view}
use Rattle.cj_json.proofs.TokenLemmas.{none_of, number_flat, read-number}
use Rattle.cj_json.proofs.tokens.number_value.Goals as goal

pub returns-in-Ok-clause-ok : goal.returns-in-Ok-clause-ok
returns-in-Ok-clause-ok c = sym (read-number c.args.text.now c.requires.number) ∙ c.in-Ok.ensures.ok

pub returns-in-Ok-clause-flat : goal.returns-in-Ok-clause-flat
returns-in-Ok-clause-flat c =
    number_flat (number_of c.args.text.now) (view c.in-Ok.value)
    (sym (read-number c.args.text.now c.requires.number) ∙ c.in-Ok.ensures.ok)

pub returns-in-Err-2-clause-err : goal.returns-in-Err-2-clause-err
returns-in-Err-2-clause-err c =
    inr (refl, none_of (number_of c.args.text.now) (sym (read-number c.args.text.now c.requires.number) ∙ grind arith))

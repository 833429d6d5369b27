-- utc_of: its ensures where the text is no time without an offset: it is read as a date.
use Rattle.std.proofs.Common.{◌∙◌, ◌++◌, ap, sym, codes}
use Rattle.std.proofs.lemmas.Result.{IfOk-weaker}
use Rattle.cj_answers.specs.Moments.{or_instant}
use Rattle.cj_answers.proofs.moments.utc_of.Goals as goal

pub returns-in-None : goal.returns-in-None
returns-in-None c =
    let date = c.args.text.now ++ codes "T00:00:00Z" in
    let none = sym c.in_ok-time.ensures ∙ c.in-None.is in
    IfOk-weaker c.ended-in-None.result _ _ (λ m is. is ∙ sym (ap (λ o. or_instant o date) none)) c.ended-in-None.ensures

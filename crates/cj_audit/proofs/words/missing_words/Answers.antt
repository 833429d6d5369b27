-- missing_words: its ensures, with the texts of the finding and the end in the line.
use Rattle.std.proofs.Common.{◌∙◌, refl}
use Rattle.std.proofs.lemmas.Result.{IfOk-weaker}
use Rattle.cj_audit.specs.Words.{missing_words}
use Rattle.cj_audit.proofs.words.missing_words.Goals as goal

pub returns : goal.returns
unfolding missing_words
returns c = IfOk-weaker c.format.result _ _
    (λ s e. e
    ∙ rw (c.as_str-namespace.ensures, c.as_str-cron.ensures, c.missing_end-end.ensures) refl) c.format.ensures.ok

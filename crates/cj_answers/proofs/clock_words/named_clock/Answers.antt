-- named_clock: its clause ok where a zone has the name.
use Rattle.std.proofs.Common.{◌∙◌, string_bytes, subst}
use Rattle.std.proofs.lemmas.Result.{IfOk-weaker}
use Rattle.cj_answers.specs.ClockWords.{IsClockWords, zone_mark}
use Rattle.cj_answers.proofs.Comes.{zone_same}
use Rattle.cj_answers.proofs.clock_words.named_clock.Goals as goal

pub returns-in-Some-clause-ok : goal.returns-in-Some-clause-ok
returns-in-Some-clause-ok c =
    IfOk-weaker c.text_clock.result _ _
    (λ s h. record {
      says = λ sets zone said known.
          subst (λ z. IsClockWords zone_mark sets z c.args.after (string_bytes s))
          (zone_same c.in-Some.zone.now zone (c.in-Some.ensures.found ∙ known)) (h sets said);
    }) c.text_clock.ensures.ok

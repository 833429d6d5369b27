-- text_clock: its clause ok where the text is read as a schedule, and where it is refused, as it is none then.
use Rattle.std.proofs.Common.{ap, string_bytes, subst}
use Rattle.std.proofs.lemmas.Result.{IfOk-weaker}
use Rattle.cj_answers.specs.ClockWords.{IsClockWords, zone_mark}
use Rattle.cj_answers.proofs.Comes.{meaning, text_refused}
use Rattle.cj_answers.proofs.clock_words.text_clock.Goals as goal

pub returns-in-Ok-clause-ok : goal.returns-in-Ok-clause-ok
returns-in-Ok-clause-ok c =
    IfOk-weaker c.clock_words.result _ _
    (λ s h sets said.
    subst (λ x. IsClockWords zone_mark x c.args.zone.now c.args.after (string_bytes s))
    (ap (meaning c.in-Ok.schedule) (c.in-Ok.ensures.only sets said)) h)
    c.clock_words.ensures.ok

pub returns-in-Err-clause-ok : goal.returns-in-Err-clause-ok
returns-in-Err-clause-ok c =
    λ sets said. absurd (text_refused c.args.text.now c.in-Err.field-0 c.in-Err.ensures.only sets said)

-- text_lines: its clause ok where the text is read as a schedule, and where it is refused, as it is none then.
use Rattle.std.proofs.Common.{ap, string_bytes, subst}
use Rattle.std.proofs.lemmas.Result.{IfOk-weaker}
use Rattle.std.specs.Prelude.{codes}
use Rattle.cj_zone.specs.Zones.{utc_zone}
use Rattle.cj_upcoming.specs.Changes.{changes}
use Rattle.cj_upcoming.specs.Named.{AreNamedLines}
use Rattle.cj_answers.proofs.Comes.{meaning, text_refused}
use Rattle.cj_inspect.proofs.nights.lines.text_lines.Goals as goal

pub returns-in-Ok-clause-ok : goal.returns-in-Ok-clause-ok
returns-in-Ok-clause-ok c =
    IfOk-weaker c.schedule_lines.result _ _
    (λ s h sets said.
    subst (λ x. AreNamedLines x c.args.zone.now (utc_zone (codes "UTC"))
    (changes c.args.zone.now c.args.after c.args.last) (string_bytes s))
    (ap (meaning c.in-Ok.schedule) (c.in-Ok.ensures.only sets said)) h)
    c.schedule_lines.ensures.ok

pub returns-in-Err-clause-ok : goal.returns-in-Err-clause-ok
returns-in-Err-clause-ok c =
    λ sets said. absurd (text_refused c.args.text.now c.in-Err.field-0 c.in-Err.ensures.only sets said)

-- schedule_of: its clause only, since a text has one schedule.
use Rattle.std.proofs.Common.{◌∙◌, sym, ap, subst}
use Rattle.std.specs.Result.{result_ok}
use Rattle.cj_schedule.specs.Grammar.{IsSchedule}
use Rattle.cj_upcoming.proofs.clock.schedule_of.Goals as goal

pub returns-clause-only : goal.returns-clause-only
returns-clause-only c = λ s h.
    c.ok.ensures.value
    ∙ ap result_ok (c.parse.ensures.only s (subst (λ text. IsSchedule text s) (sym c.as_str.ensures) h))

-- schedule_of: its clause only, since a text has one schedule.
use Rattle.std.proofs.Common.{◌∙◌, sym, ap, subst}
use Rattle.std.specs.Result.{result_ok}
use Rattle.cj_types.specs.declared.cron.CronSpec.{CronSpec}
use Rattle.cj_schedule.specs.Grammar.{IsSchedule}
use Rattle.cj_history.proofs.gaps.find.schedule_of.Goals as goal

pub returns-clause-only : goal.returns-clause-only
returns-clause-only c = λ s h.
    let text = c.as_str.ensures ∙ ap (λ (x : CronSpec). x.schedule) c.get.ensures in
    c.ok.ensures.value ∙ ap result_ok (c.parse.ensures.only s (subst (λ t. IsSchedule t s) (sym text) h))

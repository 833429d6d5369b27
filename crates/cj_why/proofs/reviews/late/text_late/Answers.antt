-- text_late: its ensures where the text does not parse, and so is no schedule.
use Rattle.std.proofs.Common.{inr, refl, subst, sym, ap, ◌∙◌, List, ℕ}
use Rattle.cj_types.specs.declared.cron.CronSpec.{CronSpec}
use Rattle.cj_schedule.specs.Grammar.{IsSchedule}
use Rattle.cj_why.proofs.reviews.late.text_late.Goals as goal

pub returns-in-Err : goal.returns-in-Err
returns-in-Err c =
    let text = c.as_str.ensures ∙ ap (λ (x : CronSpec). x.schedule) c.deref.ensures in
    inr (
      (λ s h.
          let e = c.in-Err.ensures.only s (subst (λ (t : List ℕ). IsSchedule t s) (sym text) h) in
          absurd (cc)),
      refl,
    )

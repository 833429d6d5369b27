-- schedule_advice: its ensures where the zone is known.
use Rattle.std.proofs.Common.{◌∙◌, subst, sym}
use Rattle.cj_schedule.specs.Grammar.{IsSchedule}
use Rattle.cj_answers.specs.Coming.{IsComing}
use Rattle.cj_answers.proofs.Comes.{zone_same}
use Rattle.cj_answers.proofs.coming.schedule_advice.Goals as goal

pub returns-in-Some : goal.returns-in-Some
returns-in-Some c = record {
  says = λ sets zone said known.
      subst (λ z. IsComing sets z c.text_coming.result.now)
      (zone_same c.in-Some.zone.now zone (c.in-Some.ensures ∙ known))
      (c.text_coming.ensures sets (subst (λ t. IsSchedule t sets) (sym c.as_str.ensures) said));
}

-- spec_standing: its ensures where there is no schedule, and where one comes or doesn't.
use Rattle.std.proofs.Common.{◌≡◌, ◌∙◌, Some, None, refl, sym}
use Rattle.cj_schedule.specs.Matches.{Sets}
use Rattle.cj_upcoming.proofs.standing.spec_standing.Goals as goal

-- A schedule isn't none.
some_none : (s : Sets) → None ≡ Some s → ⊥
some_none s e = absurd (cc e)

pub returns-in_default : goal.returns-in_default
returns-in_default c = record {
  runs = c.if-spec.false;
  none = λ s z h. some_none s (sym c.in_default.is ∙ c.schedule_of.ensures.only s h.reads);
}

pub returns-in-Some-due_from : goal.returns-in-Some-due_from
returns-in-Some-due_from c = record {
  runs = c.if-spec.false;
  schedule = c.in-Some.schedule;
  zone = c.in-Some-zone_for.zone.now;
  clock = record { reads = c.in-Some.ensures.found c.in-Some.schedule refl; in_zone = sym c.in-Some-zone_for.ensures };
  time = c.in-Some-due_from.field-0;
  above = c.in-Some-due_from.ensures.some.above;
  near = c.in-Some-due_from.ensures.some.near;
  due_then = c.in-Some-due_from.ensures.some.due_then;
}

pub returns-in-None : goal.returns-in-None
returns-in-None c = record {
  runs = c.if-spec.false;
  schedule = c.in-Some.schedule;
  zone = c.in-Some-zone_for.zone.now;
  clock = record { reads = c.in-Some.ensures.found c.in-Some.schedule refl; in_zone = sym c.in-Some-zone_for.ensures };
  none = c.in-None.ensures.none refl;
}

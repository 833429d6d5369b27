-- form_answer: its ensures where schedule, start and zone are read and the schedule is described.
use Rattle.std.proofs.Common.{◌∙◌, refl, sym, inr, string_bytes}
use Rattle.cj_answers.proofs.describe.form_answer.Goals as goal

pub returns : goal.returns
returns c = inr (inr (inr (record {
  sets = c.in-Ok.schedule;
  schedule = c.in-Ok.ensures.found;
  after = c.in-Some.after;
  start = sym c.in_ok-after.ensures ∙ c.in-Some.is;
  zone = c.default_zone-zone.result.now;
  is_zone = c.in-Ok-zones_for.ensures.ok c.default_zone-zone.result.now c.default_zone-zone.ensures;
  text = string_bytes c.in_ok-printed.field-0;
  described = c.in_ok-printed.ensures.ok;
  answer = rw c.new.ensures.bytes refl;
})))

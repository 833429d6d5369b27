-- form_answer: its ensures where schedule, moment and zone are read and the due times are printed.
use Rattle.std.proofs.Common.{◌∙◌, inr, sym}
use Rattle.std.proofs.lemmas.Result.{IfOk-weaker}
use Rattle.cj_answers.proofs.previous.form_answer.Goals as goal

pub returns : goal.returns
returns c =
    IfOk-weaker c.times_answer.result _ _
    (λ a h. inr (inr (inr (record {
      sets = c.in-Ok.schedule;
      schedule = c.in-Ok.ensures.found;
      before = c.in-Some.before;
      start = sym c.in_ok-before.ensures ∙ c.in-Some.is;
      zone = c.default_zone.result.now;
      is_zone = c.in-Ok-zones_for.ensures.ok c.default_zone.result.now c.default_zone.ensures;
      tells = h;
    })))) c.times_answer.ensures

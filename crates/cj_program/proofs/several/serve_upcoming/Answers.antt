-- serve_upcoming: its clause given, of the answer that was given.
use Rattle.cj_program.proofs.Formed.{in_form_by}
use Rattle.cj_program.proofs.GivenFiles.{given_one}
use Rattle.cj_program.proofs.several.serve_upcoming.Goals as goal

pub returns : goal.returns
returns g c = record {
  given = λ lt. given_one c.formed_by.result _ _ _ _ _ _
      (in_form_by _ _ _ _ c.upcoming_files_answer-answer.result c.formed_by.result
      _ c.upcoming_files_answer-answer.ensures c.formed_by.ensures)
      (c.give_answer.ensures.given lt);
}

-- serve_several: its clause given, where each file could be read.
use Rattle.cj_program.proofs.Formed.{in_form}
use Rattle.cj_program.proofs.GivenFiles.{given_one}
use Rattle.cj_program.proofs.several.serve_several.Goals as goal

pub returns-clause-given : goal.returns-clause-given
returns-clause-given g c = λ lt. given_one c.formed.result _ _ _ _ _ _
    (in_form _ c.several_answer-answer.result c.formed.result _ c.several_answer-answer.ensures c.formed.ensures)
    (c.give_answer-status.ensures.given lt)

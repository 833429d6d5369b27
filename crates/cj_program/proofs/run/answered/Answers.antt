-- answered: its ensures, from what is answered of the run.
use Rattle.std.proofs.Common.{ℕ, string_bytes, subst}
use Rattle.cj_run.specs.Runs.{IsRun}
use Rattle.cj_program.proofs.run.answered.Goals as goal

pub returns : goal.returns
returns g c = λ given said.
    let ran = c.in_ok-ran.ran in
    let simulation = c.args.simulation.now in
    c.named_answer.ensures given said
    (subst (λ (workers : ℕ). IsRun simulation workers ran.closed (string_bytes ran.report)) c.from.ensures
    c.in_ok-ran.ensures.ok)

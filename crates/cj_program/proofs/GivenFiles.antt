-- What is given of several files.
use Rattle.std.proofs.Common.{ℕ, List}
use Rattle.std.specs.Prelude.{Option, Result, Ok, Err, IfOk}
use Rattle.std.specs.Result.{IsOkAnd}
use Rattle.cj_io.specs.declared.exit_status.ExitStatus.{ExitStatus}
use Rattle.cj_io.specs.declared.failure.Failure.{Failure}
use Rattle.cj_answers.specs.declared.answer.Answer.{Answer}
use Rattle.cj_answers.specs.Outcome.{Outcome, outcome_of}
use Rattle.cj_program.specs.Writing.{IsGiven}

-- For serve_several and serve_upcoming, clause given: an answer of which this holds, and that was given.
pub given_one : (r : Result Answer Failure) (Is : Outcome → Type 0) (status : ExitStatus)
    (out out' err err' : Option (List ℕ))
    → IfOk r (λ a. Is (outcome_of a)) → IsOkAnd r (λ a. IsGiven status (outcome_of a) out out' err err')
    → (o : Outcome) × Is o × IsGiven status o out out' err err'
given_one (Ok a) Is status out out' err err' is g = (outcome_of a, is, g)
given_one (Err e) Is status out out' err err' is g = absurd g

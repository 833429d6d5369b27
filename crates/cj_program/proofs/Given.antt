-- What a request is given, of the answer that was made for it.
use Rattle.std.proofs.Common.{◌≡◌, ◌⊎◌, inl, inr, ℕ, List, subst, sym}
use Rattle.std.specs.Prelude.{Option, Result, Ok, Err, IfOk}
use Rattle.std.specs.Result.{IsOkAnd}
use Rattle.std.specs.Io.KnownBytes.{Appends}
use Rattle.cj_io.specs.declared.exit_status.ExitStatus.{ExitStatus}
use Rattle.cj_io.specs.declared.failure.Failure.{Failure}
use Rattle.cj_answers.specs.declared.answer.Answer.{Answer}
use Rattle.cj_args.specs.declared.request.Request.{Request}
use Rattle.cj_io.specs.declared.zone_files.file.ZoneFile.{ZoneFile}
use Rattle.cj_program.specs.Answers.{IsOutcome}
use Rattle.cj_answers.specs.Outcome.{Outcome, outcome_of, status_of}
use Rattle.cj_program.specs.Writing.{FailsAnswer, IsCut, IsFailed, IsGiven, IsUnanswered}

-- files are the zone files that were read for the request, input is its input; out and err are the outputs before it,
-- out' and err' after it.
module _ (request : Request) (files : List ZoneFile) (input out out' err err' : Option (List ℕ)) where
  -- An answer for the request that was given is an outcome of it, with its status and its texts.
  pub served : (r : Result Answer Failure) (status : ExitStatus)
      → IfOk r (λ a. IsOutcome request files input (outcome_of a))
      → IsOkAnd r (λ a. IsGiven status (outcome_of a) out out' err err')
      → (o : Outcome) × IsOutcome request files input o × (status ≡ status_of o.ending) × Appends out out' o.printed
      × Appends err err' o.said
  served (Ok a) status is g = (outcome_of a, is, g.status_is, g.printed, g.said)
  served (Err e) status is g = absurd g

  -- For serve, clause failed: with no answer, or one that was cut off, the request failed.
  pub cut : (r : Result Answer Failure) → IfOk r (λ a. IsOutcome request files input (outcome_of a))
      → IsUnanswered out out' err err' ⊎ IsOkAnd r
      (λ a. IsCut (outcome_of a).printed (outcome_of a).said out out' err err')
      → FailsAnswer request files input out out' err err'
  cut r is (inl u) = inl u
  cut (Ok a) is (inr c) = inr (record { outcome = outcome_of a; answer = is; cut = c })
  cut (Err e) is (inr c) = absurd c

  -- For serve, clause served: an answer given for what the request is found to be is its outcome.
  pub served_at : (request' : Request) → request ≡ request' → (r : Result Answer Failure) (status : ExitStatus)
      → IfOk r (λ a. IsOutcome request' files input (outcome_of a))
      → IsOkAnd r (λ a. IsGiven status (outcome_of a) out out' err err')
      → (o : Outcome) × IsOutcome request files input o × (status ≡ status_of o.ending) × Appends out out' o.printed
      × Appends err err' o.said
  served_at request' e r status is g = served r status
      (subst (λ (q : Request). IfOk r (λ a. IsOutcome q files input (outcome_of a))) (sym e) is) g

  -- a script that was run
  pub replayed_at : (request' : Request) → request ≡ request' → (status : ExitStatus)
      → (o : Outcome) × IsOutcome request' files input o × (status ≡ status_of o.ending) × Appends out out' o.printed
      × Appends err err' o.said
      → (o : Outcome) × IsOutcome request files input o × (status ≡ status_of o.ending) × Appends out out' o.printed
      × Appends err err' o.said
  replayed_at request' e status x = (x.0, subst (λ (q : Request). IsOutcome q files input x.0) (sym e) x.1, x.2, x.3, x.4)

  -- For serve, clause failed: where what the request is found to be failed, the request failed.
  pub failed_at : (request' : Request) → request ≡ request' → IsFailed request' files input out out' err err'
      → IsFailed request files input out out' err err'
  failed_at request' e x = subst (λ (q : Request). IsFailed q files input out out' err err') (sym e) x

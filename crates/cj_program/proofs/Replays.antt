-- What `replay` is answered, by the form that its words ask for.
use Rattle.std.proofs.Common.{◌≡◌, ◌⊎◌, inl, inr, ℕ, List, Bool, true, false, subst, sym}
use Rattle.std.specs.Prelude.{Option, Result, Ok, Err, IfOk, codes}
use Rattle.std.specs.Result.{IsOkAnd}
use Rattle.std.specs.Io.KnownBytes.{Appends}
use Rattle.cj_io.specs.declared.exit_status.ExitStatus.{ExitStatus}
use Rattle.cj_io.specs.declared.failure.Failure.{Failure}
use Rattle.cj_io.specs.declared.zone_files.file.ZoneFile.{ZoneFile}
use Rattle.cj_args.specs.declared.request.ReplayRequest.{ReplayRequest}
use Rattle.cj_answers.specs.declared.answer.Answer.{Answer}
use Rattle.cj_answers.specs.Outcome.{Outcome, explained, outcome_of, refusal, status_of}
use Rattle.cj_answers.specs.as_json.Forms.{form_words, is_form, is_json}
use Rattle.cj_program.specs.Replay.{IsReplayBy, IsReplayLines, IsReplayOutcome}
use Rattle.cj_program.specs.Writing.{FailsLines, FailsReplay, FailsReplayBy, IsCut, IsGiven, IsUnanswered}

-- r is the request, files are the zone files that were read for it, and input is its input; out and err are the outputs
-- before it, out' and err' after it.
module _ (r : ReplayRequest) (files : List ZoneFile) (input out out' err err' : Option (List ℕ)) where
  -- what an answer of such a form is
  by_form : (b : Bool) → is_json r.output.now ≡ b → (o : Outcome) → IsReplayBy b r files input o
      → IsReplayOutcome r files input o
  by_form b e o is = subst (λ (x : Bool). IsReplayBy x r files input o) (sym e) is

  -- and what it is where that fails
  fails_by : (b : Bool) → is_json r.output.now ≡ b → FailsReplayBy b r files input out out' err err'
      → FailsReplay r files input out out' err err'
  fails_by b e x = subst (λ (y : Bool). FailsReplayBy y r files input out out' err err') (sym e) x

  -- where nothing was answered
  unanswered_by : (b : Bool) → IsUnanswered out out' err err' → FailsReplayBy b r files input out out' err err'
  unanswered_by true u = inl u
  unanswered_by false u = inl u

  -- where the answer was cut off
  cut_by : (b : Bool) → (o : Outcome) → IsReplayOutcome r files input o → IsCut o.printed o.said out out' err err'
      → FailsReplayBy b r files input out out' err err'
  cut_by true o is c = inr (record { outcome = o; answer = is; cut = c })
  cut_by false o is c = inr (inl (record { outcome = o; answer = is; cut = c }))

  -- For serve_replay, clause served: one answer that was given.
  pub answer_served : (b : Bool) → is_json r.output.now ≡ b → (made : Result Answer Failure) (status : ExitStatus)
      → IfOk made (λ a. IsReplayBy b r files input (outcome_of a))
      → IsOkAnd made (λ a. IsGiven status (outcome_of a) out out' err err')
      → (o : Outcome) × IsReplayOutcome r files input o × (status ≡ status_of o.ending) × Appends out out' o.printed
      × Appends err err' o.said
  answer_served b e (Ok a) status is g = (
    outcome_of a,
    by_form b e (outcome_of a) is,
    g.status_is,
    g.printed,
    g.said,
  )
  answer_served b e (Err x) status is g = absurd g

  -- For serve_replay, clause failed: one answer that there isn't, or that was cut off.
  pub answer_failed : (b : Bool) → is_json r.output.now ≡ b → (made : Result Answer Failure)
      → IfOk made (λ a. IsReplayBy b r files input (outcome_of a))
      → IsUnanswered out out' err err' ⊎ IsOkAnd made
      (λ a. IsCut (outcome_of a).printed (outcome_of a).said out out' err err')
      → FailsReplay r files input out out' err err'
  answer_failed b e made is (inl u) = fails_by b e (unanswered_by b u)
  answer_failed b e (Ok a) is (inr c) =
      fails_by b e (cut_by b (outcome_of a) (by_form b e (outcome_of a) is) c)
  answer_failed b e (Err x) is (inr c) = absurd c

  -- The words ask for lines.
  module _ (no : is_json r.output.now ≡ false) where
    -- of a form that there is
    lines : is_form r.output.now ≡ true → (o : Outcome) → IsReplayLines r files input o
        → IsReplayOutcome r files input o
    lines known o is = by_form false no o (inr (record { known = known; answer = is }))

    -- For serve_replay, clause served: what was answered in lines.
    pub lines_served : is_form r.output.now ≡ true → (status : ExitStatus)
        → (o : Outcome) × IsReplayLines r files input o × (status ≡ status_of o.ending) × Appends out out' o.printed
        × Appends err err' o.said
        → (o : Outcome) × IsReplayOutcome r files input o × (status ≡ status_of o.ending) × Appends out out' o.printed
        × Appends err err' o.said
    lines_served known status x = (x.0, lines known x.0 x.1, x.2, x.3, x.4)

    -- For serve_replay, clause failed: what failed in lines.
    pub lines_failed : is_form r.output.now ≡ true → FailsLines r files input out out' err err'
        → FailsReplay r files input out out' err err'
    lines_failed known (inl u) = fails_by false no (inl u)
    lines_failed known (inr (inl c)) = fails_by false no (cut_by false c.outcome (lines known c.outcome c.answer) c.cut)
    lines_failed known (inr (inr f)) = fails_by false no (inr (inr f))

-- For serve_replay: the refusal of a form that there is none of.
pub no_form : (r : ReplayRequest) (files : List ZoneFile) (input : Option (List ℕ)) → is_form r.output.now ≡ false
    → (made : Result Answer Failure)
    → IfOk made (λ a. outcome_of a ≡ explained r.explain form_words (refusal (codes "cronsim: output\n")))
    → IfOk made (λ a. IsReplayBy false r files input (outcome_of a))
no_form r files input unknown (Ok a) is = inl (record { unknown = unknown; answer = is })
no_form r files input unknown (Err x) is = is

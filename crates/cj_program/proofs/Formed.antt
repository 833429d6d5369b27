-- Answers in the form and by the clock that the words ask for.
use Rattle.std.proofs.Common.{List, ℕ, Bool, Option, Result, Ok, Err, rules}
use Rattle.std.specs.Prelude.{IfOk}
use Rattle.std.specs.Borrow.{Bor}
use Rattle.cj_io.specs.declared.zone_files.file.ZoneFile.{ZoneFile}
use Rattle.cj_answers.specs.Outcome.{Outcome, outcome_of}
use Rattle.cj_answers.specs.declared.answer.Answer.{Answer}
use Rattle.cj_io.specs.declared.failure.Failure.{Failure}
use Rattle.cj_program.specs.Forms.{InForm, InFormBy, IsFormed, IsFormedBy}

-- what holds of an answer holds of one that is shown in the form
pub in_form : (output : List ℕ) (answer shown : Result Answer Failure) (Is : Outcome → Type 0)
    → IfOk answer (λ a. Is (outcome_of a)) → IfOk shown (λ a. IsFormed output answer (outcome_of a))
    → IfOk shown (λ a. InForm output Is (outcome_of a))
in_form output (Ok x) (Ok a) Is is h = record { made = outcome_of x; is = is; shown = h }
in_form output (Err e) (Ok a) Is is h = absurd h
in_form output answer (Err e) Is is h = search rules

-- The same of one that is also shown by a clock. word is the zone that is given, if one is.
module _ (output : List ℕ) (explain : Bool) (word : Option (Bor (List ℕ))) (files : List ZoneFile) where
  pub in_form_by : (answer shown : Result Answer Failure) (Is : Outcome → Type 0) → IfOk answer (λ a. Is (outcome_of a))
      → IfOk shown (λ a. IsFormedBy output explain word files answer (outcome_of a))
      → IfOk shown (λ a. InFormBy output explain word files Is (outcome_of a))
  in_form_by (Ok x) (Ok a) Is is h = record { made = outcome_of x; is = is; shown = h }
  in_form_by (Err e) (Ok a) Is is h = absurd h
  in_form_by answer (Err e) Is is h = search rules

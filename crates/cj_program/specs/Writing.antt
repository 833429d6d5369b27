-- What standard output and standard error hold where a writer fails.
use Rattle.std.specs.Prelude.{◌≡◌, ◌⊎◌, ℕ, Bool, false, true, List, Option}
use Rattle.std.specs.Io.KnownBytes.{Appends, Keeps}
use Rattle.cj_io.specs.declared.exit_status.ExitStatus.{ExitStatus}
use Rattle.cj_io.specs.declared.failure.Failure.{Failure}
use Rattle.cj_io.specs.Statuses.{failure_line}
use Rattle.cj_io.specs.Writing.{AppendsSome}
use Rattle.cj_args.specs.declared.request.ReplayRequest.{ReplayRequest}
use Rattle.cj_args.specs.declared.request.Request.{Request}
use Rattle.cj_args.specs.declared.request.Request.TheVariants.{Audit, Check, Control, Crontab, Describe, Next, Plan, Previous, Replay, Report, Run, Scenario, Upcoming, Why}
use Rattle.cj_io.specs.declared.zone_files.file.ZoneFile.{ZoneFile}
use Rattle.cj_program.specs.Answers.{IsOutcome}
use Rattle.cj_answers.specs.Outcome.{Outcome, status_of}
use Rattle.cj_answers.specs.as_json.Forms.{is_json}
use Rattle.cj_program.specs.Replay.{IsFailedRun, IsReplayLines, IsReplayOutcome}

-- standard output was cut off, and a line on standard error names the failure
pub record IsOutputCut (printed : List ℕ) (out out' err err' : Option (List ℕ)) : Type 0 where
  pub failure : Failure
  pub begun : AppendsSome out out' printed
  pub told : AppendsSome err err' (failure_line failure)

-- standard error was cut off, after all was printed
pub record IsErrorCut (printed said : List ℕ) (out out' err err' : Option (List ℕ)) : Type 0 where
  pub whole : Appends out out' printed
  pub begun : AppendsSome err err' said

-- what two texts left where one couldn't be written
abbrev pub IsCut : List ℕ → List ℕ → Option (List ℕ) → Option (List ℕ) → Option (List ℕ)
    → Option (List ℕ) → Type 0
IsCut printed said out out' err err' = IsOutputCut printed out out' err err'
    ⊎ IsErrorCut printed said out out' err err'

-- an outcome was given, and its status is this one
pub record IsGiven (status : ExitStatus) (o : Outcome) (out out' err err' : Option (List ℕ))
    : Type 0 where
  pub status_is : status ≡ status_of o.ending
  pub printed : Appends out out' o.printed
  pub said : Appends err err' o.said

-- there is no answer: nothing was printed, and a line on standard error names the failure
pub record IsUnanswered (out out' err err' : Option (List ℕ)) : Type 0 where
  pub failure : Failure
  pub nothing : Keeps out out'
  pub told : AppendsSome err err' (failure_line failure)

-- the answer of the request was cut off
pub record IsAnswerCut (request : Request) (files : List ZoneFile)
    (input out out' err err' : Option (List ℕ)) : Type 0 where
  pub outcome : Outcome
  pub answer : IsOutcome request files input outcome
  pub cut : IsCut outcome.printed outcome.said out out' err err'

-- the answer of `replay` was cut off
pub record IsRefusalCut (r : ReplayRequest) (files : List ZoneFile)
    (input out out' err err' : Option (List ℕ)) : Type 0 where
  pub outcome : Outcome
  pub answer : IsReplayOutcome r files input outcome
  pub cut : IsCut outcome.printed outcome.said out out' err err'

-- the refusal of `replay` in lines was cut off
pub record AreLinesCut (r : ReplayRequest) (files : List ZoneFile)
    (input out out' err err' : Option (List ℕ)) : Type 0 where
  pub outcome : Outcome
  pub answer : IsReplayLines r files input outcome
  pub cut : IsCut outcome.printed outcome.said out out' err err'

-- `replay` failed in lines
abbrev pub FailsLines : ReplayRequest → List ZoneFile → Option (List ℕ) → Option (List ℕ)
    → Option (List ℕ) → Option (List ℕ) → Option (List ℕ) → Type 0
FailsLines r files input out out' err err' =
    IsUnanswered out out' err err' ⊎ AreLinesCut r files input out out' err err'
    ⊎ IsFailedRun r files input out out' err err'

-- where one value is wanted, nothing of it is printed before all of it is known
-- rule: replay-json
abbrev pub FailsReplayBy : Bool → ReplayRequest → List ZoneFile → Option (List ℕ)
    → Option (List ℕ) → Option (List ℕ) → Option (List ℕ) → Option (List ℕ) → Type 0
FailsReplayBy true r files input out out' err err' =
    IsUnanswered out out' err err' ⊎ IsRefusalCut r files input out out' err err'
FailsReplayBy false r files input out out' err err' =
    IsUnanswered out out' err err' ⊎ IsRefusalCut r files input out out' err err'
    ⊎ IsFailedRun r files input out out' err err'

-- `replay` failed
-- rule: statuses
abbrev pub FailsReplay : ReplayRequest → List ZoneFile → Option (List ℕ) → Option (List ℕ)
    → Option (List ℕ) → Option (List ℕ) → Option (List ℕ) → Type 0
FailsReplay r files input out out' err err' =
    FailsReplayBy (is_json r.output.now) r files input out out' err err'

-- another command did
abbrev pub FailsAnswer : Request → List ZoneFile → Option (List ℕ) → Option (List ℕ)
    → Option (List ℕ) → Option (List ℕ) → Option (List ℕ) → Type 0
FailsAnswer request files input out out' err err' = IsUnanswered out out' err err'
    ⊎ IsAnswerCut request files input out out' err err'

-- a request that failed
-- rule: statuses
abbrev pub IsFailed : Request → List ZoneFile → Option (List ℕ) → Option (List ℕ) → Option (List ℕ)
    → Option (List ℕ) → Option (List ℕ) → Type 0
IsFailed (Replay r) files input out out' err err' = FailsReplay r files input out out' err err'
IsFailed (Next r) files input out out' err err' = FailsAnswer (Next r) files input out out' err err'
IsFailed (Check r) files input out out' err err'
    = FailsAnswer (Check r) files input out out' err err'
IsFailed (Plan r) files input out out' err err' = FailsAnswer (Plan r) files input out out' err err'
IsFailed (Run r) files input out out' err err' = FailsAnswer (Run r) files input out out' err err'
IsFailed (Why r) files input out out' err err' = FailsAnswer (Why r) files input out out' err err'
IsFailed (Audit r) files input out out' err err'
    = FailsAnswer (Audit r) files input out out' err err'
IsFailed (Upcoming r) files input out out' err err'
    = FailsAnswer (Upcoming r) files input out out' err err'
IsFailed (Describe r) files input out out' err err'
    = FailsAnswer (Describe r) files input out out' err err'
IsFailed (Previous r) files input out out' err err'
    = FailsAnswer (Previous r) files input out out' err err'
IsFailed (Report r) files input out out' err err'
    = FailsAnswer (Report r) files input out out' err err'
IsFailed (Crontab r) files input out out' err err'
    = FailsAnswer (Crontab r) files input out out' err err'
IsFailed (Scenario r) files input out out' err err'
    = FailsAnswer (Scenario r) files input out out' err err'
IsFailed (Control r) files input out out' err err'
    = FailsAnswer (Control r) files input out out' err err'

-- What each request is answered.
use Rattle.std.specs.Prelude.{ℕ, List, Option}
use Rattle.cj_inspect.specs.Audit.{IsAuditOutcome}
use Rattle.cj_check.specs.CheckOutcome.{IsCheckOutcome}
use Rattle.cj_check.specs.CrontabOutcome.{IsCrontabOutcome}
use Rattle.cj_answers.specs.Outcome.{IsNextOutcome, Outcome}
use Rattle.cj_answers.specs.Previous.{IsPreviousOutcome}
use Rattle.cj_check.specs.Plan.{IsPlanOutcome}
use Rattle.cj_inspect.specs.Describing.{IsDescribed}
use Rattle.cj_inspect.specs.Report.{IsReportOutcome}
use Rattle.cj_inspect.specs.Scenario.{IsScenarioAnswer}
use Rattle.cj_inspect.specs.Upcoming.{IsUpcomingOutcome}
use Rattle.cj_inspect.specs.Why.{IsWhyOutcome}
use Rattle.cj_io.specs.declared.zone_files.file.ZoneFile.{ZoneFile}
use Rattle.cj_program.specs.Forms.{InForm, InFormBy}
use Rattle.cj_program.specs.Replay.{IsReplayOutcome}
use Rattle.cj_program.specs.Run.{IsRunOutcome}
use Rattle.cj_args.specs.declared.request.Request.{Request}
use Rattle.cj_args.specs.declared.request.Request.TheVariants.{Audit, Check, Control, Crontab, Describe, Next, Plan, Previous, Replay, Report, Run, Scenario, Upcoming, Why}

-- the outcome of a request, with the zone files that were read for it, on an input, where what it
-- holds is known; a controller has no outcome, since it reads and writes line after line
-- rules: statuses, local-times, output-yaml
abbrev pub IsOutcome : Request → List ZoneFile → Option (List ℕ) → Outcome → Type 0
IsOutcome (Next r) files input o = InForm r.output.now (λ m. IsNextOutcome r files m) o
IsOutcome (Check r) files input o = InForm r.output.now (λ m. IsCheckOutcome r files input m) o
IsOutcome (Plan r) files input o = InForm r.output.now (λ m. IsPlanOutcome r files input m) o
IsOutcome (Replay r) files input o = IsReplayOutcome r files input o
IsOutcome (Run r) files input o = InFormBy r.output.now r.explain r.clock.zone files
    (λ m. IsRunOutcome r files input m) o
IsOutcome (Why r) files input o = InFormBy r.output.now r.explain r.clock.zone files
    (λ m. IsWhyOutcome r files input m) o
IsOutcome (Audit r) files input o = InFormBy r.output.now r.explain r.clock.zone files
    (λ m. IsAuditOutcome r files input m) o
IsOutcome (Upcoming r) files input o = InFormBy r.output.now r.explain r.clock.zone files
    (λ m. IsUpcomingOutcome r files input m) o
IsOutcome (Describe r) files input o = InForm r.output.now (λ m. IsDescribed r files m) o
IsOutcome (Previous r) files input o = InForm r.output.now (λ m. IsPreviousOutcome r files m) o
IsOutcome (Report r) files input o = IsReportOutcome r files o
IsOutcome (Scenario r) files input o = IsScenarioAnswer r files o
IsOutcome (Crontab r) files input o = IsCrontabOutcome r input o
IsOutcome (Control r) files input o = ⊥

-- What the run of a script prints: the lines of its steps, and the report of the end.
use Rattle.std.specs.Prelude.{◌≡◌, ◌⊎◌, ℕ, Bool, List, [], ◌++◌}
use Rattle.cj_calls.specs.Rows.{Told}
use Rattle.cj_world_laws.specs.Promise.{KeepsPromise}
use Rattle.cj_report.specs.Reports.{report_of}
use Rattle.cj_script.specs.declared.script.Script.{Script}
use Rattle.cj_script.specs.declared.step.Step.{Step}
use Rattle.cj_replay.specs.Runs.{MakesAll}

-- all steps were made on an empty world, and the report follows; and whether the history was found
-- full
-- rules: replay-lines, replay-report, replay-full
pub record IsReplayed (s : Script) (text : List ℕ) (full : Bool) : Type 0 where
  pub history : List Told
  pub lines : List ℕ
  pub makes : MakesAll s.zones s.limits [] s.steps.items lines full history
  pub promise : KeepsPromise s.limits.window history
  pub printed : text ≡ lines ++ report_of s.limits.window history

-- the lines of the first of its steps
pub record IsBegun (s : Script) (text : List ℕ) : Type 0 where
  pub done : List Step
  pub left : List Step
  pub steps : s.steps.items ≡ done ++ left
  pub full : Bool
  pub history : List Told
  pub makes : MakesAll s.zones s.limits [] done text full history

-- the run as far as it came where memory or a writer failed
-- rule: replay-cut
abbrev pub IsPartOf : Script → List ℕ → Type 0
IsPartOf s text = IsBegun s text ⊎ ((full : Bool) × IsReplayed s text full)

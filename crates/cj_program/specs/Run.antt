-- What `run` answers of a scenario.
use Rattle.std.specs.Prelude.{◌≡◌, ◌≢◌, ◌⊎◌, ℕ, ◌≤◌, List, ◌++◌, length, Option, IfSome, Bool, codes}
use Rattle.cj_scenario.specs.declared.fault.SceneFault.{SceneFault}
use Rattle.cj_scenario.specs.declared.fault.SceneFault.TheVariants as Why
use Rattle.cj_scenario.specs.declared.detection.form.Form.TheVariants as A
use Rattle.cj_script.specs.simulation.Simulations.{IsSimulation, IsRefusedSimulation}
use Rattle.cj_script.specs.declared.simulation.scenario.Simulation.{Simulation}
use Rattle.cj_world.specs.Worlds.{WorldLog}
use Rattle.cj_run.specs.Runs.{IsRun}
use Rattle.cj_program.specs.Shown.{IsShown}
use Rattle.cj_program.specs.remarks.Remarks.{IsAskedRemark, most_lines}
use Rattle.cj_args.specs.declared.request.RunRequest.{RunRequest}
use Rattle.cj_io.specs.declared.zone_files.file.ZoneFile.{ZoneFile}
use Rattle.cj_io.specs.declared.zone_files.given.GivenZones.{GivenZones}
use Rattle.cj_answers.specs.Given.{IsReadUnder, RefusesRule}
use Rattle.cj_answers.specs.Outcome.{IsInForm, Outcome, RefusesForm, done, explained, refusal}
use Rattle.cj_check.specs.Plan.{IsAskedDetection, IsSceneRefusal}

-- the bytes are no scenario of a run, for another cause than memory
pub record RefusesSimulation (explain : Bool) (given : GivenZones) (bytes : List ℕ) (o : Outcome)
    : Type 0 where
  pub fault : SceneFault
  pub refused : IsRefusedSimulation given bytes fault
  pub told : fault ≢ Why.Memory
  pub says : IsSceneRefusal explain A.Simulation bytes fault o

-- the report of a run of the scenario that they say, with that many workers, or what else of its
-- history is asked for; behind it, where people ask for it, what nobody read of the scenario, and
-- what its history says of edits, starts, gaps and suspended CronJobs
pub record PrintsReport (r : RunRequest) (given : GivenZones) (bytes : List ℕ) (o : Outcome)
    : Type 0 where
  pub simulation : Simulation
  pub said : IsSimulation given bytes simulation
  pub log : WorldLog
  pub text : List ℕ
  pub run : IsRun simulation r.workers log text
  pub printed : List ℕ
  pub shown : IsShown r simulation.span simulation.zones log text printed
  pub seen : List ℕ
  pub looked : IsAskedDetection r.explain A.Simulation bytes seen
  pub remark : List ℕ
  pub remarked : IsAskedRemark r.explain most_lines simulation.span simulation.zones log
      remark
  pub answer : o ≡ explained r.explain (seen ++ remark) (done printed)

-- a run of the scenario has no event of a CronJob that is named for its time line, as the lines of
-- the refusal say
-- rule: run-named
pub record RefusesNames (r : RunRequest) (given : GivenZones) (bytes : List ℕ) (o : Outcome)
    : Type 0 where
  pub simulation : Simulation
  pub said : IsSimulation given bytes simulation
  pub log : WorldLog
  pub text : List ℕ
  pub run : IsRun simulation r.workers log text
  pub lines : List ℕ
  pub answer : o ≡ explained r.explain lines (refusal (codes "cronsim: cron\n"))

-- what the bytes are answered under these zones
abbrev pub IsRanOf : RunRequest → GivenZones → List ℕ → Outcome → Type 0
IsRanOf r given bytes o = RefusesSimulation r.explain given bytes o ⊎ RefusesNames r given bytes o
    ⊎ PrintsReport r given bytes o

-- what is read, all of the input, is run under the zones of the words and the files
pub record RunsInput (r : RunRequest) (files : List ZoneFile) (input : Option (List ℕ))
    (o : Outcome) : Type 0 where
  pub given : GivenZones
  pub zones : IsReadUnder r.zones files given
  pub bytes : List ℕ
  pub bytes_are : IfSome input (λ xs. bytes ≡ xs)
  pub fits : length bytes ≤ 16_777_216
  pub ran : IsRanOf r given bytes o

-- what `run` answers in a form that there is, where the input is known: a rule of the words is
-- refused first, and nothing is read then
-- rule: run
abbrev pub IsRunAnswer : RunRequest → List ZoneFile → Option (List ℕ) → Outcome → Type 0
IsRunAnswer r files input o = RefusesRule r.zones r.explain o ⊎ RunsInput r files input o

-- the form is looked at first
abbrev pub IsRunOutcome : RunRequest → List ZoneFile → Option (List ℕ) → Outcome → Type 0
IsRunOutcome r files input o =
    RefusesForm r.explain r.output.now o ⊎ IsInForm r.output.now (IsRunAnswer r files input o)

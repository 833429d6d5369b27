-- What `replay` answers of a script.
use Rattle.std.specs.Prelude.{◌≡◌, ◌≢◌, ◌⊎◌, ℕ, ◌≤◌, List, [], length, Bool, Option, IfSome, codes, false, true}
use Rattle.std.specs.Io.KnownBytes.{Appends}
use Rattle.cj_io.specs.declared.failure.Failure.{Failure}
use Rattle.cj_io.specs.Statuses.{failure_line}
use Rattle.cj_io.specs.Writing.{AppendsSome}
use Rattle.cj_scenario.specs.declared.fault.SceneFault.{SceneFault}
use Rattle.cj_scenario.specs.declared.fault.SceneFault.TheVariants as Why
use Rattle.cj_scenario.specs.declared.detection.form.Form.TheVariants as A
use Rattle.cj_script.specs.declared.script.Script.{Script}
use Rattle.cj_script.specs.Scripts.{IsRefusedScript, IsScript}
use Rattle.cj_replay.specs.Replays.{IsPartOf, IsReplayed}
use Rattle.cj_args.specs.declared.request.ReplayRequest.{ReplayRequest}
use Rattle.cj_io.specs.declared.zone_files.file.ZoneFile.{ZoneFile}
use Rattle.cj_io.specs.declared.zone_files.given.GivenZones.{GivenZones}
use Rattle.cj_answers.specs.Given.{IsReadUnder, RefusesRule}
use Rattle.cj_answers.specs.Outcome.{IsInForm, Outcome, RefusesForm, done}
use Rattle.cj_answers.specs.as_json.Forms.{is_json}
use Rattle.cj_check.specs.Plan.{IsSceneRefusal}
use Rattle.cj_program.specs.Forms.{InForm}
use Rattle.cj_program.specs.as_json.Replay.{IsReplayJson}

-- what was read, all of the input
pub record IsRead (input : Option (List ℕ)) (bytes : List ℕ) : Type 0 where
  pub are : IfSome input (λ xs. bytes ≡ xs)
  pub fits : length bytes ≤ 16_777_216

-- the script that is read under the zones of the words and the files
pub record ReadsScript (r : ReplayRequest) (files : List ZoneFile) (input : Option (List ℕ))
    (script : Script) : Type 0 where
  pub given : GivenZones
  pub zones : IsReadUnder r.zones files given
  pub bytes : List ℕ
  pub read : IsRead input bytes
  pub said : IsScript given bytes script

-- what is read under these zones is no script, for another cause than memory
pub record RefusesScript (r : ReplayRequest) (files : List ZoneFile) (input : Option (List ℕ))
    (o : Outcome) : Type 0 where
  pub given : GivenZones
  pub zones : IsReadUnder r.zones files given
  pub bytes : List ℕ
  pub read : IsRead input bytes
  pub fault : SceneFault
  pub refused : IsRefusedScript given bytes fault
  pub told : fault ≢ Why.Memory
  pub says : IsSceneRefusal r.explain A.Script bytes fault o

-- the lines of its steps and the report, where no step found the history full
pub record PrintsRun (r : ReplayRequest) (files : List ZoneFile) (input : Option (List ℕ))
    (o : Outcome) : Type 0 where
  pub script : Script
  pub reads : ReadsScript r files input script
  pub text : List ℕ
  pub run : IsReplayed script text false
  pub answer : o ≡ done text

-- what `replay` answers in lines, where the input is known: a rule of the words is refused first,
-- and nothing is read then
-- rules: replay, replay-lines
abbrev pub IsReplayLines : ReplayRequest → List ZoneFile → Option (List ℕ) → Outcome → Type 0
IsReplayLines r files input o = RefusesRule r.zones r.explain o ⊎ RefusesScript r files input o
    ⊎ PrintsRun r files input o

-- ---- one value

-- the bytes are no script, for another cause than memory
pub record RefusesBytes (explain : Bool) (given : GivenZones) (bytes : List ℕ) (o : Outcome)
    : Type 0 where
  pub fault : SceneFault
  pub refused : IsRefusedScript given bytes fault
  pub told : fault ≢ Why.Memory
  pub says : IsSceneRefusal explain A.Script bytes fault o

-- a replay of the script that they say, as a value
-- rule: replay-json
pub record PrintsValue (given : GivenZones) (bytes : List ℕ) (o : Outcome) : Type 0 where
  pub script : Script
  pub said : IsScript given bytes script
  pub text : List ℕ
  pub value : IsReplayJson script text
  pub answer : o ≡ done text

-- what the bytes are answered under these zones
abbrev pub IsPlayedOf : Bool → GivenZones → List ℕ → Outcome → Type 0
IsPlayedOf explain given bytes o = RefusesBytes explain given bytes o ⊎ PrintsValue given bytes o

-- what is read, all of the input, is made a value under the zones of the words and the files
pub record PlaysInput (r : ReplayRequest) (files : List ZoneFile) (input : Option (List ℕ))
    (o : Outcome) : Type 0 where
  pub given : GivenZones
  pub zones : IsReadUnder r.zones files given
  pub bytes : List ℕ
  pub read : IsRead input bytes
  pub played : IsPlayedOf r.explain given bytes o

-- a rule of the words is refused first
-- rule: replay-json
abbrev pub IsReplayValue : ReplayRequest → List ZoneFile → Option (List ℕ) → Outcome → Type 0
IsReplayValue r files input o = RefusesRule r.zones r.explain o ⊎ PlaysInput r files input o

-- ---- the command

-- one value where one is wanted, in its form; else lines, in a form that there is
abbrev pub IsReplayBy : Bool → ReplayRequest → List ZoneFile → Option (List ℕ) → Outcome → Type 0
IsReplayBy true r files input o =
    InForm r.output.now (λ m. IsReplayValue r files input m) o
IsReplayBy false r files input o =
    RefusesForm r.explain r.output.now o ⊎ IsInForm r.output.now (IsReplayLines r files input o)

-- what `replay` answers, where the input is known
-- rules: output, replay, replay-json
abbrev pub IsReplayOutcome : ReplayRequest → List ZoneFile → Option (List ℕ) → Outcome → Type 0
IsReplayOutcome r files input o = IsReplayBy (is_json r.output.now) r files input o

-- ---- a run that fails

-- a step found the history full: all was printed all the same, and a line on standard error says so
-- rule: replay-full
pub record FillsHistory (script : Script) (out out' err err' : Option (List ℕ)) : Type 0 where
  pub text : List ℕ
  pub run : IsReplayed script text true
  pub printed : Appends out out' text
  pub told : AppendsSome err err' (codes "cronsim: history full\n")

-- memory or the writer failed as it went: a beginning of what it prints was printed
-- rule: replay-cut
pub record IsRunCut (script : Script) (out out' err err' : Option (List ℕ)) : Type 0 where
  pub text : List ℕ
  pub part : IsPartOf script text
  pub begun : AppendsSome out out' text
  pub failure : Failure
  pub told : AppendsSome err err' (failure_line failure)

abbrev pub EndsBadly : Script → Option (List ℕ) → Option (List ℕ) → Option (List ℕ)
    → Option (List ℕ) → Type 0
EndsBadly script out out' err err' = FillsHistory script out out' err err'
    ⊎ IsRunCut script out out' err err'

-- the script of the input was run, which ended so
pub record IsFailedRun (r : ReplayRequest) (files : List ZoneFile)
    (input out out' err err' : Option (List ℕ)) : Type 0 where
  pub script : Script
  pub reads : ReadsScript r files input script
  pub ends : EndsBadly script out out' err err'

-- all of a run was printed, and nothing was said
pub record EndsWell (script : Script) (out out' err err' : Option (List ℕ)) : Type 0 where
  pub text : List ℕ
  pub run : IsReplayed script text false
  pub printed : Appends out out' text
  pub said : Appends err err' []

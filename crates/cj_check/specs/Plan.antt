-- What `plan` answers of a scenario.
use Rattle.std.specs.Prelude.{◌≡◌, ◌≢◌, ◌⊎◌, ℕ, ◌≤◌, List, [], ◌++◌, length, Option, None, Some, IfSome, codes, Bool, true, false}
use Rattle.cj_types.specs.declared.cron.CronJob.{CronJob}
use Rattle.cj_types.specs.declared.job.Job.{Job}
use Rattle.cj_zone.specs.declared.zone.Zone.{Zone}
use Rattle.cj_zone.specs.Table.{zones_of}
use Rattle.cj_decide.specs.declared.steps.Steps.{Steps}
use Rattle.cj_decide.specs.Decision.{IsPlan, running_of}
use Rattle.cj_scenario.specs.declared.detection.form.Form.{Form}
use Rattle.cj_scenario.specs.declared.detection.form.Form.TheVariants as A
use Rattle.cj_scenario.specs.detection.Forms.{wanted_words}
use Rattle.cj_scenario.specs.detection.Detections.{IsDetection}
use Rattle.cj_explain.specs.members.Looks.{IsLook}
use Rattle.cj_scenario.specs.declared.fault.SceneFault.{SceneFault}
use Rattle.cj_scenario.specs.declared.fault.SceneFault.TheVariants as Why
use Rattle.cj_scenario.specs.declared.scene.Scene.{Scene}
use Rattle.cj_scenario.specs.Made.{IsRefusedScene, IsScene}
use Rattle.cj_why.specs.Why.{IsWhy}
use Rattle.cj_why.specs.reviews.PlanJson.{plan_data}
use Rattle.cj_why.specs.reviews.PlanLines.{plan_lines}
use Rattle.cj_why.specs.reviews.ZoneFor.{zone_for}
use Rattle.cj_args.specs.declared.request.PlanRequest.{PlanRequest}
use Rattle.cj_io.specs.declared.zone_files.file.ZoneFile.{ZoneFile}
use Rattle.cj_io.specs.declared.zone_files.given.GivenZones.{GivenZones}
use Rattle.cj_answers.specs.Lines.{fault_line}
use Rattle.cj_check.specs.Dropped.{IsAskedDropped}
use Rattle.cj_answers.specs.Given.{IsReadUnder, RefusesRule}
use Rattle.cj_explain.specs.Faults.{fault_words}
use Rattle.cj_answers.specs.Json.{IsJsonWords}
use Rattle.cj_check.specs.Strays.{IsStrays}
use Rattle.cj_answers.specs.Moments.{moment_of, moment_words}
use Rattle.cj_answers.specs.Outcome.{IsInForm, Outcome, RefusesForm, done, explained, refusal}
use Rattle.cj_answers.specs.as_json.Forms.{IsJsonLine, is_json}

-- ---- lines

-- the fault of a scenario
abbrev pub scene_line : SceneFault → List ℕ
scene_line Why.Syntax = codes "cronsim: refused 1 Syntax\n"
scene_line Why.Form = codes "cronsim: scenario\n"
scene_line (Why.Manifest fault) = codes "cronsim: " ++ fault_line fault
scene_line Why.Memory = codes "cronsim: out of memory\n"

-- of what form it has to be, which member is missing or wrong, and what it is
-- rule: explain-members
pub record IsFormWords (wanted : Form) (bytes : List ℕ) (words : List ℕ) : Type 0 where
  pub seen : List ℕ
  pub looked : IsLook wanted bytes seen
  pub are : words ≡ wanted_words wanted ++ seen

-- what is wrong with the bytes of a scenario
-- rule: explain
abbrev pub IsSceneWords : Form → List ℕ → SceneFault → List ℕ → Type 0
IsSceneWords wanted bytes Why.Syntax words = IsJsonWords bytes words
IsSceneWords wanted bytes Why.Form words = IsFormWords wanted bytes words
IsSceneWords wanted bytes (Why.Manifest fault) words = words ≡ fault_words fault
IsSceneWords wanted bytes Why.Memory words = words ≡ []

-- the line of a scenario's fault, and what is wrong with it
pub record IsSceneRefusal (explain : Bool) (wanted : Form) (bytes : List ℕ) (fault : SceneFault)
    (o : Outcome) : Type 0 where
  pub words : List ℕ
  pub are : IsSceneWords wanted bytes fault words
  pub answer : o ≡ explained explain words (refusal (scene_line fault))

-- ---- the answer

-- why a Job is started or not, where people ask for it
-- rule: explain-why
abbrev pub IsAskedWhy : Bool → CronJob → Option Zone → List (Option Job) → ℕ → List ℕ → Type 0
IsAskedWhy true cron z found now words = IsWhy cron z (running_of cron found) [] now words
IsAskedWhy false cron z found now words = words ≡ []

-- of a run the keys of its `runs` that aren't used
-- rule: explain-runs
abbrev pub IsUnused : Form → List ℕ → List ℕ → Type 0
IsUnused A.Simulation bytes words = IsStrays bytes words
IsUnused _ bytes words = words ≡ []

-- the members that nobody reads, and what isn't used
pub record IsSeen (wanted : Form) (bytes words : List ℕ) : Type 0 where
  pub detected : List ℕ
  pub looked : IsDetection wanted bytes detected
  pub unused : List ℕ
  pub strays : IsUnused wanted bytes unused
  pub are : words ≡ detected ++ unused

-- that, where people ask for it
-- rule: explain-ignored
abbrev pub IsAskedDetection : Bool → Form → List ℕ → List ℕ → Type 0
IsAskedDetection true wanted bytes words = IsSeen wanted bytes words
IsAskedDetection false wanted bytes words = words ≡ []

-- the members of a scenario that nobody reads, and those of its manifest that are dropped
pub record IsBeside (explain : Bool) (bytes : List ℕ) (words : List ℕ) : Type 0 where
  pub seen : List ℕ
  pub looked : IsAskedDetection explain A.Scenario bytes seen
  pub dropped : List ℕ
  pub drops : IsAskedDropped explain bytes dropped
  pub are : words ≡ seen ++ dropped

-- the scenario is refused, for another cause than memory
pub record RefusesScene (explain : Bool) (given : GivenZones) (bytes : List ℕ) (o : Outcome)
    : Type 0 where
  pub fault : SceneFault
  pub refused : IsRefusedScene given bytes fault
  pub told : fault ≢ Why.Memory
  pub says : IsSceneRefusal explain A.Scenario bytes fault o

-- a plan as JSON, or in lines
-- rules: plan-json, plan-lines
abbrev pub IsPlanPrinted : Bool → Steps → List ℕ → Type 0
IsPlanPrinted true p text = IsJsonLine (plan_data p) text
IsPlanPrinted false p text = text ≡ plan_lines p

-- the one plan of the CronJob, its Jobs, those of them that run, the moment and its zone
pub record PrintsPlan (explain json : Bool) (given : GivenZones) (bytes : List ℕ) (now : ℕ)
    (o : Outcome) : Type 0 where
  pub scene : Scene
  pub said : IsScene given bytes scene
  pub steps : Steps
  pub decided : IsPlan (Some scene.cron) scene.jobs scene.active now
      (zone_for scene.cron.spec.time_zone (zones_of scene.zones)) steps
  pub why : List ℕ
  pub reason : IsAskedWhy explain scene.cron
      (zone_for scene.cron.spec.time_zone (zones_of scene.zones)) scene.active now why
  pub beside : List ℕ
  pub told : IsBeside explain bytes beside
  pub printed : List ℕ
  pub prints : IsPlanPrinted json steps printed
  pub answer : o ≡ explained explain (why ++ beside) (done printed)

-- what the bytes of a scenario are answered under these zones
abbrev pub IsPlannedFor : Bool → Bool → GivenZones → List ℕ → ℕ → Outcome → Type 0
IsPlannedFor explain json given bytes now o =
    RefusesScene explain given bytes o ⊎ PrintsPlan explain json given bytes now o

-- the moment is refused first, and nothing is read then
pub record RefusesMoment (r : PlanRequest) (o : Outcome) : Type 0 where
  pub moment : moment_of r.moment.now ≡ None
  pub answer : o ≡ explained r.explain moment_words (refusal (codes "cronsim: time\n"))

-- then a zone, and nothing is read then
pub record RefusesPlanZone (r : PlanRequest) (o : Outcome) : Type 0 where
  pub now : ℕ
  pub moment : moment_of r.moment.now ≡ Some now
  pub refuses : RefusesRule r.zones r.explain o

-- else what is read, all of the input, is planned for
pub record PlansInput (r : PlanRequest) (files : List ZoneFile) (input : Option (List ℕ))
    (o : Outcome) : Type 0 where
  pub now : ℕ
  pub moment : moment_of r.moment.now ≡ Some now
  pub given : GivenZones
  pub zones : IsReadUnder r.zones files given
  pub bytes : List ℕ
  pub bytes_are : IfSome input (λ xs. bytes ≡ xs)
  pub fits : length bytes ≤ 16_777_216
  pub planned : IsPlannedFor r.explain (is_json r.output.now) given bytes now o

-- what `plan` answers in a form that there is, where the input is known
-- rules: plan-json, plan-lines
abbrev pub IsPlanAnswer : PlanRequest → List ZoneFile → Option (List ℕ) → Outcome → Type 0
IsPlanAnswer r files input o = RefusesMoment r o ⊎ RefusesPlanZone r o ⊎ PlansInput r files input o

-- the form is looked at first
abbrev pub IsPlanOutcome : PlanRequest → List ZoneFile → Option (List ℕ) → Outcome → Type 0
IsPlanOutcome r files input o =
    RefusesForm r.explain r.output.now o ⊎ IsInForm r.output.now (IsPlanAnswer r files input o)

-- The text for a scenario: the plan of its CronJob at a moment.
use Rattle.std.specs.Prelude.{◌≡◌, ◌≢◌, ◌⊎◌, ℕ, ◌<◌, List, [], ◌∷◌, Some, codes}
use Rattle.serde_json.specs.Data.{Data, null}
use Rattle.cj_base.specs.Instant.{last_second}
use Rattle.cj_decide.specs.Decision.{IsPlan}
use Rattle.cj_decide.specs.declared.steps.Steps.{Steps}
use Rattle.cj_io.specs.declared.zone_files.given.GivenZones.{GivenZones}
use Rattle.cj_scenario.specs.Made.{IsRefusedScene, IsScene}
use Rattle.cj_scenario.specs.declared.fault.SceneFault.{SceneFault}
use Rattle.cj_scenario.specs.declared.fault.SceneFault.TheVariants as Why
use Rattle.cj_scenario.specs.declared.scene.Scene.{Scene}
use Rattle.cj_why.specs.reviews.PlanJson.{plan_data}
use Rattle.cj_why.specs.reviews.ZoneFor.{zone_for}
use Rattle.cj_zone.specs.Table.{zones_of}
use Rattle.cj_c.specs.Status.{range}
use Rattle.cj_c.specs.answers.Buffers.{IsAnswered, IsUnchanged}
use Rattle.cj_audit.specs.Faults.{faults_data, one_fault}
use Rattle.cj_c.specs.answers.Texts.{IsJsonText}
use Rattle.cj_c.specs.answers.Zones.{IsBare}

-- the steps are the one plan of the CronJob, its Jobs, those of them that run, the moment and its
-- zone
abbrev pub IsPlanOf : Scene → ℕ → Steps → Type 0
IsPlanOf scene now steps =
    IsPlan (Some scene.cron) scene.jobs scene.active now
    (zone_for scene.cron.spec.time_zone (zones_of scene.zones)) steps

-- the plan of what the bytes say, under UTC and their own zones
-- rule: library-plan
pub record IsPlanned (bytes : List ℕ) (now : ℕ) (text : List ℕ) : Type 0 where
  pub given : GivenZones
  pub bare : IsBare given
  pub scene : Scene
  pub said : IsScene given bytes scene
  pub steps : Steps
  pub decided : IsPlanOf scene now steps
  pub printed : IsJsonText (plan_data steps) text

-- the fault of a scenario, where it isn't want of memory
-- rule: library-plan
abbrev pub scene_fault_data : SceneFault → Data
scene_fault_data Why.Syntax = one_fault (codes "Syntax") (codes "$")
scene_fault_data Why.Form = one_fault (codes "Form") (codes "$")
scene_fault_data (Why.Manifest fault) = faults_data (fault ∷ [])
scene_fault_data Why.Memory = null

-- why they are no scenario
-- rule: library-plan
pub record IsPlanRefusal (bytes text : List ℕ) : Type 0 where
  pub given : GivenZones
  pub bare : IsBare given
  pub fault : SceneFault
  pub refused : IsRefusedScene given bytes fault
  pub told : fault ≢ Why.Memory
  pub printed : IsJsonText (scene_fault_data fault) text

-- what the call leaves: that, or the moment is out of range, and all stays as it was
-- rule: library-plan
abbrev pub IsPlanAnswered : List ℕ → ℕ → List ℕ → List ℕ → ℕ → ℕ → ℕ → Type 0
IsPlanAnswered bytes now old new was is status =
    IsAnswered (IsPlanned bytes now) (IsPlanRefusal bytes) old new was is status
    ⊎ ((status ≡ range) × (last_second < now) × IsUnchanged old new was is)

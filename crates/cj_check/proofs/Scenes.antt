-- A scenario that is refused.
use Rattle.std.proofs.Common.{◌≢◌, inl, rules, ℕ, List, Bool}
use Rattle.std.specs.Prelude.{Result, Ok, Err, IfOk}
use Rattle.cj_io.specs.declared.failure.Failure.{Failure}
use Rattle.cj_scenario.specs.declared.fault.SceneFault.{SceneFault}
use Rattle.cj_scenario.specs.declared.fault.SceneFault.TheVariants as Why
use Rattle.cj_scenario.specs.Made.{IsRefusedScene}
use Rattle.cj_scenario.specs.declared.detection.form.Form.TheVariants as A
use Rattle.cj_io.specs.declared.zone_files.given.GivenZones.{GivenZones}
use Rattle.cj_answers.specs.declared.answer.Answer.{Answer}
use Rattle.cj_answers.specs.Outcome.{outcome_of}
use Rattle.cj_check.specs.Plan.{IsPlannedFor, IsSceneRefusal}

-- fault is why the bytes are refused under the zones that are given; explain says whether words for people are asked
-- for.
module _ (explain : Bool) (given : GivenZones) (bytes : List ℕ) (fault : SceneFault) where
  -- of `plan`: closes what a scenario is answered
  pub scenario_refused : (json : Bool) (now : ℕ) (r : Result Answer Failure) → IsRefusedScene given bytes fault
      → IfOk r (λ _. fault ≢ Why.Memory)
      → IfOk r (λ a. IsSceneRefusal explain A.Scenario bytes fault (outcome_of a))
      → IfOk r (λ a. IsPlannedFor explain json given bytes now (outcome_of a))
  scenario_refused json now (Ok a) why told is = inl (record { fault = fault; refused = why; told = told; says = is })
  scenario_refused json now (Err e) why told is = search rules

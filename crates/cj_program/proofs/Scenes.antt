-- A scenario or a script that is refused.
use Rattle.std.proofs.Common.{◌≢◌, inl, rules, ℕ, List, Bool}
use Rattle.std.specs.Prelude.{Result, Ok, Err, IfOk}
use Rattle.cj_io.specs.declared.failure.Failure.{Failure}
use Rattle.cj_scenario.specs.declared.fault.SceneFault.{SceneFault}
use Rattle.cj_scenario.specs.declared.fault.SceneFault.TheVariants as Why
use Rattle.cj_scenario.specs.declared.detection.form.Form.TheVariants as A
use Rattle.cj_io.specs.declared.zone_files.given.GivenZones.{GivenZones}
use Rattle.cj_script.specs.simulation.Simulations.{IsRefusedSimulation}
use Rattle.cj_answers.specs.declared.answer.Answer.{Answer}
use Rattle.cj_answers.specs.Outcome.{outcome_of}
use Rattle.cj_check.specs.Plan.{IsSceneRefusal}
use Rattle.cj_args.specs.declared.request.RunRequest.{RunRequest}
use Rattle.cj_script.specs.Scripts.{IsRefusedScript}
use Rattle.cj_program.specs.Replay.{IsPlayedOf}
use Rattle.cj_program.specs.Run.{IsRanOf}

-- fault is why the bytes are refused under the zones that are given.
module _ (run : RunRequest) (given : GivenZones) (bytes : List ℕ) (fault : SceneFault) where
  -- of `run`: closes what the bytes are answered
  pub simulation_refused : (r : Result Answer Failure) → IsRefusedSimulation given bytes fault
      → IfOk r (λ _. fault ≢ Why.Memory)
      → IfOk r (λ a. IsSceneRefusal run.explain A.Simulation bytes fault (outcome_of a))
      → IfOk r (λ a. IsRanOf run given bytes (outcome_of a))
  simulation_refused (Ok a) why told is = inl (record { fault = fault; refused = why; told = told; says = is })
  simulation_refused (Err e) why told is = search rules

-- of `replay` as one value: closes what the bytes are answered
pub script_refused : (explain : Bool) (given : GivenZones) (bytes : List ℕ) (fault : SceneFault)
    (r : Result Answer Failure) → IsRefusedScript given bytes fault → IfOk r (λ _. fault ≢ Why.Memory)
    → IfOk r (λ a. IsSceneRefusal explain A.Script bytes fault (outcome_of a))
    → IfOk r (λ a. IsPlayedOf explain given bytes (outcome_of a))
script_refused explain given bytes fault (Ok a) why told is =
    inl (record { fault = fault; refused = why; told = told; says = is })
script_refused explain given bytes fault (Err e) why told is = search rules

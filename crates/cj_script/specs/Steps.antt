-- The steps of a script: who does what.
use Rattle.std.specs.Prelude.{List, codes, Option, option_and_then, Result, Ok}
use Rattle.serde_json.specs.Data.{Data, Items}
use Rattle.serde_json.specs.Find.{as_str}
use Rattle.cj_zone.specs.declared.zone.Zone.{Zone}
use Rattle.cj_manifest.specs.Members.{present}
use Rattle.cj_scenario.specs.declared.fault.SceneFault.{SceneFault}
use Rattle.cj_script.specs.operations.Plain.{plain_operation}
use Rattle.cj_script.specs.operations.Verbs.{verb_named}
use Rattle.cj_script.specs.declared.operations.operation.Operation.{Operation}
use Rattle.cj_script.specs.declared.operations.verb.Verb.{Verb}
use Rattle.cj_script.specs.declared.operations.verb.Verb.TheVariants.{Does, Writes}
use Rattle.cj_script.specs.declared.callers.Named.{Named}
use Rattle.cj_script.specs.declared.step.Action.{Action}
use Rattle.cj_script.specs.declared.step.Step.{Step}
use Rattle.cj_script.specs.Callers.{caller_named}
use Rattle.cj_script.specs.Drafts.{needed, then}
use Rattle.cj_script.specs.Lists.{all_of}
use Rattle.cj_script.specs.Writes.{write_operation}

-- ---- one step

-- `who` is the name of a caller
-- rule: step-form
abbrev pub who_in : List Named → Data → Option Named
who_in callers d = option_and_then (caller_named callers)
    (option_and_then as_str (present (codes "who") d))

-- `do` is the word of a verb
-- rule: step-form
abbrev pub verb_in : Data → Option Verb
verb_in d = option_and_then verb_named (option_and_then as_str (present (codes "do") d))

abbrev pub operation_of : List Zone → Verb → Data → Result Operation SceneFault
operation_of zones (Writes verb) d = write_operation zones verb d
operation_of zones (Does verb) d = needed (plain_operation verb d)

-- what a step does
-- rule: step-form
unfoldable pub action_in : List Zone → Data → Result Action SceneFault
action_in zones d = then (needed (verb_in d))
    (λ verb. then (operation_of zones verb d)
    (λ operation. Ok (record { verb = verb; operation = operation })))

-- rule: step-form
unfoldable pub step_of : List Zone → List Named → Data → Result Step SceneFault
step_of zones callers d =
    then (needed (who_in callers d)) (λ named.
    then (action_in zones d) (λ action. Ok (record { who = named.name; caller = named.caller; verb = action.verb; operation = action.operation })))

-- ---- all steps

-- a fault of the form outweighs every manifest's, and a manifest's those of later ones
-- rule: script-order
abbrev pub steps_of : List Zone → List Named → Items → Result (List Step) SceneFault
steps_of zones callers = all_of (step_of zones callers)

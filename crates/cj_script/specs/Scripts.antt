-- What a script says, and why bytes are none.
use Rattle.std.specs.Prelude.{◌≡◌, ℕ, List, codes, Result, Ok, option_and_then}
use Rattle.serde_json.specs.Data.{Data}
use Rattle.serde_json.specs.Find.{as_array}
use Rattle.cj_types.specs.WorldLimits.{Kept}
use Rattle.cj_zone.specs.Table.{local_zone, zones_of}
use Rattle.cj_zone.specs.declared.zone.Zone.{Zone}
use Rattle.cj_io.specs.declared.zone_files.given.GivenZones.{GivenZones}
use Rattle.cj_manifest.specs.Members.{present}
use Rattle.cj_manifest.specs.Reading.{Reads}
use Rattle.cj_scenario.specs.Scenes.{AreZones}
use Rattle.cj_scenario.specs.declared.fault.SceneFault.{SceneFault}
use Rattle.cj_script.specs.declared.script.Script.{Script}
use Rattle.cj_script.specs.declared.step.Step.{Step}
use Rattle.cj_script.specs.Callers.{callers_in}
use Rattle.cj_script.specs.Drafts.{needed, then}
use Rattle.cj_script.specs.Limits.{limits_in}
use Rattle.cj_script.specs.Refusals.{RefusesBytes, RefusesValue}
use Rattle.cj_script.specs.Steps.{steps_of}

-- the limits and the steps that a value says under its zones; or the fault of its form, else the
-- first of a manifest
-- rule: script
abbrev pub told_in : List Zone → Data → Result (Kept × List Step) SceneFault
told_in zones d =
    then (needed (limits_in d)) (λ limits.
    then (needed (callers_in d)) (λ callers.
    then (needed (option_and_then as_array (present (codes "steps") d))) (λ items.
    then (steps_of zones callers items) (λ steps. Ok (limits, steps)))))

-- a value says this: its zones with those that are given, and under these its limits and its steps
-- rule: script
pub record Says (given : GivenZones) (d : Data) (s : Script) : Type 0 where
  pub zones : AreZones given (present (codes "zones") d) (zones_of s.zones)
  pub local : local_zone s.zones ≡ local_zone given.rules
  pub told : told_in (zones_of s.zones) d ≡ Ok (s.limits, s.steps.items)

-- what the bytes of a script say
-- rule: script
abbrev pub IsScript : GivenZones → List ℕ → Script → Type 0
IsScript given bytes s = (d : Data) × Reads bytes d × Says given d s

-- why a value is no script
-- rule: script-order
abbrev pub IsRefusedValue : GivenZones → Data → SceneFault → Type 0
IsRefusedValue given d e = RefusesValue told_in given d e

-- why bytes are none
-- rule: script-order
abbrev pub IsRefusedScript : GivenZones → List ℕ → SceneFault → Type 0
IsRefusedScript given bytes e = RefusesBytes told_in given bytes e

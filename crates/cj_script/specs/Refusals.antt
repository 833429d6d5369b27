-- Why a text isn't what is read of it: a script, or the scenario of a run.
use Rattle.std.specs.Prelude.{◌≡◌, ◌⊎◌, ℕ, List, codes, Result, Err}
use Rattle.serde_json.specs.Data.{Data}
use Rattle.cj_zone.specs.declared.zone.Zone.{Zone}
use Rattle.cj_io.specs.declared.zone_files.given.GivenZones.{GivenZones}
use Rattle.cj_manifest.specs.Members.{present}
use Rattle.cj_manifest.specs.Reading.{IsNoValue, Reads}
use Rattle.cj_scenario.specs.Scenes.{AreZones}
use Rattle.cj_scenario.specs.declared.fault.SceneFault.{SceneFault}
use Rattle.cj_scenario.specs.declared.fault.SceneFault.TheVariants.{Form, Manifest, Memory, Syntax}

-- what a value says under its zones, or why it says nothing
abbrev pub Reader : Type 0 → Type 0
Reader X = List Zone → Data → Result X SceneFault

-- none of its zones' forms fits
abbrev pub HasNoZones : GivenZones → Data → Type 0
HasNoZones given d = (zones : List Zone) → AreZones given (present (codes "zones") d) zones → ⊥

-- under its zones the reader refuses it so
pub record IsAtFault {X : Type 0} (reader : Reader X) (given : GivenZones) (d : Data)
    (e : SceneFault) : Type 0 where
  pub zones : List Zone
  pub are : AreZones given (present (codes "zones") d) zones
  pub told : reader zones d ≡ Err e

-- why a value isn't what the reader reads: its form or one of its zones; else a manifest; or there
-- was no memory
-- rules: run-order, script-order
abbrev pub RefusesValue : {X : Type 0} → Reader X → GivenZones → Data → SceneFault → Type 0
RefusesValue reader given d Form = HasNoZones given d ⊎ IsAtFault reader given d Form
RefusesValue reader given d (Manifest fault) = IsAtFault reader given d (Manifest fault)
RefusesValue reader given d Memory = Unit {0}
RefusesValue reader given d Syntax = ⊥

-- why bytes aren't: they are no JSON; else the value that they are isn't; or there was no memory
-- rules: run-order, script-order
abbrev pub RefusesBytes : {X : Type 0} → Reader X → GivenZones → List ℕ → SceneFault → Type 0
RefusesBytes reader given bytes Syntax = IsNoValue bytes
RefusesBytes reader given bytes Memory = Unit {0}
RefusesBytes reader given bytes e = (d : Data) × Reads bytes d × RefusesValue reader given d e

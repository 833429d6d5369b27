-- The zones of a call: a JSON object from names to POSIX rules, or no text.
use Rattle.std.specs.Prelude.{◌≡◌, ◌⊎◌, ℕ, List, [], Option, None, Some, codes}
use Rattle.serde_json.specs.Data.{Data}
use Rattle.cj_io.specs.declared.zone_files.given.GivenZones.{GivenZones}
use Rattle.cj_io.specs.zone_files.Rules.{utc_zones}
use Rattle.cj_manifest.specs.Reading.{IsNoValue, Reads}
use Rattle.cj_scenario.specs.Scenes.{AreZones}
use Rattle.cj_scenario.specs.declared.fault.SceneFault.{SceneFault}
use Rattle.cj_scenario.specs.declared.fault.SceneFault.TheVariants as Why
use Rattle.cj_zone.specs.declared.zone.Zone.{Zone}
use Rattle.cj_zone.specs.Table.{local_zone, zones_of}
use Rattle.cj_zone.specs.Zones.{utc_zone}
use Rattle.cj_audit.specs.Faults.{one_fault}
use Rattle.cj_c.specs.answers.Texts.{IsJsonText}

-- nothing but UTC is given, which holds where no zone is named
pub record IsBare (given : GivenZones) : Type 0 where
  pub zones : zones_of given.rules ≡ utc_zones
  pub local : local_zone given.rules ≡ Some (utc_zone (codes "UTC"))
  pub files : given.files.now ≡ []

-- no text is no object; else it is the value of the bytes
abbrev pub IsObjectOf : List ℕ → Option Data → Type 0
IsObjectOf bytes None = bytes ≡ []
IsObjectOf bytes (Some d) = Reads bytes d

-- UTC and the zones of the object
-- rule: library-zones
pub record AreZonesOf (bytes : List ℕ) (zones : List Zone) : Type 0 where
  pub given : GivenZones
  pub bare : IsBare given
  pub object : Option Data
  pub is_object : IsObjectOf bytes object
  pub are : AreZones given object zones

-- an object whose zones there aren't: it is no object from names that are free to rules
pub record HasNoZones (bytes : List ℕ) : Type 0 where
  pub given : GivenZones
  pub bare : IsBare given
  pub object : Option Data
  pub is_object : IsObjectOf bytes object
  pub none : (zones : List Zone) → AreZones given object zones → ⊥

-- why there are no zones; or there was no memory
abbrev pub IsNoZones : List ℕ → SceneFault → Type 0
IsNoZones bytes Why.Syntax = IsNoValue bytes
IsNoZones bytes Why.Form = HasNoZones bytes
IsNoZones bytes (Why.Manifest f) = ⊥
IsNoZones bytes Why.Memory = Unit {0}

-- the text for zones that are refused
-- rule: library-zones
abbrev pub IsZonesRefusal : List ℕ → List ℕ → Type 0
IsZonesRefusal bytes text =
    (IsNoValue bytes × IsJsonText (one_fault (codes "Syntax") (codes "zones")) text)
    ⊎ (HasNoZones bytes × IsJsonText (one_fault (codes "Zone") (codes "zones")) text)

-- The text for a manifest that is checked.
use Rattle.std.specs.Prelude.{◌≢◌, ◌⊎◌, ℕ, List, [], codes, map}
use Rattle.serde_json.specs.Data.{Data, string, array, object, member, no_members}
use Rattle.serde_json.specs.View.{items_of}
use Rattle.cj_manifest.specs.declared.manifest.Manifest.{Manifest}
use Rattle.cj_manifest.specs.Either.{key_of, kind_of, manifest_draft, manifest_faults, manifest_warnings}
use Rattle.cj_manifest.specs.Reading.{IsNoValue, IsReading, Reads}
use Rattle.cj_types.specs.Keys.{Place}
use Rattle.cj_zone.specs.declared.zone.Zone.{Zone}
use Rattle.cj_audit.specs.Faults.{faults_data, one_fault}
use Rattle.cj_c.specs.answers.Texts.{IsJsonText}
use Rattle.cj_c.specs.answers.Zones.{AreZonesOf, IsZonesRefusal}

abbrev pub sound_object : List ℕ → Place → Data → Data
sound_object kind key warnings = object (
    member (codes "kind") (string kind) (
    member (codes "name") (string key.name) (
    member (codes "namespace") (string key.namespace) (
    member (codes "warnings") warnings no_members))))

-- of a manifest without a fault: kind, name and namespace, and the paths of the members that are
-- dropped
-- rule: library-check
abbrev pub sound_data : Manifest → List (List ℕ) → Data
sound_data m warnings = sound_object (kind_of m) (key_of m) (array (items_of (map string warnings)))

-- the manifest has no fault under the zones, and the text says so
-- rule: library-check
pub record IsSound (bytes zones_text text : List ℕ) : Type 0 where
  pub zones : List Zone
  pub zones_are : AreZonesOf zones_text zones
  pub manifest : Manifest
  pub warnings : List (List ℕ)
  pub reads : IsReading Manifest (manifest_faults zones) manifest_draft manifest_warnings bytes
      manifest warnings
  pub printed : IsJsonText (sound_data manifest warnings) text

-- it has just these faults, in the order of the table of fields
-- rule: library-check
pub record IsFaulty (bytes zones_text text : List ℕ) : Type 0 where
  pub zones : List Zone
  pub zones_are : AreZonesOf zones_text zones
  pub value : Data
  pub reads : Reads bytes value
  pub any : manifest_faults zones value ≢ []
  pub printed : IsJsonText (faults_data (manifest_faults zones value)) text

-- it is no JSON
pub record IsNoJson (bytes zones_text text : List ℕ) : Type 0 where
  pub zones : List Zone
  pub zones_are : AreZonesOf zones_text zones
  pub none : IsNoValue bytes
  pub printed : IsJsonText (one_fault (codes "Syntax") (codes "$")) text

-- why it is refused: the zones are, which are looked at first; or it is no JSON; or it has faults
-- rule: library-check
abbrev pub IsCheckRefusal : List ℕ → List ℕ → List ℕ → Type 0
IsCheckRefusal bytes zones_text text =
    IsZonesRefusal zones_text text
    ⊎ (IsNoJson bytes zones_text text ⊎ IsFaulty bytes zones_text text)

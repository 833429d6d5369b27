-- What `check` finds, as JSON. The members of an object are in the order of their names.
use Rattle.std.specs.Prelude.{◌≡◌, ◌⊎◌, ℕ, ◌+◌, List, [], ◌∷◌, ◌++◌, map, Bool, true, false, Option, None, Some, codes}
use Rattle.serde_json.specs.Data.{Data, null, boolean, number, unsigned, string, array, object, member, no_members}
use Rattle.serde_json.specs.View.{items_of}
use Rattle.serde_json.specs.Written.{compact_text}
use Rattle.cj_base.specs.declared.faults.FieldFault.{FieldFault}
use Rattle.cj_base.specs.declared.refusal.Refusal.TheVariants.{Invalid, Syntax}
use Rattle.cj_cluster.specs.kubectl.Texts.{IsNoList, IsSplit}
use Rattle.cj_manifest.specs.declared.manifest.Manifest.{Manifest}
use Rattle.cj_manifest.specs.Either.{key_of, kind_of, manifest_draft, manifest_faults, manifest_warnings}
use Rattle.cj_manifest.specs.Reading.{IsReading, IsRefused, Reads}
use Rattle.cj_types.specs.Keys.{Place}
use Rattle.cj_zone.specs.declared.zone.Zone.{Zone}
use Rattle.cj_answers.specs.as_json.Forms.{IsJsonLine}
use Rattle.cj_audit.specs.Faults.{faults_data}
use Rattle.cj_check.specs.Seen.{IsNoneSeen, NextItem}
use Rattle.cj_check.specs.SaidObject.{home_in, kind_in, meta_in, text_or_null}
use Rattle.cj_explain.specs.ToldFaults.{told_faults, told_object}
use Rattle.cj_check.specs.declared.seen.SeenKeys.{SeenKeys}

-- ---- a manifest

-- its place in a list, from 1
abbrev pub place_data : Option ℕ → Data
place_data None = null
place_data (Some n) = number (unsigned n)

abbrev pub item_object : Data → Data → Data → Data → Data → Data → Data
item_object faults place kind name namespace warnings = object (
    member (codes "faults") faults (
    member (codes "item") place (
    member (codes "kind") kind (
    member (codes "name") name (
    member (codes "namespace") namespace (
    member (codes "warnings") warnings no_members))))))

abbrev pub syntax_fault : Data
syntax_fault = object (
    member (codes "cause") (string (codes "Syntax")) (
    member (codes "field") null (
    member (codes "message") (string (codes "neither JSON nor YAML")) no_members)))

abbrev pub refused_item : Data → Data → Data
refused_item place faults = item_object faults place null null null (array (items_of []))

-- no JSON
abbrev pub syntax_item : Data → Data
syntax_item place = refused_item place (array (items_of (syntax_fault ∷ [])))

abbrev pub paths_data : List (List ℕ) → Data
paths_data ws = array (items_of (map string ws))

-- without a fault: which object it is, and the members that are dropped
-- rule: check-json
abbrev pub fine_item : Data → List ℕ → Place → List (List ℕ) → Data
fine_item place kind key ws =
    item_object (faults_data []) place (string kind) (string key.name) (string key.namespace)
    (paths_data ws)

-- the bytes are no JSON
pub record IsSyntaxItem (zones : List Zone) (place : Data) (bytes : List ℕ) (d : Data)
    : Type 0 where
  pub refused : IsRefused (manifest_faults zones) bytes Syntax
  pub are : d ≡ syntax_item place

-- a manifest with these faults, and what its value says of the object
-- rule: check-json
abbrev pub faulty_item : Data → Data → List FieldFault → Data
faulty_item place said faults =
    item_object (told_faults faults) place (text_or_null (kind_in said))
    (text_or_null (meta_in (codes "name") said)) (string (home_in said)) (array (items_of []))

-- so it is of bytes that are JSON of a value
-- rule: check-json
abbrev pub IsFaultyData : Data → List FieldFault → List ℕ → Data → Type 0
IsFaultyData place faults bytes d =
    (said : Data) → Reads bytes said → d ≡ faulty_item place said faults

-- a manifest with faults
pub record IsFaultyItem (zones : List Zone) (place : Data) (bytes : List ℕ) (d : Data)
    : Type 0 where
  pub faults : List FieldFault
  pub refused : IsRefused (manifest_faults zones) bytes (Invalid faults)
  pub are : IsFaultyData place faults bytes d

-- one without a fault
pub record IsFineItem (zones : List Zone) (place : Data) (bytes : List ℕ) (d : Data) : Type 0 where
  pub manifest : Manifest
  pub warnings : List (List ℕ)
  pub reading : IsReading Manifest (manifest_faults zones) manifest_draft manifest_warnings bytes
      manifest warnings
  pub are : d ≡ fine_item place (kind_of manifest) (key_of manifest) warnings

-- rule: check-json
abbrev pub IsItemData : List Zone → Data → List ℕ → Data → Type 0
IsItemData zones place bytes d =
    IsSyntaxItem zones place bytes d ⊎ IsFaultyItem zones place bytes d
    ⊎ IsFineItem zones place bytes d

-- ---- a file

-- an item that an item before is
-- rules: check-json, json-faults
abbrev pub taken_item : Data → Data
taken_item place =
    refused_item place (array (items_of (
    told_object (codes "NotAllowed") (codes "metadata.name") (codes
    "an earlier item of this kind has this name") ∷ [])))

abbrev pub IsItemTold : List Zone → ℕ → List ℕ → Data → Bool → Option Manifest → Type 0
IsItemTold zones n text d true found = d ≡ taken_item (place_data (Some n))
IsItemTold zones n text d false found = IsItemData zones (place_data (Some n)) text d

-- of each item of a list, from a place on
-- rules: check-json, check-list
abbrev pub AreItemData : List Zone → SeenKeys → ℕ → List (List ℕ) → List Data → Type 0
AreItemData zones seen n [] [] = Unit {0}
AreItemData zones seen n [] (d ∷ ds) = ⊥
AreItemData zones seen n (text ∷ texts) [] = ⊥
AreItemData zones seen n (text ∷ texts) (d ∷ ds) =
    NextItem zones seen text (IsItemTold zones n text d)
    (λ later. AreItemData zones later (n + 1) texts ds)

-- the bytes are a list
pub record AreListItems (zones : List Zone) (bytes : List ℕ) (items : List Data) : Type 0 where
  pub texts : List (List ℕ)
  pub split : IsSplit bytes texts
  pub start : SeenKeys
  pub none : IsNoneSeen start
  pub each : AreItemData zones start 1 texts items

-- they are none
pub record IsOneItem (zones : List Zone) (bytes : List ℕ) (items : List Data) : Type 0 where
  pub none : IsNoList bytes
  pub one : Data
  pub is : IsItemData zones null bytes one
  pub are : items ≡ one ∷ []

-- rule: check-json
abbrev pub AreItems : List Zone → List ℕ → List Data → Type 0
AreItems zones bytes items = AreListItems zones bytes items ⊎ IsOneItem zones bytes items

-- which file it is, what was found in it, and whether it could be read
-- rule: check-json
abbrev pub check_data : List ℕ → List Data → Bool → Data
check_data file items read = object (
    member (codes "file") (string file) (
    member (codes "items") (array (items_of items)) (
    member (codes "read") (boolean read) no_members)))

-- what the bytes of a file are answered
-- rule: check-json
pub record IsCheckJson (zones : List Zone) (file bytes text : List ℕ) : Type 0 where
  pub items : List Data
  pub are : AreItems zones bytes items
  pub line : IsJsonLine (check_data file items true) text

-- of a file that can't be read
-- rule: check-json
abbrev pub unread_line : List ℕ → List ℕ
unread_line file = compact_text (check_data file [] false) ++ codes "\n"

-- The names of zones in a JSON value (RFC 8259): so in a manifest, a scenario, a script and a list
-- of a cluster alike.
use Rattle.std.specs.Prelude.{◌≡◌, ◌⊎◌, ℕ, List, [], ◌++◌, codes, bytes_eq, if◌then◌else◌, Some, IsUtf8}
use Rattle.std.specs.Option.{option_to_list}
use Rattle.serde_json.specs.Data.{Data, null, boolean, number, string, array, object, Items, no_items, item, Members, no_members, member}
use Rattle.serde_json.specs.Find.{as_str}
use Rattle.serde_json.specs.Read.{read}

-- the text of a member named `timeZone` (Kubernetes API reference, batch/v1, CronJobSpec)
abbrev pub zone_in : List ℕ → Data → List (List ℕ)
zone_in key d = if bytes_eq key (codes "timeZone") then option_to_list (as_str d) else []

-- the texts of all such members, wherever they stand, in their order
-- rule: zoneinfo
abbrev mutual
  pub zones_in : Data → List (List ℕ)
  zones_in null = []
  zones_in (boolean b) = []
  zones_in (number n) = []
  zones_in (string s) = []
  zones_in (array ds) = zones_in_items ds
  zones_in (object ms) = zones_in_members ms

  pub zones_in_items : Items → List (List ℕ)
  zones_in_items no_items = []
  zones_in_items (item d ds) = zones_in d ++ zones_in_items ds

  pub zones_in_members : Members → List (List ℕ)
  zones_in_members no_members = []
  zones_in_members (member key d ms) = zone_in key d ++ (zones_in d ++ zones_in_members ms)

-- the bytes are UTF-8, as JSON they are this value, and these are the zones' names in it
pub record AreInValue (bytes : List ℕ) (names : List (List ℕ)) : Type 0 where
  pub value : Data
  pub utf8 : IsUtf8 bytes
  pub reads : read bytes ≡ Some value
  pub are : names ≡ zones_in value

-- there is no value that the bytes are
abbrev pub IsNoJson : List ℕ → Type 0
IsNoJson bytes = (d : Data) → IsUtf8 bytes → read bytes ≡ Some d → ⊥

-- of bytes that are no JSON there are none
-- rule: zoneinfo
abbrev pub AreZonesNamed : List ℕ → List (List ℕ) → Type 0
AreZonesNamed bytes names = AreInValue bytes names ⊎ (IsNoJson bytes × (names ≡ []))

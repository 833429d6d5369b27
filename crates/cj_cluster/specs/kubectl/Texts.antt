-- The objects of a list, each as a text of its own.
use Rattle.std.specs.Prelude.{◌≡◌, ◌⊎◌, ℕ, List, [], ◌∷◌, codes, Option, Some, None, option_and_then, if◌then◌else◌}
use Rattle.serde_json.specs.Data.{Data, Items, no_items, item}
use Rattle.cj_manifest.specs.Owners.{text_at}
use Rattle.cj_manifest.specs.Reading.{IsNoValue, Reads}
use Rattle.cj_cluster.specs.kubectl.Lists.{is_list, listed, typed}
use Rattle.cj_cluster.specs.kubectl.Reading.{TypeMeta, type_of}

abbrev pub list_items_for : Data → List ℕ → Option Items
list_items_for d kind = if is_list kind then listed d else None

-- the objects of a list; one object alone is no list
-- rule: check-list
abbrev pub list_items : Data → Option Items
list_items d = option_and_then (list_items_for d) (text_at (codes "kind") d)

-- each text says its item, with what the list says of it
-- rule: check-list
abbrev pub AreTexts : TypeMeta → Items → List (List ℕ) → Type 0
AreTexts t no_items [] = Unit {0}
AreTexts t no_items (text ∷ texts) = ⊥
AreTexts t (item d ds) [] = ⊥
AreTexts t (item d ds) (text ∷ texts) = Reads text (typed t.kind t.version d) × AreTexts t ds texts

-- the bytes are a list, and the texts its items
pub record IsSplit (bytes : List ℕ) (texts : List (List ℕ)) : Type 0 where
  pub value : Data
  pub items : Items
  pub reads : Reads bytes value
  pub listed : list_items value ≡ Some items
  pub are : AreTexts (type_of value) items texts

-- the bytes are none
abbrev pub IsNoList : List ℕ → Type 0
IsNoList bytes = IsNoValue bytes ⊎ ((d : Data) × Reads bytes d × (list_items d ≡ None))

-- rule: check-list
abbrev pub IsSplitIf : List ℕ → Option (List (List ℕ)) → Type 0
IsSplitIf bytes None = IsNoList bytes
IsSplitIf bytes (Some texts) = IsSplit bytes texts

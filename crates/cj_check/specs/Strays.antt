-- The keys of a run's `runs` that no CronJob has.
use Rattle.std.specs.Prelude.{◌≡◌, ◌⊎◌, ℕ, List, [], ◌++◌, Bool, false, ◌||◌, bytes_eq, codes, Option, None, Some, option_and_then, unwrap_or, if◌then◌else◌}
use Rattle.serde_json.specs.Data.{Data, Items, no_items, item, Members, no_members, member}
use Rattle.serde_json.specs.Find.{as_array, as_object}
use Rattle.cj_manifest.specs.Members.{present}
use Rattle.cj_manifest.specs.Owners.{text_at}
use Rattle.cj_manifest.specs.Reading.{IsNoValue, Reads}

-- a text of an object's metadata, or another where it has none
abbrev pub text_or : List ℕ → List ℕ → Data → List ℕ
text_or name other d =
    unwrap_or (option_and_then (text_at name) (present (codes "metadata") d)) other

-- the key of an object
abbrev pub key_of : Data → List ℕ
key_of d =
    text_or (codes "namespace") (codes "default") d ++ (codes "/" ++ text_or (codes "name") [] d)

unfoldable pub has_key : List ℕ → Data → Bool
has_key key d = bytes_eq key (key_of d)

-- one of the objects has it
abbrev pub any_has : List ℕ → Items → Bool
any_has key no_items = false
any_has key (item d ds) = has_key key d || any_has key ds

-- an edit's object has it
abbrev pub object_has : List ℕ → Option Data → Bool
object_has key None = false
object_has key (Some d) = has_key key d

unfoldable pub edit_has : List ℕ → Data → Bool
edit_has key edit = object_has key (present (codes "object") edit)

abbrev pub any_edit : List ℕ → Items → Bool
any_edit key no_items = false
any_edit key (item edit edits) = edit_has key edit || any_edit key edits

abbrev pub items_in : List ℕ → Data → Option Items
items_in name d = option_and_then as_array (present name d)

abbrev pub seeds_have : List ℕ → Option Items → Bool
seeds_have key None = false
seeds_have key (Some ds) = any_has key ds

abbrev pub edits_have : List ℕ → Option Items → Bool
edits_have key None = false
edits_have key (Some edits) = any_edit key edits

-- a CronJob of the start or of an edit has the key
-- rule: explain-runs
unfoldable pub is_used : List ℕ → Data → Bool
is_used key d =
    seeds_have key (items_in (codes "cronJobs") d) || edits_have key (items_in (codes "edits") d)

unfoldable pub stray_line : List ℕ → List ℕ
stray_line key =
    codes "runs."
    ++ (key ++ codes ": no CronJob of cronJobs or of an edit has this key, so it isn't used\n")

-- a line for each key of `runs` that isn't used
-- rule: explain-runs
abbrev pub strays_in : Data → Members → List ℕ
strays_in d no_members = []
strays_in d (member key run ms) =
    if is_used key d then strays_in d ms else stray_line key ++ strays_in d ms

abbrev pub strays_among : Data → Option Members → List ℕ
strays_among d None = []
strays_among d (Some ms) = strays_in d ms

abbrev pub strays_of : Data → List ℕ
strays_of d = strays_among d (option_and_then as_object (present (codes "runs") d))

-- the bytes are this value
pub record ReadsStrays (bytes : List ℕ) (words : List ℕ) : Type 0 where
  pub value : Data
  pub reads : Reads bytes value
  pub are : words ≡ strays_of value

-- of bytes that are no JSON nothing is said
abbrev pub IsStrays : List ℕ → List ℕ → Type 0
IsStrays bytes words = ReadsStrays bytes words ⊎ (IsNoValue bytes × (words ≡ []))

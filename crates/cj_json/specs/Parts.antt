-- Members of a written object: each name once, in the order of the names' bytes (`put` keeps it).
use Rattle.std.specs.Prelude.{ℕ, List, [], ◌∷◌, codes, Option, Some, None, if◌then◌else◌, option_and_then, IsSome}
use Rattle.serde_json.specs.Data.{Data, boolean, number, string, array, object, unsigned, Members, no_members, put}
use Rattle.serde_json.specs.Read.{read}
use Rattle.serde_json.specs.View.{items_of}
use Rattle.serde_json.specs.Written.{has_float}
use Rattle.cj_types.specs.declared.owners.OwnerRef.{OwnerRef}
use Rattle.cj_zone.specs.TimeText.{time_text_of}

-- ---- members that are written only where there is something

-- the member with the text, where there is one
abbrev pub put_some_text : List ℕ → Option (List ℕ) → Members → Members
put_some_text name None ms = ms
put_some_text name (Some s) ms = put name (string s) ms

-- the member with the number, where there is one
abbrev pub put_some_number : List ℕ → Option ℕ → Members → Members
put_some_number name None ms = ms
put_some_number name (Some n) ms = put name (number (unsigned n)) ms

-- the member with the printed time (RFC 3339)
abbrev pub put_time : List ℕ → ℕ → Members → Members
put_time name t ms = put name (string (time_text_of t)) ms

-- the member with the printed time, where there is a time
abbrev pub put_some_time : List ℕ → Option ℕ → Members → Members
put_some_time name None ms = ms
put_some_time name (Some t) ms = put_time name t ms

-- the member with the object, where the object isn't empty
abbrev pub put_some_object : List ℕ → Members → Members → Members
put_some_object name no_members ms = ms
put_some_object name inner ms = put name (object inner) ms

-- the member with the list, where the list isn't empty
abbrev pub put_some_list : List ℕ → List Data → Members → Members
put_some_list name [] ms = ms
put_some_list name (d ∷ ds) ms = put name (array (items_of (d ∷ ds))) ms

-- ---- labels, annotations and owners

-- the object with the text of each name
abbrev pub label_members : Members → List (List ℕ × List ℕ) → Members
label_members ms [] = ms
label_members ms (l ∷ ls) = label_members (put l.0 (string l.1) ms) ls

abbrev pub put_labels : List ℕ → List (List ℕ × List ℕ) → Members → Members
put_labels name [] ms = ms
put_labels name (l ∷ ls) ms = put name (object (label_members no_members (l ∷ ls))) ms

abbrev pub owner_data : OwnerRef → Data
owner_data o = object (
    put (codes "uid") (string o.uid) (
    put (codes "name") (string o.name) (
    put (codes "kind") (string o.kind) (
    put (codes "controller") (boolean o.controller) (
    put (codes "blockOwnerDeletion") (boolean o.block_owner_deletion) (
    put (codes "apiVersion") (string o.api_version) no_members))))))

-- ---- kept specs

-- rule: fraction
abbrev pub unless_float : Data → Option Data
unless_float d = if has_float d then None else Some d

-- the value of a kept text, where it is JSON (RFC 8259) whose numbers are i64 and u64
-- rule: kept-spec
abbrev pub kept_value : List ℕ → Option Data
kept_value text = option_and_then unless_float (read text)

-- the text is the JSON text of a value, so that an object that keeps it can be written
-- rules: kept-spec, kept-below
abbrev pub IsKept : List ℕ → Type 0
IsKept text = IsSome (kept_value text)

-- What a client prints of a cluster: a list of objects (Kubernetes API conventions, "Lists and
-- Simple kinds"), or one object.
use Rattle.std.specs.Prelude.{ℕ, ◌||◌, List, codes, Bool, bytes_eq, if◌then◌else◌, Option, Some, None, option_and_then}
use Rattle.serde_json.specs.Data.{Data, null, boolean, number, string, array, object, put, Items, no_items, item}
use Rattle.serde_json.specs.Find.{as_array}
use Rattle.cj_manifest.specs.Members.{present}
use Rattle.cj_manifest.specs.Owners.{text_at}

-- the kinds of list: of objects of any kind, as a client makes them, and of one kind, as a server
-- answers them
abbrev pub is_list : List ℕ → Bool
is_list kind =
    bytes_eq kind (codes "List") || bytes_eq kind (codes "CronJobList")
    || bytes_eq kind (codes "JobList")

abbrev pub is_single : List ℕ → Bool
is_single kind = bytes_eq kind (codes "CronJob") || bytes_eq kind (codes "Job")

-- the array `items`
abbrev pub listed : Data → Option Items
listed d = option_and_then as_array (present (codes "items") d)

-- a value of that kind, as the list of its objects
abbrev pub items_for : Data → List ℕ → Option Items
items_for d kind =
    if is_list kind then listed d
    else (if is_single kind then Some (item d no_items) else None)

-- the objects that are printed, where it is known what is
-- rule: cluster-list
abbrev pub items_of : Data → Option Items
items_of d = option_and_then (items_for d) (text_at (codes "kind") d)

-- ---- the items of a list of one kind, each without what the list says of them all (Kubernetes API
-- conventions, "Resources": `kind` and `apiVersion`)

abbrev pub kind_listed : List ℕ → Option (List ℕ)
kind_listed kind =
    if bytes_eq kind (codes "CronJobList") then Some (codes "CronJob")
    else (if bytes_eq kind (codes "JobList") then Some (codes "Job") else None)

-- the kind of a list's items, where the list's own says it
abbrev pub item_kind : Data → Option (List ℕ)
item_kind d = option_and_then kind_listed (text_at (codes "kind") d)

-- an object with that text as its member of that name
abbrev pub with_text : List ℕ → List ℕ → Data → Data
with_text name text null = null
with_text name text (boolean b) = boolean b
with_text name text (number n) = number n
with_text name text (string s) = string s
with_text name text (array ds) = array ds
with_text name text (object ms) = object (put name (string text) ms)

abbrev pub with_version : Option (List ℕ) → Data → Data
with_version None d = d
with_version (Some version) d = with_text (codes "apiVersion") version d

abbrev pub with_kind : Option (List ℕ) → Option (List ℕ) → Data → Data
with_kind None version d = d
with_kind (Some kind) version d = with_text (codes "kind") kind (with_version version d)

-- what the list says, where the item says nothing
abbrev pub unless_said : Option Data → Option (List ℕ) → Option (List ℕ)
unless_said None kind = kind
unless_said (Some said) kind = None

-- an item of a list whose items have that kind and whose version is that: where it says no kind, it
-- is of both
-- rule: cluster-list
abbrev pub typed : Option (List ℕ) → Option (List ℕ) → Data → Data
typed kind version d = with_kind (unless_said (present (codes "kind") d) kind) version d

-- The objects that stand in values: one behind another, in arrays, in lists, in events of a watch.
use Rattle.std.specs.Prelude.{◌≡◌, ℕ, List, [], ◌∷◌, ◌++◌, ◌&&◌, ◌||◌, ◌==◌, not, Bool, true, false}
use Rattle.std.specs.Prelude.{Option, Some, None, option_map, option_and_then, unwrap_or, is_some, codes}
use Rattle.std.specs.Prelude.{cond, map, flat_map, if◌then◌else◌}
use Rattle.std.specs.List.{list_all, list_any}
use Rattle.std.specs.Str.{bytes_eq}
use Rattle.serde_json.specs.Data.{Data, null, boolean, number, string, array, object, Items, no_items, item, Members, no_members, member, put}
use Rattle.serde_json.specs.Find.{as_array, as_null, as_object, as_str, get}
use Rattle.serde_json.specs.View.{items_of, view}
use Rattle.serde_json.specs.declared.value.Value.{Value}
use Rattle.cj_manifest.specs.Members.{present}
use Rattle.cj_manifest.specs.Reading.{Reads}
use Rattle.cj_answers.specs.Json.{is_blank}
use Rattle.cj_answers.specs.declared.events.Event.{Event}
use Rattle.cj_answers.specs.declared.events.Event.TheVariants.{Seen, Deleted, Mark}

-- ---- objects

-- a text in it, where one is
abbrev pub text_at : List ℕ → Data → Option (List ℕ)
text_at name d = option_and_then as_str (present name d)

-- a text in its metadata
abbrev pub meta_at : List ℕ → Data → Option (List ℕ)
meta_at name d = option_and_then (text_at name) (present (codes "metadata") d)

abbrev pub has_uid : Data → Bool
has_uid d = not (bytes_eq (unwrap_or (meta_at (codes "uid") d) []) [])

-- a kind that commands look at
abbrev pub is_known : List ℕ → Bool
is_known k =
    (bytes_eq k (codes "CronJob") || bytes_eq k (codes "Job"))
    || (bytes_eq k (codes "List") || bytes_eq k (codes "CronJobList") || bytes_eq k (codes "JobList"))

-- an object of another kind, which is passed over; what says no kind isn't
-- rule: several-input
abbrev pub is_passed : Data → Bool
is_passed d = not (unwrap_or (option_map is_known (text_at (codes "kind") d)) true)

-- an object alone, unless it is passed over
abbrev pub kept : Data → List Data
kept d = if is_passed d then [] else d ∷ []

-- ---- events

abbrev pub event_named : List ℕ → Option Event
event_named name =
    if bytes_eq name (codes "ADDED") || bytes_eq name (codes "MODIFIED") then Some Seen
    else if bytes_eq name (codes "DELETED") then Some Deleted
    else if bytes_eq name (codes "BOOKMARK") || bytes_eq name (codes "ERROR") then Some Mark
    else None

-- what a value says as an event of a watch, if it is one
-- rule: several-input
abbrev pub event_of : Data → Option Event
event_of d =
    if is_some (option_and_then as_object (get (codes "object") d))
    then option_and_then event_named (option_and_then as_str (get (codes "type") d))
    else None

-- ---- lists

-- the values of an array
abbrev pub listed : Items → List Data
listed no_items = []
listed (item d ds) = d ∷ listed ds

-- the kind of the items of a list of this kind, if the list says it; none for what is no list
abbrev pub items_kind : List ℕ → Option (Option (List ℕ))
items_kind k =
    if bytes_eq k (codes "List") then Some None
    else if bytes_eq k (codes "CronJobList") then Some (Some (codes "CronJob"))
    else if bytes_eq k (codes "JobList") then Some (Some (codes "Job"))
    else None

abbrev pub put_text : List ℕ → Option (List ℕ) → Members → Members
put_text name None ms = ms
put_text name (Some t) ms = put name (string t) ms

-- an object with this kind and version
abbrev pub with_type : List ℕ → Option (List ℕ) → Data → Data
with_type kind version null = null
with_type kind version (boolean b) = boolean b
with_type kind version (number n) = number n
with_type kind version (string s) = string s
with_type kind version (array ds) = array ds
with_type kind version (object ms) =
    object (put_text (codes "apiVersion") version (put (codes "kind") (string kind) ms))

-- an item with what its list says of its kind and version, where it says no kind itself
abbrev pub typed : Option (List ℕ) → Option (List ℕ) → Data → Data
typed None version d = d
typed (Some kind) version d =
    if is_some (present (codes "kind") d) then d else with_type kind version d

-- what stands as its items, if that is an array
abbrev pub items_at : Data → Option Items
items_at d = option_and_then as_array (get (codes "items") d)

-- the kind of the items of a list, if the value is one
abbrev pub list_kind : Data → Option (Option (List ℕ))
list_kind d =
    if is_some (items_at d) then option_and_then items_kind (text_at (codes "kind") d) else None

-- the items of a list
-- rule: several-input
abbrev pub items_of_kind : Option (List ℕ) → Data → List Data
items_of_kind kind d =
    map (typed kind (text_at (codes "apiVersion") d)) (listed (unwrap_or (items_at d) no_items))

-- ---- the objects in values

-- what is left of the objects of an event
abbrev pub event_objects : Event → Data → List Data
event_objects Seen d = kept d
event_objects Deleted d = []
event_objects Mark d = []

abbrev pub list_objects : Option (Option (List ℕ)) → Data → List Data
list_objects None d = kept d
list_objects (Some kind) d = flat_map kept (items_of_kind kind d)

abbrev pub said_objects : Option Event → Data → List Data
said_objects None d = list_objects (list_kind d) d
said_objects (Some event) d = event_objects event (unwrap_or (get (codes "object") d) null)

-- the objects that a value says that is no array: that of an event, those of a list, or itself
-- rule: several-input
abbrev pub objects_said : Data → List Data
objects_said d = said_objects (event_of d) d

-- the objects in a value
-- rule: several-input
abbrev pub objects_in : Data → List Data
objects_in null = []
objects_in (array ds) = flat_map objects_said (listed ds)
objects_in (boolean b) = objects_said (boolean b)
objects_in (number n) = objects_said (number n)
objects_in (string s) = objects_said (string s)
objects_in (object ms) = objects_said (object ms)

abbrev pub list_once : Option (Option (List ℕ)) → Data → Bool
list_once None d = not (has_uid d)
list_once (Some kind) d = list_all (λ o. not (has_uid o)) (items_of_kind kind d)

abbrev pub said_once : Option Event → Data → Bool
said_once None d = list_once (list_kind d) d
said_once (Some event) d = false

-- it says of no object what may be said of it again: it is no event, and they have no uid
abbrev pub says_once : Data → Bool
says_once d = said_once (event_of d) d

abbrev pub are_said_once : Data → Bool
are_said_once null = true
are_said_once (array ds) = list_all says_once (listed ds)
are_said_once (boolean b) = says_once (boolean b)
are_said_once (number n) = says_once (number n)
are_said_once (string s) = says_once (string s)
are_said_once (object ms) = says_once (object ms)

-- ---- the list that is taken

pub data IsIn : Data → List Data → Type 0 where
  here : {d : Data} {ds : List Data} → IsIn d (d ∷ ds)
  further : {d e : Data} {ds : List Data} → IsIn d ds → IsIn d (e ∷ ds)

-- a list takes in objects: it has no others than its own and these; and where none of these was
-- said before, it has them all, behind its own and in their order
-- rule: several-input
pub record TakesIn (once : Bool) (objects old new : List Data) : Type 0 where
  pub no_other : (d : Data) → IsIn d new → IsIn d (old ++ objects)
  pub all : once ≡ true → new ≡ old ++ objects

-- the objects that are left of those that were seen
abbrev pub left_of : List (Option Value) → List Data
left_of [] = []
left_of (None ∷ rest) = left_of rest
left_of (Some v ∷ rest) = view v ∷ left_of rest

-- the list of objects that `kubectl get` prints
-- rule: several-input
abbrev pub list_of : List Data → Data
list_of ds =
    object (member (codes "apiVersion") (string (codes "v1"))
    (member (codes "items") (array (items_of ds))
    (member (codes "kind") (string (codes "List")) no_members)))

-- a value is the list of the objects in these
-- rule: several-input
pub record IsListFor (values : List Data) (d : Data) : Type 0 where
  pub objects : List Data
  pub list : d ≡ list_of objects
  pub taken : TakesIn (list_all are_said_once values) (flat_map objects_in values) [] objects

-- ---- one value

-- it is an object of Kubernetes, which has a kind, or an event of a watch
abbrev pub is_object : Data → Bool
is_object d = is_some (option_and_then as_str (get (codes "kind") d)) || is_some (event_of d)

-- it is such an object, or an array with one
abbrev pub has_object : Data → Bool
has_object (array ds) = list_any is_object (listed ds)
has_object null = is_object null
has_object (boolean b) = is_object (boolean b)
has_object (number n) = is_object (number n)
has_object (string s) = is_object (string s)
has_object (object ms) = is_object (object ms)

-- the objects in it are taken for it: it is an array with an object, or an event of a watch
-- rule: several-input
abbrev pub is_several : Data → Bool
is_several d = if is_some (as_array d) then has_object d else is_some (event_of d)

-- the values are one that is taken as it is
abbrev pub is_alone : List Data → Bool
is_alone [] = false
is_alone (d ∷ []) = not (is_several d) && not (is_passed d)
is_alone (d ∷ e ∷ ds) = false

-- a document says something
abbrev pub is_said : Data → Bool
is_said d = not (is_some (as_null d))

-- what is taken for the values of documents: the one as it is, or the list of the objects in them
-- rules: yaml-input, several-input
pub data IsTakenFor : List Data → Data → Type 0 where
  alone : {d : Data} → is_alone (d ∷ []) ≡ true → IsTakenFor (d ∷ []) d
  several : {ds : List Data} {d : Data} → is_alone ds ≡ false → IsListFor ds d → IsTakenFor ds d

-- ---- values one behind another

-- what may stand between two values: blanks, and the mark `---` of YAML
abbrev pub is_between : ℕ → Bool
is_between b = is_blank b || (b == 45)

-- the bytes are these behind such ones
pub record IsBehind (rest bytes : List ℕ) : Type 0 where
  pub front : List ℕ
  pub between : list_all is_between front ≡ true
  pub whole : bytes ≡ front ++ rest

-- the bytes are JSON of these values, one behind another
-- rule: several-input
pub data AreOf : List ℕ → List Data → Type 0 where
  no_more : {bytes : List ℕ} → IsBehind [] bytes → AreOf bytes []
  more : {bytes rest : List ℕ} {d : Data} {ds : List Data} (text : List ℕ)
      → IsBehind (text ++ rest) bytes → Reads text d → AreOf rest ds → AreOf bytes (d ∷ ds)

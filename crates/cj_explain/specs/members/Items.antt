-- The items of a list and the members of an object, one after another: the first that is wrong.
use Rattle.std.specs.Prelude.{ℕ, ◌+◌, List, [], ◌++◌, codes, if◌then◌else◌, Option, Some, None, Ok, option_and_then}
use Rattle.std.specs.Fmt.{decimal}
use Rattle.serde_json.specs.Data.{Data, Items, no_items, item, Members, no_members, member}
use Rattle.serde_json.specs.Find.{as_array, as_object}
use Rattle.cj_manifest.specs.Members.{present, unless_null}
use Rattle.cj_explain.specs.declared.members.entries.Entry.{Entry}
use Rattle.cj_explain.specs.declared.members.entries.Entry.TheVariants as Of
use Rattle.cj_explain.specs.declared.members.items.Item.{Item}
use Rattle.cj_explain.specs.declared.members.items.Item.TheVariants as In
use Rattle.cj_explain.specs.declared.members.want.Range.TheVariants.{Any}
use Rattle.cj_explain.specs.declared.members.want.Want.TheVariants as Want
use Rattle.cj_explain.specs.declared.members.want.Word.TheVariants as Word
use Rattle.cj_explain.specs.members.Actions.{caller, action, moment}
use Rattle.cj_explain.specs.members.Members.{Checked, at_fault, both, checked, must, other}
use Rattle.cj_explain.specs.members.Wants.{is_key, words}

-- ---- the items of a list

abbrev pub job : List ℕ → Data → Checked
job path d = both (must path d (codes "time") (Want.Text Word.Time))
    (must path d (codes "outcome") (Want.Text Word.State))

abbrev pub step : List ℕ → Data → Data → Checked
step path whole d = both (caller path whole d) (action path d)

abbrev pub edit : List ℕ → Data → Checked
edit path d = both (moment path d) (action path d)

abbrev pub run : List ℕ → Data → Checked
run path d = both (must path d (codes "seconds") (Want.Number Any))
    (must path d (codes "outcome") (Want.Text Word.End))

abbrev pub seed_by : List ℕ → Option Data → Checked
seed_by path None = at_fault [] path other (words Want.Manifest)
seed_by path (Some d) = Ok tt

-- an item by what the list is of; a step names a caller of the whole
-- rule: explain-members
abbrev pub item_of : Item → Data → List ℕ → Data → Checked
item_of In.Job whole path d = job path d
item_of In.Step whole path d = step path whole d
item_of In.Edit whole path d = edit path d
item_of In.Run whole path d = run path d
item_of In.Seed whole path d = seed_by path (unless_null d)

-- the path of an item: its list's, and its number from 0 on
abbrev pub item_path : List ℕ → ℕ → List ℕ
item_path list number = list ++ (codes "[" ++ (decimal number ++ codes "]"))

-- rule: explain-members
abbrev pub items_from : Item → Data → List ℕ → ℕ → Items → Checked
items_from kind whole list number no_items = Ok tt
items_from kind whole list number (item d ds) =
    both (item_of kind whole (item_path list number) d) (items_from kind whole list (number + 1) ds)

abbrev pub items_in : Item → Data → List ℕ → Option Items → Checked
items_in kind whole list None = Ok tt
items_in kind whole list (Some ds) = items_from kind whole list 0 ds

-- the items of a member, where that is a list
abbrev pub items : Item → Data → List ℕ → Checked
items kind whole name = items_in kind whole name (option_and_then as_array (present name whole))

-- ---- the members of an object

abbrev pub key_words : List ℕ
key_words = codes "under the key of a CronJob, NAMESPACE/NAME"

abbrev pub run_key : List ℕ → List ℕ → Checked
run_key path key = if is_key key then Ok tt else at_fault [] path other key_words

abbrev pub runs : Data → List ℕ → List ℕ → Data → Checked
runs whole path key d =
    both (run_key path key) (both (checked [] path Want.List d)
    (items_in In.Run whole path (as_array d)))

-- a member by what the object is of
-- rule: explain-members
abbrev pub entry_of : Entry → Data → List ℕ → List ℕ → Data → Checked
entry_of Of.Caller whole path key d = checked [] path (Want.Text Word.Role) d
entry_of Of.Zone whole path key d = checked [] path (Want.Text Word.Rule) d
entry_of Of.Runs whole path key d = runs whole path key d

abbrev pub entry_by : Entry → Data → List ℕ → List ℕ → Option Data → Checked
entry_by kind whole path key None = Ok tt
entry_by kind whole path key (Some d) = entry_of kind whole path key d

abbrev pub entry_path : List ℕ → List ℕ → List ℕ
entry_path name key = name ++ (codes "." ++ key)

-- one that is null isn't there
-- rule: explain-members
abbrev pub entries_from : Entry → Data → List ℕ → Members → Checked
entries_from kind whole name no_members = Ok tt
entries_from kind whole name (member key d ms) =
    both (entry_by kind whole (entry_path name key) key (unless_null d))
    (entries_from kind whole name ms)

abbrev pub entries_in : Entry → Data → List ℕ → Option Members → Checked
entries_in kind whole name None = Ok tt
entries_in kind whole name (Some ms) = entries_from kind whole name ms

-- the members of a member, where that is an object
abbrev pub entries : Entry → Data → List ℕ → Checked
entries kind whole name = entries_in kind whole name
    (option_and_then as_object (present name whole))

-- The items of a list that are refused, as JSON: which object each is, and what is wrong with it.
-- The members of an object are in the order of their names.
use Rattle.std.specs.Prelude.{ℕ, List, [], ◌∷◌, ◌++◌, codes, Option, None, Some}
use Rattle.serde_json.specs.Data.{Data, null, number, unsigned, string, array, object, member, no_members}
use Rattle.serde_json.specs.View.{items_of}
use Rattle.cj_base.specs.declared.faults.FieldFault.{FieldFault}
use Rattle.cj_cluster.specs.declared.kubectl.notes.ItemNote.{ItemNote}
use Rattle.cj_cluster.specs.declared.kubectl.notes.ListedKind.{ListedKind}
use Rattle.cj_cluster.specs.declared.kubectl.notes.Said.{Said}
use Rattle.cj_cluster.specs.declared.kubectl.notes.Said.TheVariants as Was
use Rattle.cj_cluster.specs.declared.kubectl.object.ObjectNamed.{ObjectNamed}
use Rattle.cj_explain.specs.Taken.{taken_message}
use Rattle.cj_explain.specs.ToldFaults.{told_faults, told_object}

-- an item with its faults, and which object it is
abbrev pub named_object : ℕ → Data → Data → Data → Data → Data
named_object n faults kind name namespace = object (
    member (codes "faults") faults (
    member (codes "item") (number (unsigned n)) (
    member (codes "kind") kind (
    member (codes "name") name (
    member (codes "namespace") namespace no_members)))))

-- as far as its value says it
-- rule: json-faults
abbrev pub item_object : ℕ → Option ObjectNamed → Data → Data
item_object n None faults = named_object n faults null null null
item_object n (Some o) faults =
    named_object n faults (string o.kind) (string o.name) (string o.namespace)

-- an item that is refused, counted from 1
abbrev pub item_data : ℕ → Option ObjectNamed → List FieldFault → Data
item_data n named fs = item_object n named (told_faults fs)

-- the one fault of an item whose name an earlier item of its kind has
-- rules: json-faults, library-audit
abbrev pub taken_faults : ListedKind → List ℕ → Data
taken_faults kind key =
    array (items_of (
    told_object (codes "NotAllowed") (codes "metadata.name") (taken_message kind key) ∷ []))

abbrev pub taken_data : ℕ → Option ObjectNamed → ListedKind → List ℕ → Data
taken_data n named kind key = item_object n named (taken_faults kind key)

abbrev pub refused_by : ℕ → Option ObjectNamed → Said → List Data
refused_by n named (Was.Kind kind) = []
refused_by n named (Was.Refused faults) = item_data n named faults ∷ []
refused_by n named (Was.Taken kind key) = taken_data n named kind key ∷ []

-- the refused items, in their order
-- rules: json-faults, library-audit
abbrev pub refused_items : List ItemNote → List Data
refused_items [] = []
refused_items (note ∷ notes) = refused_by note.place note.object note.said ++ refused_items notes

abbrev pub refused_data : List ItemNote → Data
refused_data notes = array (items_of (refused_items notes))

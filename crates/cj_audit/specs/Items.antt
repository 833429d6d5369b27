-- The items of a list that are neither a CronJob nor a Job, as JSON. The members of an object are
-- in the order of their names.
use Rattle.std.specs.Prelude.{ℕ, List, [], ◌∷◌, ◌++◌, codes}
use Rattle.serde_json.specs.Data.{Data, number, unsigned, string, array, object, member, no_members}
use Rattle.serde_json.specs.View.{items_of}
use Rattle.cj_cluster.specs.declared.kubectl.notes.ItemNote.{ItemNote}
use Rattle.cj_cluster.specs.declared.kubectl.notes.Said.{Said}
use Rattle.cj_cluster.specs.declared.kubectl.notes.Said.TheVariants as Was

-- such an item, counted from 1
abbrev pub kind_data : ℕ → List ℕ → Data
kind_data n kind = object (
    member (codes "item") (number (unsigned n)) (
    member (codes "kind") (string kind) no_members))

abbrev pub other_by : ℕ → Said → List Data
other_by n (Was.Kind kind) = kind_data n kind ∷ []
other_by n (Was.Refused faults) = []
other_by n (Was.Taken kind key) = []

-- those of all, in their order
-- rules: json-faults, library-audit
abbrev pub other_items : List ItemNote → List Data
other_items [] = []
other_items (note ∷ notes) = other_by note.place note.said ++ other_items notes

abbrev pub others_data : List ItemNote → Data
others_data notes = array (items_of (other_items notes))

-- The faults of a manifest as JSON, each in words. The members of an object are in the order of
-- their names.
use Rattle.std.specs.Prelude.{ℕ, List, map, codes}
use Rattle.serde_json.specs.Data.{Data, string, array, object, member, no_members}
use Rattle.serde_json.specs.View.{items_of}
use Rattle.cj_audit.specs.Faults.{cause_text}
use Rattle.cj_base.specs.declared.faults.FieldFault.{FieldFault}
use Rattle.cj_base.specs.Field.{path_of}
use Rattle.cj_explain.specs.Faults.{cause_of}

abbrev pub told_object : List ℕ → List ℕ → List ℕ → Data
told_object cause field message = object (
    member (codes "cause") (string cause) (
    member (codes "field") (string field) (
    member (codes "message") (string message) no_members)))

-- a fault by its cause, the path of its field, and what is wrong, in the words that its line of
-- `--explain` has behind the path
-- rules: check-json, json-faults
abbrev pub told_data : FieldFault → Data
told_data f = told_object (cause_text f.cause) (path_of f.field) (cause_of f.field f.cause)

-- the faults, in their order
-- rules: check-json, json-faults
abbrev pub told_faults : List FieldFault → Data
told_faults fs = array (items_of (map told_data fs))

-- Faults of a manifest as JSON. The members of an object are in the order of their names.
use Rattle.std.specs.Prelude.{ℕ, List, [], ◌∷◌, ◌++◌, map, codes, decimal}
use Rattle.serde_json.specs.Data.{Data, string, array, object, member, no_members}
use Rattle.serde_json.specs.View.{items_of}
use Rattle.cj_base.specs.declared.cause.Cause.{Cause}
use Rattle.cj_base.specs.declared.cause.Cause.TheVariants as Why
use Rattle.cj_base.specs.declared.faults.FieldFault.{FieldFault}
use Rattle.cj_base.specs.declared.schedule_fault.ScheduleFault.{ScheduleFault}
use Rattle.cj_base.specs.Field.{path_of}
use Rattle.cj_base.specs.ScheduleCause.{cause_name}

-- `Schedule FIELD BYTE CAUSE`
abbrev pub schedule_cause : ScheduleFault → List ℕ
schedule_cause f = codes "Schedule "
    ++ (decimal f.field ++ (codes " " ++ (decimal f.byte ++ (codes " " ++ cause_name f.cause))))

-- a cause by its name
-- rule: library-answers
abbrev pub cause_text : Cause → List ℕ
cause_text Why.Required = codes "Required"
cause_text Why.WrongType = codes "Type"
cause_text Why.NotSupported = codes "NotSupported"
cause_text Why.Fraction = codes "Fraction"
cause_text Why.TooLong = codes "TooLong"
cause_text Why.Format = codes "Format"
cause_text Why.Range = codes "Range"
cause_text Why.Zone = codes "Zone"
cause_text Why.NotAllowed = codes "NotAllowed"
cause_text (Why.Schedule f) = schedule_cause f

abbrev pub fault_object : List ℕ → List ℕ → Data
fault_object cause field = object (
    member (codes "cause") (string cause) (
    member (codes "field") (string field) no_members))

-- a fault, by its cause and the path of its field
-- rule: library-answers
abbrev pub fault_data : FieldFault → Data
fault_data f = fault_object (cause_text f.cause) (path_of f.field)

-- the faults, in their order
-- rule: library-answers
abbrev pub faults_data : List FieldFault → Data
faults_data fs = array (items_of (map fault_data fs))

-- one fault alone, of that cause and at that field
-- rule: library-answers
abbrev pub one_fault : List ℕ → List ℕ → Data
one_fault cause field = array (items_of (fault_object cause field ∷ []))

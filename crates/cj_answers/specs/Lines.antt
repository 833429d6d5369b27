-- The lines of faults, of members that are dropped, and of a manifest without a fault.
use Rattle.std.specs.Prelude.{List, ℕ, [], ◌∷◌, ◌++◌, codes}
use Rattle.cj_base.specs.declared.faults.FieldFault.{FieldFault}
use Rattle.cj_base.specs.Field.{path_of}
use Rattle.cj_types.specs.Keys.{Place}
use Rattle.cj_audit.specs.Faults.{cause_text}

-- `refused 2 FIELD CAUSE`, a line for each fault
abbrev pub fault_line : FieldFault → List ℕ
fault_line f =
    codes "refused 2 " ++ (path_of f.field ++ (codes " " ++ (cause_text f.cause ++ codes "\n")))

abbrev pub fault_lines : List FieldFault → List ℕ
fault_lines [] = []
fault_lines (f ∷ fs) = fault_line f ++ fault_lines fs

-- `warning FIELD`, a line for each member that is dropped
abbrev pub warning_line : List ℕ → List ℕ
warning_line path = codes "warning " ++ (path ++ codes "\n")

abbrev pub warning_lines : List (List ℕ) → List ℕ
warning_lines [] = []
warning_lines (w ∷ ws) = warning_line w ++ warning_lines ws

-- `ok KIND NAMESPACE/NAME`
abbrev pub ok_line : List ℕ → Place → List ℕ
ok_line kind key = codes "ok "
    ++ (kind ++ (codes " " ++ (key.namespace ++ (codes "/" ++ (key.name ++ codes "\n")))))

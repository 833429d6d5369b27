-- The answers of reading a manifest's bytes.
use Rattle.std.specs.Prelude.{◌≡◌, ◌≢◌, ℕ, List, [], Option, Some, None, IsUtf8}
use Rattle.std.specs.Result.{result_ok, result_err}
use Rattle.serde_json.specs.Data.{Data}
use Rattle.serde_json.specs.Read.{read}
use Rattle.cj_base.specs.declared.faults.FieldFault.{FieldFault}
use Rattle.cj_base.specs.declared.refusal.Refusal.{Refusal}
use Rattle.cj_base.specs.declared.refusal.Refusal.TheVariants.{Syntax, Invalid, OutOfMemory}
use Rattle.cj_manifest.specs.declared.kind.ObjectKind.{ObjectKind}
use Rattle.cj_manifest.specs.Table as fields

-- the bytes are UTF-8, and the JSON text (RFC 8259) of this value
-- rule: manifest-json
abbrev pub Reads : List ℕ → Data → Type 0
Reads bytes d = IsUtf8 bytes × (read bytes ≡ Some d)

-- the bytes are the JSON text of no value
abbrev pub IsNoValue : List ℕ → Type 0
IsNoValue bytes = (d : Data) → Reads bytes d → ⊥

-- there is no fault, and the answer is this draft with these warnings
pub record Says (X : Type 0) (faults : List FieldFault) (draft : Option X)
    (warnings : List (List ℕ)) (x : X) (ws : List (List ℕ)) : Type 0 where
  pub sound : faults ≡ []
  pub drafted : draft ≡ Some x
  pub warned : ws ≡ warnings

-- the refusal is of just these faults, or for want of memory
abbrev pub HasFaults : List FieldFault → Refusal → Type 0
HasFaults faults (Invalid fs) = (fs ≡ faults) × (fs ≢ [])
HasFaults faults OutOfMemory = Unit {0}
HasFaults faults other = ⊥

-- the bytes are a value without a fault, with this draft and these warnings
-- rule: manifest-json
pub record IsReading (X : Type 0) (faults : Data → List FieldFault) (draft : Data → Option X)
    (warnings : Data → List (List ℕ)) (bytes : List ℕ) (x : X) (ws : List (List ℕ)) : Type 0 where
  pub value : Data
  pub reads : Reads bytes value
  pub sound : faults value ≡ []
  pub drafted : draft value ≡ Some x
  pub warned : ws ≡ warnings value

-- the bytes are no JSON, or a value with just these faults, or there was no memory
-- rule: manifest-json
abbrev pub IsRefused : (Data → List FieldFault) → List ℕ → Refusal → Type 0
IsRefused faults bytes Syntax = (d : Data) → Reads bytes d → ⊥
IsRefused faults bytes (Invalid fs) = (d : Data) × Reads bytes d × (fs ≡ faults d) × (fs ≢ [])
IsRefused faults bytes OutOfMemory = Unit {0}
IsRefused faults bytes other = ⊥

-- the row of the name and that of the namespace have no fault
abbrev pub IsNamed : ObjectKind → Data → Type 0
IsNamed k m = (result_err (fields.name k m) ≡ None) × (result_err (fields.namespace m) ≡ None)

-- in the metadata of a manifest the rows of the name and of the namespace have no fault
abbrev pub HasNames : ObjectKind → Data → Type 0
HasNames k d = (m : Data) → result_ok (fields.metadata d) ≡ Some m → IsNamed k m

-- A key as contracts see it: the bytes of namespace and name.
use Rattle.std.specs.Prelude.{ℕ, Bool, List, [], ◌∷◌, ◌++◌, refl, Option, Some, None, Result, Ok, Err, is_none, ◌&&◌}
use Rattle.std.specs.declared.cmp.Ordering.{Ordering}
use Rattle.std.specs.Ordering.{nat_cmp, on, then_cmp}
use Rattle.std.specs.Cmp.Lexicographic.{slice_cmp}
use Rattle.std.specs.Coded.{Coded, code_by, coded×, coded_list, coded_ℕ}
use Rattle.cj_base.specs.declared.cause.Cause.{Cause}
use Rattle.cj_base.specs.declared.field.Field.{Field}
use Rattle.cj_base.specs.declared.field.Field.TheVariants as Of
use Rattle.cj_base.specs.declared.faults.FieldFault.{FieldFault}
use Rattle.cj_base.specs.declared.refusal.Refusal.{Refusal}
use Rattle.cj_base.specs.declared.refusal.Refusal.TheVariants.{Invalid}
use Rattle.cj_types.specs.Names.{longest, name_cause, namespace_cause}

pub record Place : Type 0 where
  pub namespace : List ℕ
  pub name : List ℕ

-- the key of a namespace and a name
-- rule: active-names
abbrev pub place : List ℕ → List ℕ → Place
place n m = record { namespace = n; name = m }

-- namespace and name are well formed, and the name has at most `limit` characters
abbrev pub is_place : ℕ → Place → Bool
is_place limit k = is_none (name_cause limit k.name) && is_none (namespace_cause k.namespace)

-- the order of keys: by the bytes of the namespace, then of the name
-- rule: key-order
abbrev pub place_cmp : Place → Place → Ordering
place_cmp = then_cmp (on (λ k. k.namespace) (slice_cmp nat_cmp))
    (on (λ k. k.name) (slice_cmp nat_cmp))

abbrev pub coded_place : Coded Place
coded_place = code_by (List ℕ × List ℕ) (coded× (coded_list coded_ℕ) (coded_list coded_ℕ))
    (λ k. (k.namespace, k.name)) (λ p. record { namespace = p.0; name = p.1 }) (λ _. refl)

-- the fault of a field that has one
abbrev pub fault_of : Field → Option Cause → List FieldFault
fault_of f None = []
fault_of f (Some c) = record { field = f; cause = c } ∷ []

-- the faults of a namespace and a name, in the order of the manifest's fields
-- rule: name-faults
abbrev pub key_faults : ℕ → List ℕ → List ℕ → List FieldFault
key_faults limit namespace name = fault_of Of.Name (name_cause limit name)
    ++ fault_of Of.Namespace (namespace_cause namespace)

-- the key, or the refusal with its faults
abbrev pub key_or_faults : List FieldFault → Place → Result Place Refusal
key_or_faults [] k = Ok k
key_or_faults (f ∷ fs) k = Err (Invalid (f ∷ fs))

-- the name, or the refusal with its fault
abbrev pub name_or_fault : List FieldFault → List ℕ → Result (List ℕ) Refusal
name_or_fault [] name = Ok name
name_or_fault (f ∷ fs) name = Err (Invalid (f ∷ fs))

abbrev pub new_name : List ℕ → Result (List ℕ) Refusal
new_name name = name_or_fault (fault_of Of.Name (name_cause longest name)) name

abbrev pub new_key : ℕ → List ℕ → List ℕ → Result Place Refusal
new_key limit namespace name = key_or_faults (key_faults limit namespace name)
    (place namespace name)

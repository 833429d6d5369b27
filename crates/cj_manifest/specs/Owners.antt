-- Owner references in a manifest (Kubernetes API reference, `OwnerReference`).
use Rattle.std.specs.Prelude.{ℕ, ◌&&◌, List, [], ◌∷◌, codes, Bool, true, false, Option, Some, None, option_and_then, Result, is_some}
use Rattle.serde_json.specs.Data.{Data, Items, no_items, item}
use Rattle.serde_json.specs.Find.{as_bool, as_str, as_array}
use Rattle.cj_base.specs.declared.cause.Cause.{Cause}
use Rattle.cj_base.specs.declared.cause.Cause.TheVariants as Why
use Rattle.cj_types.specs.declared.owners.OwnerRef.{OwnerRef}
use Rattle.cj_manifest.specs.Members.{present}
use Rattle.cj_manifest.specs.Values.{or_wrong_type, when, and_then}

abbrev pub then_do : {A B : Type 0} → Option A → (A → Option B) → Option B
then_do None f = None
then_do (Some x) f = f x

-- the row of a required text
abbrev pub text_at : List ℕ → Data → Option (List ℕ)
text_at name d = option_and_then as_str (present name d)

-- the row of a truth value, false where it is absent
abbrev pub flag_of : Option Data → Option Bool
flag_of None = Some false
flag_of (Some d) = as_bool d

abbrev pub flag_at : List ℕ → Data → Option Bool
flag_at name d = flag_of (present name d)

-- the reference in an object with those members
abbrev pub owner : Data → Option OwnerRef
owner d =
    then_do (text_at (codes "apiVersion") d) (λ api_version.
    then_do (text_at (codes "kind") d) (λ kind.
    then_do (text_at (codes "name") d) (λ name.
    then_do (text_at (codes "uid") d) (λ uid.
    then_do (flag_at (codes "controller") d) (λ controller.
    then_do (flag_at (codes "blockOwnerDeletion") d) (λ blocks.
    Some (record {
      api_version = api_version;
      kind = kind;
      name = name;
      uid = uid;
      controller = controller;
      block_owner_deletion = blocks;
    })))))))

abbrev pub all_owners : Items → Bool
all_owners no_items = true
all_owners (item d ds) = is_some (owner d) && all_owners ds

-- the row: a list of references
abbrev pub owners : Data → Result Items Cause
owners d = and_then (λ ds. when (all_owners ds) Why.WrongType ds) (or_wrong_type (as_array d))

abbrev pub onto : Option OwnerRef → List OwnerRef → List OwnerRef
onto None os = os
onto (Some o) os = o ∷ os

-- the references in their order
abbrev pub owner_list : Items → List OwnerRef
owner_list no_items = []
owner_list (item d ds) = onto (owner d) (owner_list ds)

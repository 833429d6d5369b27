-- Owner references that are written read back as they are.
use Rattle.std.proofs.Common.{◌≡◌, List, [], ◌∷◌, map, true, Option, Some, None, refl, ap}
use Rattle.std.specs.Result.{result_err}
use Rattle.serde_json.specs.Data.{Data, array}
use Rattle.serde_json.specs.View.{items_of}
use Rattle.cj_types.specs.declared.owners.OwnerRef.{OwnerRef}
use Rattle.cj_json.specs.Parts.{owner_data}
use Rattle.cj_manifest.specs.Owners.{owner, owners, all_owners, owner_list}
use Rattle.cj_manifest.specs.Values.{optional}
use Rattle.cj_manifest.specs.Drafts.{given, owners_in}

-- An owner reference that is written reads back as it is.
owner_back : (o : OwnerRef) → owner (owner_data o) ≡ Some o
owner_back o = refl

-- Each item that is written of owner references is an owner reference.
owners_alone : (os : List OwnerRef) → all_owners (items_of (map owner_data os)) ≡ true
owners_alone [] = refl
owners_alone (o ∷ os) = owners_alone os

-- The items that are written of owner references read back as these, in their order.
owners_back : (os : List OwnerRef) → owner_list (items_of (map owner_data os)) ≡ os
owners_back [] = refl
owners_back (o ∷ os) = ap (λ rest. o ∷ rest) (owners_back os)

-- a list that is written, where it has an item
abbrev pub list_data : List Data → Option Data
list_data [] = None
list_data (d ∷ ds) = Some (array (items_of (d ∷ ds)))

-- the row has no fault ..
pub owners_sound : (os : List OwnerRef) → result_err (optional owners (list_data (map owner_data os))) ≡ None
owners_sound [] = refl
owners_sound (o ∷ os) = rw (owners_alone os) refl

-- .. and says the references
pub owners_said : (os : List OwnerRef) → owners_in (given (optional owners (list_data (map owner_data os)))) ≡ os
owners_said [] = refl
owners_said (o ∷ os) = rw (owners_alone os) (owners_back (o ∷ os))

-- The owners of a Job as a server of any version says them: Kubernetes API concepts, "API groups
-- and versioning" (one object may be had in any version of its group), and "Owners and Dependents".
use Rattle.std.specs.Prelude.{ℕ, List, length, take, codes, Bool, nat_eq, if◌then◌else◌}
use Rattle.std.specs.Cmp.Lexicographic.{pointwise}
use Rattle.cj_types.specs.declared.owners.OwnerRef.{OwnerRef}

-- the text begins so
abbrev pub begins : List ℕ → List ℕ → Bool
begins front text = pointwise nat_eq (take (length front) text) front

-- a version of the group `batch` is `batch/v1`, as far as an owner is meant
-- rule: cluster-owner
abbrev pub stable : List ℕ → List ℕ
stable version = if begins (codes "batch/") version then codes "batch/v1" else version

-- a reference to an object in whatever version of the group
-- rule: cluster-owner
abbrev pub in_group : OwnerRef → OwnerRef
in_group o = record {
  api_version = stable o.api_version;
  kind = o.kind;
  name = o.name;
  uid = o.uid;
  controller = o.controller;
  block_owner_deletion = o.block_owner_deletion;
}

-- Objects of a kind by their names (Kubernetes API concepts, "Object names": a name is unique for a
-- kind at a time).
use Rattle.std.specs.Prelude.{ℕ, List, [], ◌∷◌, Option, Some, None, if◌then◌else◌}
use Rattle.cj_fence.specs.declared.table.Row.{Row}
use Rattle.cj_fence.specs.Texts.{is_same}

-- the object of the name, if one stands
abbrev pub find : {X : Type 0} → List ℕ → List (Row X) → Option X
find k [] = None
find k (r ∷ rs) = if is_same r.name k then Some r.object else find k rs

-- all but the object of the name
abbrev pub without : {X : Type 0} → List ℕ → List (Row X) → List (Row X)
without k [] = []
without k (r ∷ rs) = if is_same r.name k then without k rs else r ∷ without k rs

-- the object stands under the name, in place of what stood there
unfoldable pub put : {X : Type 0} → List ℕ → X → List (Row X) → List (Row X)
put k x rs = record { name = k; object = x } ∷ without k rs

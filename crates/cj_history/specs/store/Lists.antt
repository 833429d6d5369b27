-- Lists of objects (Kubernetes API concepts, "Collections"), which are in the order of keys (own).
use Rattle.std.specs.Prelude.{◌≡◌, Bool, List, [], ◌∷◌, Option, Some, None, if◌then◌else◌}
use Rattle.std.specs.List.{AllByRecursion}
use Rattle.std.specs.declared.cmp.Ordering.TheVariants.{Less}
use Rattle.cj_types.specs.Keys.{Place, place_cmp}
use Rattle.cj_queue.specs.Parts.{key_eq}

-- the object of a key in a list
abbrev pub found : {X : Type 0} → (X → Place) → List X → Place → Option X
found key [] k = None
found key (x ∷ xs) k = if key_eq (key x) k then Some x else found key xs k

-- each stands before all that follow it, by key
abbrev pub Rises : {X : Type 0} → (X → Place) → List X → Type 0
Rises key [] = Unit {0}
Rises key (x ∷ xs) = AllByRecursion (λ y. place_cmp (key x) (key y) ≡ Less) xs × Rises key xs

-- just the objects that stand at some key, in the order of their keys
-- rule: looking-back
pub record IsListing {X : Type 0} (key : X → Place) (now : Place → Option X) (xs : List X)
    : Type 0 where
  pub order : Rises key xs
  pub objects : (k : Place) → found key xs k ≡ now k

-- what stands there, if it passes the test
abbrev pub passing : {X : Type 0} → (X → Bool) → Option X → Option X
passing p None = None
passing p (Some x) = if p x then Some x else None

-- Sorted lists.
use Rattle.std.specs.Prelude.{◌≡◌, Bool, false, List, [], ◌∷◌, if◌then◌else◌}
use Rattle.std.specs.List.{AllByRecursion}

-- x inserted behind the first items that precede it
abbrev pub put_in : {X : Type 0} → (X → X → Bool) → X → List X → List X
put_in precedes x [] = x ∷ []
put_in precedes x (y ∷ ys) = if precedes y x then y ∷ put_in precedes x ys else x ∷ y ∷ ys

-- the list sorted; ties keep their order
abbrev pub in_order : {X : Type 0} → (X → X → Bool) → List X → List X
in_order precedes [] = []
in_order precedes (x ∷ xs) = put_in precedes x (in_order precedes xs)

-- no item precedes an earlier one
abbrev pub IsRising : {X : Type 0} → (X → X → Bool) → List X → Type 0
IsRising precedes [] = Unit {0}
IsRising precedes (x ∷ xs) = AllByRecursion (λ y. precedes y x ≡ false) xs × IsRising precedes xs

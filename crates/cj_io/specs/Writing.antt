-- What a writer holds where it may fail.
use Rattle.std.specs.Prelude.{◌≡◌, ℕ, List, ◌++◌, take, Option}
use Rattle.std.specs.Io.KnownBytes.{Appends}

-- a beginning of the bytes was appended, none or all of them included
abbrev pub AppendsSome : Option (List ℕ) → Option (List ℕ) → List ℕ → Type 0
AppendsSome old new bytes = (count : ℕ) × Appends old new (take count bytes)

-- text that waited, and then this one, were appended up to what waits now
pub record Prints (old : Option (List ℕ)) (waited text : List ℕ) (new : Option (List ℕ))
    (waits : List ℕ) : Type 0 where
  pub written : List ℕ
  pub appended : Appends old new written
  pub are : waited ++ text ≡ written ++ waits

-- since a start this text was printed, of which an end still waits to be written
pub record HasPrinted (start now : Option (List ℕ)) (waits text : List ℕ) : Type 0 where
  pub written : List ℕ
  pub appended : Appends start now written
  pub is : text ≡ written ++ waits

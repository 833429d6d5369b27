-- Which of some names a text is near to: the one from which it differs least, by Levenshtein's
-- distance.
use Rattle.std.specs.Prelude.{ℕ, ◌+◌, ◌/◌, List, [], ◌∷◌, length, Option, None, Some, nat_eq, nat_lt, if◌then◌else◌}
use Rattle.strsim.specs.Edits.{levenshtein_row}

-- how many bytes are put in, left out or changed
unfoldable pub edits : List ℕ → List ℕ → ℕ
edits text name = levenshtein_row nat_eq text name (length name)

-- a name where fewer bytes differ than that number, else another or none
abbrev pub below : List ℕ → ℕ → Option (List ℕ) → Option (List ℕ) → Option (List ℕ)
below text most other None = other
below text most other (Some name) = if nat_lt (edits text name) most then Some name else other

-- the nearest of the names, the first one of several that are as near
abbrev pub nearest : List ℕ → List (List ℕ) → Option (List ℕ)
nearest text [] = None
nearest text (name ∷ names) = below text (edits text name) (Some name) (nearest text names)

-- the one that may be meant: the nearest, where at most a third of the text is wrong
-- rule: explain-suggestion
abbrev pub meant : List ℕ → List (List ℕ) → Option (List ℕ)
meant text names = below text (length text / 3 + 1) None (nearest text names)

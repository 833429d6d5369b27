-- Lines with a mark before each.
use Rattle.std.specs.Prelude.{ℕ, ◌==◌, Bool, true, false, List, [], ◌∷◌, ◌++◌}

-- the mark goes before a byte that begins the text or follows the end of a line
abbrev pub marked_from : Bool → List ℕ → List ℕ → List ℕ
marked_from begins mark [] = []
marked_from true mark (b ∷ bs) = mark ++ (b ∷ marked_from (b == 10) mark bs)
marked_from false mark (b ∷ bs) = b ∷ marked_from (b == 10) mark bs

-- the text with the mark before each of its lines
-- rule: check-several
abbrev pub marked : List ℕ → List ℕ → List ℕ
marked mark text = marked_from true mark text

-- one line that hasn't ended
abbrev pub marked_without : List ℕ → List ℕ → List ℕ
marked_without mark [] = []
marked_without mark (b ∷ bs) = mark ++ (b ∷ bs)

-- Lists of numbers as people tell them: runs of numbers that follow one another, joined by commas
-- and `and`.
use Rattle.std.specs.Prelude.{ℕ, ◌+◌, ◌==◌, Bool, true, false, List, [], ◌∷◌, ◌++◌, length, codes, if◌then◌else◌}
use Rattle.cj_upcoming.specs.declared.part.Part.{Part}
use Rattle.cj_upcoming.specs.Parts.{name}

-- `9`, or `9 to 17`
-- rule: describe-parts
abbrev pub run_words : Part → ℕ → ℕ → List ℕ
run_words part first last =
    if first == last then name part first else name part first ++ (codes " to " ++ name part last)

-- the runs of a list in order, whose first run is known from one number to another
abbrev pub runs_from : Part → ℕ → ℕ → List ℕ → List (List ℕ)
runs_from part first last [] = run_words part first last ∷ []
runs_from part first last (n ∷ ns) =
    if n == last + 1 then runs_from part first n ns else run_words part first last
    ∷ runs_from part n n ns

abbrev pub runs : Part → List ℕ → List (List ℕ)
runs part [] = []
runs part (n ∷ ns) = runs_from part n n ns

abbrev pub link : Bool → List ℕ
link true = codes " and "
link false = codes ", "

-- each with its link before it
abbrev pub behind : List (List ℕ) → List ℕ
behind [] = []
behind (x ∷ xs) = (link (length xs == 0) ++ x) ++ behind xs

-- `A`, `A and B`, `A, B and C`
-- rule: describe-parts
abbrev pub join : List (List ℕ) → List ℕ
join [] = []
join (x ∷ xs) = x ++ behind xs

-- the numbers of a list in order
abbrev pub list_words : Part → List ℕ → List ℕ
list_words part ns = join (runs part ns)

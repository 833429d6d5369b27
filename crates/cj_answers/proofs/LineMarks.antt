-- A text with a mark before each line, line by line.
use Rattle.std.proofs.Common.{◌≡◌, ◌∙◌, ℕ, ◌+◌, ◌<◌, ◌==◌, List, [], ◌∷◌, ◌++◌, length, refl, sym, ap, arith, Bool, true, false, codes, append_assoc, suc}
use Rattle.std.specs.List.{position_or_len, before_first, after_first}
use Rattle.std.proofs.lemmas.Bool.Decides.{nat_tests}
use Rattle.cj_answers.specs.Marks.{marked, marked_from, marked_without}

-- the end of a line
abbrev pub ends : ℕ → Bool
ends b = b == 10

-- how far the end of a line is, behind one byte more
far : (b : ℕ) (bs : List ℕ) → ends b ≡ false → position_or_len ends (b ∷ bs) ≡ suc (position_or_len ends bs)
far b bs at = rw at (search arith)

-- and of one that is it
here : (b : ℕ) (bs : List ℕ) → ends b ≡ true → position_or_len ends (b ∷ bs) ≡ 0
here b bs at = rw at refl

-- it is the byte of a line feed
is_ten : (b : ℕ) → ends b ≡ true → b ≡ 10
is_ten b at = grind (arith, nat_tests, at)

-- For within: by whether the byte ends the line
within_by : (mark : List ℕ) (b : ℕ) (bs : List ℕ) (t : Bool) → ends b ≡ t
    → (position_or_len ends bs < length bs → marked_from false mark bs
    ≡ before_first ends bs ++ (10 ∷ marked_from true mark (after_first ends bs)))
    → position_or_len ends (b ∷ bs) < length (b ∷ bs)
    → b ∷ marked_from t mark bs ≡ before_first ends (b ∷ bs) ++ (10 ∷ marked_from true mark (after_first ends (b ∷ bs)))
within_by mark b bs true at more h = rw (here b bs at, is_ten b at) refl
within_by mark b bs false at more h =
    let inside : position_or_len ends bs < length bs = omega (arith, h, far b bs at) in
    let next : suc (position_or_len ends bs) + 1 ≡ suc (position_or_len ends bs + 1) = omega arith in
    rw (far b bs at, next) (ap (λ xs. b ∷ xs) (more inside))

-- For marked: within a line, up to its end
pub within : (mark text : List ℕ) → position_or_len ends text < length text
    → marked_from false mark text ≡ before_first ends text ++ (10 ∷ marked_from true mark (after_first ends text))
within mark [] h = absurd (omega (arith, h))
within mark (b ∷ bs) h = within_by mark b bs (ends b) refl (within mark bs) h

-- For rest_marked: by whether the byte ends the line
rest_by : (mark : List ℕ) (b : ℕ) (bs : List ℕ) (t : Bool) → ends b ≡ t
    → (position_or_len ends bs ≡ length bs → marked_from false mark bs ≡ bs)
    → position_or_len ends (b ∷ bs) ≡ length (b ∷ bs) → b ∷ marked_from t mark bs ≡ b ∷ bs
rest_by mark b bs true at more h = absurd (omega (arith, h, here b bs at))
rest_by mark b bs false at more h = ap (λ xs. b ∷ xs) (more (omega (arith, h, far b bs at)))

-- For rest_marked: within a line that doesn't end
within_rest : (mark text : List ℕ) → position_or_len ends text ≡ length text → marked_from false mark text ≡ text
within_rest mark [] h = refl
within_rest mark (b ∷ bs) h = rest_by mark b bs (ends b) refl (within_rest mark bs) h

-- For marked: the mark stands before a text that isn't empty
begun : (mark text : List ℕ) → 0 < length text → marked_from true mark text ≡ mark ++ marked_from false mark text
begun mark [] h = absurd (omega (arith, h))
begun mark (b ∷ bs) h = refl

-- what is left behind the last end of a line
pub rest_marked : (mark text : List ℕ) → position_or_len ends text ≡ length text
    → marked_without mark text ≡ marked mark text
rest_marked mark [] h = refl
rest_marked mark (b ∷ bs) h = ap (λ xs. mark ++ xs) (sym (within_rest mark (b ∷ bs) h))

-- a line, and what follows it
pub line_marked : (mark text : List ℕ) → position_or_len ends text < length text
    → marked mark text ≡ (mark ++ (before_first ends text ++ codes "\n")) ++ marked mark (after_first ends text)
line_marked mark text h =
    begun mark text (omega (arith, h)) ∙ ap (λ xs. mark ++ xs) (within mark text h)
    ∙ sym (append_assoc mark (before_first ends text ++ codes "\n") _
    ∙ ap (λ xs. mark ++ xs) (append_assoc (before_first ends text) (codes "\n") _))

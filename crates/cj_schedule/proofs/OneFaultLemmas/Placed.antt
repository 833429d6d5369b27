-- The words of a text with their places are those that the reading finds.
use Rattle.std.proofs.Common.{◌≡◌, ℕ, ◌+◌, ◌≤◌, ◌==◌, not, true, List, [], ◌∷◌, ◌++◌, length, Some, refl, sym, ap, ◌∙◌, arith, append-nil}
use Rattle.std.proofs.lemmas.Bool.Decides.{nat_tests}
use Rattle.std.specs.List.{list_all}
use Rattle.cj_schedule.specs.Faults.{ArePlaced}
use Rattle.cj_schedule.specs.Grammar.{IsApart, AreWords}
use Rattle.cj_schedule.specs.Pieces.{Piece, is_blank, split}
use Rattle.cj_schedule.proofs.FirstSplits.{split_none, split_some}
use Rattle.cj_schedule.proofs.Pieces.{pieces_none, pieces_split}
use Rattle.cj_schedule.proofs.Words.{texts, words_at, blanks_skipped}

-- An empty text has no words.
nothing : (place : ℕ) → words_at place [] ≡ []
nothing place = rw (pieces_none is_blank place) refl

-- the words of a word and what follows it
word_then : (place : ℕ) (word rest : List ℕ) → 1 ≤ length word → list_all (λ b. not (is_blank b)) word ≡ true
    → IsApart rest
    → words_at place (word ++ rest) ≡ record { place = place; text = word } ∷ words_at (place + length word) rest
word_then place word [] some plain apart =
    let has : not (length word == 0) ≡ true = grind (arith, nat_tests) in
    rw (append-nil word, pieces_split is_blank place word, split_none is_blank word plain)
    (rw has (ap (λ ps. record { place = place; text = word } ∷ ps) (sym (nothing (place + length word)))))
word_then place word (b ∷ bs) some plain apart =
    let has : not (length word == 0) ≡ true = grind (arith, nat_tests) in
    let here : split is_blank (word ++ b ∷ bs) ≡ (word, Some bs) = split_some is_blank word b bs plain apart in
    let blank : list_all is_blank (b ∷ []) ≡ true = rw apart refl in
    let next : place + length word + 1 ≡ place + (length word + 1) = omega arith in
    let after : words_at (place + length word) (b ∷ bs) ≡ words_at (place + (length word + 1)) bs =
    blanks_skipped (b ∷ []) bs (place + length word) blank ∙ ap (λ n. words_at n bs) next in
    rw (pieces_split is_blank place (word ++ b ∷ bs), here)
    (rw has (ap (λ ps. record { place = place; text = word } ∷ ps) (sym after)))

-- Words that stand in a text at their places are those that the reading finds.
pub placed_read : (ps : List Piece) (place : ℕ) (text : List ℕ) → ArePlaced place text ps → words_at place text ≡ ps
placed_read [] place text h =
    ap (words_at place) (sym (append-nil text)) ∙ blanks_skipped text [] place h ∙ nothing (place + length text)
placed_read (w ∷ ws) place text (blanks, rest, is, all, at, some, plain, apart, more) =
    ap (words_at place) is
    ∙ blanks_skipped blanks (w.text ++ rest) place all
    ∙ ap (λ n. words_at n (w.text ++ rest)) (sym at)
    ∙ word_then w.place w.text rest some plain apart
    ∙ ap (λ ps. w ∷ ps) (placed_read ws (w.place + length w.text) rest more)

-- Words that stand in a text at their places are its words by the grammar.
pub placed_words : (ps : List Piece) (place : ℕ) (text : List ℕ) → ArePlaced place text ps → AreWords text (texts ps)
placed_words [] place text h = h
placed_words (w ∷ ws) place text (blanks, rest, is, all, at, some, plain, apart, more) =
    (blanks, rest, is, all, some, plain, apart, placed_words ws (w.place + length w.text) rest more)

-- The first word of a text.
use Rattle.std.specs.Prelude.{IsCharBoundary, ◌==◌, ◌||◌}
use Rattle.std.proofs.lemmas.Bool.Decides.{nat_tests}
use Rattle.std.proofs.Common.{◌≡◌, ℕ, zero, suc, ◌+◌, ◌-◌, ◌<◌, ◌≤◌, Bool, true, false, true≢false, List, [], ◌∷◌, ◌++◌, length, take, drop, get_or, refl, sym, ap, ◌∙◌, subst, take-append-drop, get_or-take, get_or-drop, length-drop, length-take-le, arith, zero-lt-suc}
use Rattle.std.specs.List.{All}
use Rattle.std.specs.Str.{IsAsciiWhitespaceBelow, IsTrimAsciiStart}
use Rattle.std.specs.Char.{is_ascii_whitespace}
use Rattle.std.proofs.lemmas.List.Elements.{All-from_get_or}
use Rattle.cj_check.specs.Crontab.{BeginsWith, IsFirstWord, is_blank, none, word}

-- numbers that pass the test are equal
same_number : (a b : ℕ) → (a == b) ≡ true → a ≡ b
same_number a b e = grind (arith, nat_tests)

-- a space or a tab is white space, and needs no further byte
blank_by : (b : ℕ) (s t : Bool) → (b == 32) ≡ s → (b == 9) ≡ t → (s || t) ≡ true
    → (is_ascii_whitespace b ≡ true) × (b < 128)
blank_by b true t e f h =
    subst (λ n. (is_ascii_whitespace n ≡ true) × (n < 128)) (sym (same_number b 32 e)) (refl, omega arith)
blank_by b false true e f h =
    subst (λ n. (is_ascii_whitespace n ≡ true) × (n < 128)) (sym (same_number b 9 f)) (refl, omega arith)
blank_by b false false e f h = absurd (true≢false (sym h))

-- so a blank is
blank_is_space : (b : ℕ) → is_blank b ≡ true → (is_ascii_whitespace b ≡ true) × (b < 128)
blank_is_space b h = blank_by b (b == 32) (b == 9) refl refl h

-- a character begins at a blank, and at the end
pub is_boundary : (text : List ℕ) (k : ℕ) → k ≤ length text
    → (k < length text → is_blank (get_or text k 0) ≡ true) → IsCharBoundary text k
is_boundary text k le at =
    (le, λ lt big. let low = (blank_is_space (get_or text k 0) (at lt)).1 in absurd (omega (arith, big, low)))

-- bytes below a place that are white space are so in what is taken up to it
spaces_taken : (l : List ℕ) (n : ℕ) → n ≤ length l → IsAsciiWhitespaceBelow l n
    → All (λ b. is_ascii_whitespace b ≡ true) (take n l)
spaces_taken l n le below =
    All-from_get_or (λ b. is_ascii_whitespace b ≡ true) (take n l) 0 (λ i lt.
    let short : i < n = subst (λ m. i < m) (length-take-le n l le) lt in
    subst (λ b. is_ascii_whitespace b ≡ true) (sym (get_or-take n l i 0 short)) (below i short))

-- where no blank is taken off a text that begins with one, nothing is there
ends_at : (l rest : List ℕ) (n : ℕ) → rest ≡ drop n l → (0 < length l → is_blank (get_or l 0 0) ≡ true)
    → (n < length l → is_ascii_whitespace (get_or l n 0) ≡ false) → take n l ≡ [] → rest ≡ []
ends_at [] rest zero is blank not empty = is
ends_at [] rest (suc n) is blank not empty = is
ends_at (b ∷ bs) rest zero is blank not empty =
    absurd (true≢false (sym (blank_is_space b (blank (zero-lt-suc _))).0 ∙ not (zero-lt-suc _)))
ends_at (b ∷ bs) rest (suc n) is blank not empty = cc

-- the bytes up to a blank are the first word, and what white space leaves of the others is the rest
pub first_word : (text rest : List ℕ) (k : ℕ) → k ≤ length text → All (λ b. is_blank b ≡ false) (take k text)
    → (k < length text → is_blank (get_or text k 0) ≡ true) → IsTrimAsciiStart (drop k text) rest
    → IsFirstWord text (take k text) rest
first_word text rest k le whole at (n, is, long, below, not) =
    let len = length-drop k text in
    let short : n ≤ length (drop k text) = omega (arith, long) in
    record {
      gap = take n (drop k text);
      is = sym (take-append-drop k text)
          ∙ ap (λ l. take k text ++ l) (sym (take-append-drop n (drop k text))
          ∙ ap (λ l. take n (drop k text) ++ l) (sym is));
      whole = whole;
      blanks = spaces_taken (drop k text) n short below;
      ends = ends_at (drop k text) rest n is
          (λ lt. subst (λ b. is_blank b ≡ true) (sym (get_or-drop k text 0 0))
          (subst (λ m. is_blank (get_or text m 0) ≡ true) (omega arith) (at (omega (arith, len, lt))))) not;
    }

-- five words, one after the other
pub five_words : (text a p b q c r d s e t : List ℕ) → IsFirstWord text a p → IsFirstWord p b q → IsFirstWord q c r
    → IsFirstWord r d s → IsFirstWord s e t → BeginsWith (a ∷ b ∷ c ∷ d ∷ e ∷ []) text
five_words text a p b q c r d s e t one two three four five =
    word p one (word q two (word r three (word s four (word t five none))))

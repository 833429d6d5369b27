-- Texts that begin with words.
use Rattle.std.proofs.Common.{◌≡◌, ◌∙◌, ℕ, List, ◌++◌, ap, drop, sym, take, take-append-drop}

-- For after: what follows the words, where the first of that many bytes are those.
pub begins : (n : ℕ) (text words first rest : List ℕ) → first ≡ take n text → rest ≡ drop n text → first ≡ words
    → text ≡ words ++ rest
begins n text words first rest front back same =
    sym (take-append-drop n text)
    ∙ ap (λ (xs : List ℕ). xs ++ drop n text) (sym front ∙ same)
    ∙ ap (λ (xs : List ℕ). words ++ xs) (sym back)

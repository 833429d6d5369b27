-- Literal texts are printed byte by byte.
use Rattle.std.proofs.Common.{◌≡◌, ℕ, ◌+◌, ◌<◌, ◌≤◌, ◌==◌, ◌&&◌, not, List, [], ◌∷◌, ◌++◌, length, drop, get_or, Bool, cond, sym, ap, ◌∙◌, append_assoc}
use Rattle.std.proofs.lemmas.List.{drop_all, drop_more}
use Rattle.cj_yaml.specs.BlockStyle.{indent, literal_lines}

-- For line_goes_on: what one byte appends, and what follows, is what the byte and the rest are.
joined : (out part rest : List ℕ) (b : ℕ) → (out ++ (part ++ b ∷ [])) ++ rest ≡ out ++ (part ++ b ∷ rest)
joined out part rest b =
    append_assoc out (part ++ b ∷ []) rest ∙ ap (λ x. out ++ x) (append_assoc part (b ∷ []) rest)

-- For lines_at: one byte more.
pub line_goes_on : (s out new all spaces : List ℕ) (n i : ℕ) (fresh : Bool) → i < length s → spaces ≡ indent n
    → out ++ literal_lines n fresh (drop i s) ≡ all
    → new ≡ out ++ (cond (fresh && not (get_or s i 0 == 10)) spaces [] ++ get_or s i 0 ∷ [])
    → new ++ literal_lines n (get_or s i 0 == 10) (drop (i + 1) s) ≡ all
line_goes_on s out new all spaces n i fresh h same is e =
    let b = get_or s i 0 in
    let left = literal_lines n (b == 10) (drop (i + 1) s) in
    let front = cond (fresh && not (b == 10)) (indent n) [] in
    ap (λ x. x ++ left) (e ∙ ap (λ x. out ++ (cond (fresh && not (b == 10)) x [] ++ b ∷ [])) same)
    ∙ joined out front left b ∙ ap (λ x. out ++ literal_lines n fresh x) (sym (drop_more s i 0 h)) ∙ is

-- For lines_at: nothing is left.
pub line_ends : (s out new all : List ℕ) (n i : ℕ) (fresh : Bool) → length s ≤ i
    → out ++ literal_lines n fresh (drop i s) ≡ all → new ≡ out ++ cond fresh [] (10 ∷ []) → new ≡ all
line_ends s out new all n i fresh h is e =
    e ∙ ap (λ x. out ++ literal_lines n fresh x) (sym (drop_all i s h)) ∙ is

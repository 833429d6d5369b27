-- push_blanks: its loop, a turn of which puts one blank more behind.
use Rattle.std.proofs.Common.{◌≡◌, ◌++◌, ◌+◌, ◌∙◌, ◌∷◌, [], ℕ, List, ap, replicate}
use Rattle.std.proofs.lemmas.List.{append_assoc, replicate-append-replicate}
use Rattle.cj_why.proofs.reviews.table.push_blanks.Goals as goal

-- a blank behind blanks is one of one more
one_more : (before : List ℕ) (n : ℕ) → (before ++ replicate n 32) ++ (32 ∷ []) ≡ before ++ replicate (n + 1) 32
one_more before n =
    append_assoc before (replicate n 32) (32 ∷ []) ∙ ap (λ xs. before ++ xs) (replicate-append-replicate n 1 32)

pub loop-preserved : goal.loop-preserved
loop-preserved c =
    c.in_ok-push_str.ensures.bytes
    ∙ ap (λ xs. xs ++ (32 ∷ [])) c.loop.invariant
    ∙ one_more _ c.loop.counter

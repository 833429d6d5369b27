-- The rest of a list from one of its places.
use Rattle.std.proofs.Common.{◌≡◌, ◌+◌, ◌<◌, ◌∙◌, suc, ℕ, List, ◌∷◌, length, drop, get_or, sym, ap, arith}
use Rattle.std.proofs.Math.Seq.{drop-cons}

-- The rest of a list from one of its places is the value there and the rest after it.
pub rest_at : {A : Type 0} (values : List A) (i : ℕ) (x : A) → i < length values → x ≡ get_or values i x
    → drop i values ≡ x ∷ drop (i + 1) values
rest_at values i x inside at =
    let next : suc i ≡ i + 1 = omega arith in
    drop-cons values i x inside ∙ ap (λ y. y ∷ drop (suc i) values) (sym at) ∙ ap (λ n. x ∷ drop n values) next

-- A list from one of its places on.
use Rattle.std.proofs.Common.{◌≡◌, ◌∙◌, ℕ, ◌+◌, ◌<◌, List, ◌∷◌, length, drop, get_or, suc, sym, ap, arith}
use Rattle.std.proofs.Math.Seq.{drop-cons}
use Rattle.serde_json.specs.declared.value.Value.{Value}

-- From one of its places on a list is what stands there and the rest behind it.
pub rest_at : (values : List Value) (i : ℕ) (x : Value) → i < length values → x ≡ get_or values i x
    → drop i values ≡ x ∷ drop (i + 1) values
rest_at values i x inside at =
    let next : suc i ≡ i + 1 = omega arith in
    drop-cons values i x inside ∙ ap (λ y. y ∷ drop (suc i) values) (sym at) ∙ ap (λ n. x ∷ drop n values) next

-- The references in a list, one after another.
use Rattle.std.proofs.Common.{◌≡◌, ◌∙◌, ℕ, ◌+◌, ◌<◌, List, [], ◌∷◌, ◌++◌, length, drop, get_or, Result, Ok, Err, suc, refl, sym, ap, append_assoc, arith}
use Rattle.std.proofs.Math.Seq.{drop-cons}
use Rattle.serde_json.specs.View.{items_view, view}
use Rattle.serde_json.specs.declared.value.Value.{Value}
use Rattle.cj_base.specs.declared.refusal.Refusal.{Refusal}
use Rattle.cj_fence.specs.declared.refs.Ref.{Ref}
use Rattle.cj_control.specs.Objects.{then_read, ref_before, ref_row, refs_in}

-- these references before the others, if none of those is at fault
abbrev pub behind : List Ref → Result (List Ref) Refusal → Result (List Ref) Refusal
behind refs rest = then_read rest (λ xs. Ok (refs ++ xs))

-- No reference before the others changes nothing.
pub behind_none : (rest : Result (List Ref) Refusal) → behind [] rest ≡ rest
behind_none (Ok xs) = refl
behind_none (Err e) = refl

-- One reference more before the others is one more behind those so far.
behind_one : (refs : List Ref) (r : Ref) (rest : Result (List Ref) Refusal)
    → behind refs (ref_before (Ok r) rest) ≡ behind (refs ++ r ∷ []) rest
behind_one refs r (Ok xs) = ap Ok (sym (append_assoc refs (r ∷ []) xs))
behind_one refs r (Err e) = refl

-- From one of its places on a list is what stands there and the rest behind it.
rest_at : (values : List Value) (i : ℕ) (x : Value) → i < length values → x ≡ get_or values i x
    → drop i values ≡ x ∷ drop (i + 1) values
rest_at values i x inside at =
    let next : suc i ≡ i + 1 = omega arith in
    drop-cons values i x inside ∙ ap (λ y. y ∷ drop (suc i) values) (sym at) ∙ ap (λ n. x ∷ drop n values) next

-- For read_refs: the references so far and those from one on, which is none at fault.
pub refs_on : (n : List ℕ) (values : List Value) (i : ℕ) (x : Value) (refs : List Ref) (r : Ref) → i < length values
    → x ≡ get_or values i x → ref_row n (view x) ≡ Ok r
    → behind refs (refs_in n (items_view (drop i values)))
    ≡ behind (refs ++ r ∷ []) (refs_in n (items_view (drop (i + 1) values)))
refs_on n values i x refs r inside at is =
    let rest = refs_in n (items_view (drop (i + 1) values)) in
    ap (λ vs. behind refs (refs_in n (items_view vs))) (rest_at values i x inside at)
    ∙ ap (λ y. behind refs (ref_before y rest)) is ∙ behind_one refs r rest

-- For read_refs: a reference at fault ends the references.
pub refs_end : (n : List ℕ) (values : List Value) (i : ℕ) (x : Value) (refs : List Ref) (e : Refusal)
    → i < length values → x ≡ get_or values i x → ref_row n (view x) ≡ Err e
    → behind refs (refs_in n (items_view (drop i values))) ≡ Err e
refs_end n values i x refs e inside at is =
    let rest = refs_in n (items_view (drop (i + 1) values)) in
    ap (λ vs. behind refs (refs_in n (items_view vs))) (rest_at values i x inside at)
    ∙ ap (λ y. behind refs (ref_before y rest)) is

-- A map of labels, put at a place.
use Rattle.std.proofs.Common.{◌≡◌, ℕ, ◌<◌, zero, suc, List, [], ◌∷◌, ◌++◌, length, take, drop, get_or, cond, Some, refl, sym, ap, ◌∙◌, arith, append_assoc, subst}
use Rattle.std.specs.Prelude.{T, insert, slice_set, true, false, Bool, IsTrue, if◌then◌else◌}
use Rattle.std.specs.declared.cmp.Ordering.{Ordering}
use Rattle.std.specs.declared.cmp.Ordering.TheVariants.{Less, Equal, Greater}
use Rattle.std.specs.Ordering.{is_eq}
use Rattle.std.specs.FinMap.{slice_cmp-IsAntisymmetric, nat_cmp-IsAntisymmetric}
use Rattle.std.specs.FinMap.Entries.{by_order, is_sorted-put}
use Rattle.std.specs.Cmp.Lexicographic.{nat_list_cmp_total}
use Rattle.std.proofs.Math.Seq.{drop-cons, take-suc}
use Rattle.cj_types.specs.LabelMap.{text_cmp, put_label, label_of, is_label_map}

abbrev Entry : Type 0
Entry = List ℕ × List ℕ

-- The entries from a place on are the one at that place, and those behind it.
pub at_end : (es : List Entry) (i : ℕ) (e : Entry) → i < length es → get_or es i e ≡ e → drop i es ≡ e ∷ drop (suc i) es
at_end es i e lt is = drop-cons es i e lt ∙ ap (λ x. x ∷ drop (suc i) es) is

-- Where a name is to be put from a place on, its order to the entry there says how it is put.
opened : (n v : List ℕ) (es : List Entry) (i : ℕ) (e : Entry) (o : Ordering) → i < length es → get_or es i e ≡ e
    → text_cmp n e.0 ≡ o → put_label n v es ≡ take i es ++ put_label n v (drop i es)
    → put_label n v es ≡ take i es ++ by_order o ((n, v) ∷ e ∷ drop (suc i) es) ((e.0, v) ∷ drop (suc i) es)
    (e ∷ put_label n v (drop (suc i) es))
opened n v es i e o lt is cmp inv =
    let rest = drop (suc i) es in
    inv ∙ ap (λ r. take i es ++ r) (ap (put_label n v) (at_end es i e lt is)
    ∙ ap (λ p. by_order p ((n, v) ∷ e ∷ rest) ((e.0, v) ∷ rest) (e ∷ put_label n v rest)) cmp)

-- A list with an entry set at a place is the part before it, that entry, and the part behind.
set_parts : (es : List Entry) (i : ℕ) (x : Entry) → i < length es → slice_set es i x ≡ take i es ++ x ∷ drop (suc i) es
set_parts [] i x lt = absurd (omega arith)
set_parts (e ∷ es) zero x lt = refl
set_parts (e ∷ es) (suc i) x lt = ap (λ r. e ∷ r) (set_parts es i x (omega arith))

-- A name below that of the entry to which a search has come is inserted before that entry.
pub put_less : (n v : List ℕ) (es : List Entry) (i : ℕ) (e : Entry) → i < length es → get_or es i e ≡ e
    → text_cmp n e.0 ≡ Less → put_label n v es ≡ take i es ++ put_label n v (drop i es)
    → put_label n v es ≡ insert es i (n, v)
put_less n v es i e lt is cmp inv =
    opened n v es i e Less lt is cmp inv ∙ ap (λ r. take i es ++ (n, v) ∷ r) (sym (at_end es i e lt is))

-- For find_place: where the entry to which the search has come has the name, its value is set.
pub put_equal : (n v : List ℕ) (es : List Entry) (i : ℕ) (e : Entry) → i < length es → get_or es i e ≡ e
    → text_cmp n e.0 ≡ Equal → put_label n v es ≡ take i es ++ put_label n v (drop i es)
    → put_label n v es ≡ slice_set es i (n, v)
put_equal n v es i e lt is cmp inv =
    let same : n ≡ e.0 = slice_cmp-IsAntisymmetric nat_cmp-IsAntisymmetric _ _ cmp in
    opened n v es i e Equal lt is cmp inv ∙ ap (λ m. take i es ++ (m, v) ∷ drop (suc i) es) (sym same)
    ∙ sym (set_parts es i (n, v) lt)

-- A name above that of the entry to which a search has come is put among those behind it.
pub put_on : (n v : List ℕ) (es : List Entry) (i : ℕ) (e : Entry) → i < length es → get_or es i e ≡ e
    → text_cmp n e.0 ≡ Greater → put_label n v es ≡ take i es ++ put_label n v (drop i es)
    → put_label n v es ≡ take (suc i) es ++ put_label n v (drop (suc i) es)
put_on n v es i e lt is cmp inv =
    let rest = put_label n v (drop (suc i) es) in
    opened n v es i e Greater lt is cmp inv
    ∙ sym (append_assoc (take i es) (e ∷ []) rest)
    ∙ ap (λ r. r ++ rest) (sym (take-suc es i e lt ∙ ap (λ x. take i es ++ x ∷ []) is))

-- From a place on, a name's value is that of the entry there, if it has the name, or a later one.
pub label_here : (n : List ℕ) (es : List Entry) (i : ℕ) (e : Entry) (b : Bool) → i < length es → get_or es i e ≡ e
    → is_eq (text_cmp n e.0) ≡ b → label_of n (drop i es) ≡ cond b (Some e.1) (label_of n (drop (suc i) es))
label_here n es i e b lt is eq = ap (label_of n) (at_end es i e lt is) ∙ ap
    (λ t. cond t (Some e.1) (label_of n (drop (suc i) es))) eq

-- A map of labels into which a value is put is a map of labels.
after_put : (n v : List ℕ) (es fs : List Entry) → put_label n v es ≡ fs → IsTrue (is_label_map es)
    → IsTrue (is_label_map fs)
after_put n v es fs h sorted = subst (λ x. IsTrue (is_label_map x)) h
    (of_test _ (is_sorted-put text_cmp nat_list_cmp_total n v es (test_of _ sorted)))
  where
    test_of : (b : Bool) → b ≡ true → T b
    test_of true h = tt
    test_of false h = absurd (cc h)

    of_test : (b : Bool) → T b → b ≡ true
    of_test true h = refl
    of_test false h = absurd h

-- For Labels::put: where a put sets an entry at a place, the entries stay a map of labels.
pub set_keeps : (n m v : List ℕ) (es fs : List Entry) (i : ℕ) → m ≡ n → fs ≡ es
    → put_label m v fs ≡ slice_set fs i (m, v) → IsTrue (is_label_map es)
    → IsTrue (is_label_map (slice_set es i (n, v)))
set_keeps n m v es fs i names same h =
    let at : put_label m v es ≡ slice_set es i (m, v) = subst (λ x. put_label m v x ≡ slice_set x i (m, v)) same h in
    let placed : put_label n v es ≡ slice_set es i (n, v) =
    subst (λ k. put_label k v es ≡ slice_set es i (k, v)) names at in
    after_put n v es _ placed

-- For Labels::put: where a put inserts an entry at a place, the entries stay a map of labels,
-- whether or not there was memory for it.
pub insert_keeps : (b : Bool) (n m v : List ℕ) (es fs new : List Entry) (i : ℕ) → m ≡ n → fs ≡ es
    → put_label m v fs ≡ insert fs i (m, v) → new ≡ (if b then insert es i (n, v) else es) → IsTrue (is_label_map es)
    → IsTrue (is_label_map new)
insert_keeps true n m v es fs new i names same h is sorted =
    let at : put_label m v es ≡ insert es i (m, v) = subst (λ x. put_label m v x ≡ insert x i (m, v)) same h in
    let placed : put_label n v es ≡ insert es i (n, v) = subst (λ k. put_label k v es ≡ insert es i (k, v)) names at in
    after_put n v es new (placed ∙ sym is) sorted
insert_keeps false n m v es fs new i names same h is sorted = subst (λ x. IsTrue (is_label_map x)) (sym is) sorted

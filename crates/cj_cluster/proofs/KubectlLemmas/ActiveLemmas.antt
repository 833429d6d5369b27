-- The names in a list of references, one after another.
use Rattle.std.proofs.Common.{◌≡◌, ◌∙◌, ℕ, ◌+◌, ◌<◌, ◌||◌, true, List, [], ◌∷◌, ◌++◌, length, drop, get_or, Some, None, Result, Ok, Err, refl, sym, ap, append_assoc}
use Rattle.serde_json.specs.View.{items_view, view}
use Rattle.serde_json.specs.declared.value.Value.{Value}
use Rattle.cj_base.specs.declared.cause.Cause.{Cause}
use Rattle.cj_manifest.specs.Values.{and_then}
use Rattle.cj_cluster.proofs.KubectlLemmas.Places.{rest_at}
use Rattle.cj_cluster.specs.kubectl.Rows.{before, has_nameless, is_nameless, name_in, names_in}

-- these names before the others, if there is no cause against those
abbrev pub behind : List (List ℕ) → Result (List (List ℕ)) Cause → Result (List (List ℕ)) Cause
behind names rest = and_then (λ ns. Ok (names ++ ns)) rest

-- No name before the others changes nothing.
pub behind_none : (rest : Result (List (List ℕ)) Cause) → behind [] rest ≡ rest
behind_none (Ok ns) = refl
behind_none (Err c) = refl

-- One name more before the others is one more behind those so far.
behind_one : (names : List (List ℕ)) (name : List ℕ) (rest : Result (List (List ℕ)) Cause)
    → behind names (before (Ok (Some name)) rest) ≡ behind (names ++ name ∷ []) rest
behind_one names name (Ok ns) = ap Ok (sym (append_assoc names (name ∷ []) ns))
behind_one names name (Err c) = refl

-- For names_in: the names so far and those from a reference on, where the reference has a name.
pub names_on : (values : List Value) (i : ℕ) (x : Value) (names : List (List ℕ)) (name : List ℕ) → i < length values
    → x ≡ get_or values i x → Ok (Some name) ≡ name_in (view x)
    → behind names (names_in (items_view (drop i values)))
    ≡ behind (names ++ name ∷ []) (names_in (items_view (drop (i + 1) values)))
names_on values i x names name inside at is =
    let rest = names_in (items_view (drop (i + 1) values)) in
    ap (λ vs. behind names (names_in (items_view vs))) (rest_at values i x inside at)
    ∙ ap (λ r. behind names (before r rest)) (sym is) ∙ behind_one names name rest

-- For names_in: the names so far and those from a reference on, where the reference has none.
pub names_past : (values : List Value) (i : ℕ) (x : Value) (names : List (List ℕ)) → i < length values
    → x ≡ get_or values i x → Ok None ≡ name_in (view x)
    → behind names (names_in (items_view (drop i values)))
    ≡ behind names (names_in (items_view (drop (i + 1) values)))
names_past values i x names inside at is =
    let rest = names_in (items_view (drop (i + 1) values)) in
    ap (λ vs. behind names (names_in (items_view vs))) (rest_at values i x inside at)
    ∙ ap (λ r. behind names (before r rest)) (sym is)

-- For names_in: a reference whose name is refused ends the names.
pub names_end : (values : List Value) (i : ℕ) (x : Value) (names : List (List ℕ)) (cause : Cause) → i < length values
    → x ≡ get_or values i x → Err cause ≡ name_in (view x)
    → behind names (names_in (items_view (drop i values))) ≡ Err cause
names_end values i x names cause inside at is =
    let rest = names_in (items_view (drop (i + 1) values)) in
    ap (λ vs. behind names (names_in (items_view vs))) (rest_at values i x inside at)
    ∙ ap (λ r. behind names (before r rest)) (sym is)

-- For has_nameless: a reference without a name is one of those from its place on.
pub nameless_here : (values : List Value) (i : ℕ) (x : Value) → i < length values → x ≡ get_or values i x
    → is_nameless (view x) ≡ true → has_nameless (items_view (drop i values)) ≡ true
nameless_here values i x inside at is =
    let rest = has_nameless (items_view (drop (i + 1) values)) in
    ap (λ vs. has_nameless (items_view vs)) (rest_at values i x inside at) ∙ ap (λ b. b || rest) is

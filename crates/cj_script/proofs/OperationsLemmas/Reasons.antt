-- The reasons of a list, one after another.
use Rattle.std.proofs.Common.{◌≡◌, ◌+◌, ◌<◌, ◌∙◌, ℕ, List, [], ◌∷◌, ◌++◌, length, drop, get_or, Option, Some, None, option_and_then, ap}
use Rattle.serde_json.specs.View.{items_view, view}
use Rattle.serde_json.specs.declared.value.Value.{Value}
use Rattle.serde_json.specs.Data.{Items}
use Rattle.cj_types.specs.declared.policy.Reason.{Reason}
use Rattle.cj_script.specs.operations.Finishes.{reason_in, with_reasons}
use Rattle.cj_script.proofs.OperationsLemmas.Rest.{rest_at}

-- The reasons so far with the one read, if it is one, and with those of the items left.
after : List Reason → Items → Option Reason → Option (List Reason)
after reasons ds o = option_and_then (λ reason. with_reasons (reasons ++ reason ∷ []) ds) o

-- one reason more
pub reasons-more : (values : List Value) (i : ℕ) (x : Value) (reasons : List Reason) (reason : Reason)
    → i < length values → x ≡ get_or values i x
    → reason_in (view x) ≡ Some reason
    → with_reasons reasons (items_view (drop i values)) ≡ with_reasons (reasons ++ reason ∷ [])
    (items_view (drop (i + 1) values))
unfolding after
reasons-more values i x reasons reason inside at is =
    ap (λ vs. with_reasons reasons (items_view vs)) (rest_at values i x inside at)
    ∙ ap (after reasons (items_view (drop (i + 1) values))) is

-- one that is none
pub reasons-end : (values : List Value) (i : ℕ) (x : Value) (reasons : List Reason) → i < length values
    → x ≡ get_or values i x
    → reason_in (view x) ≡ None → with_reasons reasons (items_view (drop i values)) ≡ None
unfolding after
reasons-end values i x reasons inside at is =
    ap (λ vs. with_reasons reasons (items_view vs)) (rest_at values i x inside at)
    ∙ ap (after reasons (items_view (drop (i + 1) values))) is

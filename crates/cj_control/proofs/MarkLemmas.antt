-- What an array and a text say as marks of a Job.
use Rattle.std.proofs.Common.{◌≡◌, ℕ, List, [], ◌∷◌, length, refl, subst, inr, arith}
use Rattle.std.specs.Prelude.{Option, Some, ◌==◌, not}
use Rattle.std.proofs.lemmas.Bool.Decides.{nat_tests}
use Rattle.serde_json.specs.View.{items_view}
use Rattle.serde_json.specs.declared.value.Value.{Value}
use Rattle.cj_cluster.specs.kubectl.Instants.{IsNoInstant}
use Rattle.cj_control.specs.Objects.{has_items, IsTimeMark}

-- For has_items: an array has values where its length isn't 0.
pub are_items : (vs : List Value) → has_items (items_view vs) ≡ not (length vs == 0)
are_items [] = refl
are_items (v ∷ vs) = grind (arith, nat_tests)

-- For time_mark: a text that prints no instant marks none.
pub no_time : (o : Option (List ℕ)) (text : List ℕ) → Some text ≡ o → IsNoInstant text → IsTimeMark o 0
no_time o text is none = subst (λ x. IsTimeMark x 0) is (inr (refl, none))

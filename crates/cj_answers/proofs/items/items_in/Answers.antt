-- items_in: none is taken in yet, one value more is, and all are.
use Rattle.std.proofs.Common.{[], map, flat_map, refl}
use Rattle.std.specs.List.{list_all}
use Rattle.serde_json.specs.View.{view}
use Rattle.cj_answers.specs.Objects.{are_said_once, left_of, objects_in}
use Rattle.cj_answers.proofs.ObjectLists.{going_done, going_more, going_starts, nothing_left}
use Rattle.cj_answers.proofs.items.items_in.Goals as goal

pub loop-value-init : goal.loop-value-init
loop-value-init c =
    going_starts (λ vs. list_all are_said_once (map view vs)) (λ vs. flat_map objects_in (map view vs)) _ _ _ []
    c.into_iter-value-iterator.ensures.into_iter_gives.0 c.new-items.ensures

pub loop-value-preserved : goal.loop-value-preserved
loop-value-preserved c =
    going_more (λ vs. list_all are_said_once (map view vs)) (λ vs. flat_map objects_in (map view vs)) _ _
    c.in-Some.value _ _ _ _ _ _ _ c.in-Some.ensures.steps.0 refl refl c.loop-value.invariant c.in_ok-push.ensures

pub returns : goal.returns
returns c =
    going_done (λ vs. list_all are_said_once (map view vs)) (λ vs. flat_map objects_in (map view vs)) _ _ _ _ _
    (nothing_left c.loop-value.value-iterator c.in-None.ensures.steps.0) refl refl c.loop-value.invariant

-- push_all: none is taken in yet, one value more is, and all are.
use Rattle.std.proofs.Common.{map, flat_map, refl}
use Rattle.std.specs.List.{list_all}
use Rattle.serde_json.specs.View.{view}
use Rattle.cj_answers.specs.Objects.{objects_said, says_once}
use Rattle.cj_answers.proofs.ObjectLists.{going_done, going_more, going_starts, nothing_left}
use Rattle.cj_answers.proofs.items.Items.push_all.Goals as goal

pub loop-value-init : goal.loop-value-init
loop-value-init c =
    going_starts (λ vs. list_all says_once (map view vs)) (λ vs. flat_map objects_said (map view vs)) _ _ _ _
    c.into_iter-value-iterator.ensures.into_iter_gives.0 refl

pub loop-value-preserved : goal.loop-value-preserved
loop-value-preserved c =
    going_more (λ vs. list_all says_once (map view vs)) (λ vs. flat_map objects_said (map view vs)) _ _
    c.in-Some.value _ _ _ _ _ _ _ c.in-Some.ensures.steps.0 refl refl c.loop-value.invariant
    c.in_ok-push_one.ensures

pub returns : goal.returns
returns c =
    going_done (λ vs. list_all says_once (map view vs)) (λ vs. flat_map objects_said (map view vs)) _ _ _ _ _
    (nothing_left c.loop-value.value-iterator c.in-None.ensures.steps.0) refl refl c.loop-value.invariant

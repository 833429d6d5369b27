-- push_typed: none is taken in yet, one item more is, and all are.
use Rattle.std.proofs.Common.{map, flat_map, not, option_map, refl}
use Rattle.std.specs.List.{list_all}
use Rattle.serde_json.specs.View.{view}
use Rattle.cj_answers.specs.Objects.{has_uid, kept, typed}
use Rattle.cj_answers.proofs.ObjectLists.{going_done, going_more, going_starts, nothing_left, typed_takes}
use Rattle.cj_answers.proofs.items.Items.push_typed.Goals as goal

pub loop-item-init : goal.loop-item-init
loop-item-init c =
    going_starts
    (λ vs.
    list_all (λ o. not (has_uid o))
    (map (typed (option_map (λ s. s.now) c.args.kind) (option_map (λ s. s.now) c.args.version)) (map view vs)))
    (λ vs.
    flat_map kept
    (map (typed (option_map (λ s. s.now) c.args.kind) (option_map (λ s. s.now) c.args.version)) (map view vs)))
    _ _ _ _ c.into_iter-item-iterator.ensures.into_iter_gives.0 refl

pub loop-item-preserved : goal.loop-item-preserved
loop-item-preserved c =
    going_more
    (λ vs.
    list_all (λ o. not (has_uid o))
    (map (typed (option_map (λ s. s.now) c.args.kind) (option_map (λ s. s.now) c.args.version)) (map view vs)))
    (λ vs.
    flat_map kept
    (map (typed (option_map (λ s. s.now) c.args.kind) (option_map (λ s. s.now) c.args.version)) (map view vs)))
    _ _ c.in-Some.item _ _ _ _ _ _ _ c.in-Some.ensures.steps.0 refl refl c.loop-item.invariant
    (typed_takes (view c.in_ok-item.item)
    (typed (option_map (λ s. s.now) c.args.kind) (option_map (λ s. s.now) c.args.version) (view c.in-Some.item)) _ _
    c.in_ok-item.ensures c.in_ok-push_seen.ensures)

pub returns : goal.returns
returns c =
    going_done
    (λ vs.
    list_all (λ o. not (has_uid o))
    (map (typed (option_map (λ s. s.now) c.args.kind) (option_map (λ s. s.now) c.args.version)) (map view vs)))
    (λ vs.
    flat_map kept
    (map (typed (option_map (λ s. s.now) c.args.kind) (option_map (λ s. s.now) c.args.version)) (map view vs)))
    _ _ _ _ _ (nothing_left c.loop-item.item-iterator c.in-None.ensures.steps.0) refl refl c.loop-item.invariant

-- push_typed: what takes in the items to come has taken in all.
use Rattle.std.proofs.Common.{map, flat_map, not, option_map}
use Rattle.std.specs.List.{list_all}
use Rattle.std.specs.Vec.Iter.{into_iter_items}
use Rattle.serde_json.specs.View.{view}
use Rattle.cj_answers.specs.Objects.{has_uid, kept, left_of, typed}
use Rattle.cj_answers.proofs.ObjectLists.{Going}
use Rattle.cj_answers.proofs.items.Items.push_typed.Given as goal

abbrev pub invariant-loop-item : goal.invariant-loop-item
invariant-loop-item l =
    let as_item = typed (option_map (λ s. s.now) l.kind) (option_map (λ s. s.now) l.version) in
    Going (list_all (λ o. not (has_uid o)) (map as_item (map view (into_iter_items l.item-iterator))))
    (flat_map kept (map as_item (map view (into_iter_items l.item-iterator)))) (left_of l.self.values.items)
    (list_all (λ o. not (has_uid o)) (map as_item (map view l.fn.items.items)))
    (flat_map kept (map as_item (map view l.fn.items.items))) (left_of l.initial.self.values.items)

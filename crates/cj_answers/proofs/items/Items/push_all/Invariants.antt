-- push_all: what takes in the objects of the values to come has taken in all.
use Rattle.std.proofs.Common.{map, flat_map}
use Rattle.std.specs.List.{list_all}
use Rattle.std.specs.Vec.Iter.{into_iter_items}
use Rattle.serde_json.specs.View.{view}
use Rattle.cj_answers.specs.Objects.{left_of, objects_said, says_once}
use Rattle.cj_answers.proofs.ObjectLists.{Going}
use Rattle.cj_answers.proofs.items.Items.push_all.Given as goal

abbrev pub invariant-loop-value : goal.invariant-loop-value
invariant-loop-value l =
    Going (list_all says_once (map view (into_iter_items l.value-iterator)))
    (flat_map objects_said (map view (into_iter_items l.value-iterator))) (left_of l.self.values.items)
    (list_all says_once (map view l.fn.values.items)) (flat_map objects_said (map view l.fn.values.items))
    (left_of l.initial.self.values.items)

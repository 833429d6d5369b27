-- into_left: those that are left so far, and those to come, are all.
use Rattle.std.proofs.Common.{◌≡◌, ◌++◌, map}
use Rattle.std.specs.Vec.Iter.{into_iter_items}
use Rattle.serde_json.specs.View.{view}
use Rattle.cj_answers.specs.Objects.{left_of}
use Rattle.cj_answers.proofs.items.Items.into_left.Given as goal

abbrev pub invariant-loop-value : goal.invariant-loop-value
invariant-loop-value l =
    map view l.left.items ++ left_of (into_iter_items l.value-iterator) ≡ left_of l.fn.self.values.items

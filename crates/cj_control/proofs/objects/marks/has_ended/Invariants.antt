-- has_ended: its loop; at each turn the conditions to come say what all say.
use Rattle.std.proofs.Common.{◌≡◌, drop}
use Rattle.serde_json.specs.View.{items_view}
use Rattle.cj_control.specs.Objects.{has_ended}
use Rattle.cj_control.proofs.objects.marks.has_ended.Given as goal

abbrev pub invariant-loop-condition : goal.invariant-loop-condition
invariant-loop-condition l =
    has_ended (items_view (drop l.condition-index l.conditions)) ≡ has_ended (items_view l.conditions)

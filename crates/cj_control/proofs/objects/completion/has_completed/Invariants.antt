-- has_completed: its loop; at each turn the conditions to come say what all say.
use Rattle.std.proofs.Common.{◌≡◌, drop}
use Rattle.serde_json.specs.View.{items_view}
use Rattle.cj_control.specs.Objects.{has_completed}
use Rattle.cj_control.proofs.objects.completion.has_completed.Given as goal

abbrev pub invariant-loop-condition : goal.invariant-loop-condition
invariant-loop-condition l =
    has_completed (items_view (drop l.condition-index l.conditions)) ≡ has_completed (items_view l.conditions)

-- any_object: one of the values is one if one of those to come is.
use Rattle.std.proofs.Common.{◌≡◌, drop, map}
use Rattle.std.specs.List.{list_any}
use Rattle.serde_json.specs.View.{view}
use Rattle.cj_answers.specs.Objects.{is_object}
use Rattle.cj_answers.proofs.inputs.any_object.Given as goal

abbrev pub invariant-loop-value : goal.invariant-loop-value
invariant-loop-value l =
    list_any is_object (map view (drop l.value-index l.values)) ≡ list_any is_object (map view l.values)

-- reason_values: its loop; at each turn the names of the reasons gone through stand there.
use Rattle.std.proofs.Common.{◌≡◌, map, take}
use Rattle.serde_json.specs.Data.{string}
use Rattle.serde_json.specs.View.{view}
use Rattle.cj_types.specs.Printed.{reason_name}
use Rattle.cj_why.proofs.reviews.plan_json.reason_values.Given as goal

abbrev pub invariant-loop-reason : goal.invariant-loop-reason
invariant-loop-reason l =
    map view l.values.items ≡ map (λ reason. string (reason_name reason)) (take l.reason-index l.reasons)

-- first_finish: its loop; at each turn the conditions to come tell the end that all tell.
use Rattle.std.proofs.Common.{◌≡◌, drop, option_map}
use Rattle.serde_json.specs.View.{items_view, view}
use Rattle.cj_cluster.specs.kubectl.Rows.{first_finish}
use Rattle.cj_cluster.proofs.kubectl.conditions.first_finish.Given as goal

abbrev pub invariant-loop-condition : goal.invariant-loop-condition
invariant-loop-condition l =
    first_finish (option_map (λ v. view v.now) l.completion) (items_view (drop l.condition-index l.conditions))
    ≡ first_finish (option_map (λ v. view v.now) l.completion) (items_view l.conditions)

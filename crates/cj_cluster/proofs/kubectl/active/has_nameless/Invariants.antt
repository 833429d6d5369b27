-- has_nameless: its loop; at each turn the references to come tell what all tell.
use Rattle.std.proofs.Common.{◌≡◌, drop}
use Rattle.serde_json.specs.View.{items_view}
use Rattle.cj_cluster.specs.kubectl.Rows.{has_nameless}
use Rattle.cj_cluster.proofs.kubectl.active.has_nameless.Given as goal

abbrev pub invariant-loop-reference : goal.invariant-loop-reference
invariant-loop-reference l =
    has_nameless (items_view (drop l.reference-index l.references)) ≡ has_nameless (items_view l.references)

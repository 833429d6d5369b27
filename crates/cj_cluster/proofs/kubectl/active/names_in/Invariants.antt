-- names_in: its loop; at each turn the names so far and those of the references to come are all.
use Rattle.std.proofs.Common.{◌≡◌, drop}
use Rattle.serde_json.specs.View.{items_view}
use Rattle.cj_cluster.specs.kubectl.Rows.{names_in}
use Rattle.cj_cluster.proofs.KubectlLemmas.ActiveLemmas.{behind}
use Rattle.cj_cluster.proofs.kubectl.active.names_in.Given as goal

abbrev pub invariant-loop-reference : goal.invariant-loop-reference
invariant-loop-reference l =
    behind l.names (names_in (items_view (drop l.reference-index l.references))) ≡ names_in (items_view l.references)

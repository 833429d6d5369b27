-- read_refs: its loop; at each turn the references so far and those to come are all.
use Rattle.std.proofs.Common.{◌≡◌, drop}
use Rattle.serde_json.specs.View.{items_view}
use Rattle.cj_control.specs.Objects.{refs_in}
use Rattle.cj_control.proofs.RefLemmas.{behind}
use Rattle.cj_control.proofs.objects.cron.read_refs.Given as goal

abbrev pub invariant-loop-value : goal.invariant-loop-value
invariant-loop-value l =
    behind l.refs (refs_in l.namespace (items_view (drop l.value-index l.values)))
    ≡ refs_in l.namespace (items_view l.values)

-- controller_in: its loop; at each turn the owners to come have the controller that all have.
use Rattle.std.proofs.Common.{◌≡◌, drop}
use Rattle.serde_json.specs.View.{items_view}
use Rattle.cj_control.specs.Objects.{controller_in}
use Rattle.cj_control.proofs.objects.job.controller_in.Given as goal

abbrev pub invariant-loop-owner : goal.invariant-loop-owner
invariant-loop-owner l =
    controller_in (items_view (drop l.owner-index l.owners)) ≡ controller_in (items_view l.owners)

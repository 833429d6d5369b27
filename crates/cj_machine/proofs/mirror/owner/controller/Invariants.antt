-- controller: its loop; at each turn the owners to come have the controller that all have.
use Rattle.std.proofs.Common.{◌≡◌, drop}
use Rattle.serde_json.specs.View.{items_view}
use Rattle.cj_machine.specs.Mirror.{controller}
use Rattle.cj_machine.proofs.mirror.owner.controller.Given as goal

abbrev pub invariant-loop-owner : goal.invariant-loop-owner
invariant-loop-owner l =
    controller (items_view (drop l.owner-index l.owners)) ≡ controller (items_view l.owners)

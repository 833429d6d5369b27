-- any_has, its loop: one of all objects has the key just where one of those left has it.
use Rattle.std.proofs.Common.{◌≡◌, drop}
use Rattle.serde_json.specs.View.{items_view}
use Rattle.cj_check.specs.Strays.{any_has}
use Rattle.cj_check.proofs.strays.any_has.Given as goal

abbrev pub invariant-loop-item : goal.invariant-loop-item
invariant-loop-item l = any_has l.key (items_view (drop l.item-index l.items)) ≡ any_has l.key (items_view l.items)

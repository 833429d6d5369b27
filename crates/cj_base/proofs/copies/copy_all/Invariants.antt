-- copy_all, its loop: copies has the values that were gone through, in their order.
use Rattle.std.proofs.Common.{◌≡◌, take}
use Rattle.cj_base.proofs.copies.copy_all.Given as goal

abbrev pub invariant-loop-value : goal.invariant-loop-value
invariant-loop-value g l = l.copies.items ≡ take l.value-index l.values

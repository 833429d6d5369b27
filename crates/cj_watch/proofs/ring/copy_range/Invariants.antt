-- copy_range: its loop; at each turn the copies are the items from the start up to the next place.
use Rattle.std.proofs.Common.{◌≡◌, ◌-◌, take, drop}
use Rattle.cj_watch.proofs.ring.copy_range.Given as goal

abbrev pub invariant-loop-i : goal.invariant-loop-i
invariant-loop-i g l = l.copies.items ≡ take (l.i - l.start) (drop l.start l.ring.items)

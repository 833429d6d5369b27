-- same_all, its loop over i: the first i values of both lists are the same.
use Rattle.std.proofs.Common.{◌≡◌, take}
use Rattle.cj_base.proofs.same.same_all.Given as goal

abbrev pub invariant-loop-i : goal.invariant-loop-i
invariant-loop-i g l = take l.i l.a ≡ take l.i l.b

-- times_of: at each turn of its loop, the times so far and those of the Jobs left are those of all.
use Rattle.std.proofs.Common.{drop}
use Rattle.cj_audit.proofs.Marking.{Leaves}
use Rattle.cj_audit.proofs.marks.times_of.Given as goal

abbrev pub invariant-loop-run : goal.invariant-loop-run
invariant-loop-run l = Leaves l.times (drop l.run-index l.runs) l.runs

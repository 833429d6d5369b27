-- late_of, its loop over the CronJobs: what is late of those gone through is noted.
use Rattle.std.proofs.Common.{take}
use Rattle.cj_history.specs.gaps.reading.Known.{has}
use Rattle.cj_history.specs.gaps.reading.Listed.{AreLateFrom}
use Rattle.cj_history.proofs.gaps.late.late_of.Given as goal

abbrev pub invariant-loop-one : goal.invariant-loop-one
invariant-loop-one l = AreLateFrom (has l.marks) l.listed l.at (take l.one-index l.standing) l.late.items

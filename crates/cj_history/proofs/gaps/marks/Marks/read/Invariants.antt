-- Marks::read, its loop over the entries: what those gone through tell is known.
use Rattle.std.proofs.Common.{take}
use mathlib.Core.List.{reverse}
use Rattle.cj_history.specs.gaps.reading.Known.{Knows}
use Rattle.cj_history.proofs.gaps.marks.Marks.read.Given as goal

abbrev pub invariant-loop-entry : goal.invariant-loop-entry
invariant-loop-entry l = Knows l.marks (reverse (take l.entry-index l.entries))

-- list, its loop over the entries: the gaps of those gone through are listed.
use Rattle.std.proofs.Common.{take}
use mathlib.Core.List.{reverse}
use Rattle.cj_history.specs.gaps.reading.Goes.{Goes}
use Rattle.cj_history.specs.gaps.reading.Known.{has}
use Rattle.cj_history.proofs.gaps.find.list.Given as goal

abbrev pub invariant-loop-entry : goal.invariant-loop-entry
invariant-loop-entry l = Goes (has l.marks) (reverse (take l.entry-index l.entries)) l.intervals l.listed

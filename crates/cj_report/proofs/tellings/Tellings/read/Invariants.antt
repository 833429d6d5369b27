-- Tellings::read, its loop over the entries: what those gone through tell is known.
use Rattle.std.proofs.Common.{take}
use mathlib.Core.List.{reverse}
use Rattle.cj_report.specs.Tellings.{Knows}
use Rattle.cj_report.proofs.tellings.Tellings.read.Given as goal

abbrev pub invariant-loop-entry : goal.invariant-loop-entry
invariant-loop-entry l = Knows l.tellings (reverse (take l.entry-index l.entries))

-- marks_of, its loop over the entries: those gone through are read, and their marks with those of the entries left are
-- all.
use Rattle.std.proofs.Common.{◌≡◌, ◌++◌, drop, take}
use mathlib.Core.List.{reverse}
use Rattle.cj_report.specs.timeline.Marks.{marks, marks_after}
use Rattle.cj_report.specs.timeline.Known.{IsRead}
use Rattle.cj_report.proofs.timeline.marks.marks_of.Given as goal

abbrev pub invariant-loop-i : goal.invariant-loop-i
invariant-loop-i l = record {
  read : IsRead l.reading (reverse (take l.i l.entries));
  listed : l.marks.items ++ marks_after (reverse (take l.i l.entries)) (drop l.i l.entries) ≡ marks l.entries;
}

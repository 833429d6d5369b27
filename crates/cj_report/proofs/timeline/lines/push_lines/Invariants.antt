-- push_lines, its loop over the entries: those gone through are read, and their lines with those of the entries left
-- are all, behind the text at first.
use Rattle.std.proofs.Common.{◌≡◌, ◌++◌, [], drop, take, string_bytes}
use mathlib.Core.List.{reverse}
use Rattle.cj_report.specs.timeline.Lines.{lines_after}
use Rattle.cj_report.specs.timeline.Known.{IsRead}
use Rattle.cj_report.proofs.timeline.lines.push_lines.Given as goal

abbrev pub invariant-loop-i : goal.invariant-loop-i
invariant-loop-i l = record {
  read : IsRead l.reading (reverse (take l.i l.entries));
  written : string_bytes l.text ++ lines_after l.width (reverse (take l.i l.entries)) (drop l.i l.entries)
      ≡ string_bytes l.initial.text ++ lines_after l.width [] l.entries;
}

-- gap_text, its loop: text and the lines of the gaps left are the lines of all.
use Rattle.std.proofs.Common.{◌≡◌, ◌++◌, drop, string_bytes}
use Rattle.cj_program.specs.remarks.Gaps.{gap_lines, lines_among}
use Rattle.cj_program.proofs.remarks.gaps.gap_text.Given as goal

abbrev pub invariant-loop-gap : goal.invariant-loop-gap
invariant-loop-gap l =
    string_bytes l.text ++ lines_among l.most l.gaps (drop l.gap-index l.gaps) ≡ gap_lines l.most l.gaps

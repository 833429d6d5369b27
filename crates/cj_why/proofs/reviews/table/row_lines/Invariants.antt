-- row_lines: at each turn the text so far, with the lines of the rows left, is that of all.
use Rattle.std.proofs.Common.{◌≡◌, ◌++◌, drop, string_bytes}
use Rattle.cj_why.specs.reviews.Table.{row_lines}
use Rattle.cj_why.proofs.reviews.table.row_lines.Given as goal

abbrev pub invariant-loop-row : goal.invariant-loop-row
invariant-loop-row l =
    string_bytes l.text ++ row_lines l.widths (drop l.row-index l.rows) ≡ row_lines l.widths l.rows

-- pass_lines: the cursor is on the line.
use Rattle.std.proofs.Common.{◌≡◌, ℕ, List, true}
use Rattle.cj_yaml.specs.Cursors.{IsBefore, IsOnLine, is_line}
use Rattle.cj_yaml.proofs.cursor.Cursor.pass_lines.Given as goal

abbrev pub invariant-lines : goal.invariant-lines
invariant-lines l =
    (n : ℕ) (rest : List ℕ) → is_line n rest ≡ true → IsBefore l.fn.self n rest → IsOnLine l.self n rest

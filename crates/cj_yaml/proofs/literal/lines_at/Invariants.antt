-- lines_at: the bytes, with the lines of what is left, are all lines.
use Rattle.std.proofs.Common.{◌≡◌, ◌++◌, drop, string_bytes, true}
use Rattle.cj_yaml.specs.BlockStyle.{indent, literal_lines}
use Rattle.cj_yaml.proofs.literal.lines_at.Given as goal

abbrev pub invariant-loop-b : goal.invariant-loop-b
invariant-loop-b l =
    (string_bytes l.spaces ≡ indent l.column)
    × (l.out.items ++ literal_lines l.column l.fresh (drop l.b-index l.bytes)
    ≡ literal_lines l.column true l.bytes)

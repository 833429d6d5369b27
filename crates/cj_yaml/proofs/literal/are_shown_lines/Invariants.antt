-- are_shown_lines: the text has such lines if what is left of it has, behind the byte before.
use Rattle.std.proofs.Common.{◌≡◌, drop, false}
use Rattle.cj_yaml.specs.BlockStyle.{are_shown_lines}
use Rattle.cj_yaml.proofs.literal.are_shown_lines.Given as goal

abbrev pub invariant-loop-b : goal.invariant-loop-b
invariant-loop-b l =
    are_shown_lines l.before l.lines (drop l.b-index l.bytes) ≡ are_shown_lines 10 false l.bytes

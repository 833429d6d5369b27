-- push_line, its loop: the front of the line is shown, and the rest is left.
use denote.Shadow.{shadow}
use denote.Text.{Utf8}
use Rattle.std.proofs.Common.{string_bytes}
use Rattle.cj_answers.specs.Clocked.{AddsFront}
use Rattle.cj_answers.proofs.clocked.push_line.Given as goal

abbrev pub invariant-loop-column : goal.invariant-loop-column
invariant-loop-column l =
    AddsFront l.zone l.line l.rest (string_bytes l.fn.shown) (string_bytes l.shown)
    × shadow (Utf8 l.rest)

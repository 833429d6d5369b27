-- push_lines, its loop: the front of the text is shown, and the rest is left.
use denote.Shadow.{shadow}
use denote.Text.{Utf8}
use Rattle.std.proofs.Common.{length, string_bytes}
use Rattle.cj_answers.specs.Clocked.{AddsFront}
use Rattle.cj_answers.proofs.clocked.push_lines.Given as goal

abbrev pub invariant-loop-line : goal.invariant-loop-line
invariant-loop-line l =
    AddsFront l.zone l.text l.rest (string_bytes l.fn.shown) (string_bytes l.shown)
    × shadow (Utf8 l.rest)

abbrev pub decreases-loop-line : goal.decreases-loop-line
decreases-loop-line l = length l.rest

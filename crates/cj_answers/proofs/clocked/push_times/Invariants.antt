-- push_times, its loop: the front of the text is shown, and the rest is left.
use denote.Shadow.{shadow}
use denote.Text.{Utf8}
use Rattle.std.proofs.Common.{length, string_bytes}
use Rattle.cj_answers.specs.Clocked.{AddsFront}
use Rattle.cj_answers.proofs.clocked.push_times.Given as goal

abbrev pub invariant-loop-part : goal.invariant-loop-part
invariant-loop-part l =
    AddsFront l.zone l.text l.rest (string_bytes l.fn.shown) (string_bytes l.shown)
    × shadow (Utf8 l.rest)

abbrev pub decreases-loop-part : goal.decreases-loop-part
decreases-loop-part l = length l.rest

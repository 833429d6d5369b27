-- marked, its loop: what is marked, and the rest with its marks, are the whole text with its marks.
use denote.Shadow.{shadow}
use denote.Text.{Utf8}
use Rattle.std.proofs.Common.{◌≡◌, ◌++◌, length, string_bytes}
use Rattle.cj_answers.specs.Marks as said
use Rattle.cj_answers.proofs.marking.marked.Given as goal

abbrev pub invariant-loop-line : goal.invariant-loop-line
invariant-loop-line l =
    (string_bytes l.marked ++ said.marked l.mark l.rest ≡ said.marked l.mark l.text) × shadow (Utf8 l.rest)

abbrev pub decreases-loop-line : goal.decreases-loop-line
decreases-loop-line l = length l.rest

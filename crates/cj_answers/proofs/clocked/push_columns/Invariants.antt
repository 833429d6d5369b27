-- push_columns, its loop: what is left of the text gets shorter.
use denote.Shadow.{shadow}
use denote.Text.{Utf8}
use Rattle.std.proofs.Common.{length}
use Rattle.cj_answers.proofs.clocked.push_columns.Given as goal

abbrev pub invariant-loop-more : goal.invariant-loop-more
invariant-loop-more l = shadow (Utf8 l.rest)

abbrev pub decreases-loop-more : goal.decreases-loop-more
decreases-loop-more l = length l.rest

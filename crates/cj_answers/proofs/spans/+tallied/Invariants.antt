-- tallied: it calls itself for what is left behind a byte.
use Rattle.std.proofs.Common.{length}
use Rattle.cj_answers.proofs.spans.+tallied.Given as goal

abbrev pub decreases-tallied : goal.decreases-tallied
decreases-tallied l = length l.bytes.now

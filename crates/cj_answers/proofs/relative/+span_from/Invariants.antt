-- span_from: it calls itself for what is left behind a byte.
use Rattle.std.proofs.Common.{length}
use Rattle.cj_answers.proofs.relative.+span_from.Given as goal

abbrev pub decreases-span_from : goal.decreases-span_from
decreases-span_from l = length l.bytes.now

-- oldest: at each turn of its loop, the time so far and the Jobs left give the answer.
use Rattle.std.proofs.Common.{◌≡◌, None, drop}
use Rattle.cj_audit.specs.Marks.{oldest}
use Rattle.cj_audit.proofs.marks.oldest.Given as goal

abbrev pub invariant-loop-run : goal.invariant-loop-run
invariant-loop-run l = oldest l.ending l.oldest (drop l.run-index l.runs) ≡ oldest l.ending None l.runs

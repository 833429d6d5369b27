-- latest: at each turn of its loop, the time so far and the Jobs left give the answer.
use Rattle.std.proofs.Common.{◌≡◌, None, drop}
use Rattle.cj_audit.specs.Marks.{latest}
use Rattle.cj_audit.proofs.marks.latest.Given as goal

abbrev pub invariant-loop-run : goal.invariant-loop-run
invariant-loop-run l = latest l.latest (drop l.run-index l.runs) ≡ latest None l.runs

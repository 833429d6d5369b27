-- times_of: its clause ok, as the walk over the Jobs ends.
use Rattle.std.proofs.Common.{◌+◌, drop, arith}
use Rattle.cj_audit.proofs.Marking.{leaves_done, leaves_step}
use Rattle.cj_audit.proofs.Walks.{past_end, rest_at}
use Rattle.cj_audit.proofs.marks.times_of.Goals as goal

pub loop-run-preserved : goal.loop-run-preserved
loop-run-preserved c =
    let xs = c.args.runs.now in
    let i = c.loop-run.run-index in
    leaves_step c.loop-run.times c.mark.new.times c.run-item.result (drop i xs) (drop (i + 1) xs) xs
    (rest_at xs i c.run-item.result (omega arith) c.run-item.is) c.loop-run.invariant c.in_ok-mark.ensures.ok

pub returns-clause-ok : goal.returns-clause-ok
returns-clause-ok c =
    let xs = c.args.runs.now in
    leaves_done c.loop-run.times (drop c.loop-run.run-index xs) xs (past_end xs c.loop-run.run-index (omega arith))
    c.loop-run.invariant

-- finished_of, its loop: what was found by now, and the finished Jobs among the rows left, are all.
use Rattle.std.proofs.Common.{◌≡◌, ◌++◌, drop}
use Rattle.cj_fence.specs.Protocol.{is_finished, refs_where}
use Rattle.cj_fence.proofs.advance.finished_of.Given as goal

abbrev pub invariant-loop-row : goal.invariant-loop-row
invariant-loop-row l =
    l.found ++ refs_where (is_finished l.cron) (drop l.row-index l.rows) ≡ refs_where (is_finished l.cron) l.rows

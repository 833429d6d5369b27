-- found_in, its loop: what is found among the rows left is found among all.
use Rattle.std.proofs.Common.{◌≡◌, drop}
use Rattle.cj_fence.specs.Tables.{find}
use Rattle.cj_fence.proofs.table.found_in.Given as goal

abbrev pub invariant-loop-row : goal.invariant-loop-row
invariant-loop-row g l = find l.name (drop l.row-index l.rows) ≡ find l.name l.rows

-- others, its loop: what is kept by now, and of the rows left those of other names, are all that is to be kept.
use Rattle.std.proofs.Common.{◌≡◌, ◌++◌, drop}
use Rattle.cj_fence.specs.Tables.{without}
use Rattle.cj_fence.proofs.table.others.Given as goal

abbrev pub invariant-loop-row : goal.invariant-loop-row
invariant-loop-row g l =
    l.kept.items ++ without l.name (drop l.row-index l.rows) ≡ l.initial.kept.items ++ without l.name l.rows

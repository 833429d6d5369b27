-- Table::list: its loop; at each turn the copies made are the values of the rows so far.
use Rattle.std.proofs.Common.{◌≡◌, map, take}
use Rattle.cj_table.proofs.table.Table.list.Given as goal

abbrev pub invariant-loop-value : goal.invariant-loop-value
invariant-loop-value g l = l.values.items ≡ map (λ r. r.1.now) (take l.value-index l.value-items)

-- of_set: its loop; at each turn the starts taken and those left in the set are all.
use Rattle.std.proofs.Common.{◌≡◌, ◌++◌}
use Rattle.std.specs.BTreeSet.{btree_set_len}
use Rattle.cj_upcoming.proofs.starts.Starts.of_set.Given as goal

abbrev pub invariant-loop-start : goal.invariant-loop-start
invariant-loop-start l = l.items.items ++ l.starts.keys ≡ l.fn.starts.keys

abbrev pub decreases-loop-start : goal.decreases-loop-start
decreases-loop-start l = btree_set_len l.starts

-- of_set: its loop; at each turn the findings taken and those left in the set are all.
use Rattle.std.proofs.Common.{◌≡◌, ◌++◌}
use Rattle.std.specs.BTreeSet.{btree_set_len}
use Rattle.cj_audit.proofs.findings.Findings.of_set.Given as goal

abbrev pub invariant-loop-finding : goal.invariant-loop-finding
invariant-loop-finding l = l.items.items ++ l.notes.keys ≡ l.fn.notes.keys

abbrev pub decreases-loop-finding : goal.decreases-loop-finding
decreases-loop-finding l = btree_set_len l.notes

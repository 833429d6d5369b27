-- Labels::get: at each turn of its loop, the value at the name is that among the entries left.
use Rattle.std.proofs.Common.{◌≡◌, drop}
use Rattle.cj_types.specs.LabelMap.{label_of}
use Rattle.cj_types.proofs.labels.Labels.get.Given as goal

abbrev pub invariant-loop-entry : goal.invariant-loop-entry
invariant-loop-entry l = label_of l.name (drop l.entry-index l.entry-items) ≡ label_of l.name l.entry-items

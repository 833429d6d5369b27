-- told_list, its loop: the values are those of the faults gone through.
use Rattle.std.proofs.Common.{◌≡◌, map, take}
use Rattle.serde_json.specs.View.{view}
use Rattle.cj_explain.specs.ToldFaults.{told_data}
use Rattle.cj_explain.proofs.told.told_list.Given as goal

abbrev pub invariant-loop-fault : goal.invariant-loop-fault
invariant-loop-fault l = map view l.values.items ≡ map told_data (take l.fault-index l.faults)

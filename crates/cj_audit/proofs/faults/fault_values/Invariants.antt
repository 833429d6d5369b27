-- fault_values, its loop: the values are those of the faults gone through.
use Rattle.std.proofs.Common.{◌≡◌, map, take}
use Rattle.serde_json.specs.View.{view}
use Rattle.cj_audit.specs.Faults.{fault_data}
use Rattle.cj_audit.proofs.faults.fault_values.Given as goal

abbrev pub invariant-loop-fault : goal.invariant-loop-fault
invariant-loop-fault l = map view l.values.items ≡ map fault_data (take l.fault-index l.faults)

-- push_faults, its loop: text and the lines of the faults left are the first text and all lines.
use Rattle.std.proofs.Common.{◌≡◌, ◌++◌, drop, string_bytes}
use Rattle.cj_answers.specs.Clusters.{item_fault_lines}
use Rattle.cj_answers.proofs.clusters.push_faults.Given as goal

abbrev pub invariant-loop-fault : goal.invariant-loop-fault
invariant-loop-fault l =
    string_bytes l.text ++ item_fault_lines l.place (drop l.fault-index l.faults)
    ≡ string_bytes l.initial.text ++ item_fault_lines l.place l.faults

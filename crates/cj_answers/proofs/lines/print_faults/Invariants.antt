-- print_faults, its loop: text and the lines of the faults left are those of all faults.
use Rattle.std.proofs.Common.{◌≡◌, ◌++◌, drop, string_bytes}
use Rattle.cj_answers.specs.Lines.{fault_lines}
use Rattle.cj_answers.proofs.lines.print_faults.Given as goal

abbrev pub invariant-loop-fault : goal.invariant-loop-fault
invariant-loop-fault l = string_bytes l.text ++ fault_lines (drop l.fault-index l.faults) ≡ fault_lines l.faults

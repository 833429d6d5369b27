-- explain_faults: its loop; at each turn the lines so far, with those of the faults left, are those of all.
use Rattle.std.proofs.Common.{drop, option_map, string_bytes}
use Rattle.cj_explain.proofs.FaultLines.{Leads}
use Rattle.cj_explain.proofs.fault.explain_faults.Given as goal

abbrev pub invariant-loop-fault : goal.invariant-loop-fault
invariant-loop-fault l =
    Leads (option_map (λ s. s.now) l.text) l.faults (drop l.fault-index l.faults) (string_bytes l.lines)

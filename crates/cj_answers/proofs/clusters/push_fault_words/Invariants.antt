-- push_fault_words, its loop: text and the words of the faults left are the first text and all words.
use Rattle.std.proofs.Common.{◌≡◌, ◌++◌, drop, string_bytes}
use Rattle.cj_answers.specs.Clusters.{item_fault_words}
use Rattle.cj_answers.proofs.clusters.push_fault_words.Given as goal

abbrev pub invariant-loop-fault : goal.invariant-loop-fault
invariant-loop-fault l =
    string_bytes l.text ++ item_fault_words l.prefix (drop l.fault-index l.faults)
    ≡ string_bytes l.initial.text ++ item_fault_words l.prefix l.faults

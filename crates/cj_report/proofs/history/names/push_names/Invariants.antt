-- push_names, its loop: text and what is left to be written are the text at first and what is written of all.
use Rattle.std.proofs.Common.{◌≡◌, ◌++◌, drop, string_bytes}
use Rattle.cj_report.specs.history.Fields as said
use Rattle.cj_report.proofs.history.names.push_names.Given as goal

abbrev pub invariant-loop-name : goal.invariant-loop-name
invariant-loop-name l =
    string_bytes l.text ++ said.more_names (drop l.name-index l.names) ≡ string_bytes l.initial.text
    ++ said.more_names l.names

-- push_reasons, its loop: text and what is left to be written are the text at first and what is written of all.
use Rattle.std.proofs.Common.{◌≡◌, ◌++◌, drop, string_bytes}
use Rattle.cj_report.specs.history.Fields as said
use Rattle.cj_report.proofs.history.names.push_reasons.Given as goal

abbrev pub invariant-loop-reason : goal.invariant-loop-reason
invariant-loop-reason l =
    string_bytes l.text ++ said.more_reasons (drop l.reason-index l.reasons) ≡ string_bytes l.initial.text
    ++ said.more_reasons l.reasons

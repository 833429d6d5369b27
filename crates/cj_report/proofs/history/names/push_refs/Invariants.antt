-- push_refs, its loop: text and what is left to be written are the text at first and what is written of all.
use Rattle.std.proofs.Common.{◌≡◌, ◌++◌, drop, string_bytes}
use Rattle.cj_report.specs.history.Fields as said
use Rattle.cj_report.proofs.history.names.push_refs.Given as goal

abbrev pub invariant-loop-job : goal.invariant-loop-job
invariant-loop-job l =
    string_bytes l.text ++ said.more_refs (drop l.job-index l.jobs) ≡ string_bytes l.initial.text
    ++ said.more_refs l.jobs

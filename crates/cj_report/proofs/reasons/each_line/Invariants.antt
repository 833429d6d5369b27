-- each_line, its loop over the reasons: text and the lines of those left are the lines of all.
use Rattle.std.proofs.Common.{◌≡◌, ◌++◌, drop, string_bytes}
use Rattle.cj_report.specs.Reasons as said
use Rattle.cj_report.proofs.reasons.each_line.Given as goal

abbrev pub invariant-loop-reason : goal.invariant-loop-reason
invariant-loop-reason l = string_bytes l.text ++ said.each_line l.key (drop l.reason-index l.reasons)
    ≡ said.each_line l.key l.reasons

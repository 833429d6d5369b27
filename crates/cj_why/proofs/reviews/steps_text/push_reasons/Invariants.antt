-- push_reasons, its loop: text and the lines of the reasons left are the first text and all lines.
use Rattle.std.proofs.Common.{◌≡◌, ◌++◌, drop, string_bytes}
use Rattle.cj_why.specs.reviews.PlanLines.{reason_lines}
use Rattle.cj_why.proofs.reviews.steps_text.push_reasons.Given as goal

abbrev pub invariant-loop-reason : goal.invariant-loop-reason
invariant-loop-reason l =
    string_bytes l.text ++ reason_lines (drop l.reason-index l.reasons) ≡ string_bytes l.initial.text
    ++ reason_lines l.reasons

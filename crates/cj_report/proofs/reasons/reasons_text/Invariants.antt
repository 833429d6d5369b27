-- reasons_text, its loop over the CronJobs: text and the lines of those left are the lines of all.
use Rattle.std.proofs.Common.{◌≡◌, ◌++◌, drop, string_bytes}
use mathlib.Core.List.{reverse}
use Rattle.cj_report.specs.Reasons as said
use Rattle.cj_report.proofs.reasons.reasons_text.Given as goal

abbrev pub invariant-loop-cron : goal.invariant-loop-cron
invariant-loop-cron l =
    string_bytes l.text ++ said.reason_lines (reverse l.entries) (drop l.cron-index l.crons)
    ≡ said.reason_lines (reverse l.entries) l.crons

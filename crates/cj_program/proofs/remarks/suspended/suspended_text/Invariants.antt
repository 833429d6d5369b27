-- suspended_text, its loop over the CronJobs: text and the lines of those left are the lines of all.
use Rattle.std.proofs.Common.{◌≡◌, ◌++◌, drop, string_bytes}
use Rattle.cj_program.specs.remarks.Suspended.{suspended_lines}
use Rattle.cj_program.proofs.remarks.suspended.suspended_text.Given as goal

abbrev pub invariant-loop-cron : goal.invariant-loop-cron
invariant-loop-cron l =
    string_bytes l.text ++ suspended_lines (drop l.cron-index l.crons) ≡ suspended_lines l.crons

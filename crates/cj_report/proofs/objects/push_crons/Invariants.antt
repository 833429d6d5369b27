-- push_crons, its loop over the CronJobs: text and the lines of those left are the text at first
-- and the lines of all.
use Rattle.std.proofs.Common.{◌≡◌, ◌++◌, drop, string_bytes}
use Rattle.cj_report.specs.Objects.{cron_lines}
use Rattle.cj_report.proofs.objects.push_crons.Given as goal

abbrev pub invariant-loop-cron : goal.invariant-loop-cron
invariant-loop-cron l =
    string_bytes l.text ++ cron_lines (drop l.cron-index l.crons) ≡ string_bytes l.initial.text ++ cron_lines l.crons

-- cron_items, its loop: text and the items of those left are the items of all.
use Rattle.std.proofs.Common.{◌≡◌, ◌++◌, drop, string_bytes}
use Rattle.cj_report.specs.history.Listed as said
use Rattle.cj_report.proofs.history.listed.cron_items.Given as goal

abbrev pub invariant-loop-cron : goal.invariant-loop-cron
invariant-loop-cron l = string_bytes l.text ++ said.cron_items (drop l.cron-index l.crons) ≡ said.cron_items l.crons

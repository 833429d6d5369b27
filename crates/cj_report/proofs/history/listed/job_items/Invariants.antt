-- job_items, its loop: text and the items of those left are the items of all.
use Rattle.std.proofs.Common.{◌≡◌, ◌++◌, drop, string_bytes}
use Rattle.cj_report.specs.history.Listed as said
use Rattle.cj_report.proofs.history.listed.job_items.Given as goal

abbrev pub invariant-loop-job : goal.invariant-loop-job
invariant-loop-job l = string_bytes l.text ++ said.job_items (drop l.job-index l.jobs) ≡ said.job_items l.jobs

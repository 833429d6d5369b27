-- push_jobs, its loop over the Jobs: text and the lines of those left are the text at first
-- and the lines of all.
use Rattle.std.proofs.Common.{◌≡◌, ◌++◌, drop, string_bytes}
use Rattle.cj_report.specs.Objects.{job_lines}
use Rattle.cj_report.proofs.objects.push_jobs.Given as goal

abbrev pub invariant-loop-job : goal.invariant-loop-job
invariant-loop-job l =
    string_bytes l.text ++ job_lines (drop l.job-index l.jobs) ≡ string_bytes l.initial.text ++ job_lines l.jobs

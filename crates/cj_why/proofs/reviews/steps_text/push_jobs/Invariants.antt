-- push_jobs, its loop: text and the lines of the Jobs left are the first text and all lines.
use Rattle.std.proofs.Common.{◌≡◌, ◌++◌, drop, string_bytes}
use Rattle.cj_why.specs.reviews.PlanLines.{job_lines}
use Rattle.cj_why.proofs.reviews.steps_text.push_jobs.Given as goal

abbrev pub invariant-loop-job : goal.invariant-loop-job
invariant-loop-job l =
    string_bytes l.text ++ job_lines l.word (drop l.job-index l.jobs) ≡ string_bytes l.initial.text
    ++ job_lines l.word l.jobs

-- jobs_bounds: its loop; at each turn what there is so far leads on, with the Jobs left, to the bounds of all.
use Rattle.std.proofs.Common.{◌≡◌, None, drop}
use Rattle.cj_inspect.specs.Nights.{with_jobs}
use Rattle.cj_inspect.proofs.nights.span.jobs_bounds.Given as goal

abbrev pub invariant-loop-job : goal.invariant-loop-job
invariant-loop-job l = with_jobs l.bounds (drop l.job-index l.jobs) ≡ with_jobs None l.jobs

-- last_success: at each turn of its loop, the time so far and the Jobs left give the answer.
use Rattle.std.proofs.Common.{◌≡◌, drop}
use Rattle.cj_types.specs.Uids.{uid_text}
use Rattle.cj_status.specs.Success.{success_of}
use Rattle.cj_status.proofs.success.last_success.Given as goal

abbrev pub invariant-loop-job : goal.invariant-loop-job
invariant-loop-job l =
    success_of l.last (drop l.job-index l.jobs) (uid_text l.uid)
    ≡ success_of l.fn.standing l.jobs (uid_text l.uid)

-- unfinished: its loop; at each turn the live Jobs are the unfinished ones of those gone through.
use Rattle.std.proofs.Common.{◌≡◌, take, filter}
use Rattle.cj_types.specs.Objects.{is_unfinished}
use Rattle.cj_scenario.proofs.live.unfinished.Given as goal

abbrev pub invariant-loop-job : goal.invariant-loop-job
invariant-loop-job l = l.live.items ≡ filter is_unfinished (take l.job-index l.jobs)

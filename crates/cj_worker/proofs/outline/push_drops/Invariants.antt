-- push_drops: its loop; at each turn as many Drops are pushed as Jobs were passed.
use Rattle.std.proofs.Common.{◌≡◌, ◌++◌, take}
use Rattle.cj_worker.specs.Outlines.{drops_of}
use Rattle.cj_worker.proofs.outline.push_drops.Given as goal

abbrev pub invariant-loop-job : goal.invariant-loop-job
invariant-loop-job l = l.steps.items ≡ l.initial.steps.items ++ drops_of (take l._job-index l.jobs)

-- passes_at, its loop: the passes are those of the ends gone through.
use Rattle.std.proofs.Common.{◌≡◌, map}
use Rattle.cj_run.specs.Runs.{pass_at}
use Rattle.cj_run.proofs.run.passes_at.Given as goal

abbrev pub invariant-loop-end : goal.invariant-loop-end
invariant-loop-end l = l.passes.items ≡ map pass_at l.yielded

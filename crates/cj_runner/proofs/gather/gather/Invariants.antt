-- gather: its loop; at each turn what came of the shares gone through is gathered.
use Rattle.cj_runner.specs.Shares.{IsGathered}
use Rattle.cj_runner.proofs.gather.gather.Given as goal

abbrev pub invariant-loop-end : goal.invariant-loop-end
invariant-loop-end l = IsGathered l.yielded l.gathered

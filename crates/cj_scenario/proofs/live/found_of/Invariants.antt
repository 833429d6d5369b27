-- found_of: its loop; at each turn each Job gone through stands there as found.
use Rattle.std.proofs.Common.{◌≡◌, take, map, Some}
use Rattle.cj_scenario.proofs.live.found_of.Given as goal

abbrev pub invariant-loop-job : goal.invariant-loop-job
invariant-loop-job l = l.found.items ≡ map (λ job. Some job) (take l.job-index l.live)

-- names_of: its loop; at each turn the names are those of the Jobs gone through.
use Rattle.std.proofs.Common.{◌≡◌, take}
use Rattle.cj_scenario.specs.Live.{names_of}
use Rattle.cj_scenario.proofs.live.names_of.Given as goal

abbrev pub invariant-loop-job : goal.invariant-loop-job
invariant-loop-job l = l.names ≡ names_of (take l.job-index l.live)

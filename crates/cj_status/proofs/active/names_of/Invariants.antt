-- names_of: at each turn of its loop, the names are those of the Jobs before the turn's.
use Rattle.std.proofs.Common.{◌≡◌, take}
use Rattle.cj_status.specs.Active.{names_of}
use Rattle.cj_status.proofs.active.names_of.Given as goal

abbrev pub invariant-loop-job : goal.invariant-loop-job
invariant-loop-job l = l.names ≡ names_of (take l.job-index l.refs)

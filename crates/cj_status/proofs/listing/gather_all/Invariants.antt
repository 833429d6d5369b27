-- gather_all: at each turn of its loop, the items are the Jobs before the turn's.
use Rattle.std.proofs.Common.{◌≡◌, take}
use Rattle.cj_status.specs.Refs.{refs}
use Rattle.cj_status.proofs.listing.gather_all.Given as goal

abbrev pub invariant-loop-job : goal.invariant-loop-job
invariant-loop-job l = l.items.items ≡ refs (take l.job-index l.jobs)

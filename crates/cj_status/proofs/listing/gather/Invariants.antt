-- gather: at each turn of its loop, the items are the Jobs meant of those before the turn's.
use Rattle.std.proofs.Common.{◌≡◌, take}
use Rattle.cj_types.specs.Uids.{uid_text}
use Rattle.cj_status.specs.Picked.{gathered, picks}
use Rattle.cj_status.proofs.listing.gather.Given as goal

abbrev pub invariant-loop-job : goal.invariant-loop-job
invariant-loop-job l = l.items.items ≡ gathered (picks l.pick (uid_text l.uid)) (take l.job-index l.jobs)

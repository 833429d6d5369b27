-- all_numbered: its loop; at each turn what was made is what the definition gives of those gone through.
use Rattle.std.proofs.Common.{◌≡◌, take, map}
use Rattle.cj_why.specs.reviews.Seen.{numbered}
use Rattle.cj_why.proofs.reviews.seen.all_numbered.Given as goal

abbrev pub invariant-loop-job : goal.invariant-loop-job
invariant-loop-job l = l.all.items ≡ map (numbered l.cron) (take l.job-index l.jobs)

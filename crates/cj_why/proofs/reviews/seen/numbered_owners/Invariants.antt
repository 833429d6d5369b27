-- numbered_owners: its loop; at each turn what was made is what the definition gives of those gone through.
use Rattle.std.proofs.Common.{◌≡◌, take, map}
use Rattle.cj_why.specs.reviews.Seen.{numbered_owner}
use Rattle.cj_why.proofs.reviews.seen.numbered_owners.Given as goal

abbrev pub invariant-loop-owner : goal.invariant-loop-owner
invariant-loop-owner l = l.numbered ≡ map (numbered_owner l.cron) (take l.owner-index l.owners)

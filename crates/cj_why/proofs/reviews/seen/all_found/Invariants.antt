-- all_found: its loop; at each turn what was made is what the definition gives of those gone through.
use Rattle.std.proofs.Common.{◌≡◌, take, map}
use Rattle.cj_why.specs.reviews.Seen.{found_at}
use Rattle.cj_why.proofs.reviews.seen.all_found.Given as goal

abbrev pub invariant-loop-name : goal.invariant-loop-name
invariant-loop-name l = l.all.items ≡ map (found_at l.cluster l.cron) (take l.name-index l.names)

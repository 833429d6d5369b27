-- all_lacking: its loop; at each turn those of the names gone through that are lacking stand there.
use Rattle.std.proofs.Common.{◌≡◌, filter, take}
use Rattle.cj_why.specs.reviews.Seen.{is_lacking}
use Rattle.cj_why.proofs.reviews.seen.all_lacking.Given as goal

abbrev pub invariant-loop-name : goal.invariant-loop-name
invariant-loop-name l = l.lacking ≡ filter (is_lacking l.cluster l.cron) (take l.name-index l.names)

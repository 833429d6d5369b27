-- review: its loop; at each turn what was printed and said leads on, with that of the CronJobs left, to the whole.
use Rattle.std.proofs.Common.{drop, string_bytes}
use Rattle.cj_zone.specs.Table.{zones_of}
use Rattle.cj_why.proofs.ReviewsLemmas.Leads.{Leads}
use Rattle.cj_why.proofs.reviews.reviewing.review.Given as goal

abbrev pub invariant-loop-cron : goal.invariant-loop-cron
invariant-loop-cron l =
    Leads l.explain (zones_of l.zones) l.cluster l.now l.crons (drop l.cron-index l.crons)
    (string_bytes l.whole.printed) (string_bytes l.whole.said)

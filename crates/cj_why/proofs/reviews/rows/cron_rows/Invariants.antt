-- cron_rows: its loop; at each turn the rows so far lead on, with those of the CronJobs left, to all that are shown.
use Rattle.std.proofs.Common.{drop}
use Rattle.cj_zone.specs.Table.{zones_of}
use Rattle.cj_why.proofs.ReviewsLemmas.Rows.{Grows}
use Rattle.cj_why.proofs.reviews.rows.cron_rows.Given as goal

abbrev pub invariant-loop-cron : goal.invariant-loop-cron
invariant-loop-cron l =
    Grows l.problems l.explain (zones_of l.zones) l.cluster l.now l.crons (drop l.cron-index l.crons) l.rows.items

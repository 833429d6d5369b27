-- cron_rows: its loop, turn after turn, and its clause ok, as all rows stand there behind the last CronJob.
use Rattle.cj_zone.specs.Table.{zones_of}
use Rattle.cj_why.proofs.ReviewsLemmas.Rows.{grows_over, grows_rest}
use Rattle.cj_why.proofs.reviews.rows.cron_rows.Goals as goal

pub loop-cron-preserved : goal.loop-cron-preserved
loop-cron-preserved c =
    grows_rest c.args.problems c.args.explain (zones_of c.args.zones.now) c.args.cluster.now c.args.now c.args.crons.now
    c.loop-cron.cron-index c.cron-item.result c.loop-cron.rows.items c.push_shown.new.rows.items c.in_ok-row.row
    c.loop-cron-test.true c.cron-item.is c.loop-cron.invariant c.in_ok-row.ensures.ok c.in_ok-push_shown.ensures.ok

pub returns-clause-ok : goal.returns-clause-ok
returns-clause-ok c =
    grows_over c.args.problems c.args.explain (zones_of c.args.zones.now) c.args.cluster.now c.args.now c.args.crons.now
    c.loop-cron.cron-index c.loop-cron.rows.items c.loop-cron-test.false c.loop-cron.invariant

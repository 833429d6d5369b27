-- review: its loop, turn after turn, and its clause ok, as the whole is printed and said behind the last CronJob.
use Rattle.std.proofs.Common.{rules, string_bytes}
use Rattle.cj_zone.specs.Table.{zones_of}
use Rattle.cj_why.proofs.ReviewsLemmas.Leads.{leads_over, leads_rest}
use Rattle.cj_why.proofs.reviews.reviewing.review.Goals as goal

pub loop-cron-preserved : goal.loop-cron-preserved
loop-cron-preserved c =
    leads_rest c.args.explain (zones_of c.args.zones.now) c.args.cluster.now c.args.now c.args.crons.now
    c.loop-cron.cron-index c.cron-item.result
    (string_bytes c.loop-cron.whole.printed) (string_bytes c.loop-cron.whole.said)
    (string_bytes c.in_ok-one.one.printed) (string_bytes c.in_ok-one.one.said)
    (string_bytes c.push.new.whole.printed) (string_bytes c.push.new.whole.said)
    c.loop-cron-test.true c.cron-item.is c.loop-cron.invariant
    (search rules) c.in_ok-push.ensures.printed c.in_ok-push.ensures.said

pub returns-clause-ok : goal.returns-clause-ok
returns-clause-ok c =
    leads_over c.args.explain (zones_of c.args.zones.now) c.args.cluster.now c.args.now c.args.crons.now
    c.loop-cron.cron-index (string_bytes c.loop-cron.whole.printed) (string_bytes c.loop-cron.whole.said)
    c.loop-cron-test.false c.loop-cron.invariant

-- seen_why: its clause ok, from that of why_of for the CronJob itself and what was found.
use Rattle.std.proofs.Common.{rules, string_bytes}
use Rattle.std.proofs.lemmas.Result.{IfOk-weaker}
use Rattle.cj_zone.specs.Table.{zones_of}
use Rattle.cj_why.specs.reviews.Seen.{found, unknown}
use Rattle.cj_why.proofs.ReviewsLemmas.Moved.{why_moved}
use Rattle.cj_why.proofs.reviews.words.seen_why.Goals as goal

pub returns-clause-ok : goal.returns-clause-ok
returns-clause-ok c =
    let cron = c.args.cron.now.cron in
    IfOk-weaker c.why_of.result _ _ (λ s h. why_moved cron c.get.result.now (zones_of c.args.zones.now)
    (found c.args.cluster.now c.args.cron.now) c.as_slice-live.result.now (unknown c.args.cluster.now c.args.cron.now)
    c.as_slice-names.result.now c.args.now (string_bytes s) (search rules) (search rules) (search rules) h)
    c.why_of.ensures.ok

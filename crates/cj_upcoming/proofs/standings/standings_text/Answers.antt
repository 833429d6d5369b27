-- standings_text: its loop and its clause ok, as one CronJob after the other is told.
use Rattle.std.proofs.Common.{◌≡◌, ◌∙◌, ◌++◌, ap, subst, string_bytes}
use Rattle.cj_types.specs.declared.cron.CronJob.{CronJob}
use Rattle.cj_zone.specs.Table.{zones_of}
use Rattle.cj_cluster.specs.declared.cron.ClusterCron.{ClusterCron}
use Rattle.cj_upcoming.specs.Standings.{standing_line, IsStandingOf}
use Rattle.cj_upcoming.proofs.Telling.{leads_step, leads_done}
use Rattle.cj_upcoming.proofs.standings.standings_text.Goals as goal

pub loop-cron-preserved : goal.loop-cron-preserved
loop-cron-preserved c =
    let zones = zones_of c.args.zones.now in
    let cron = c.cron-item.result in
    let standing = c.standing_of-standing.result in
    let key : c.key.result.now ≡ cron.cron.key = c.key.ensures.value ∙ ap (λ (d : CronJob). d.key) c.get.ensures
    ∙ ap (λ (d : ClusterCron). d.cron.key) c.get-cron.ensures in
    leads_step zones c.args.from c.args.crons.now c.loop-cron.cron-index cron standing (string_bytes c.loop-cron.text)
    (string_bytes c.push_standing.new.text) c.loop-cron-test.true c.cron-item.is
    (subst (λ d. IsStandingOf zones c.args.from d standing) c.get-cron.ensures c.standing_of-standing.ensures)
    (c.in_ok-push_standing.ensures ∙ ap (λ k. string_bytes c.loop-cron.text ++ standing_line standing k) key)
    c.loop-cron.invariant

pub returns-clause-ok : goal.returns-clause-ok
returns-clause-ok c =
    leads_done (zones_of c.args.zones.now) c.args.from c.args.crons.now c.loop-cron.cron-index
    (string_bytes c.loop-cron.text) c.loop-cron-test.false c.loop-cron.invariant

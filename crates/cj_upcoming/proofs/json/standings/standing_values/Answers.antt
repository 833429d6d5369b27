-- standing_values: its loop and its clause ok, as one CronJob after the other is told.
use Rattle.std.proofs.Common.{◌≡◌, ◌∙◌, ◌++◌, ap, subst, map}
use Rattle.cj_types.specs.declared.cron.CronJob.{CronJob}
use Rattle.cj_zone.specs.Table.{zones_of}
use Rattle.cj_cluster.specs.declared.cron.ClusterCron.{ClusterCron}
use Rattle.serde_json.specs.View.{view}
use Rattle.cj_upcoming.specs.Standings.{IsStandingOf}
use Rattle.cj_upcoming.specs.json.Standings.{standing_data}
use Rattle.cj_upcoming.proofs.Idle.{tells_step, tells_done}
use Rattle.cj_upcoming.proofs.json.standings.standing_values.Goals as goal

pub loop-cron-preserved : goal.loop-cron-preserved
loop-cron-preserved c =
    let zones = zones_of c.args.zones.now in
    let cron = c.cron-item.result in
    let standing = c.standing_of-standing.result in
    let key : c.key.result.now ≡ cron.cron.key = c.key.ensures.value ∙ ap (λ (d : CronJob). d.key) c.get.ensures
    ∙ ap (λ (d : ClusterCron). d.cron.key) c.get-cron.ensures in
    tells_step zones c.args.from c.args.crons.now c.loop-cron.cron-index cron standing
    (map view c.loop-cron.values.items)
    (map view c.push_standing.new.values.items) c.loop-cron-test.true c.cron-item.is
    (subst (λ d. IsStandingOf zones c.args.from d standing) c.get-cron.ensures c.standing_of-standing.ensures)
    (c.in_ok-push_standing.ensures.ok ∙ ap (λ k. map view c.loop-cron.values.items ++ standing_data standing k) key)
    c.loop-cron.invariant

pub returns-clause-ok : goal.returns-clause-ok
returns-clause-ok c =
    tells_done (zones_of c.args.zones.now) c.args.from c.args.crons.now c.loop-cron.cron-index
    (map view c.loop-cron.values.items) c.loop-cron-test.false c.loop-cron.invariant

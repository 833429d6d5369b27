-- calls_values: its loop, turn after turn, and its clause ok, as all values stand there behind the last CronJob.
use Rattle.std.proofs.Common.{◌∙◌, [], ◌∷◌, ap, map, subst}
use Rattle.std.proofs.lemmas.List.{map-append}
use Rattle.serde_json.specs.View.{view}
use Rattle.cj_zone.specs.Table.{zones_of}
use Rattle.cj_cluster.specs.declared.cron.ClusterCron.{ClusterCron}
use Rattle.cj_inspect.specs.Calls.{IsCallsJson}
use Rattle.cj_inspect.proofs.CallsLemmas.{fills_over, fills_rest}
use Rattle.cj_inspect.proofs.calls.values.calls_values.Goals as goal

pub loop-cron-preserved : goal.loop-cron-preserved
loop-cron-preserved c =
    fills_rest (zones_of c.args.zones.now) c.args.cluster.now c.args.now c.args.crons.now
    c.loop-cron.cron-index c.cron-item.result (map view c.loop-cron.values.items)
    (map view c.push_value.new.values.items)
    (view c.in_ok-value.value) c.loop-cron-test.true c.cron-item.is c.loop-cron.invariant
    (subst (λ (d : ClusterCron). IsCallsJson (zones_of c.args.zones.now) c.args.cluster.now c.args.now d
    (view c.in_ok-value.value))
    c.get.ensures c.in_ok-value.ensures.ok)
    (ap (map view) c.in_ok-push_value.ensures.ok ∙ map-append view c.loop-cron.values.items (c.in_ok-value.value ∷ []))

pub returns-clause-ok : goal.returns-clause-ok
returns-clause-ok c =
    fills_over (zones_of c.args.zones.now) c.args.cluster.now c.args.now c.args.crons.now
    c.loop-cron.cron-index (map view c.loop-cron.values.items) c.loop-cron-test.false c.loop-cron.invariant

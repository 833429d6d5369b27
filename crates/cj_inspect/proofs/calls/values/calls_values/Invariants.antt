-- calls_values: its loop; at each turn what there is so far leads on, with the CronJobs left, to the values of all.
use Rattle.std.proofs.Common.{drop, map}
use Rattle.serde_json.specs.View.{view}
use Rattle.cj_zone.specs.Table.{zones_of}
use Rattle.cj_inspect.proofs.CallsLemmas.{Fills}
use Rattle.cj_inspect.proofs.calls.values.calls_values.Given as goal

abbrev pub invariant-loop-cron : goal.invariant-loop-cron
invariant-loop-cron l =
    Fills (zones_of l.zones) l.cluster l.now l.crons (drop l.cron-index l.crons) (map view l.values.items)

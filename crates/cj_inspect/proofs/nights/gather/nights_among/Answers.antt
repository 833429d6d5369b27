-- nights_among: its loop's invariant, with the lines of the next CronJob, and its clause ok behind the last one.
use Rattle.std.proofs.Common.{string_bytes, arith}
use Rattle.cj_zone.specs.Table.{zones_of}
use Rattle.cj_inspect.proofs.NightLemmas.{leads_at, leads_end}
use Rattle.cj_inspect.proofs.nights.gather.nights_among.Goals as goal

pub loop-cron-preserved : goal.loop-cron-preserved
loop-cron-preserved c =
    leads_at (zones_of c.args.zones.now) c.args.look.now c.args.crons.now c.loop-cron.cron-index c.cron-item.result
    (string_bytes c.loop-cron.found.raw) (string_bytes c.add_cron.new.found.raw) c.loop-cron-test.true c.cron-item.is
    c.loop-cron.invariant c.in_ok-add_cron.ensures.ok

pub returns-clause-ok : goal.returns-clause-ok
returns-clause-ok c =
    leads_end (zones_of c.args.zones.now) c.args.look.now c.args.crons.now c.loop-cron.cron-index
    (string_bytes c.loop-cron.found.raw) (omega arith) c.loop-cron.invariant

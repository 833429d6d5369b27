-- nights_among: its loop; at each turn the lines so far, with those of the CronJobs left, are those of all.
use Rattle.std.proofs.Common.{drop, string_bytes}
use Rattle.cj_zone.specs.Table.{zones_of}
use Rattle.cj_inspect.proofs.NightLemmas.{Leads}
use Rattle.cj_inspect.proofs.nights.gather.nights_among.Given as goal

abbrev pub invariant-loop-cron : goal.invariant-loop-cron
invariant-loop-cron l =
    Leads (zones_of l.zones) l.look l.crons (drop l.cron-index l.crons) (string_bytes l.found.raw)

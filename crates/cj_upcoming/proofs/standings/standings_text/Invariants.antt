-- standings_text: its loop; at each turn what is told of the rest is still to come.
use Rattle.std.proofs.Common.{string_bytes}
use Rattle.cj_zone.specs.Table.{zones_of}
use Rattle.cj_upcoming.proofs.Telling.{Leads}
use Rattle.cj_upcoming.proofs.standings.standings_text.Given as goal

abbrev pub invariant-loop-cron : goal.invariant-loop-cron
invariant-loop-cron l = Leads (zones_of l.zones) l.from l.crons l.cron-index (string_bytes l.text)

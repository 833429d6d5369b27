-- note_crons: its loop; at each turn the starts of the CronJobs before the place are noted.
use Rattle.cj_zone.specs.Table.{zones_of}
use Rattle.cj_upcoming.specs.Notes.{Notes}
use Rattle.cj_upcoming.proofs.Noted.{StartsTo}
use Rattle.cj_upcoming.proofs.whole.note_crons.Given as goal

abbrev pub invariant-loop-place : goal.invariant-loop-place
invariant-loop-place l = Notes (StartsTo (zones_of l.zones) l.window l.crons l.place) l.initial.starts l.starts

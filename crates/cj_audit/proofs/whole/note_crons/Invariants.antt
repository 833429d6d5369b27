-- note_crons: its loop; at each turn what is wrong with the rest is still to be noted, and only the keys of the rest
-- may still be no keys.
use Rattle.std.proofs.Common.{drop}
use Rattle.std.specs.List.{AllByRecursion}
use Rattle.cj_zone.specs.Table.{zones_of}
use Rattle.cj_audit.specs.Notes.{AnyOf}
use Rattle.cj_audit.specs.Findings.{IsFindingOf}
use Rattle.cj_audit.proofs.Walks.{Leads}
use Rattle.cj_audit.proofs.Controls.{IsShort}
use Rattle.cj_audit.proofs.whole.note_crons.Given as goal

abbrev pub invariant-loop-cron : goal.invariant-loop-cron
invariant-loop-cron l = record {
  leads : Leads (AnyOf (IsFindingOf (zones_of l.zones) l.cluster)) l.cron-items l.cron-index l.initial.notes l.notes;
  short : AllByRecursion IsShort (drop l.cron-index l.cron-items) → AllByRecursion IsShort l.cron-items;
}

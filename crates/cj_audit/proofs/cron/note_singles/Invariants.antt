-- note_singles: its loop; at each turn what is wrong with the rest is still to be noted.
use Rattle.std.proofs.Common.{option_copied}
use Rattle.cj_audit.specs.Times.{IsSingleNote}
use Rattle.cj_audit.specs.Notes.{AnyOf}
use Rattle.cj_audit.proofs.Walks.{Leads}
use Rattle.cj_audit.proofs.cron.note_singles.Given as goal

abbrev pub invariant-loop-run : goal.invariant-loop-run
invariant-loop-run l =
    Leads (AnyOf (IsSingleNote (option_copied l.schedule) (option_copied l.zone) l.cron)) l.runs l.run-index
    l.initial.notes l.notes

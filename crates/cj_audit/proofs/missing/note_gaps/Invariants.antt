-- note_gaps: its loop; at each turn the gaps after the rest are still to be noted.
use Rattle.cj_audit.specs.Marks.{IsGapNote}
use Rattle.cj_audit.specs.Notes.{AnyOf}
use Rattle.cj_audit.proofs.Walks.{Leads}
use Rattle.cj_audit.proofs.missing.note_gaps.Given as goal

abbrev pub invariant-loop-run : goal.invariant-loop-run
invariant-loop-run l =
    Leads (AnyOf (IsGapNote l.schedule l.zone l.cron l.marks)) l.runs l.run-index l.initial.notes l.notes

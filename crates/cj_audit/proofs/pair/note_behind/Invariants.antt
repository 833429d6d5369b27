-- note_behind: its loop; at each turn what is told of the rest is what is still to be noted.
use Rattle.cj_audit.specs.Pairs.{IsPairNote}
use Rattle.cj_audit.specs.Notes.{AnyOf}
use Rattle.cj_audit.proofs.Walks.{Leads}
use Rattle.cj_audit.proofs.pair.note_behind.Given as goal

abbrev pub invariant-loop-second : goal.invariant-loop-second
invariant-loop-second l =
    Leads (AnyOf (IsPairNote l.pairing l.cron l.first)) l.behind l.second-index l.initial.notes l.notes

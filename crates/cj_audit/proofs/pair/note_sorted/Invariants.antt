-- note_sorted: its loop; at each turn the pairs of the rest are still to be noted.
use Rattle.cj_audit.proofs.PairsIn.{PairsFrom}
use Rattle.cj_audit.proofs.Walks.{Leads}
use Rattle.cj_audit.proofs.pair.note_sorted.Given as goal

abbrev pub invariant-loop-i : goal.invariant-loop-i
invariant-loop-i l = Leads (PairsFrom l.pairing l.cron) l.runs l.i l.initial.notes l.notes

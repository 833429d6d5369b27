-- note_all: its loop; at each turn the strays of the rest are still to be noted.
use Rattle.cj_audit.specs.Notes.{AnyOf}
use Rattle.cj_audit.specs.Findings.{IsStrayJob}
use Rattle.cj_audit.proofs.Walks.{Leads}
use Rattle.cj_audit.proofs.stray.note_all.Given as goal

abbrev pub invariant-loop-job : goal.invariant-loop-job
invariant-loop-job l = Leads (AnyOf (IsStrayJob l.cluster l.refused)) l.job-items l.job-index l.initial.notes l.notes

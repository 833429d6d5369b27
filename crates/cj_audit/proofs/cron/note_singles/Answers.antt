-- note_singles: its clause ok, as the walk over the Jobs ends.
use Rattle.std.proofs.Common.{option_copied, arith}
use Rattle.cj_audit.specs.declared.run.Run.{Run}
use Rattle.cj_audit.specs.declared.finding.Finding.{Finding}
use Rattle.cj_audit.specs.Times.{IsUndueNote, IsEarlyRun, IsSingleNote}
use Rattle.cj_audit.specs.Notes.{AnyOf}
use Rattle.cj_audit.proofs.Noting.{notes_then}
use Rattle.cj_audit.proofs.Walks.{leads_step, leads_done}
use Rattle.cj_audit.proofs.cron.note_singles.Goals as goal

pub loop-run-preserved : goal.loop-run-preserved
loop-run-preserved c =
    let U = λ (run : Run) (f : Finding). IsUndueNote (option_copied c.args.schedule) (option_copied c.args.zone)
    c.args.cron.now run f in
    let E = λ (run : Run) (f : Finding). IsEarlyRun c.args.cron.now run f in
    let S = IsSingleNote (option_copied c.args.schedule) (option_copied c.args.zone) c.args.cron.now in
    leads_step (AnyOf S) (S c.run-item.result) c.args.runs.now
    c.loop-run.run-index c.run-item.result c.args.notes.now c.loop-run.notes c.note_early.new.notes (λ f h. h)
    (λ f h. h)
    (omega arith) c.run-item.is c.loop-run.invariant
    (notes_then (U c.run-item.result) (E c.run-item.result) c.loop-run.notes c.note_undue.new.notes
    c.note_early.new.notes c.in_ok-note_undue.ensures.ok c.in_ok-note_early.ensures.ok)

pub returns-clause-ok : goal.returns-clause-ok
returns-clause-ok c =
    leads_done (AnyOf (IsSingleNote (option_copied c.args.schedule) (option_copied c.args.zone) c.args.cron.now))
    c.args.runs.now
    c.loop-run.run-index c.args.notes.now c.loop-run.notes (λ f h. h) (omega arith) c.loop-run.invariant

-- note_gaps: its clause ok, as the walk over the Jobs ends.
use Rattle.std.proofs.Common.{arith}
use Rattle.cj_audit.specs.Marks.{IsGapNote}
use Rattle.cj_audit.specs.Notes.{AnyOf}
use Rattle.cj_audit.proofs.Walks.{leads_step, leads_done}
use Rattle.cj_audit.proofs.missing.note_gaps.Goals as goal

pub loop-run-preserved : goal.loop-run-preserved
loop-run-preserved c =
    let P = IsGapNote c.args.schedule.now c.args.zone.now c.args.cron.now c.args.marks.now in
    leads_step (AnyOf P) (P c.run-item.result) c.args.runs.now c.loop-run.run-index c.run-item.result c.args.notes.now
    c.loop-run.notes c.note_gap.new.notes (λ f h. h) (λ f h. h) (omega arith) c.run-item.is c.loop-run.invariant
    c.in_ok-note_gap.ensures.ok

pub returns-clause-ok : goal.returns-clause-ok
returns-clause-ok c =
    leads_done (AnyOf (IsGapNote c.args.schedule.now c.args.zone.now c.args.cron.now c.args.marks.now)) c.args.runs.now
    c.loop-run.run-index c.args.notes.now c.loop-run.notes (λ f h. h) (omega arith) c.loop-run.invariant

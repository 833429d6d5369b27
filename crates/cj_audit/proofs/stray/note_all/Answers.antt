-- note_all: its clause ok, as the walk over the Jobs ends.
use Rattle.std.proofs.Common.{◌∙◌, subst, arith}
use Rattle.cj_audit.specs.Notes.{AnyOf, Notes}
use Rattle.cj_audit.specs.Findings.{IsStrayJob}
use Rattle.cj_audit.proofs.Walks.{leads_step, leads_done}
use Rattle.cj_audit.proofs.stray.note_all.Goals as goal

pub loop-job-preserved : goal.loop-job-preserved
loop-job-preserved c =
    let P = IsStrayJob c.args.cluster.now c.args.refused.now in
    leads_step (AnyOf P) (P c.job-item.result) c.as_slice-job-items.result.now c.loop-job.job-index c.job-item.result
    c.args.notes.now c.loop-job.notes c.note_stray.new.notes (λ f h. h) (λ f h. h) (omega arith) c.job-item.is
    c.loop-job.invariant
    (subst (λ x. Notes (P x) c.loop-job.notes c.note_stray.new.notes) c.get.ensures c.in_ok-note_stray.ensures.ok)

pub returns-clause-ok : goal.returns-clause-ok
returns-clause-ok c =
    let Q = AnyOf (IsStrayJob c.args.cluster.now c.args.refused.now) in
    subst (λ xs. Notes (Q xs) c.args.notes.now c.loop-job.notes)
    (c.as_slice-job-items.ensures ∙ c.in_ok-jobs.ensures.ok)
    (leads_done Q c.as_slice-job-items.result.now c.loop-job.job-index c.args.notes.now c.loop-job.notes (λ f h. h)
    (omega arith) c.loop-job.invariant)

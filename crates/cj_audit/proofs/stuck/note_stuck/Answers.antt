-- note_stuck: its clause ok, as the walk over the CronJobs ends.
use Rattle.std.proofs.Common.{◌∙◌, subst, arith}
use Rattle.cj_audit.specs.Notes.{AnyOf, Notes}
use Rattle.cj_audit.specs.Findings.{IsStuckCron}
use Rattle.cj_audit.proofs.Walks.{leads_step, leads_done}
use Rattle.cj_audit.proofs.stuck.note_stuck.Goals as goal

pub loop-cron-preserved : goal.loop-cron-preserved
loop-cron-preserved c =
    leads_step (AnyOf IsStuckCron) (IsStuckCron c.cron-item.result) c.as_slice-cron-items.result.now
    c.loop-cron.cron-index c.cron-item.result c.args.notes.now c.loop-cron.notes c.note_one.new.notes (λ f h. h)
    (λ f h. h) (omega arith) c.cron-item.is c.loop-cron.invariant
    (subst (λ x. Notes (IsStuckCron x) c.loop-cron.notes c.note_one.new.notes) c.get.ensures
    c.in_ok-note_one.ensures.ok)

pub returns-clause-ok : goal.returns-clause-ok
returns-clause-ok c =
    subst (λ xs. Notes (AnyOf IsStuckCron xs) c.args.notes.now c.loop-cron.notes)
    (c.as_slice-cron-items.ensures ∙ c.in_ok-crons.ensures.ok)
    (leads_done (AnyOf IsStuckCron) c.as_slice-cron-items.result.now c.loop-cron.cron-index c.args.notes.now
    c.loop-cron.notes (λ f h. h) (omega arith) c.loop-cron.invariant)

-- note_crons: its clauses ok and short, as the walk over the CronJobs ends.
use Rattle.std.proofs.Common.{◌∙◌, subst, arith}
use Rattle.std.specs.List.{All}
use Rattle.cj_zone.specs.Table.{zones_of}
use Rattle.cj_audit.specs.Notes.{AnyOf, Notes}
use Rattle.cj_audit.specs.Findings.{IsFindingOf}
use Rattle.cj_audit.proofs.Controls.{IsShort}
use Rattle.cj_audit.proofs.Members.{all_in, in_each}
use Rattle.cj_audit.proofs.Walks.{leads_step, leads_done, each_step, each_done}
use Rattle.cj_audit.proofs.whole.note_crons.Goals as goal

pub loop-cron-preserved : goal.loop-cron-preserved
loop-cron-preserved c =
    let P = IsFindingOf (zones_of c.args.zones.now) c.args.cluster.now in
    let xs = c.as_slice-cron-items.result.now in
    let i = c.loop-cron.cron-index in
    let x = c.cron-item.result in
    record {
      leads = leads_step (AnyOf P) (P x) xs i x c.args.notes.now c.loop-cron.notes c.note_cron.new.notes (λ f h. h)
          (λ f h. h) (omega arith) c.cron-item.is c.loop-cron.invariant.leads
          (subst (λ y. Notes (P y) c.loop-cron.notes c.note_cron.new.notes) c.get.ensures c.in_ok-note_cron.ensures.ok);
      short =
          each_step IsShort xs i x (omega arith) c.cron-item.is (subst IsShort c.get.ensures c.note_cron.ensures.short)
          c.loop-cron.invariant.short;
    }

pub returns-clause-ok : goal.returns-clause-ok
returns-clause-ok c =
    let Q = AnyOf (IsFindingOf (zones_of c.args.zones.now) c.args.cluster.now) in
    subst (λ xs. Notes (Q xs) c.args.notes.now c.loop-cron.notes)
    (c.as_slice-cron-items.ensures ∙ c.in_ok-crons.ensures.ok)
    (leads_done Q c.as_slice-cron-items.result.now c.loop-cron.cron-index c.args.notes.now c.loop-cron.notes (λ f h. h)
    (omega arith) c.loop-cron.invariant.leads)

pub returns-clause-short : goal.returns-clause-short
returns-clause-short c =
    let xs = c.as_slice-cron-items.result.now in
    subst (λ ys. All IsShort ys) (c.as_slice-cron-items.ensures ∙ c.in_ok-crons.ensures.ok)
    (all_in IsShort xs (λ x i. in_each IsShort xs x
    (each_done IsShort xs c.loop-cron.cron-index (omega arith) c.loop-cron.invariant.short) i))

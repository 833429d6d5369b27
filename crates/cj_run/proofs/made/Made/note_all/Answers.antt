-- Made::note_all: its loop over the Jobs, with one Job more noted.
use Rattle.std.proofs.Common.{◌∙◌, ap}
use Rattle.cj_types.specs.declared.job.Job.{Job}
use Rattle.cj_run.specs.Made.{notes, seen}
use Rattle.cj_run.proofs.Noted.{note_more}
use Rattle.cj_run.proofs.made.Made.note_all.Goals as goal

pub loop-job-preserved : goal.loop-job-preserved
loop-job-preserved c =
    let before = notes c.loop-job.self.last c.loop-job.self.counts c.loop-job.self.running.items in
    let after = c.note_new.new.self in
    note_more c.args.runs.now c.args.now c.args.self.now.last c.args.jobs.now c.loop-job.job-index c.job-item.result
    before (notes after.last after.counts after.running.items)
    c.loop-job-test.true c.job-item.is
    (c.in_ok-note_new.ensures.ok ∙ ap (λ (j : Job). seen c.args.runs.now c.args.now c.args.self.now.last j before)
    c.deref.ensures)
    ∙ c.loop-job.invariant

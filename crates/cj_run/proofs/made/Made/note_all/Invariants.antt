-- Made::note_all, its loop over the Jobs: to note those left gives what to note all gave at first.
use Rattle.std.proofs.Common.{◌≡◌, drop}
use Rattle.cj_run.specs.Made.{noted_all, notes}
use Rattle.cj_run.proofs.made.Made.note_all.Given as goal

abbrev pub invariant-loop-job : goal.invariant-loop-job
invariant-loop-job l =
    noted_all l.runs l.now l.noted_before (drop l.job-index l.jobs)
    (notes l.self.last l.self.counts l.self.running.items)
    ≡ noted_all l.runs l.now l.noted_before l.jobs (notes l.initial.self.last l.initial.self.counts
    l.initial.self.running.items)

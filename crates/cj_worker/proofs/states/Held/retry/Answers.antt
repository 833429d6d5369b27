-- Held::retry: its clause, where the Finish was accepted and where it wasn't.
use Rattle.cj_hub.proofs.Runs.{adds-weaker}
use Rattle.cj_worker.proofs.Full.{finish_full}
use Rattle.cj_worker.proofs.Rests.{early_ok, early_broken}
use Rattle.cj_worker.proofs.states.Held.retry.Goals as goal

pub returns-in-Ok-clause-adds : goal.returns-in-Ok-clause-adds
returns-in-Ok-clause-adds g c =
    adds-weaker c.in-Ok.ensures.adds (λ es h. early_ok
    (g.C.Clock.gives c.args.context.clock.now) c.args.reasons c.args.why
    c.now-reading.result es c.now-reading.ensures h)

pub returns-in-Err-clause-adds : goal.returns-in-Err-clause-adds
returns-in-Err-clause-adds g c =
    adds-weaker c.in-Err.ensures.adds (λ es h. rw c.why_of.ensures
    (early_broken (g.C.Clock.gives c.args.context.clock.now) c.args.reasons c.args.why c.in-Err.error
    c.now-reading.result es
    c.now-reading.ensures h))

pub returns-in-Err-clause-full : goal.returns-in-Err-clause-full
returns-in-Err-clause-full g c = rw c.why_of.ensures (finish_full c.now-reading.result.millis c.args.reasons
    c.in-Err.error c.in-Err.ensures.adds.entries _ c.in-Err.ensures.adds.meets c.in-Err.ensures.full)

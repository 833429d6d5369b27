-- sync_one: its clause entries, where a key was taken and the gate let go on.
use Rattle.cj_hub.proofs.Runs.{adds-then}
use Rattle.cj_worker.proofs.Rests.{sync_run, key_told}
use Rattle.cj_worker.proofs.Full.{take_full, take_at_full}
use Rattle.cj_worker.proofs.sync.sync_one.Goals as goal

pub returns-in-Go-clause-entries : goal.returns-in-Go-clause-entries
returns-in-Go-clause-entries g c =
    adds-then c.in-Ok.ensures.adds c.see_cron.ensures.adds
    (λ es fs h k. sync_run (g.C.Clock.gives c.args.context.clock.now)
    (g.G.Gate.may_stop c.args.context.gate.now) c.args.context.zones.now
    c.new-held.result es fs _ (key_told c.in-Ok.receipt.entry.answer c.new-held.result es c.new-held.ensures h) k)

pub returns-in-Err-clause-full : goal.returns-in-Err-clause-full
returns-in-Err-clause-full g c = rw c.end_of.ensures (take_full c.in-Err.error c.in-Err.ensures.adds.entries _
    c.in-Err.ensures.adds.meets c.in-Err.ensures.full)

pub returns-in-Err-clause-no_room : goal.returns-in-Err-clause-no_room
returns-in-Err-clause-no_room g c = λ tells full. rw c.end_of.ensures
    (take_at_full c.in-Err.error (c.in-Err.ensures.no_room tells full))

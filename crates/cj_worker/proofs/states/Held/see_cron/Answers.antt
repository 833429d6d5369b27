-- Held::see_cron: its clause, where SeeCron is accepted and the gate goes on, and where it fails.
use Rattle.std.proofs.Common.{◌∷◌, []}
use Rattle.cj_calls.specs.declared.call.Call.TheVariants.{SeeCron, SeeJobs, SeeActive}
use Rattle.cj_hub.proofs.Runs.{adds-then}
use Rattle.cj_worker.specs.Syncs.{SeesCron}
use Rattle.cj_worker.proofs.Rests.{held_more, From-failed}
use Rattle.cj_worker.proofs.states.Held.see_cron.Goals as goal

pub returns-in-Go-clause-adds : goal.returns-in-Go-clause-adds
returns-in-Go-clause-adds g c =
    adds-then c.in-Ok.ensures.adds c.list_jobs.ensures.adds (λ es fs h k. held_more
    (g.C.Clock.gives c.args.context.clock.now)
    (λ point. g.G.Gate.may_stop c.args.context.gate.now point c.args.self) c.args.context.zones.now c.in-Ok.cron es fs
    _ h k)

pub returns-in-Err-clause-adds : goal.returns-in-Err-clause-adds
returns-in-Err-clause-adds g c =
    let none = c.new.ensures in
    adds-then c.in-Err.ensures.adds c.fail.ensures.adds (λ es fs h k. From-failed
    (g.C.Clock.gives c.args.context.clock.now)
    (λ point. g.G.Gate.may_stop c.args.context.gate.now point c.args.self) c.args.context.zones.now SeesCron SeeCron
    (SeeJobs ∷ SeeActive ∷ []) es fs c.in-Err.error _ h (rw none at k))

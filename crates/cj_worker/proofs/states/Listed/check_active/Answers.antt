-- Listed::check_active: its clause, where SeeActive is accepted and where it fails.
use Rattle.std.proofs.Common.{◌≡◌, []}
use Rattle.cj_calls.specs.declared.call.Call.TheVariants.{SeeActive}
use Rattle.cj_hub.proofs.Runs.{adds-then}
use Rattle.cj_worker.specs.Syncs.{SeesActive}
use Rattle.cj_worker.proofs.Rests.{listed_more, From-failed}
use Rattle.cj_worker.proofs.states.Listed.check_active.Goals as goal

pub returns-in-Ok-clause-adds : goal.returns-in-Ok-clause-adds
returns-in-Ok-clause-adds g c =
    adds-then c.in-Ok.ensures.adds c.decide.ensures.adds (λ es fs h k. listed_more
    (g.C.Clock.gives c.args.context.clock.now)
    (λ point. g.G.Gate.may_stop c.args.context.gate.now point c.args.self.held) c.args.context.zones.now
    c.args.self.cron
    c.args.self.jobs c.in-Ok.active es fs _ h k)

pub returns-in-Err-clause-adds : goal.returns-in-Err-clause-adds
returns-in-Err-clause-adds g c =
    let none = c.new.ensures in
    adds-then c.in-Err.ensures.adds c.fail.ensures.adds (λ es fs h k. From-failed
    (g.C.Clock.gives c.args.context.clock.now)
    (λ point. g.G.Gate.may_stop c.args.context.gate.now point c.args.self.held) c.args.context.zones.now
    (λ p xs. (p.cron ≡ c.args.self.cron) × (p.jobs ≡ c.args.self.jobs) × SeesActive p xs) SeeActive [] es fs
    c.in-Err.error _ h (rw none at k))

-- Seen::list_jobs: its clause, where SeeJobs is accepted and the gate goes on, and where it fails.
use Rattle.std.proofs.Common.{◌≡◌, ◌∷◌, []}
use Rattle.cj_calls.specs.declared.call.Call.TheVariants.{SeeJobs, SeeActive}
use Rattle.cj_hub.proofs.Runs.{adds-then}
use Rattle.cj_worker.specs.Syncs.{SeesJobs}
use Rattle.cj_worker.proofs.Rests.{seen_more, From-failed}
use Rattle.cj_worker.proofs.states.Seen.list_jobs.Goals as goal

pub returns-in-Go-clause-adds : goal.returns-in-Go-clause-adds
returns-in-Go-clause-adds g c =
    adds-then c.in-Ok.ensures.adds c.check_active.ensures.adds (λ es fs h k. seen_more
    (g.C.Clock.gives c.args.context.clock.now)
    (λ point. g.G.Gate.may_stop c.args.context.gate.now point c.args.self.held) c.args.context.zones.now
    c.args.self.cron c.in-Ok.jobs
    es fs _ h k)

pub returns-in-Err-clause-adds : goal.returns-in-Err-clause-adds
returns-in-Err-clause-adds g c =
    let none = c.new.ensures in
    adds-then c.in-Err.ensures.adds c.fail.ensures.adds (λ es fs h k. From-failed
    (g.C.Clock.gives c.args.context.clock.now)
    (λ point. g.G.Gate.may_stop c.args.context.gate.now point c.args.self.held) c.args.context.zones.now
    (λ p xs. (p.cron ≡ c.args.self.cron) × SeesJobs p xs) SeeJobs (SeeActive ∷ []) es fs c.in-Err.error _ h
    (rw none at k))

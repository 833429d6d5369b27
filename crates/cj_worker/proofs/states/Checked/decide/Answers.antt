-- Checked::decide: its clause, where a plan was made and where memory for it was lacking.
use Rattle.std.proofs.Common.{◌≡◌, Some}
use Rattle.cj_hub.proofs.Runs.{adds-weaker}
use Rattle.cj_worker.proofs.Rests.{From-early}
use Rattle.cj_worker.proofs.states.Checked.decide.Goals as goal

pub returns-in-Ok-clause-adds : goal.returns-in-Ok-clause-adds
returns-in-Ok-clause-adds g c =
    adds-weaker c.claim.ensures.adds (λ es h. record {
      plan = Some c.in-Ok.decided.plan;
      timely = c.in-Ok.ensures.timely;
      seen = c.in-Ok.ensures.inputs;
      rest = h;
    })

pub returns-in-Err-clause-adds : goal.returns-in-Err-clause-adds
returns-in-Err-clause-adds g c =
    let none = c.new.ensures in
    adds-weaker c.retry.ensures.adds (λ es h. From-early (g.C.Clock.gives c.args.context.clock.now)
    (λ point. g.G.Gate.may_stop c.args.context.gate.now point c.args.self.held) c.args.context.zones.now
    (λ p xs. (p.cron ≡ c.args.self.cron) × (p.jobs ≡ c.args.self.jobs) × (p.active ≡ c.args.self.active)) es
    c.in-Err.why _ c.in-Err.ensures.memory (rw none at h))

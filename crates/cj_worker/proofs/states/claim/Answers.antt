-- claim: its clause, where the Claim is accepted and the gate goes on or stops, and where it fails.
use Rattle.cj_hub.proofs.Runs.{adds-then, adds-weaker}
use Rattle.cj_worker.proofs.Rests.{claim_more, claim_stop, claim_failed}
use Rattle.cj_worker.proofs.states.claim.Goals as goal

pub returns-in-Go-clause-adds : goal.returns-in-Go-clause-adds
returns-in-Go-clause-adds g c =
    adds-then c.in-Ok.ensures.adds c.run_plan.ensures.adds (λ es fs h k. claim_more
    (g.C.Clock.gives c.args.context.clock.now)
    (λ point. g.G.Gate.may_stop c.args.context.gate.now point c.args.held) c.args.decided.plan c.args.decided.outline
    es fs _
    c.requires h k)

pub returns-in-Stop-clause-adds : goal.returns-in-Stop-clause-adds
returns-in-Stop-clause-adds g c =
    let can = rw c.key.ensures at (c.at.ensures c.in-Stop.is) in
    adds-weaker c.in-Ok.ensures.adds (λ es h. rw c.abandon.ensures
    (claim_stop (g.C.Clock.gives c.args.context.clock.now)
    (λ point. g.G.Gate.may_stop c.args.context.gate.now point c.args.held)
    c.args.decided.plan es h can))

pub returns-in-Err-clause-adds : goal.returns-in-Err-clause-adds
returns-in-Err-clause-adds g c =
    adds-then c.in-Err.ensures.adds c.fail_with.ensures.adds
    (λ es fs h k. claim_failed (g.C.Clock.gives c.args.context.clock.now)
    (λ point. g.G.Gate.may_stop c.args.context.gate.now point c.args.held) c.args.decided.plan c.args.decided.outline
    es fs
    c.in-Err.error _ c.requires h k)

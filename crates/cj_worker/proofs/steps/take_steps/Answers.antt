-- take_steps: its clause, where the gate stops and where a step fails, and its loop's invariant.
use Rattle.std.proofs.Common.{Ok, Err, arith}
use Rattle.cj_hub.proofs.Runs.{adds-then}
use Rattle.cj_worker.proofs.Rests.{step_more, step_last}
use Rattle.cj_worker.specs.declared.gate.Turn.TheVariants.{Go, Stop}
use Rattle.cj_worker.specs.declared.gate.Point.TheVariants.{Made}
use Rattle.cj_worker.proofs.steps.take_steps.Goals as goal

pub loop-step-preserved : goal.loop-step-preserved
loop-step-preserved g c =
    let stepped = rw c.in-Ok-Go.field-0-is at c.in-Ok-Go.ensures.adds in
    adds-then c.loop-step.invariant stepped (λ es fs h k. step_more
    (g.G.Gate.may_stop c.args.gate.now Made c.args.key.now) c.args.steps.now c.loop-step.step-index es fs (Ok Go)
    (omega arith) h k)

pub returns-in-Ok-Stop-clause-adds : goal.returns-in-Ok-Stop-clause-adds
returns-in-Ok-Stop-clause-adds g c =
    let stepped = rw c.in-Ok-Stop.field-0-is at c.in-Ok-Stop.ensures.adds in
    adds-then c.loop-step.invariant stepped (λ es fs h k. step_last
    (g.G.Gate.may_stop c.args.gate.now Made c.args.key.now) c.args.steps.now c.loop-step.step-index es fs (Ok Stop)
    (omega arith) (λ is. cc) h k)

pub returns-in-Err-clause-adds : goal.returns-in-Err-clause-adds
returns-in-Err-clause-adds g c =
    adds-then c.loop-step.invariant c.in-Err.ensures.adds
    (λ es fs h k. step_last (g.G.Gate.may_stop c.args.gate.now Made c.args.key.now) c.args.steps.now
    c.loop-step.step-index es fs (Err c.in-Err.error) (omega arith) (λ is. cc) h k)

-- Claimed::run_plan: its clause, where all steps are made, where the gate stops, where a step
-- fails.
use Rattle.std.proofs.Common.{◌∷◌, [], ◌++◌, map}
use Rattle.cj_calls.specs.declared.call.Call.TheVariants.{Finish}
use Rattle.cj_calls.specs.declared.end.End.TheVariants.{Well}
use Rattle.cj_hub.proofs.Runs.{adds-then, adds-weaker}
use Rattle.cj_worker.specs.Outlines.{call_by}
use Rattle.cj_worker.specs.Syncs.{reasons_by}
use Rattle.cj_worker.specs.Errors.{reasons_at}
use Rattle.cj_worker.specs.declared.gate.Point.TheVariants.{Made}
use Rattle.cj_worker.proofs.Rests.{IsRest-after, IsRest-failed, Suits-by, UpToError-longer, StopsAt-longer, steps_go_on}
use Rattle.cj_worker.proofs.states.Claimed.run_plan.Goals as goal

pub returns-in-Ok-Go-clause-adds : goal.returns-in-Ok-Go-clause-adds
returns-in-Ok-Go-clause-adds g c =
    let o = c.args.self.outline in
    let stepped = rw (c.in-Ok-Go.field-0-is, c.as_slice.ensures.value) at c.in-Ok-Go.ensures.adds in
    adds-then stepped c.finish.ensures.adds (λ es fs h k. IsRest-after (g.C.Clock.gives c.args.context.clock.now)
    (λ point. g.G.Gate.may_stop c.args.context.gate.now point c.args.self.held) (reasons_by o.retry o.failed)
    (map call_by o.steps.items) (Finish Well o.done ∷ []) es fs _ (steps_go_on o.steps.items) h k)

pub returns-in-Ok-Stop-clause-adds : goal.returns-in-Ok-Stop-clause-adds
returns-in-Ok-Stop-clause-adds g c =
    let o = c.args.self.outline in
    let stepped = rw (c.in-Ok-Stop.field-0-is, c.as_slice.ensures.value, c.key.ensures) at c.in-Ok-Stop.ensures.adds in
    adds-weaker stepped (λ es h. rw c.abandon.ensures
    (StopsAt-longer Made (map call_by o.steps.items) (Finish Well o.done ∷ []) es h.0, h.1))

pub returns-in-Err-clause-adds : goal.returns-in-Err-clause-adds
returns-in-Err-clause-adds g c =
    let o = c.args.self.outline in
    let stepped = rw c.as_slice.ensures.value at c.in-Err.ensures.adds in
    adds-then stepped c.fail_with.ensures.adds (λ es fs h k.
    IsRest-failed (g.C.Clock.gives c.args.context.clock.now)
    (λ point. g.G.Gate.may_stop c.args.context.gate.now point c.args.self.held)
    (reasons_by o.retry o.failed) (map call_by o.steps.items ++ Finish Well o.done ∷ []) es fs
    (reasons_at o.retry o.failed c.in-Err.error) c.in-Err.error _ (Suits-by o.retry o.failed c.in-Err.error)
    (UpToError-longer (map call_by o.steps.items) (Finish Well o.done ∷ []) es c.in-Err.error h) k)

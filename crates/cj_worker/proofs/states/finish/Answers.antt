-- finish: its clause, where the last Finish wasn't accepted.
use Rattle.std.proofs.Common.{[], ◌∷◌}
use Rattle.cj_calls.specs.declared.call.Call.TheVariants.{Finish}
use Rattle.cj_calls.specs.declared.end.End.TheVariants.{Well}
use Rattle.cj_hub.proofs.Runs.{adds-then}
use Rattle.cj_worker.specs.Syncs.{reasons_by}
use Rattle.cj_worker.specs.Errors.{reasons_at}
use Rattle.cj_worker.proofs.Rests.{IsRest-failed, Suits-by, erred_first}
use Rattle.cj_worker.proofs.states.finish.Goals as goal

pub returns-clause-adds : goal.returns-clause-adds
returns-clause-adds g c =
    let o = c.args.outline in
    let k = rw c.reasons_for-reasons.ensures at c.fail.ensures.adds in
    adds-then c.in-Err.ensures.adds k (λ es fs h k.
    IsRest-failed (g.C.Clock.gives c.args.context.clock.now)
    (λ point. g.G.Gate.may_stop c.args.context.gate.now point c.args.held)
    (reasons_by o.retry o.failed) (Finish Well o.done ∷ []) es fs (reasons_at o.retry o.failed c.in-Err.error)
    c.in-Err.error _ (Suits-by o.retry o.failed c.in-Err.error)
    (erred_first (Finish Well o.done) [] es c.in-Err.error h) k)

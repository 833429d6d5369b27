-- look: its clause adds, where the Tick is refused, and where a Watch or a listing comes after it.
use Rattle.std.proofs.Common.{◌++◌, subst}
use Rattle.cj_hub.proofs.Runs.{adds-then, adds-weaker}
use Rattle.cj_informer.specs.Informs.{Follower}
use Rattle.cj_informer.specs.Outcomes.{HasLooked}
use Rattle.cj_informer.proofs.Goes.{handed_on}
use Rattle.cj_informer.proofs.Steps.{ticked_watch, ticked_list, not_ticked}
use Rattle.cj_informer.proofs.informer.look.Goals as goal

pub returns-in_err-tick-clause-adds : goal.returns-in_err-tick-clause-adds
returns-in_err-tick-clause-adds g c =
    let e = c.in_err-tick.field-0.0 in
    adds-weaker c.in_err-tick.ensures.adds (λ es h.
    handed_on c.from_residual.result e (λ r. HasLooked c.args.informer.now c.args.now r es) c.from_residual.ensures.1
    (not_ticked c.args.informer.now.max c.args.now c.args.informer.now.seen e es h))

pub returns-in-Some-clause-adds : goal.returns-in-Some-clause-adds
returns-in-Some-clause-adds g c =
    adds-then c.in_ok-tick.ensures.adds c.watch.ensures.adds (λ es fs h k.
    let P : Follower → Type 0 = λ i. HasLooked i c.args.now c.watch.result (es ++ fs) in
    subst P c.informer.view_is (ticked_watch c.informer.inside.max c.args.now c.in-Some.from c.informer.inside.seen
    c.watch.result es fs c.in-Some.is h k))

pub returns-in-None-clause-adds : goal.returns-in-None-clause-adds
returns-in-None-clause-adds g c =
    adds-then c.in_ok-tick.ensures.adds c.list.ensures.adds (λ es fs h k.
    let P : Follower → Type 0 = λ i. HasLooked i c.args.now c.list.result (es ++ fs) in
    subst P c.informer.view_is (ticked_list c.informer.inside.max c.args.now c.informer.inside.seen c.list.result es fs
    c.in-None.is h k))

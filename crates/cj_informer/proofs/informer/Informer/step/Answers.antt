-- Informer::step: its clause adds, where the step was made and where it broke off.
use Rattle.std.proofs.Common.{Some, ap, refl}
use Rattle.cj_hub.proofs.Runs.{adds-weaker}
use Rattle.cj_informer.specs.Informs.{Follower}
use Rattle.cj_informer.specs.Outcomes.{HasStepped}
use Rattle.cj_informer.proofs.Goes.{handed_on}
use Rattle.cj_informer.proofs.Steps.{stepped, not_stepped}
use Rattle.cj_informer.proofs.informer.Informer.step.Goals as goal

pub returns-in_err-seen-clause-adds : goal.returns-in_err-seen-clause-adds
returns-in_err-seen-clause-adds g c =
    let e = c.in_err-seen.field-0.0 in
    adds-weaker c.in_err-seen.ensures.adds (λ es h.
    handed_on c.from_residual.result e (λ r. HasStepped c.args.self.now c.args.now c.args.self.now r es)
    c.from_residual.ensures.1 (not_stepped c.args.self.now c.args.self.now c.args.now e es refl h))

pub returns-clause-adds : goal.returns-clause-adds
returns-clause-adds g c =
    adds-weaker c.in_ok-seen.ensures.adds (λ es h. stepped c.args.self.now _ c.args.now c.in_ok-seen.seen es
    (ap (λ (i : Follower). record i { seen = Some c.in_ok-seen.seen }) c.self.view_is) h)

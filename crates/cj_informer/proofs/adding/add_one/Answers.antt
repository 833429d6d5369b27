-- add_one: its clause adds, where the item concerns a key and where memory for it is lacking.
use Rattle.std.proofs.Common.{refl}
use Rattle.cj_hub.proofs.Runs.{adds-none, adds-weaker}
use Rattle.cj_informer.proofs.Items.{added_one, added_none}
use Rattle.cj_informer.proofs.adding.add_one.Goals as goal

pub returns-in-Ok-Some-clause-adds : goal.returns-in-Ok-Some-clause-adds
returns-in-Ok-Some-clause-adds g c =
    let is = rw c.in-Ok-Some.field-0-is at c.in-Ok-Some.ensures.ok in
    adds-weaker c.add.ensures.adds (λ es h. added_one c.in-Ok-Some.key (g.T.Concerns.concerned c.args.item.now)
    c.add.result es is h)

pub returns-in-Err-clause-adds : goal.returns-in-Err-clause-adds
returns-in-Err-clause-adds g c =
    adds-none _ _ _ _ _ (λ is. refl) refl (added_none (g.T.Concerns.concerned c.args.item.now) c.in-Err.refusal
    c.in-Err.ensures.err.0 c.in-Err.ensures.err.1)

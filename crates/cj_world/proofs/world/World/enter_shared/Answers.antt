-- World::enter_shared: its clause entered, where the call has receipts.
use Rattle.cj_world.proofs.Keeps.{entered_by}
use Rattle.cj_world.proofs.world.World.enter_shared.Goals as goal

pub returns-in-Some-clause-entered : goal.returns-in-Some-clause-entered
returns-in-Some-clause-entered c =
    entered_by _ _ _ _ c.in_ok-receipts.field-0.answer c.in-Some.receipts _ c.in_ok-receipts.ensures.made
    (cc (c.in_ok-receipts.ensures.receipts, c.in_ok-receipts.receipts-is, c.in-Some.is))

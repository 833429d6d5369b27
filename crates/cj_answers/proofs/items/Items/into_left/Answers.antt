-- into_left: all are gone through.
use Rattle.cj_answers.proofs.ObjectLists.{left_whole, nothing_left}
use Rattle.cj_answers.proofs.items.Items.into_left.Goals as goal

pub returns : goal.returns
returns c = left_whole _ _ _ (nothing_left c.loop-value.value-iterator c.in-None.ensures.steps.0) c.loop-value.invariant

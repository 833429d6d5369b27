-- advance: its clause made, where the answer is Empty, and what Entry::new requires where it isn't.
use Rattle.std.proofs.Common.{refl}
use Rattle.cj_world.proofs.Keeps.{row_given, advanced_empty}
use Rattle.cj_world.proofs.advance.advance.Goals as goal

pub returns-then-is_empty-clause-made : goal.returns-then-is_empty-clause-made
returns-then-is_empty-clause-made c =
    advanced_empty _ _ _ _ c.in_ok-step.field-0 c.parts-parts.result.answer _ _ c.in_ok-step.ensures.ok
    c.parts-parts.ensures.answer c.is_empty.ensures c.if-is_empty.true

pub new-requires : goal.new-requires
new-requires c =
    row_given _ _ _ _ _ _ _ _ _ c.in_ok-step.ensures.ok refl c.parts-parts.ensures.entered
    c.parts-parts.ensures.answer c.is_empty.ensures c.if-is_empty.false

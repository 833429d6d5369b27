-- document_values: all documents are gone through.
use Rattle.cj_answers.proofs.ObjectLists.{nothing_left, said_over}
use Rattle.cj_answers.proofs.inputs.document_values.Goals as goal

pub returns : goal.returns
returns c =
    said_over _ _ _ (nothing_left c.loop-document.document-iterator c.in-None.ensures.steps.0) c.loop-document.invariant

-- without_blanks: one blank more.
use Rattle.cj_answers.proofs.ObjectLists.{behind_blank}
use Rattle.cj_answers.proofs.json_texts.without_blanks.Goals as goal

pub loop-preserved : goal.loop-preserved
loop-preserved c =
    behind_blank c.loop.rest.now c.in-Some.more.now c.args.bytes.now c.in-Some.byte.now c.is_blank.result
    c.loop.invariant c.in-Some.ensures.cases.0 c.is_blank.ensures c.if-is_blank.true

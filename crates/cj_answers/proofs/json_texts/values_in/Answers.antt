-- values_in: one value more.
use Rattle.cj_answers.proofs.ObjectLists.{value_more}
use Rattle.cj_answers.proofs.json_texts.values_in.Goals as goal

pub loop-preserved : goal.loop-preserved
loop-preserved c =
    value_more c.loop.values.items c.push.new.self.items c.in-Ok.value c.loop.rest.now c.in-Some.text.now
    c.in-Some.more.now c.args.bytes.now c.loop.invariant c.in-Some.ensures.found c.in-Ok.ensures.reads
    c.in_ok-push-in-Ok.ensures.items

-- documents_value: the list of the objects, or the one value.
use Rattle.std.proofs.lemmas.Result.{IfOk-weaker}
use Rattle.cj_answers.proofs.ObjectLists.{alone_taken, several_taken}
use Rattle.cj_answers.proofs.inputs.documents_value.Goals as goal

pub returns-then-not-is_alone : goal.returns-then-not-is_alone
returns-then-not-is_alone c =
    IfOk-weaker c.objects_of.result _ _
    (λ t h.
    several_taken c.args.values.items c.as_slice.result.now c.is_alone.result _ c.as_slice.ensures.value
    c.is_alone.ensures c.if-not-is_alone.true h) c.objects_of.ensures

pub returns-in-Some : goal.returns-in-Some
returns-in-Some c =
    alone_taken c.args.values.items c.as_slice.result.now c.pop.new.self.items c.in-Some.value c.is_alone.result
    c.as_slice.ensures.value c.is_alone.ensures c.if-not-is_alone.false c.in-Some.ensures.items

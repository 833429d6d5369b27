-- steps_of: its clause ok, from what its four pushes leave.
use Rattle.std.proofs.Common.{ap, ◌∙◌, ◌++◌}
use Rattle.cj_worker.specs.Outlines.{drops_of}
use Rattle.cj_worker.proofs.Outlines.{steps_are}
use Rattle.cj_worker.proofs.outline.steps_of.Goals as goal

pub returns-clause-ok : goal.returns-clause-ok
returns-clause-ok c =
    steps_are c.args.plan.now c.new-steps.result.items c.push_drops.new.steps.items c.push_if.new.steps.items
    c.push_drops-2.new.steps.items c.push_if-2.new.steps.items
    c.is_some.result c.is_some-2.result c.new-steps.ensures.items
    (c.in_ok-push_drops.ensures.ok ∙ ap (λ js. c.new-steps.result.items ++ drops_of js) c.as_slice.ensures)
    c.is_some.ensures c.in_ok-push_if.ensures.ok
    (c.in_ok-push_drops-2.ensures.ok ∙ ap (λ js. c.push_if.new.steps.items ++ drops_of js) c.as_slice-2.ensures)
    c.is_some-2.ensures c.in_ok-push_if-2.ensures.ok

-- reasons_of: its clause ok where an item is no reason, since the list then says none.
use Rattle.std.proofs.Common.{◌∙◌, [], sym, ap}
use Rattle.serde_json.specs.View.{items_view}
use Rattle.cj_script.specs.operations.Finishes.{with_reasons}
use Rattle.cj_script.proofs.OperationsLemmas.Reasons.{reasons-end}
use Rattle.cj_script.proofs.operations.finish.reasons_of.Goals as goal

pub returns-in-None-clause-ok : goal.returns-in-None-clause-ok
returns-in-None-clause-ok c =
    sym (reasons-end c.deref-item-items.result.now c.loop-item.item-index c.item-item.result c.loop-item.reasons
    c.loop-item-test.true c.item-item.is (sym c.reason_in.ensures ∙ c.in-None.is))
    ∙ c.loop-item.invariant ∙ ap (λ vs. with_reasons [] (items_view vs)) c.deref-item-items.ensures.value

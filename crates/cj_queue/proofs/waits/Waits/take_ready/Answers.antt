-- Waits::take_ready: its clauses, as the order's entries are those of the times.
use Rattle.std.proofs.Common.{◌∷◌, sym, ap, ◌∙◌}
use Rattle.std.specs.FinMap as map
use Rattle.cj_table.proofs.Rows.{removed_at}
use Rattle.cj_queue.specs.Times.{ready, ready_in}
use Rattle.cj_queue.proofs.Ready.{order_keys, on_some, on_none}
use Rattle.cj_queue.proofs.waits.Waits.take_ready.Goals as goal

pub returns-clause-ready : goal.returns-clause-ready
returns-clause-ready c = on_some c.take_first.result _ _
    (λ p h. ap (λ m. ready m c.args.now) (sym c.self.view_is)
    ∙ ap (λ ps. ready_in ps c.args.now) (sym (order_keys c.self.inside.times.entries c.self.inside.order
    c.self.invariant c.take_first.ensures.was_sorted))
    ∙ h
    ∙ ap (λ ps. p.0 ∷ ready_in ps c.args.now) (order_keys c.take_first.new.times.entries c.take_first.new.order
    c.take_first.ensures.agree c.take_first.ensures.sorted))
    c.take_first.ensures.ready

pub returns-clause-leaves : goal.returns-clause-leaves
returns-clause-leaves c = on_some c.take_first.result _ _
    (λ p h. removed_at c.self.inside.times.entries c.take_first.new.times.entries p.0 h
    ∙ ap (λ m. map.remove m p.0) c.self.view_is)
    c.take_first.ensures.leaves

pub returns-clause-none : goal.returns-clause-none
returns-clause-none c = on_none c.take_first.result _ _
    (λ h. ap (λ m. ready m c.args.now) (sym c.self.view_is)
    ∙ ap (λ ps. ready_in ps c.args.now) (sym (order_keys c.self.inside.times.entries c.self.inside.order
    c.self.invariant c.take_first.ensures.was_sorted))
    ∙ h)
    c.take_first.ensures.none

pub returns-clause-stays : goal.returns-clause-stays
returns-clause-stays c = on_none c.take_first.result _ _
    (λ h. ap (λ es. map.from_entries es) h ∙ c.self.view_is)
    c.take_first.ensures.stays

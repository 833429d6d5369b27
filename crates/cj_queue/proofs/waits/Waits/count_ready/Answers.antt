-- Waits::count_ready: its one clause, as the order's entries are those of the times.
use Rattle.std.proofs.Common.{length, ap, ◌∙◌}
use Rattle.cj_queue.specs.Times.{ready, ready_in}
use Rattle.cj_queue.proofs.Ready.{order_keys}
use Rattle.cj_queue.proofs.waits.Waits.count_ready.Goals as goal

pub returns : goal.returns
returns c =
    c.count_until.ensures.count
    ∙ ap (λ ps. length (ready_in ps c.args.now)) (order_keys c.self.inside.times.entries c.self.inside.order
    c.self.invariant c.count_until.ensures.sorted)
    ∙ ap (λ m. length (ready m c.args.now)) c.self.view_is

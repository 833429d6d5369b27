-- count_until: its clause count, where a time is above now, and that its loop keeps what holds.
use Rattle.std.proofs.Common.{◌≡◌, length, arith, ap, ◌∙◌}
use Rattle.cj_queue.specs.Times.{ready_in}
use Rattle.cj_queue.proofs.Ready.{count_step, count_stop, count_below, few_ready, rest_sorted}
use Rattle.cj_queue.proofs.waits.count_until.Goals as goal

pub overflow_add-count : goal.overflow_add-count
overflow_add-count c =
    let below = count_below c.loop-at.count _ c.loop-at.at-iterator c.next.new.self c.in-Some.field-0.now c.args.now
    c.loop-at.invariant.0 c.in-Some.ensures.steps c.if-at-now.false in
    let few = few_ready c.into_iter-at-iterator.result c.args.now in
    let same : length c.into_iter-at-iterator.result ≡ length c.keys-at-items.result =
    ap (λ ps. length ps) c.into_iter-at-iterator.ensures.into_iter_gives in
    omega (arith, below, few, same, c.keys-at-items.ensures.len, c.keys-at-items.ensures.fits)

pub returns-then-at-now-clause-count : goal.returns-then-at-now-clause-count
returns-then-at-now-clause-count c =
    count_stop c.loop-at.count _ c.loop-at.at-iterator c.next.new.self c.in-Some.field-0.now c.args.now
    c.loop-at.invariant.0 c.in-Some.ensures.steps c.loop-at.invariant.1 c.if-at-now.true
    ∙ ap (λ ps. length (ready_in ps c.args.now))
    (c.into_iter-at-iterator.ensures.into_iter_gives ∙ c.keys-at-items.ensures.rest)

pub loop-at-preserved : goal.loop-at-preserved
loop-at-preserved c =
    let steps = c.in-Some.ensures.steps in
    let inv = c.loop-at.invariant in (
      count_step c.loop-at.count _ c.loop-at.at-iterator c.next.new.self c.in-Some.field-0.now c.args.now
          inv.0 steps c.if-at-now.false,
      rest_sorted c.loop-at.at-iterator c.next.new.self c.in-Some.field-0.now steps inv.1,
    )

-- feed_up_to: its clause adds, by how the Feeds end, and its loop's invariant.
use Rattle.std.proofs.Common.{◌++◌, arith}
use Rattle.cj_hub.proofs.Runs.{adds-then, adds-weaker}
use Rattle.cj_informer.specs.Outcomes.{HasFed}
use Rattle.cj_informer.proofs.Goes.{handed_on}
use Rattle.cj_informer.proofs.Feeds.{first_refused, fed_refused, fed_stuck, fed_more, fed_enough}
use Rattle.cj_informer.proofs.listing.feed_up_to.Goals as goal

pub returns-in_err-fed-clause-adds : goal.returns-in_err-fed-clause-adds
returns-in_err-fed-clause-adds g c =
    let e = c.in_err-fed.field-0.0 in
    adds-weaker c.in_err-fed.ensures.adds (λ es h.
    handed_on c.from_residual.result e (λ r. HasFed c.args.max c.args.wanted r es) c.from_residual.ensures.1
    (first_refused c.args.max c.args.wanted e es h))

pub returns-in_err-next-clause-adds : goal.returns-in_err-next-clause-adds
returns-in_err-next-clause-adds g c =
    let e = c.in_err-next.field-0.0 in
    adds-then c.loop-max.invariant c.in_err-next.ensures.adds (λ es fs h k.
    handed_on c.from_residual-in_err-next.result e (λ r. HasFed c.args.max c.args.wanted r (es ++ fs))
    c.from_residual-in_err-next.ensures.1
    (fed_refused c.args.max c.args.wanted c.loop-max.fed e es fs (omega arith) h k))

pub returns-then-get-clause-adds : goal.returns-then-get-clause-adds
returns-then-get-clause-adds g c =
    adds-then c.loop-max.invariant c.in_ok-next.ensures.adds
    (λ es fs h k. fed_stuck c.args.max c.args.wanted c.loop-max.fed c.in_ok-next.next es fs (omega arith)
    (omega arith) h k)

pub loop-max-preserved : goal.loop-max-preserved
loop-max-preserved g c =
    adds-then c.loop-max.invariant c.in_ok-next.ensures.adds
    (λ es fs h k. fed_more c.args.max c.args.wanted c.loop-max.fed c.in_ok-next.next es fs (omega arith)
    (omega arith) h k)

pub returns-clause-adds : goal.returns-clause-adds
returns-clause-adds g c = adds-weaker c.loop-max.invariant
    (λ es h. fed_enough c.args.max c.args.wanted c.loop-max.fed es (omega arith) h)

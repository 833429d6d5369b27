-- next_in_interval: its clause tested where a candidate is due, at once or after one that isn't.
use Rattle.std.proofs.Common.{◌+◌, ◌/◌, arith}
use Rattle.cj_due.proofs.BudgetLemmas.{budget_mono}
use Rattle.cj_due.proofs.intervals.next_in_interval.Goals as goal

pub returns-then-is_some-clause-tested : goal.returns-then-is_some-clause-tested
returns-then-is_some-clause-tested c = λ first low. omega (
  arith,
  c.loop-at.invariant.counted first low,
  c.first_candidate-first.ensures.tested first (omega (arith, c.loop-at.invariant.low)),
  budget_mono c.args.schedule.now first (c.first_candidate-first.result.1 / 60 + 1) (c.args.hi / 60 + 1)
      (omega (arith, c.loop-at.invariant.low, c.first_candidate-first.ensures.low))
      (omega (arith, c.first_candidate-first.ensures.high)),
)

pub returns-then-is_some-2-clause-tested : goal.returns-then-is_some-2-clause-tested
returns-then-is_some-2-clause-tested c = λ first low. omega (
  arith,
  c.loop-at.invariant.counted first low,
  c.first_candidate-first.ensures.tested first (omega (arith, c.loop-at.invariant.low)),
  c.next_while_steady-next.ensures.tested first
      (omega (arith, c.loop-at.invariant.low, c.first_candidate-first.ensures.low)),
  budget_mono c.args.schedule.now first (c.next_while_steady-next.result.1 / 60 + 1) (c.args.hi / 60 + 1)
      (omega (
        arith,
        c.loop-at.invariant.low,
        c.first_candidate-first.ensures.low,
        c.next_while_steady-next.ensures.low,
      )) (omega (arith, c.next_while_steady-next.ensures.high)),
)

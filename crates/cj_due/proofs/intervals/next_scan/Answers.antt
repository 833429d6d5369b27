-- next_scan: what its loop keeps, its clause some where an interval finds one, and its clause tested.
use Rattle.std.proofs.Common.{arith, ◌/◌, ◌+◌, ◌≤◌, ◌∙◌, sym, inl, inr}
use Rattle.std.proofs.lemmas.Bool.{cases_lt}
use Rattle.cj_due.proofs.BudgetLemmas.{within_days, budget_mono}
use Rattle.cj_due.proofs.IntervalLemmas.{none_left, found_in}
use Rattle.cj_due.proofs.intervals.next_scan.Goals as goal

pub loop-at-init : goal.loop-at-init
loop-at-init c = record {
  quiet = λ t above within. absurd (omega arith);
  low = omega arith;
  high = omega arith;
  counted = λ first _. omega arith;
  bounded = omega arith;
}

pub loop-at-preserved : goal.loop-at-preserved
loop-at-preserved c = record {
  quiet = λ t above within. elim (cases_lt c.loop-at.at t) [
    | inl later ↦ c.next_in_interval-part.ensures.none (none_left _ (sym c.is_some.ensures ∙ c.if-is_some.false)) t
        later
        within
    | inr before ↦ c.loop-at.invariant.quiet t above before
  ];
  low = omega arith;
  high = omega arith;
  counted = λ first low. omega (
    arith,
    c.loop-at.invariant.counted first low,
    c.next_in_interval-part.ensures.tested first (omega arith),
  );
  bounded = omega arith;
}

pub returns-then-is_some-clause-some : goal.returns-then-is_some-clause-some
returns-then-is_some-clause-some c = found_in c.args.schedule.now c.args.zone.now c.args.lo c.loop-at.at
    c.min-end.result c.args.hi _ c.loop-at.invariant.low (omega arith) c.loop-at.invariant.quiet
    c.next_in_interval-part.ensures.some

pub returns-then-is_some-clause-tested : goal.returns-then-is_some-clause-tested
returns-then-is_some-clause-tested c =
    let first : c.args.lo / 86_400 ≤ c.loop-at.at / 86_400 = omega (arith, c.loop-at.invariant.low) in
    within_days c.args.schedule.now c.args.lo c.args.hi (c.loop-at.tested + c.next_in_interval-part.result.tested)
    (omega arith) (omega (
      arith,
      c.loop-at.invariant.counted (c.args.lo / 86_400) (omega arith),
      c.next_in_interval-part.ensures.tested (c.args.lo / 86_400) first,
      budget_mono c.args.schedule.now
          (c.args.lo / 86_400) (c.min-end.result / 60 + 1) (c.args.hi / 60 + 1) (omega arith) (omega arith),
    ))

pub returns-clause-tested : goal.returns-clause-tested
returns-clause-tested c =
    within_days c.args.schedule.now c.args.lo c.args.hi c.none-2.result.tested (omega arith)
    (omega (
      arith,
      c.none-2.ensures.tested,
      c.loop-at.invariant.counted (c.args.lo / 86_400) (omega arith),
      budget_mono c.args.schedule.now (c.args.lo / 86_400) (c.loop-at.at / 60 + 1) (c.args.hi / 60 + 1) (omega arith)
          (omega arith),
    ))

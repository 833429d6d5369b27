-- first_candidate: its clauses none, some and tested, by what the first candidate of an interval is.
use Rattle.std.proofs.Common.{◌≤◌, ◌+◌, ◌*◌, ◌/◌, ◌≡◌, sym, ◌∙◌, arith}
use Rattle.cj_due.proofs.DueLemmas.{quiet_start, quiet_more}
use Rattle.cj_due.proofs.AheadLemmas.{first_of, least_due}
use Rattle.cj_due.proofs.BudgetLemmas.{budget_mono, budget_more}
use Rattle.cj_due.proofs.intervals.first_candidate.Goals as goal

pub returns-then-last-lo-clause-none : goal.returns-then-last-lo-clause-none
returns-then-last-lo-clause-none c = λ _ t above within.
    (quiet_start c.args.schedule.now c.args.zone.now c.args.lo).quiet t above (omega (arith, c.if-last-lo.true))

pub returns-then-minute-last-clause-none : goal.returns-then-minute-last-clause-none
returns-then-minute-last-clause-none c = λ _ t above within.
    let first = first_of c.args.schedule.now c.args.zone.now c.args.lo c.args.hi c.next_by_either-minute.result
    c.base_of-one.result c.base_of-other.result c.args.interval.now.one c.args.interval.now.other c.requires.in_range
    c.requires.offsets c.base_of-one.ensures.value c.base_of-other.ensures.value c.next_by_either-minute.ensures in
    first.before.quiet t above (omega (arith, c.if-minute-last.true))

pub returns-then-minute-last-clause-tested : goal.returns-then-minute-last-clause-tested
returns-then-minute-last-clause-tested c = λ first low. omega (
  arith,
  c.none-then-minute-last.ensures.tested,
  budget_mono c.args.schedule.now first (c.args.lo / 60 + 1) (c.args.hi / 60 + 1) (omega arith) (omega arith),
)

pub returns-then-is_due-clause-some : goal.returns-then-is_due-clause-some
returns-then-is_due-clause-some c =
    let first = first_of c.args.schedule.now c.args.zone.now c.args.lo c.args.hi c.next_by_either-minute.result
    c.base_of-one.result c.base_of-other.result c.args.interval.now.one c.args.interval.now.other c.requires.in_range
    c.requires.offsets c.base_of-one.ensures.value c.base_of-other.ensures.value c.next_by_either-minute.ensures in
    least_due c.args.schedule.now c.args.zone.now c.args.lo c.args.hi c.next_by_either-minute.result c.instant.result
    c.instant.ensures c.next_by_either-minute.ensures.above (omega (arith, c.if-minute-last.false)) first.before
    (sym c.is_due.ensures ∙ c.if-is_due.true)

pub returns-then-is_due-clause-tested : goal.returns-then-is_due-clause-tested
returns-then-is_due-clause-tested c = λ first low.
    let n = c.next_by_either-minute.result in
    let is = first_of c.args.schedule.now c.args.zone.now c.args.lo c.args.hi n c.base_of-one.result
    c.base_of-other.result c.args.interval.now.one c.args.interval.now.other c.requires.in_range c.requires.offsets
    c.base_of-one.ensures.value c.base_of-other.ensures.value c.next_by_either-minute.ensures in
    let within : n ≤ c.args.hi / 60 = omega (arith, c.if-minute-last.false) in
    let more = budget_more c.args.schedule.now first (c.args.lo / 60 + 1) (c.args.lo / 60 + 1) n 0 (omega arith)
    c.next_by_either-minute.ensures.above (is.busy within) (omega arith) in
    omega (
      arith,
      more,
      budget_mono c.args.schedule.now first (n + 1) (c.args.hi / 60 + 1)
          (omega (arith, c.next_by_either-minute.ensures.above)) (omega (arith, within)),
    )

pub returns-clause-none : goal.returns-clause-none
returns-clause-none c = λ _ t above within.
    let first = first_of c.args.schedule.now c.args.zone.now c.args.lo c.args.hi c.next_by_either-minute.result
    c.base_of-one.result c.base_of-other.result c.args.interval.now.one c.args.interval.now.other c.requires.in_range
    c.requires.offsets c.base_of-one.ensures.value c.base_of-other.ensures.value c.next_by_either-minute.ensures in
    let here = quiet_more _ _ _ c.next_by_either-minute.result first.before
    (sym c.is_due.ensures ∙ c.if-is_due.false) in
    here.quiet t above (omega (arith, within))

pub returns-clause-tested : goal.returns-clause-tested
returns-clause-tested c = λ first low.
    let n = c.next_by_either-minute.result in
    let is = first_of c.args.schedule.now c.args.zone.now c.args.lo c.args.hi n c.base_of-one.result
    c.base_of-other.result c.args.interval.now.one c.args.interval.now.other c.requires.in_range c.requires.offsets
    c.base_of-one.ensures.value c.base_of-other.ensures.value c.next_by_either-minute.ensures in
    let within : n ≤ c.args.hi / 60 = omega (arith, c.if-minute-last.false) in
    let more = budget_more c.args.schedule.now first (c.args.lo / 60 + 1) (c.args.lo / 60 + 1) n 0 (omega arith)
    c.next_by_either-minute.ensures.above (is.busy within) (omega arith) in
    let same : n * 60 / 60 ≡ n = omega arith in
    rw same (omega (arith, more, c.none-2.ensures.tested))

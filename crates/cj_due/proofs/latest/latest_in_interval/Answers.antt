-- latest_in_interval: what its loop keeps, its clause some at a due minute, and its clause none.
use Rattle.std.proofs.Common.{sym, ◌∙◌, arith, subst, ◌+◌, ◌-◌, ◌/◌, ◌≡◌, ◌*◌}
use Rattle.cj_due.proofs.DueLemmas.{IsQuietFrom, quiet_end, quiet_down, quiet_after}
use Rattle.cj_due.proofs.AheadLemmas.{interval_quiet_back, from_bits, latest_due}
use Rattle.cj_due.proofs.latest.latest_in_interval.Goals as goal

pub loop-minute-init : goal.loop-minute-init
loop-minute-init c = record { quiet = quiet_end _ _ _; low = omega arith; high = omega arith }

pub returns-in_err-last-clause-none : goal.returns-in_err-last-clause-none
returns-in_err-last-clause-none c = λ _.
    let one = from_bits c.base_of-one.result c.args.interval.one c.requires.offsets.one_in c.base_of-one.ensures.value
    in
    let other = from_bits c.base_of-other.result c.args.interval.other c.requires.offsets.other_in
    c.base_of-other.ensures.value in
    quiet_after _ _ c.args.lo (c.args.lo / 60 + 1) _ (omega arith)
    (interval_quiet_back c.args.schedule.now c.args.zone.now c.args.lo c.args.hi c.loop-minute.minute
    (c.args.lo / 60 + 1) c.base_of-one.result c.base_of-other.result c.args.interval.one c.args.interval.other
    c.requires.in_range c.requires.offsets one other c.loop-minute.invariant.high
    (omega arith) c.in_err-last.ensures.0 c.in_err-last.ensures.1 c.loop-minute.invariant.quiet)

pub returns-then-is_due-clause-some : goal.returns-then-is_due-clause-some
returns-then-is_due-clause-some c =
    let one = from_bits c.base_of-one.result c.args.interval.one c.requires.offsets.one_in c.base_of-one.ensures.value
    in
    let other = from_bits c.base_of-other.result c.args.interval.other c.requires.offsets.other_in
    c.base_of-other.ensures.value in
    let low = c.in_ok-last.ensures.0 in
    let high = c.in_ok-last.ensures.1 in
    let after = interval_quiet_back c.args.schedule.now c.args.zone.now c.args.lo c.args.hi c.loop-minute.minute
    (c.in_ok-last.last + 1) c.base_of-one.result c.base_of-other.result c.args.interval.one c.args.interval.other
    c.requires.in_range c.requires.offsets one other c.loop-minute.invariant.high
    (omega arith) c.in_ok-last.ensures.3 c.in_ok-last.ensures.4 c.loop-minute.invariant.quiet in
    latest_due c.args.schedule.now c.args.zone.now c.args.lo c.args.hi c.in_ok-last.last c.instant.result
    c.instant.ensures low (omega (arith, c.loop-minute.invariant.high)) after
    (sym c.is_due.ensures ∙ c.if-is_due.true)

pub loop-minute-preserved : goal.loop-minute-preserved
loop-minute-preserved c =
    let one = from_bits c.base_of-one.result c.args.interval.one c.requires.offsets.one_in c.base_of-one.ensures.value
    in
    let other = from_bits c.base_of-other.result c.args.interval.other c.requires.offsets.other_in
    c.base_of-other.ensures.value in
    let low = c.in_ok-last.ensures.0 in
    let high = c.in_ok-last.ensures.1 in
    let within = c.loop-minute.invariant.high in
    let back : c.in_ok-last.last - 1 + 1 ≡ c.in_ok-last.last = omega arith in
    let after = interval_quiet_back c.args.schedule.now c.args.zone.now c.args.lo c.args.hi c.loop-minute.minute
    (c.in_ok-last.last + 1) c.base_of-one.result c.base_of-other.result c.args.interval.one c.args.interval.other
    c.requires.in_range c.requires.offsets one other c.loop-minute.invariant.high
    (omega arith) c.in_ok-last.ensures.3 c.in_ok-last.ensures.4 c.loop-minute.invariant.quiet in
    record {
      quiet = subst (λ n. IsQuietFrom c.args.schedule.now c.args.zone.now (n * 60) c.args.hi) (sym back)
          (quiet_down _ _ c.in_ok-last.last (c.in_ok-last.last + 1) _ (omega arith) after
          (sym c.is_due.ensures ∙ c.if-is_due.false));
      low = omega arith;
      high = omega arith;
    }

pub returns-clause-none : goal.returns-clause-none
returns-clause-none c = λ _. quiet_after _ _ c.args.lo (c.loop-minute.minute + 1) _
    (omega (arith, c.loop-minute-test.false)) c.loop-minute.invariant.quiet

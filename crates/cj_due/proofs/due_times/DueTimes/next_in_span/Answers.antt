-- next_in_span: what it leaves and its clauses, by the next minute in which the clock shows an allowed one.
use Rattle.std.proofs.Common.{◌*◌, ◌≤◌, arith, refl}
use Rattle.cj_due.proofs.DueTimesLemmas.{clock_later, day_of_minute, left_next, left_same, span_next, span_quiet}
use Rattle.cj_due.proofs.due_times.DueTimes.next_in_span.Goals as goal

pub returns-then-last-found-clause-none : goal.returns-then-last-found-clause-none
returns-then-last-found-clause-none c = λ _.
    let d = c.self.inside in
    left_same d.schedule.now d.zone.now d.at d.until d.end _ c.self.view_is (omega (arith, c.if-last-from.false))
    c.self.invariant.within
    (span_quiet d.schedule.now d.zone.now d.at d.until d.base c.self.invariant.clock
    (λ k above below. c.next_ahead-found.ensures.quiet k above (omega (arith, c.if-last-found.true))))

pub invariant_of-self-2 : goal.invariant_of-self-2
invariant_of-self-2 c =
    let d = c.self.inside in
    let n = c.next_ahead-found.result in
    let from : d.at ≤ n * 60 = omega (arith, c.next_ahead-found.ensures.above) in
    record {
      in_range = c.self.invariant.in_range;
      at_in_range = omega (arith, c.if-last-found.false, c.self.invariant.within, c.self.invariant.in_range);
      within = c.self.invariant.within;
      minute_in_range = omega arith;
      clock = clock_later d.schedule.now d.zone.now d.at d.until d.base (n * 60) c.self.invariant.clock from;
      on_day = λ _. day_of_minute d.schedule.now d.base n (n * 60) refl
          (c.next_ahead-found.ensures.found c.if-last-found.false);
    }

pub returns-clause-some : goal.returns-clause-some
returns-clause-some c =
    let d = c.self.inside in
    let n = c.next_ahead-found.result in
    left_next d.schedule.now d.zone.now d.at d.until d.end (n * 60) c.instant.result _ c.self.view_is
    c.self.invariant.within
    (span_next d.schedule.now d.zone.now d.at d.until d.base n (n * 60) c.self.invariant.clock refl
    (omega (arith, c.if-last-found.false)) c.next_ahead-found.ensures.above c.next_ahead-found.ensures.quiet
    (c.next_ahead-found.ensures.found c.if-last-found.false)) c.instant.ensures

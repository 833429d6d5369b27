-- next_by_search: what it leaves and its clauses, by the least due instant and the offset that the clock keeps from
-- it on.
use Rattle.std.proofs.Common.{◌≡◌, arith, ap, sym, subst, ◌∙◌, true}
use Rattle.std.specs.Option.{is_some}
use Rattle.cj_zone.specs.Interval.{IsOffsetInterval}
use Rattle.cj_zone.specs.Offset.{zone_offset}
use Rattle.cj_due.specs.Due.{due, IsLeastDue}
use Rattle.cj_due.proofs.DueTimesLemmas.{least_of, day_of_due, left_next, left_none, none_after, steady_clock}
use Rattle.cj_due.proofs.due_times.DueTimes.next_by_search.Goals as goal

pub returns-in_default-clause-none : goal.returns-in_default-clause-none
returns-in_default-clause-none c = λ _.
    let d = c.self.inside in (
      left_none d.schedule.now d.zone.now d.at d.end _ c.self.view_is
          (c.next_scan-found.ensures.none (ap is_some c.in_default.is)),
      none_after d.schedule.now d.zone.now c.max-self-inside.result d.end (omega (arith, c.max-self-inside.ensures)),
    )

pub invariant_of-self-2 : goal.invariant_of-self-2
invariant_of-self-2 c =
    let d = c.self.inside in
    let at = c.get-self-inside.result in
    let span = c.span_from-span.result in
    let base = c.base_of-self-inside.result in
    let least = least_of d.schedule.now d.zone.now d.at d.end c.in-Some.time c.next_scan-found.result.found c.in-Some.is
    c.next_scan-found.ensures.some in
    let same : at ≡ c.in-Some.time = c.get-self-inside.ensures.value in
    let here : due d.schedule.now d.zone.now at ≡ true = ap (due d.schedule.now d.zone.now) same ∙ least.is_due in
    let offsets : IsOffsetInterval (zone_offset d.zone.now) span.one span.other at span.last =
    subst (λ t. IsOffsetInterval (zone_offset d.zone.now) span.one span.other t span.last) (sym same)
    c.span_from-span.ensures.offsets in
    let until = c.min-self-inside.ensures in
    record {
      in_range = c.self.invariant.in_range;
      at_in_range = c.get-self-inside.ensures.in_range;
      within = omega (arith, until);
      minute_in_range = omega arith;
      clock = steady_clock d.schedule.now d.zone.now at at span.last c.min-self-inside.result base span.one span.other
          offsets c.span_from-span.ensures.steady c.base_of-self-inside.ensures.value c.base_of-self-inside.ensures.high
          (omega arith) (omega (arith, until)) (omega (arith, until, c.self.invariant.in_range));
      on_day = λ _. day_of_due d.schedule.now d.zone.now at span.last base span.one span.other offsets
          c.span_from-span.ensures.steady c.base_of-self-inside.ensures.value
          (omega (arith, same, c.span_from-span.ensures.last)) c.get-self-inside.ensures.in_range here;
    }

pub returns-clause-some : goal.returns-clause-some
returns-clause-some c =
    let d = c.self.inside in
    let least = least_of d.schedule.now d.zone.now d.at d.end c.in-Some.time c.next_scan-found.result.found c.in-Some.is
    c.next_scan-found.ensures.some in
    left_next d.schedule.now d.zone.now d.at d.end d.end c.get-self-inside.result c.in-Some.time _ c.self.view_is
    (omega arith) (subst (λ t. IsLeastDue d.schedule.now d.zone.now d.at d.end t) (sym c.get-self-inside.ensures.value)
    least) (sym c.get-self-inside.ensures.value)

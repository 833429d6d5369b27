-- next_day: what its loop keeps as it goes on to the month after.
use Rattle.std.proofs.Common.{arith, refl, ◌≤◌}
use Rattle.jiff_core.specs.Calendar.{days_in_month}
use Rattle.jiff_core.proofs.CalendarLemmas.{days_in_month_bounds}
use Rattle.cj_due.proofs.CalendarLemmas.NextLemmas.{quiet_more}
use Rattle.cj_due.proofs.calendar.day.next_day.Goals as goal

pub loop-month-preserved : goal.loop-month-preserved
loop-month-preserved c =
    let some = (days_in_month_bounds c.loop-month.month.year c.loop-month.month.month).1 in
    let next_some : 1 ≤ days_in_month c.next-month.result.year c.next-month.result.month =
    omega (arith, (days_in_month_bounds c.next-month.result.year c.next-month.result.month).1) in
    record {
      quiet = quiet_more _ c.args.from _ _ _ c.loop-month.invariant.quiet (c.in_default.ensures.none refl)
          (omega arith);
      low = omega arith;
      high = next_some;
      reached = omega arith;
    }

-- month_of: that its arithmetic does not overflow, that it makes a month, and its clause place.
use Rattle.std.proofs.Common.{arith}
use Rattle.jiff_tz.proofs.YearLemmas.{back_year}
use Rattle.cj_due.proofs.CalendarLemmas.MonthLemmas.{month_fits, month_is}
use Rattle.cj_due.proofs.calendar.month.month_of.Goals as goal

pub overflow_sub-month : goal.overflow_sub-month
overflow_sub-month c = month_fits c.from_days_since_min-date.result c.args.day c.from_days_since_min-date.ensures

pub invariant_of-month : goal.invariant_of-month
invariant_of-month c =
    let date = c.from_days_since_min-date.result in
    record {
      is_month = rw (back_year c.from_days_since_min-date.result.year c.from_days_since_min-date.result.year_in)
          (month_is c.from_days_since_min-date.result c.args.day c.from_days_since_min-date.ensures);
    }

pub returns-clause-place : goal.returns-clause-place
returns-clause-place c = omega (
  arith,
  month_fits c.from_days_since_min-date.result c.args.day
      c.from_days_since_min-date.ensures,
)

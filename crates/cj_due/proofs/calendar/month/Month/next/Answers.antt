-- Month::next: that what it makes is a month, after a December and after any other month.
use Rattle.std.proofs.Common.{arith, pos, ◌+ℤ◌}
use Rattle.jiff_tz.proofs.YearLemmas.{back_year}
use Rattle.cj_due.proofs.CalendarLemmas.MonthLemmas.{month_next, january}
use Rattle.cj_due.proofs.calendar.month.Month.next.Goals as goal

pub invariant_of-result : goal.invariant_of-result
invariant_of-result c =
    let next = january c.args.self.year c.args.self.month c.args.self.first c.length.result c.args.self.is_month
    c.if-self-eq12.true c.length.ensures.value c.requires in
    record {
      is_month = rw (
        back_year c.args.self.year c.args.self.is_month.year_in,
        back_year (c.args.self.year +ℤ pos 1) next.year_in,
      ) next;
    }

pub invariant_of-result-2 : goal.invariant_of-result-2
invariant_of-result-2 c =
    let last = c.args.self.is_month.month_in.1 in
    record {
      is_month = rw (back_year c.args.self.year c.args.self.is_month.year_in, c.length.ensures.value)
          (month_next c.args.self.year c.args.self.month c.args.self.first c.args.self.is_month
          (omega (arith, c.if-self-eq12.false)));
    }

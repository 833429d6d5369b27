-- next_day: at each turn no day from the first asked on is allowed before the day in hand.
use Rattle.std.proofs.Common.{◌≤◌, ◌+◌, ◌-◌}
use Rattle.jiff_core.specs.Calendar.{days_in_month}
use Rattle.cj_due.specs.calendar.Shown.{day_at}
use Rattle.cj_due.proofs.CalendarLemmas.NextLemmas.{IsQuietTo}
use Rattle.cj_due.proofs.calendar.day.next_day.Given as goal

abbrev pub invariant-loop-month : goal.invariant-loop-month
invariant-loop-month l = record {
  quiet : IsQuietTo (day_at l.schedule) l.fn.from (l.month.first + l.day - 1);
  low : 1 ≤ l.day;
  high : l.day ≤ days_in_month l.month.year l.month.month;
  reached : l.fn.from ≤ l.month.first + l.day - 1;
}

abbrev pub decreases-loop-month : goal.decreases-loop-month
decreases-loop-month l = l.last + 1 - l.month.first

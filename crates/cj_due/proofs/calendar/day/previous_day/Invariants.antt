-- previous_day: at each turn no day after the day in hand, up to the last asked, is allowed.
use Rattle.std.proofs.Common.{◌≤◌, ◌+◌}
use Rattle.jiff_core.specs.Calendar.{days_in_month}
use Rattle.cj_due.specs.calendar.Shown.{day_at}
use Rattle.cj_due.proofs.CalendarLemmas.NextLemmas.{IsQuietFrom}
use Rattle.cj_due.proofs.calendar.day.previous_day.Given as goal

abbrev pub invariant-loop-month : goal.invariant-loop-month
invariant-loop-month l = record {
  quiet : IsQuietFrom (day_at l.schedule) (l.month.first + l.day) l.fn.upto;
  low : 1 ≤ l.day;
  high : l.day ≤ days_in_month l.month.year l.month.month;
  reached : l.month.first + l.day ≤ l.fn.upto + 1;
}

abbrev pub decreases-loop-month : goal.decreases-loop-month
decreases-loop-month l = l.month.first + l.day

-- previous_in_month: its clause none where the month is not allowed or no day of it is,
-- and its clause some where one is.
use Rattle.std.proofs.Common.{sym, ◌∙◌, refl}
use Rattle.cj_due.proofs.CalendarLemmas.DayLemmas.{month_off_before, days_off_before, day_on_before}
use Rattle.cj_due.proofs.calendar.day.previous_in_month.Goals as goal

pub returns-then-not-has_month-clause-none : goal.returns-then-not-has_month-clause-none
returns-then-not-has_month-clause-none c = λ _. month_off_before c.args.schedule.now c.args.month.year
    c.args.month.month c.args.month.first c.args.upto c.args.month.is_month c.requires.high
    (sym c.has_month.ensures ∙ c.if-not-has_month.true)

pub returns-in_err-day-clause-none : goal.returns-in_err-day-clause-none
returns-in_err-day-clause-none c = λ _. days_off_before c.args.schedule.now c.args.month.year c.args.month.month
    c.args.month.first c.args.upto _ c.args.month.is_month c.requires.low c.requires.high c.weekday.ensures
    (c.in_err-day.ensures.none refl)

pub returns-clause-some : goal.returns-clause-some
returns-clause-some c = day_on_before c.args.schedule.now c.args.month.year c.args.month.month c.args.month.first
    c.args.upto _ c.in_ok-day.day c.args.month.is_month c.in_ok-day.ensures.low c.requires.high c.weekday.ensures
    (sym c.has_month.ensures ∙ c.if-not-has_month.false) c.in_ok-day.ensures.some

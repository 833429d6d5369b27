-- next_in_month: its clause none where the month is not allowed or no day of it is left,
-- and its clause some where one is.
use Rattle.std.proofs.Common.{sym, ◌∙◌, arith, refl}
use Rattle.jiff_core.proofs.CalendarLemmas.{days_in_month_bounds}
use Rattle.cj_due.proofs.CalendarLemmas.DayLemmas.{month_off, days_off, day_on}
use Rattle.cj_due.proofs.calendar.day.next_in_month.Goals as goal

pub returns-then-not-has_month-clause-none : goal.returns-then-not-has_month-clause-none
returns-then-not-has_month-clause-none c = λ _. month_off c.args.schedule.now c.args.month.year c.args.month.month
    c.args.month.first c.args.from c.args.month.is_month c.requires.low (sym c.has_month.ensures
    ∙ c.if-not-has_month.true)

pub returns-in_err-day-clause-none : goal.returns-in_err-day-clause-none
returns-in_err-day-clause-none c = λ _.
    let long = (days_in_month_bounds c.args.month.year c.args.month.month).0 in
    days_off c.args.schedule.now c.args.month.year c.args.month.month c.args.month.first c.args.from _
    c.args.month.is_month c.requires.low c.weekday.ensures
    (λ k above within. c.in_err-day.ensures.none refl k above (omega arith))

pub returns-then-day-length-clause-some : goal.returns-then-day-length-clause-some
returns-then-day-length-clause-some c =
    let long = (days_in_month_bounds c.args.month.year c.args.month.month).0 in
    day_on c.args.schedule.now c.args.month.year c.args.month.month c.args.month.first c.args.from _ c.in_ok-day.day
    c.args.month.is_month c.requires.low c.weekday.ensures (sym c.has_month.ensures ∙ c.if-not-has_month.false)
    (c.in_ok-day.ensures.some (omega arith)) (omega arith)

pub returns-else-day-length-clause-none : goal.returns-else-day-length-clause-none
returns-else-day-length-clause-none c = λ _.
    let long = (days_in_month_bounds c.args.month.year c.args.month.month).0 in
    days_off c.args.schedule.now c.args.month.year c.args.month.month c.args.month.first c.args.from _
    c.args.month.is_month c.requires.low c.weekday.ensures
    (λ k above within. c.in_ok-day.ensures.before k above (omega arith) (omega arith))

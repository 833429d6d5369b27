-- previous_from_day: its clause none where no day or no minute is allowed, and its clause some.
use Rattle.std.proofs.Common.{arith, refl, ◌+◌, ◌*◌}
use Rattle.cj_due.proofs.CalendarLemmas.ShownLemmas.{no_days_before, no_minutes, earlier_day}
use Rattle.cj_due.proofs.calendar.shown.previous_from_day.Goals as goal

pub returns-in_err-day-clause-none : goal.returns-in_err-day-clause-none
returns-in_err-day-clause-none c = λ _. no_days_before c.args.schedule.now
    (c.args.upto * 1_440 + 1_439) c.args.upto c.args.first (omega arith) (c.in_err-day.ensures.none refl)

pub returns-in_err-minute-clause-none : goal.returns-in_err-minute-clause-none
returns-in_err-minute-clause-none c = λ _. no_minutes c.args.schedule.now (c.args.first * 1_440)
    (c.args.upto * 1_440 + 1_439) (c.in_err-minute.ensures.none refl)

pub returns-clause-some : goal.returns-clause-some
returns-clause-some c =
    let le = c.in_ok-day.ensures.some.below in
    earlier_day c.args.schedule.now (c.args.upto * 1_440 + 1_439) c.args.upto c.in_ok-day.day c.in_ok-minute.minute
    (omega arith) (omega arith) c.in_ok-day.ensures.some c.in_ok-minute.ensures.some

-- next_shown: its clauses some and none, on the minute's own day and on the days after it.
use Rattle.std.proofs.Common.{arith, refl, ◌≡◌, ap, ◌∙◌, ◌+◌, ◌*◌, ◌/◌}
use Rattle.cj_due.specs.calendar.Shown.{day_at}
use Rattle.cj_due.proofs.CalendarLemmas.NextLemmas.{next_after_some}
use Rattle.cj_due.proofs.CalendarLemmas.ShownLemmas.{no_days, no_minutes, later_day, same_day_on, rest_of_day, after_day}
use Rattle.cj_due.proofs.calendar.shown.next_shown.Goals as goal

pub returns-in_err-first-clause-none : goal.returns-in_err-first-clause-none
returns-in_err-first-clause-none c = λ _. no_days c.args.schedule.now c.args.from (c.args.from / 1_440) c.args.last refl
    (c.in_err-first.ensures.none refl)

pub returns-in_err-minute-clause-none : goal.returns-in_err-minute-clause-none
returns-in_err-minute-clause-none c = λ _. no_minutes c.args.schedule.now c.args.from (c.args.last * 1_440 + 1_439)
    (c.in_err-minute.ensures.none refl)

pub returns-then-first-day-clause-some : goal.returns-then-first-day-clause-some
returns-then-first-day-clause-some c =
    later_day c.args.schedule.now c.args.from (c.args.from / 1_440) c.in_ok-first.first c.in_ok-minute.minute refl
    (omega arith) c.in_ok-first.ensures.some c.in_ok-minute.ensures.some c.in_ok-minute.ensures.below

pub returns-in-Some-clause-some : goal.returns-in-Some-clause-some
returns-in-Some-clause-some c =
    let same : c.args.from / 1_440 ≡ c.in_ok-first.first =
    omega (arith, c.in_ok-first.ensures.some.above, c.if-first-day.false) in
    same_day_on c.args.schedule.now c.args.from (c.args.from / 1_440) c.in-Some.minute refl
    (ap (day_at c.args.schedule.now) same ∙ c.in_ok-first.ensures.some.passes) c.in-Some.ensures.some
    c.in-Some.ensures.below

pub returns-in-None-clause-some : goal.returns-in-None-clause-some
returns-in-None-clause-some c = next_after_some _ _ c.args.from _ (omega arith)
    (rest_of_day c.args.schedule.now c.args.from (c.args.from / 1_440) refl (c.in-None.ensures.none refl))
    c.next_from_day.ensures.some

pub returns-in-None-clause-none : goal.returns-in-None-clause-none
returns-in-None-clause-none c = λ none. after_day c.args.schedule.now c.args.from (c.args.from / 1_440) _
    (rest_of_day c.args.schedule.now c.args.from (c.args.from / 1_440) refl (c.in-None.ensures.none refl))
    (c.next_from_day.ensures.none none)

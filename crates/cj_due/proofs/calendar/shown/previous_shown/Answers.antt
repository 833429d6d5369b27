-- previous_shown: its clauses some and none, on the minute's own day and on the days before it.
use Rattle.std.proofs.Common.{arith, refl, sym, subst, ◌≡◌, ap, ◌∙◌, ◌+◌, ◌-◌, ◌*◌, ◌/◌}
use Rattle.cj_due.specs.calendar.Shown.{day_at, minute_at}
use Rattle.cj_due.proofs.CalendarLemmas.NextLemmas.{IsQuietFrom, previous_before_some}
use Rattle.cj_due.proofs.CalendarLemmas.ShownLemmas.{no_days_before, no_minutes, earlier_day, same_day_before, rest_before, before_day}
use Rattle.cj_due.proofs.calendar.shown.previous_shown.Goals as goal

pub returns-in_err-last-clause-none : goal.returns-in_err-last-clause-none
returns-in_err-last-clause-none c = λ _. no_days_before c.args.schedule.now c.args.upto
    (c.args.upto / 1_440) c.args.first refl (c.in_err-last.ensures.none refl)

pub returns-in_err-minute-clause-none : goal.returns-in_err-minute-clause-none
returns-in_err-minute-clause-none c = λ _. no_minutes c.args.schedule.now (c.args.first * 1_440) c.args.upto
    (c.in_err-minute.ensures.none refl)

pub returns-then-last-day-clause-some : goal.returns-then-last-day-clause-some
returns-then-last-day-clause-some c =
    let before = c.if-last-day.true in
    earlier_day c.args.schedule.now c.args.upto (c.args.upto / 1_440) c.in_ok-last.last c.in_ok-minute.minute refl
    (omega arith) c.in_ok-last.ensures.some c.in_ok-minute.ensures.some

pub returns-in-Some-clause-some : goal.returns-in-Some-clause-some
returns-in-Some-clause-some c =
    let same : c.args.upto / 1_440 ≡ c.in_ok-last.last =
    omega (arith, c.in_ok-last.ensures.some.below, c.if-last-day.false) in
    same_day_before c.args.schedule.now c.args.upto (c.args.upto / 1_440) c.in-Some.minute refl
    (ap (day_at c.args.schedule.now) same ∙ c.in_ok-last.ensures.some.passes) c.in-Some.ensures.some

pub returns-in-None-clause-none : goal.returns-in-None-clause-none
returns-in-None-clause-none c = λ _ k above within.
    let first = c.if-day-first.true in
    (rest_before c.args.schedule.now c.args.upto (c.args.upto / 1_440) refl (c.in-None.ensures.none refl)).quiet k
    (omega arith) within

pub returns-in-None-2-clause-some : goal.returns-in-None-2-clause-some
returns-in-None-2-clause-some c =
    let some = c.if-day-first.false in
    let next : (c.args.upto / 1_440 - 1) * 1_440 + 1_439 + 1 ≡ c.args.upto / 1_440 * 1_440 = omega arith in
    previous_before_some _ _ c.args.upto _ (omega arith)
    (subst (λ n. IsQuietFrom (minute_at c.args.schedule.now) n c.args.upto) (sym next)
    (rest_before c.args.schedule.now c.args.upto (c.args.upto / 1_440) refl (c.in-None.ensures.none refl)))
    c.previous_from_day.ensures.some

pub returns-in-None-2-clause-none : goal.returns-in-None-2-clause-none
returns-in-None-2-clause-none c = λ none.
    let some = c.if-day-first.false in
    before_day c.args.schedule.now c.args.upto (c.args.upto / 1_440) c.args.first
    (rest_before c.args.schedule.now c.args.upto (c.args.upto / 1_440) refl (c.in-None.ensures.none refl))
    (λ k above within. c.previous_from_day.ensures.none none k above (omega arith))

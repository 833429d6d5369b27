-- find_date: its loop and its clause value, since some date is allowed where this day has one or one of those left.
use Rattle.std.proofs.Common.{sym, arith}
use Rattle.cj_upcoming.specs.Dates.{has_date, weekday_of}
use Rattle.cj_upcoming.proofs.Places.{any_pass, any_found}
use Rattle.cj_upcoming.proofs.probe.find_date.Goals as goal

pub returns-in-Some-clause-value : goal.returns-in-Some-clause-value
returns-in-Some-clause-value c =
    any_found (weekday_of c.args.schedule.now) c.loop-day.day 32 (has_date c.args.schedule.now)
    (omega (arith, c.loop-day-test.true)) (sym c.in-Some.ensures.value) c.loop-day.invariant

pub loop-day-preserved : goal.loop-day-preserved
loop-day-preserved c =
    any_pass (weekday_of c.args.schedule.now) c.loop-day.day 32 (has_date c.args.schedule.now)
    (omega (arith, c.loop-day-test.true)) (sym c.in-None.ensures.value) c.loop-day.invariant

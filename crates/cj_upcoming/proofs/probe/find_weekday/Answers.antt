-- find_weekday: its loop and its clause value, since some day is allowed where this one is or one of those left.
use Rattle.std.proofs.Common.{sym, ◌∙◌, arith}
use Rattle.cj_upcoming.specs.Dates.{date_rule, weekday_of}
use Rattle.cj_upcoming.proofs.Places.{any_pass, any_over}
use Rattle.cj_upcoming.proofs.probe.find_weekday.Goals as goal

pub loop-weekday-preserved : goal.loop-weekday-preserved
loop-weekday-preserved c =
    any_pass (date_rule c.args.schedule.now c.args.day) c.loop-weekday.weekday 7
    (weekday_of c.args.schedule.now c.args.day)
    (omega (arith, c.loop-weekday-test.true)) (sym c.date_rule.ensures ∙ c.if-date_rule.false) c.loop-weekday.invariant

pub returns-clause-value : goal.returns-clause-value
returns-clause-value c =
    any_over (date_rule c.args.schedule.now c.args.day) c.loop-weekday.weekday 7
    (weekday_of c.args.schedule.now c.args.day)
    (omega (arith, c.loop-weekday-test.false)) c.loop-weekday.invariant

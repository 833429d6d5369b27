-- find_month: its loop and its clause value, since some month is allowed where this one is or one of those left.
use Rattle.std.proofs.Common.{sym, ◌∙◌, arith}
use Rattle.cj_schedule.specs.Matches.{has}
use Rattle.cj_upcoming.specs.Dates.{has_month}
use Rattle.cj_upcoming.proofs.Places.{any_pass}
use Rattle.cj_upcoming.proofs.probe.find_month.Goals as goal

pub loop-month-preserved : goal.loop-month-preserved
loop-month-preserved c =
    any_pass (has c.args.schedule.now.months) c.loop-month.month 13 (has_month c.args.schedule.now)
    (omega (arith, c.loop-month-test.true)) (sym c.has_month.ensures ∙ c.if-has_month.false) c.loop-month.invariant

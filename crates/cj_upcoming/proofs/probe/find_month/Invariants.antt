-- find_month: at each turn a month is allowed where one of those left is.
use Rattle.std.proofs.Common.{◌≡◌, ◌-◌}
use Rattle.std.specs.List.{list_any, range_with_len}
use Rattle.cj_schedule.specs.Matches.{has}
use Rattle.cj_upcoming.specs.Dates.{has_month}
use Rattle.cj_upcoming.proofs.probe.find_month.Given as goal

abbrev pub invariant-loop-month : goal.invariant-loop-month
invariant-loop-month l = list_any (has l.schedule.months) (range_with_len l.month (13 - l.month)) ≡ has_month l.schedule

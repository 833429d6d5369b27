-- find_date: at each turn a date is allowed where one of the days left has one.
use Rattle.std.proofs.Common.{◌≡◌, ◌-◌}
use Rattle.std.specs.List.{list_any, range_with_len}
use Rattle.cj_upcoming.specs.Dates.{has_date, weekday_of}
use Rattle.cj_upcoming.proofs.probe.find_date.Given as goal

abbrev pub invariant-loop-day : goal.invariant-loop-day
invariant-loop-day l = list_any (weekday_of l.schedule) (range_with_len l.day (32 - l.day)) ≡ has_date l.schedule

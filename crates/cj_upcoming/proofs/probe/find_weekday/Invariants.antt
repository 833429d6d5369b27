-- find_weekday: at each turn a day of the week is allowed where one of those left is.
use Rattle.std.proofs.Common.{◌≡◌, ◌-◌}
use Rattle.std.specs.List.{list_any, range_with_len}
use Rattle.cj_upcoming.specs.Dates.{date_rule, weekday_of}
use Rattle.cj_upcoming.proofs.probe.find_weekday.Given as goal

abbrev pub invariant-loop-weekday : goal.invariant-loop-weekday
invariant-loop-weekday l =
    list_any (date_rule l.schedule l.day) (range_with_len l.weekday (7 - l.weekday)) ≡ weekday_of l.schedule l.day

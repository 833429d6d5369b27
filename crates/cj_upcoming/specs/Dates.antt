-- The dates that a schedule allows at all.
use Rattle.std.specs.Prelude.{◌≡◌, ℕ, Bool, true}
use Rattle.std.specs.List.{list_any, range_with_len}
use Rattle.cj_schedule.specs.Matches.{Sets, has, day_rule}

-- the day fields allow a day of the month and a day of the week
-- rule: day-rule
abbrev pub date_rule : Sets → ℕ → ℕ → Bool
date_rule s day weekday = day_rule s (has s.days day) (has s.weekdays weekday)

-- some day of the week is allowed with this day of the month
abbrev pub weekday_of : Sets → ℕ → Bool
weekday_of s day = list_any (date_rule s day) (range_with_len 0 7)

-- some day of a month is allowed
abbrev pub has_date : Sets → Bool
has_date s = list_any (weekday_of s) (range_with_len 1 31)

-- some month is allowed
abbrev pub has_month : Sets → Bool
has_month s = list_any (has s.months) (range_with_len 1 12)

-- the date is allowed in the month
pub record IsAllowed (s : Sets) (month day weekday : ℕ) : Type 0 where
  pub month_in : has s.months month ≡ true
  pub date_in : date_rule s day weekday ≡ true

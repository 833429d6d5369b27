-- The numbers of a schedule's five sets, and how people tell them.
use Rattle.std.specs.Prelude.{ℕ, ◌%◌, ◌==◌, Bool, List, filter, codes, decimal, if◌then◌else◌}
use Rattle.std.specs.List.{range_with_len}
use Rattle.cj_schedule.specs.Matches.{Sets, has}
use Rattle.cj_upcoming.specs.declared.part.Part.{Part}
use Rattle.cj_upcoming.specs.declared.part.Part.TheVariants.{Minutes, Hours, Days, Months, Weekdays}

-- the least number of a part
abbrev pub first : Part → ℕ
first Minutes = 0
first Hours = 0
first Days = 1
first Months = 1
first Weekdays = 1

-- how many there are
abbrev pub count : Part → ℕ
count Minutes = 60
count Hours = 24
count Days = 31
count Months = 12
count Weekdays = 7

-- the schedule has the number; a week begins with Monday, its day 1, and ends with Sunday, its day
-- 7 (ISO 8601)
-- rule: describe-parts
abbrev pub allows : Sets → Part → ℕ → Bool
allows s Minutes n = has s.minutes n
allows s Hours n = has s.hours n
allows s Days n = has s.days n
allows s Months n = has s.months n
allows s Weekdays n = has s.weekdays (n % 7)

-- the numbers that it has, from the least on
-- rule: describe-parts
abbrev pub numbers : Sets → Part → List ℕ
numbers s part = filter (allows s part) (range_with_len (first part) (count part))

unfoldable pub month_name : ℕ → List ℕ
month_name n =
    if n == 1 then codes "January" else (if n == 2 then codes "February" else
    (if n == 3 then codes "March"
    else (if n == 4 then codes "April" else
    (if n == 5 then codes "May" else (if n == 6 then codes "June"
    else (if n == 7 then codes "July" else
    (if n == 8 then codes "August" else (if n == 9 then codes "September"
    else (if n == 10 then codes "October" else
    (if n == 11 then codes "November" else codes "December"))))))))))

unfoldable pub day_name : ℕ → List ℕ
day_name n =
    if n == 1 then codes "Monday" else (if n == 2 then codes "Tuesday" else
    (if n == 3 then codes "Wednesday"
    else (if n == 4 then codes "Thursday" else (if n == 5 then codes "Friday"
    else (if n == 6 then codes "Saturday" else codes "Sunday")))))

-- a month and a day of the week by name, others in digits
-- rule: describe-parts
abbrev pub name : Part → ℕ → List ℕ
name Minutes n = decimal n
name Hours n = decimal n
name Days n = decimal n
name Months n = month_name n
name Weekdays n = day_name n

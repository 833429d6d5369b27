-- A schedule in a sentence, by its five sets (POSIX.1-2017, crontab; Kubernetes CronJob
-- documentation, "Schedule syntax").
use Rattle.std.specs.Prelude.{ℕ, ◌+◌, ◌==◌, ◌&&◌, ◌||◌, Bool, true, false, List, [], ◌∷◌, ◌++◌, Option, Some, None, length, codes, decimal, if◌then◌else◌}
use Rattle.cj_schedule.specs.Matches.{Sets}
use Rattle.cj_upcoming.specs.declared.part.Part.TheVariants.{Minutes, Hours, Days, Months, Weekdays}
use Rattle.cj_upcoming.specs.Parts.{numbers}
use Rattle.cj_upcoming.specs.Lists.{join, list_words}
use Rattle.cj_upcoming.specs.Dates.{has_date, has_month}
use Rattle.cj_upcoming.specs.Clocks.{clock}

-- a word for one, with an `s` for more
abbrev pub noun : List ℕ → List ℕ → List ℕ
noun word ns = if length ns == 1 then word else word ++ codes "s"

-- ---- the time of the day

-- the only number of a list
abbrev pub single : List ℕ → Option ℕ
single [] = None
single (n ∷ []) = Some n
single (n ∷ m ∷ ns) = None

-- the numbers are `n` and those at equal steps above it, and the next would be 60
abbrev pub steps_to_hour : ℕ → ℕ → List ℕ → Bool
steps_to_hour step n [] = n == 60
steps_to_hour step n (m ∷ ms) = (m == n) && steps_to_hour step (n + step) ms

-- the step at which the minutes follow one another from 0 on over the hour's end, if there is one
abbrev pub step_of : List ℕ → Option ℕ
step_of [] = None
step_of (m ∷ []) = None
step_of (m ∷ n ∷ ns) = if steps_to_hour n 0 (m ∷ n ∷ ns) then Some n else None

-- ` of every hour`, ` of hour 9`, ` of hours 9 to 17`
abbrev pub of_hours : List ℕ → List ℕ
of_hours hs =
    if length hs == 24 then codes " of every hour"
    else codes " of " ++ (noun (codes "hour") hs ++ (codes " " ++ list_words Hours hs))

-- the words of the time, where nothing has to be said of every hour
abbrev pub in_hours : List ℕ → List ℕ
in_hours hs = if length hs == 24 then [] else of_hours hs

abbrev pub every : ℕ → List ℕ
every step =
    if step == 1 then codes "Every minute" else codes "Every " ++ (decimal step ++ codes " minutes")

abbrev pub clocks : ℕ → List ℕ → List (List ℕ)
clocks minute [] = []
clocks minute (h ∷ hs) = clock h minute ∷ clocks minute hs

-- `At minute 30 of every hour`, or `At 09:30 and 17:30`
abbrev pub at_minute : ℕ → List ℕ → List ℕ
at_minute minute hs =
    if length hs == 24 then codes "At minute " ++ (decimal minute ++ of_hours hs)
    else codes "At " ++ join (clocks minute hs)

-- `Every 15 minutes of hours 9 to 17`, or `At minutes 5 and 35 of every hour`
abbrev pub at_minutes : Option ℕ → List ℕ → List ℕ → List ℕ
at_minutes (Some step) ms hs = every step ++ in_hours hs
at_minutes None ms hs = codes "At minutes " ++ (list_words Minutes ms ++ of_hours hs)

abbrev pub time_by : Option ℕ → List ℕ → List ℕ → List ℕ
time_by (Some minute) ms hs = at_minute minute hs
time_by None ms hs = at_minutes (step_of ms) ms hs

-- rule: describe-sentence
abbrev pub time_words : List ℕ → List ℕ → List ℕ
time_words ms hs = time_by (single ms) ms hs

-- ---- the day

-- `on day 1 of the month`
abbrev pub on_days : List ℕ → List ℕ
on_days ds = codes "on "
    ++ (noun (codes "day") ds ++ (codes " " ++ (list_words Days ds ++ codes " of the month")))

abbrev pub on_weekdays : List ℕ → List ℕ
on_weekdays ws = codes "on " ++ list_words Weekdays ws

-- where one day field is open: what each of them asks that doesn't allow all
abbrev pub both_fields : List ℕ → List ℕ → List ℕ
both_fields ds ws =
    (if length ds == 31 then [] else codes " " ++ on_days ds)
    ++ (if length ws == 7 then [] else codes " " ++ on_weekdays ws)

-- where neither is: a day of one or the other
-- rule: day-rule
abbrev pub day_words : Bool → List ℕ → List ℕ → List ℕ
day_words true ds ws = both_fields ds ws
day_words false ds ws = codes " " ++ (on_days ds ++ (codes " or " ++ on_weekdays ws))

-- rule: describe-sentence
abbrev pub month_words : List ℕ → List ℕ
month_words ms = if length ms == 12 then [] else codes ", in " ++ list_words Months ms

-- ---- the sentence

abbrev pub is_open : Sets → Bool
is_open s = s.day_open || s.weekday_open

-- what is said of a schedule that allows some date
abbrev pub date_words : Sets → List ℕ
date_words s =
    time_words (numbers s Minutes) (numbers s Hours)
    ++ (day_words (is_open s) (numbers s Days) (numbers s Weekdays)
    ++ month_words (numbers s Months))

abbrev pub words_where : Bool → Sets → List ℕ
words_where true s = date_words s
words_where false s = codes "At no time"

-- where it allows none, that is said
unfoldable pub words_of : Sets → List ℕ
words_of s = words_where (has_month s && has_date s) s

-- `At 02:30 on Monday to Friday, by the clock of Europe/Berlin`
-- rule: describe-sentence
abbrev pub sentence : Sets → List ℕ → List ℕ
sentence s zone = words_of s ++ (codes ", by the clock of " ++ (zone ++ codes "\n"))

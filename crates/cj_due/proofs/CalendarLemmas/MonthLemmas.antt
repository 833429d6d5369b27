-- The months of the calendar, one after another, and their days.
use Rattle.std.proofs.Common.{◌≡◌, ℕ, ◌+◌, ◌-◌, ◌%◌, ◌<◌, ◌≤◌, ◌&&◌, ◌<ℤ◌, refl, sym, ap, ◌∙◌, arith, ℤ, pos, ◌+ℤ◌, ◌*ℤ◌}
use Rattle.std.proofs.lemmas.Int.{by_lt_z}
use Rattle.std.specs.Int.{int_div_euclid}
use Rattle.jiff_core.specs.Calendar.{day_count, days_from_civil, days_in_month, days_in_year, weekday_number}
use Rattle.jiff_core.specs.Date.{epoch_day}
use Rattle.jiff_core.specs.declared.civil.date.Date.{Date}
use Rattle.jiff_core.proofs.CalendarLemmas.{days_from_civil-day_count, day_count-day, day_count_bounds, day_count-next_month, day_count-last_of_year, day_count-next_year, day_count-end, weekday_number-parts}
use Rattle.jiff_core.proofs.DateLemmas.{civil}
use Rattle.jiff_core.proofs.SignedLemmas.{signed_arith}
use Rattle.cj_schedule.specs.Matches.{Sets, has, matches_day, day_rule}
use Rattle.cj_schedule.specs.Next.{day_in_month}
use Rattle.cj_zone.specs.Calendar.{month_of_day, day_of_day}
use Rattle.cj_zone.specs.Civil.{civil_of}
use Rattle.cj_zone.proofs.ZoneLemmas.{month_of_day-date, day_of_day-date}
use Rattle.cj_due.specs.calendar.Months.{IsMonth}
use Rattle.cj_due.specs.calendar.Shown.{day_number, day_at}

-- Counted from the start of the year -10000, a day comes 366 later than from that of -9999.
date_count : (d : Date) (day : ℕ) → epoch_day d +ℤ pos 4_371_587 ≡ pos day → day_count d.year d.month d.day ≡ day + 366
date_count d day e =
    let count = days_from_civil-day_count d.year d.month d.day in
    let is : epoch_day d ≡ days_from_civil d.year d.month d.day = refl in
    omega (arith, signed_arith)

-- The first of a date's month lies before the date by its day of the month, less one.
first_count : (d : Date) (day : ℕ) → epoch_day d +ℤ pos 4_371_587 ≡ pos day
    → day_count d.year d.month 1 + d.day ≡ day + 367
first_count d day e =
    omega (arith, date_count d day e, day_count-day d.year d.month 1 d.day (omega arith) (civil d).2.0)

-- a date's month begins on its first day
pub month_fits : (d : Date) (day : ℕ) → epoch_day d +ℤ pos 4_371_587 ≡ pos day → d.day ≤ day + 1
month_fits d day e =
    let is = civil d in
    let low = (day_count_bounds d.year d.month 1 (is.0, is.1, (omega arith, omega (arith, is.2.0, is.2.1)))).0 in
    omega (arith, first_count d day e)

-- For month_of: a date's month begins where the date's day of the month says.
pub month_is : (d : Date) (day : ℕ) → epoch_day d +ℤ pos 4_371_587 ≡ pos day → IsMonth d.year d.month (day + 1 - d.day)
month_is d day e = record {
  year_in = d.year_in;
  month_in = d.month_in;
  begins = omega (arith, first_count d day e, month_fits d day e);
}

-- the month after one
pub month_next : (year : ℤ) (month first : ℕ) → IsMonth year month first → month < 12
    → IsMonth year (month + 1) (first + days_in_month year month)
month_next year month first h lt =
    let low = h.month_in.0 in
    let begins = h.begins in
    record {
      year_in = h.year_in;
      month_in = (omega arith, omega arith);
      begins = omega (arith, day_count-next_month year month low);
    }

-- The year of a December ends 31 days after the month begins.
december : (year : ℤ) (first : ℕ) → IsMonth year 12 first → day_count year 1 1 + days_in_year year ≡ first + 397
december year first h =
    omega (arith, h.begins, day_count-last_of_year year, day_count-day year 12 1 31 (omega arith) (omega arith))

-- The January of the next year begins 31 days after a December does.
pub january_next : (year next : ℤ) (first : ℕ) → IsMonth year 12 first → first ≤ 7_304_400 → next ≡ year +ℤ pos 1
    → IsMonth next 1 (first + 31)
january_next year next first h far e =
    let low = h.year_in.0 in
    let high = h.year_in.1 in
    let same = december year first h in
    let begins : day_count next 1 1 ≡ first + 397 =
    omega (arith, day_count-next_year year next (omega (arith, signed_arith)) e) in
    let before : year <ℤ pos 9999 = by_lt_z year (pos 9999) (λ lt. lt) (λ le.
    let last : next ≡ pos 10000 = omega (arith, signed_arith) in
    let end : day_count next 1 1 ≡ day_count (pos 10000) 1 1 = ap (λ y. day_count y 1 1) last in
    absurd (omega (arith, day_count-end))) in
    record {
      year_in = (omega (arith, signed_arith), omega (arith, signed_arith));
      month_in = (omega arith, omega arith);
      begins = omega arith;
    }

-- The midnight of a day lies on that day.
midnight : (day : ℤ) → int_div_euclid (day *ℤ pos 86_400) (pos 86_400) ≡ day
midnight day = omega (arith, signed_arith)

-- The weekday of a day of the month is that of the first day, so many days on.
weekday_is : (first day : ℕ) → (weekday_number (day_number (first + day)) + 1) % 7 ≡ ((first + 1) % 7 + day) % 7
weekday_is first day = omega (arith, signed_arith, weekday_number-parts (day_number (first + day)))

-- A day is allowed where its month is, and its day of the month and weekday by the day rule.
date_allowed : (s : Sets) (d : Date) (day : ℤ) → epoch_day d ≡ day → matches_day s (civil_of (day *ℤ pos 86_400))
    ≡ (has s.months d.month && day_rule s (has s.days d.day) (has s.weekdays ((weekday_number day + 1) % 7)))
unfolding matches_day civil_of
date_allowed s d day e =
    let month : month_of_day day ≡ d.month = ap month_of_day (sym e) ∙ month_of_day-date d in
    let place : day_of_day day ≡ d.day = ap day_of_day (sym e) ∙ day_of_day-date d in
    rw (midnight day, month, place) refl

-- a day of a month is allowed by its month, its place and the weekday of the month's first day
pub day_at-month : (s : Sets) (year : ℤ) (month first day : ℕ) → IsMonth year month first → 1 ≤ day
    → day ≤ days_in_month year month → day_at s (first + (day - 1))
    ≡ (has s.months month && day_in_month s ((first + 1) % 7) day)
unfolding day_at
day_at-month s year month first day h low high =
    let count = day_count-day year month 1 day (omega arith) low in
    let from_epoch = days_from_civil-day_count year month day in
    let begins = h.begins in
    let number : days_from_civil year month day ≡ day_number (first + (day - 1)) = omega (arith, signed_arith) in
    let date : Date = record {
      year = year;
      month = month;
      day = day;
      year_in = h.year_in;
      month_in = h.month_in;
      day_in = (low, high);
    } in
    date_allowed s (record {
      year = year;
      month = month;
      day = day;
      year_in = h.year_in;
      month_in = h.month_in;
      day_in = (low, high);
    }) (day_number (first + (day - 1))) number
    ∙ ap (λ w. has s.months month && day_rule s (has s.days day) (has s.weekdays w)) (weekday_is first (day - 1))

-- For Month::next: after a December comes the January of the next year.
pub january : (year : ℤ) (month first length : ℕ) → IsMonth year month first → month ≡ 12
    → length ≡ days_in_month year month → first ≤ 7_304_400 → IsMonth (year +ℤ pos 1) 1 (first + length)
january year month first length h e l far =
    let days : length ≡ 31 = rw e at l in
    rw days (january_next year (year +ℤ pos 1) first (rw e at h) far refl)

-- The allowed days of a month.
use Rattle.std.proofs.Common.{◌≡◌, ℕ, ◌+◌, ◌-◌, ◌%◌, ◌≤◌, ◌&&◌, Bool, true, false, refl, sym, ap, ◌∙◌, arith, ℤ}
use Rattle.jiff_core.specs.Calendar.{days_in_month}
use Rattle.jiff_core.proofs.CalendarLemmas.{days_in_month_bounds}
use Rattle.cj_schedule.specs.Matches.{Sets, has}
use Rattle.cj_schedule.specs.Next.{IsNext, IsPrevious, NonePasses, day_in_month}
use Rattle.cj_due.specs.calendar.Months.{IsMonth}
use Rattle.cj_due.specs.calendar.Shown.{day_at}
use Rattle.cj_due.proofs.CalendarLemmas.MonthLemmas.{day_at-month}

-- Two tests do not both hold where the second fails.
and_false : (b : Bool) → (b && false) ≡ false
and_false true = refl
and_false false = refl

-- the day that lies so far after the month's first
day_there : (s : Sets) (year : ℤ) (month first k : ℕ) → IsMonth year month first → first ≤ k
    → k + 1 ≤ first + days_in_month year month → day_at s k
    ≡ (has s.months month && day_in_month s ((first + 1) % 7) (k + 1 - first))
day_there s year month first k h low high =
    let place : first + (k + 1 - first - 1) ≡ k = omega arith in
    ap (day_at s) (sym place) ∙ day_at-month s year month first (k + 1 - first) h (omega arith) (omega arith)

-- In a month that is not allowed no day is, from one of its days on.
pub month_off : (s : Sets) (year : ℤ) (month first from : ℕ) → IsMonth year month first → 1 ≤ from
    → has s.months month ≡ false → NonePasses (day_at s) (first + from - 1) (first + days_in_month year month - 1)
month_off s year month first from h low off = λ k above within.
    let some = (days_in_month_bounds year month).1 in
    day_there s year month first k h (omega arith) (omega arith) ∙ rw off refl

-- Where no place from one on is allowed in the month, no day of it from there on is.
pub days_off : (s : Sets) (year : ℤ) (month first from w : ℕ) → IsMonth year month first → 1 ≤ from
    → w ≡ (first + 1) % 7 → ((k : ℕ) → from ≤ k → k ≤ days_in_month year month → day_in_month s w k ≡ false)
    → NonePasses (day_at s) (first + from - 1) (first + days_in_month year month - 1)
days_off s year month first from w h low e off = λ k above within.
    let some = (days_in_month_bounds year month).1 in
    day_there s year month first k h (omega arith) (omega arith)
    ∙ ap (λ b. has s.months month && b) (ap (λ v. day_in_month s v (k + 1 - first)) (sym e)
    ∙ off (k + 1 - first) (omega arith) (omega arith))
    ∙ and_false (has s.months month)

-- In an allowed month the next allowed place is that of the next allowed day.
pub day_on : (s : Sets) (year : ℤ) (month first from w day : ℕ) → IsMonth year month first → 1 ≤ from
    → w ≡ (first + 1) % 7 → has s.months month ≡ true → IsNext (day_in_month s w) from day
    → day ≤ days_in_month year month → IsNext (day_at s) (first + from - 1) (first + day - 1)
day_on s year month first from w day h low e on next within =
    let le = next.above in
    let place : first + day - 1 + 1 - first ≡ day = omega arith in
    record {
      above = omega arith;
      passes = day_there s year month first (first + day - 1) h (omega arith) (omega arith)
          ∙ rw (place, on, ← e, next.passes) refl;
      least = λ k above before.
          day_there s year month first k h (omega arith) (omega arith)
          ∙ ap (λ b. has s.months month && b) (ap (λ v. day_in_month s v (k + 1 - first)) (sym e)
          ∙ next.least (k + 1 - first) (omega arith) (omega arith))
          ∙ and_false (has s.months month);
    }

-- In a month that is not allowed no day is, up to one of its days.
pub month_off_before : (s : Sets) (year : ℤ) (month first upto : ℕ) → IsMonth year month first
    → upto ≤ days_in_month year month → has s.months month ≡ false → NonePasses (day_at s) first (first + upto - 1)
month_off_before s year month first upto h high off = λ k above within.
    let some = (days_in_month_bounds year month).1 in
    day_there s year month first k h above (omega arith) ∙ rw off refl

-- Where no place up to one is allowed in the month, no day of it up to there is.
pub days_off_before : (s : Sets) (year : ℤ) (month first upto w : ℕ) → IsMonth year month first → 1 ≤ upto
    → upto ≤ days_in_month year month → w ≡ (first + 1) % 7 → NonePasses (day_in_month s w) 1 upto
    → NonePasses (day_at s) first (first + upto - 1)
days_off_before s year month first upto w h low high e off = λ k above within.
    day_there s year month first k h above (omega arith)
    ∙ ap (λ b. has s.months month && b) (ap (λ v. day_in_month s v (k + 1 - first)) (sym e)
    ∙ off (k + 1 - first) (omega arith) (omega arith))
    ∙ and_false (has s.months month)

-- In an allowed month the previous allowed place is that of the previous allowed day.
pub day_on_before : (s : Sets) (year : ℤ) (month first upto w day : ℕ) → IsMonth year month first → 1 ≤ day
    → upto ≤ days_in_month year month → w ≡ (first + 1) % 7 → has s.months month ≡ true
    → IsPrevious (day_in_month s w) upto day → IsPrevious (day_at s) (first + upto - 1) (first + day - 1)
day_on_before s year month first upto w day h low high e on is =
    let le = is.below in
    let place : first + day - 1 + 1 - first ≡ day = omega arith in
    record {
      below = omega arith;
      passes = day_there s year month first (first + day - 1) h (omega arith) (omega arith)
          ∙ rw (place, on, ← e, is.passes) refl;
      greatest = λ k above within.
          day_there s year month first k h (omega arith) (omega arith)
          ∙ ap (λ b. has s.months month && b) (ap (λ v. day_in_month s v (k + 1 - first)) (sym e)
          ∙ is.greatest (k + 1 - first) (omega arith) (omega arith))
          ∙ and_false (has s.months month);
    }

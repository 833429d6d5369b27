-- The allowed minutes by their days.
use Rattle.std.proofs.Common.{◌≡◌, ℕ, ◌+◌, ◌-◌, ◌*◌, ◌/◌, ◌%◌, ◌<◌, ◌≤◌, ◌&&◌, Bool, true, false, refl, sym, ap, ◌∙◌, arith, inl, inr, ℤ, pos, ◌*ℤ◌, unsigned_abs}
use Rattle.std.proofs.lemmas.Bool.{cases_lt}
use Rattle.std.proofs.lemmas.Bool.Decides.{nat_tests}
use Rattle.std.specs.Int.{int_div_euclid, int_rem_euclid}
use Rattle.jiff_core.proofs.SignedLemmas.{signed_arith}
use Rattle.cj_schedule.specs.Matches.{Sets, has, matches_civil, matches_day}
use Rattle.cj_schedule.specs.Next.{IsNext, IsPrevious, NonePasses}
use Rattle.cj_zone.specs.Civil.{civil_of}
use Rattle.cj_due.specs.calendar.Minutes.{minute_in_day}
use Rattle.cj_due.specs.calendar.Shown.{day_number, day_at, minute_number, minute_at}
use Rattle.cj_due.proofs.CalendarLemmas.NextLemmas.{IsQuietTo, IsQuietFrom}

-- A minute of a day lies on that day.
day_of_minute : (day minute : ℕ) → minute < 1_440
    → int_div_euclid (minute_number (day * 1_440 + minute) *ℤ pos 60) (pos 86_400) ≡ day_number day
day_of_minute day minute h = omega (arith, signed_arith)

-- And its second of the day is that of its place in the day.
rest_of_minute : (day minute : ℕ) → minute < 1_440
    → unsigned_abs (int_rem_euclid (minute_number (day * 1_440 + minute) *ℤ pos 60) (pos 86_400)) ≡ minute * 60
rest_of_minute day minute h = omega (arith, signed_arith)

-- The midnight of a day lies on that day too.
midnight : (day : ℤ) → int_div_euclid (day *ℤ pos 86_400) (pos 86_400) ≡ day
midnight day = omega (arith, signed_arith)

-- The date of a second is allowed where that of its day's midnight is.
same_day : (s : Sets) (second day : ℤ) → int_div_euclid second (pos 86_400) ≡ day
    → matches_day s (civil_of second) ≡ matches_day s (civil_of (day *ℤ pos 86_400))
unfolding matches_day civil_of
same_day s second day e = rw (e, midnight day) refl

-- A civil minute is allowed where its minute, its hour and its day are.
civil_parts : (s : Sets) (second : ℤ) (day : Bool) (minute : ℕ) → minute < 1_440
    → unsigned_abs (int_rem_euclid second (pos 86_400)) ≡ minute * 60 → matches_day s (civil_of second) ≡ day
    → matches_civil s (civil_of second) ≡ (has s.minutes (minute % 60) && has s.hours (minute / 60) && day)
unfolding matches_civil civil_of matches_day
civil_parts s second day minute h rest e =
    let hour : minute * 60 / 3600 ≡ minute / 60 = omega arith in
    let place : minute * 60 % 3600 / 60 ≡ minute % 60 = omega arith in
    rw (rest, hour, place, e) refl

-- a minute is allowed where its day is, and its place in the day
pub minute_at-day : (s : Sets) (day minute : ℕ) → minute < 1_440 → minute_at s (day * 1_440 + minute)
    ≡ (has s.minutes (minute % 60) && has s.hours (minute / 60) && day_at s day)
unfolding minute_at day_at
minute_at-day s day minute h =
    civil_parts s (minute_number (day * 1_440 + minute) *ℤ pos 60)
    (matches_day s (civil_of (day_number day *ℤ pos 86_400))) minute h (rest_of_minute day minute h)
    (same_day s (minute_number (day * 1_440 + minute) *ℤ pos 60) (day_number day) (day_of_minute day minute h))

-- Two tests do not both hold where the second fails.
and_false : (b : Bool) → (b && false) ≡ false
and_false true = refl
and_false false = refl

-- a minute by its place in its day
minute_there : (s : Sets) (k : ℕ) → minute_at s k ≡ (minute_in_day s (k % 1_440) && day_at s (k / 1_440))
minute_there s k =
    let place : k / 1_440 * 1_440 + k % 1_440 ≡ k = omega arith in
    ap (minute_at s) (sym place) ∙ minute_at-day s (k / 1_440) (k % 1_440) (omega arith)

-- Where two tests hold, the second does.
and_right : (a b : Bool) → (a && b) ≡ true → b ≡ true
and_right a b h = grind (arith, nat_tests)

-- The day of an allowed minute is allowed.
pub allowed_day : (s : Sets) (k : ℕ) → minute_at s k ≡ true → day_at s (k / 1_440) ≡ true
allowed_day s k on = and_right (minute_in_day s (k % 1_440)) (day_at s (k / 1_440)) (sym (minute_there s k) ∙ on)

-- No minute of a day that is not allowed is allowed.
day_off : (s : Sets) (k day : ℕ) → k / 1_440 ≡ day → day_at s day ≡ false → minute_at s k ≡ false
day_off s k day e off = minute_there s k ∙ ap (λ d. minute_in_day s (k % 1_440) && day_at s d) e
    ∙ ap (λ b. minute_in_day s (k % 1_440) && b) off ∙ and_false (minute_in_day s (k % 1_440))

-- Nor is one whose place in the day is not allowed.
place_off : (s : Sets) (k : ℕ) → minute_in_day s (k % 1_440) ≡ false → minute_at s k ≡ false
place_off s k off = minute_there s k ∙ ap (λ b. b && day_at s (k / 1_440)) off

-- A minute is allowed where its day is allowed, and its place in the day.
shown_on : (s : Sets) (day minute : ℕ) → minute < 1_440 → day_at s day ≡ true → minute_in_day s minute ≡ true
    → minute_at s (day * 1_440 + minute) ≡ true
shown_on s day minute h on m = minute_at-day s day minute h ∙ ap (λ b. b && day_at s day) m ∙ on

-- Where no day from the minute's on is allowed, no minute up to the end of the last is.
pub no_days : (s : Sets) (from day last : ℕ) → from / 1_440 ≡ day → NonePasses (day_at s) day last
    → NonePasses (minute_at s) from (last * 1_440 + 1_439)
no_days s from day last e none = λ k above within. day_off s k (k / 1_440) refl
    (none (k / 1_440) (omega arith) (omega arith))

-- Where no place in a day is allowed, no minute is.
pub no_minutes : (s : Sets) (from last : ℕ) → NonePasses (minute_in_day s) 0 1_439 → NonePasses (minute_at s) from last
no_minutes s from last none = λ k above within. place_off s k (none (k % 1_440) (omega arith) (omega arith))

-- the first minute of a later day
pub later_day : (s : Sets) (from first day minute : ℕ) → from / 1_440 ≡ first → from ≤ day * 1_440
    → IsNext (day_at s) first day → IsNext (minute_in_day s) 0 minute → minute < 1_440
    → IsNext (minute_at s) from (day * 1_440 + minute)
later_day s from first day minute e le d m low = record {
  above = omega arith;
  passes = shown_on s day minute low d.passes m.passes;
  least = λ k above before. elim (cases_lt (k / 1_440) day) [
    | inl early ↦ day_off s k (k / 1_440) refl (d.least (k / 1_440) (omega arith) early)
    | inr same ↦ place_off s k (m.least (k % 1_440) (omega arith) (omega arith))
  ];
}

-- a later minute of the same day
pub same_day_on : (s : Sets) (from day minute : ℕ) → from / 1_440 ≡ day → day_at s day ≡ true
    → IsNext (minute_in_day s) (from % 1_440) minute → minute < 1_440 → IsNext (minute_at s) from (day * 1_440 + minute)
same_day_on s from day minute e on m low = record {
  above = omega (arith, m.above);
  passes = shown_on s day minute low on m.passes;
  least = λ k above before. place_off s k (m.least (k % 1_440) (omega arith) (omega arith));
}

-- nothing more on the day
pub rest_of_day : (s : Sets) (from day : ℕ) → from / 1_440 ≡ day → NonePasses (minute_in_day s) (from % 1_440) 1_439
    → IsQuietTo (minute_at s) from ((day + 1) * 1_440)
rest_of_day s from day e none = record {
  quiet = λ k above below. place_off s k
      (none (k % 1_440) (omega arith) (omega arith));
}

-- Where nothing more is allowed on the day nor after it, nothing is from the minute on.
pub after_day : (s : Sets) (from day last : ℕ) → IsQuietTo (minute_at s) from ((day + 1) * 1_440)
    → NonePasses (minute_at s) ((day + 1) * 1_440) last → NonePasses (minute_at s) from last
after_day s from day last quiet none = λ k above within. elim (cases_lt k ((day + 1) * 1_440)) [
  | inl before ↦ quiet.quiet k above before
  | inr after ↦ none k after within
]

-- the same, backwards
-- Where no day up to the minute's is allowed, no minute from the start of the first is.
pub no_days_before : (s : Sets) (upto day first : ℕ) → upto / 1_440 ≡ day → NonePasses (day_at s) first day
    → NonePasses (minute_at s) (first * 1_440) upto
no_days_before s upto day first e none = λ k above within. day_off s k (k / 1_440) refl
    (none (k / 1_440) (omega arith) (omega arith))

-- The last allowed minute of an earlier day is the greatest one up to the minute.
pub earlier_day : (s : Sets) (upto last day minute : ℕ) → upto / 1_440 ≡ last → day * 1_440 + 1_439 ≤ upto
    → IsPrevious (day_at s) last day → IsPrevious (minute_in_day s) 1_439 minute
    → IsPrevious (minute_at s) upto (day * 1_440 + minute)
earlier_day s upto last day minute e le d m = record {
  below = omega (arith, m.below);
  passes = shown_on s day minute (omega (arith, m.below)) d.passes m.passes;
  greatest = λ k above within. elim (cases_lt day (k / 1_440)) [
    | inl late ↦ day_off s k (k / 1_440) refl (d.greatest (k / 1_440) late (omega arith))
    | inr same ↦ place_off s k (m.greatest (k % 1_440) (omega arith) (omega arith))
  ];
}

-- An allowed minute before on the same day is the greatest one up to the minute.
pub same_day_before : (s : Sets) (upto day minute : ℕ) → upto / 1_440 ≡ day → day_at s day ≡ true
    → IsPrevious (minute_in_day s) (upto % 1_440) minute → IsPrevious (minute_at s) upto (day * 1_440 + minute)
same_day_before s upto day minute e on m = record {
  below = omega (arith, m.below);
  passes = shown_on s day minute (omega (arith, m.below)) on m.passes;
  greatest = λ k above within. place_off s k (m.greatest (k % 1_440) (omega arith) (omega arith));
}

-- Where no place up to the minute's is allowed, nothing on its day is up to there.
pub rest_before : (s : Sets) (upto day : ℕ) → upto / 1_440 ≡ day → NonePasses (minute_in_day s) 0 (upto % 1_440)
    → IsQuietFrom (minute_at s) (day * 1_440) upto
rest_before s upto day e none = record {
  quiet = λ k above below. place_off s k
      (none (k % 1_440) (omega arith) (omega arith));
}

-- Where nothing is allowed on the day so far nor before it, nothing is up to the minute.
pub before_day : (s : Sets) (upto day first : ℕ) → IsQuietFrom (minute_at s) (day * 1_440) upto
    → NonePasses (minute_at s) (first * 1_440) (day * 1_440 - 1) → NonePasses (minute_at s) (first * 1_440) upto
before_day s upto day first quiet none = λ k above within. elim (cases_lt k (day * 1_440)) [
  | inl before ↦ none k above (omega arith)
  | inr after ↦ quiet.quiet k after within
]

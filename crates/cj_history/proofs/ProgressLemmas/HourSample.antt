-- Due times that compute: on the hour, in UTC.
use Rattle.std.proofs.Common.{◌≡◌, ◌⊎◌, inl, inr, ℕ, ◌+◌, ◌%◌, ◌<◌, true, false, ℤ, pos, ◌+ℤ◌, ◌-ℤ◌, ◌*ℤ◌, refl, sym, ap, subst, ◌∙◌, codes, arith, rules}
use Rattle.std.proofs.lemmas.Bool.{cases_eq}
use Rattle.jiff_core.proofs.SignedLemmas.{signed_arith}
use Rattle.jiff_core.specs.Calendar.{IsCivilDate, day_count, days_from_civil, weekday_number}
use Rattle.jiff_core.specs.DateTime.{civil_nanos}
use Rattle.jiff_core.specs.Timestamp.{nanos_of_seconds, IsOffsetSeconds}
use Rattle.jiff_core.specs.declared.civil.datetime.DateTime.{DateTime}
use Rattle.cj_base.specs.declared.civil.Civil.{Civil}
use Rattle.cj_schedule.specs.Matches.{Sets, matches_day, matches_civil}
use Rattle.cj_zone.specs.Civil.{truncated}
use Rattle.cj_zone.specs.Offset.{source_offset, zone_offset}
use Rattle.cj_zone.specs.declared.source.Source.TheVariants.{Utc}
use Rattle.cj_zone.specs.declared.zone.Zone.{Zone}
use Rattle.cj_zone.proofs.ZoneLemmas.{civil_at-truncated}
use Rattle.cj_due.specs.Due.{due, IsQuiet}
use Rattle.cj_due.proofs.DueLemmas.{due-minute, due-other}

-- each hour, on the hour, as `0 * * * *` says
abbrev pub hourly : Sets
hourly = record {
  minutes = 1;
  hours = 16_777_215;
  days = 4_294_967_294;
  months = 8_190;
  weekdays = 127;
  day_open = true;
  weekday_open = true;
}

abbrev pub utc : Zone
utc = record { name = codes "UTC"; source = Utc }

-- The first day of 1970 is a date.
is_date : IsCivilDate (pos 1970) 1 1
is_date = search rules

-- A day has an hour 1.
below_24 : 1 < 24
below_24 = omega arith

-- And an hour 3.
three_below_24 : 3 < 24
three_below_24 = omega arith

-- An hour has a minute 0, and a minute a second 0.
none_below_60 : 0 < 60
none_below_60 = omega arith

-- An hour has a minute 1.
one_below_60 : 1 < 60
one_below_60 = omega arith

-- A second begins with no nanosecond.
no_nanos : 0 < 1_000_000_000
no_nanos = omega arith

-- one o'clock on that day
abbrev one : DateTime
one = record {
  date = record { year = pos 1970; month = 1; day = 1; year_in = is_date.0; month_in = is_date.1; day_in = is_date.2 };
  time = record {
    hour = 1;
    minute = 0;
    second = 0;
    subsec_nanosecond = 0;
    hour_in = below_24;
    minute_in = none_below_60;
    second_in = none_below_60;
    subsec_in = no_nanos;
  };
}

-- three o'clock
abbrev three : DateTime
three = record {
  date = record { year = pos 1970; month = 1; day = 1; year_in = is_date.0; month_in = is_date.1; day_in = is_date.2 };
  time = record {
    hour = 3;
    minute = 0;
    second = 0;
    subsec_nanosecond = 0;
    hour_in = three_below_24;
    minute_in = none_below_60;
    second_in = none_below_60;
    subsec_in = no_nanos;
  };
}

-- and a minute after one o'clock
abbrev after_one : DateTime
after_one = record {
  date = record { year = pos 1970; month = 1; day = 1; year_in = is_date.0; month_in = is_date.1; day_in = is_date.2 };
  time = record {
    hour = 1;
    minute = 1;
    second = 0;
    subsec_nanosecond = 0;
    hour_in = below_24;
    minute_in = one_below_60;
    second_in = none_below_60;
    subsec_in = no_nanos;
  };
}

-- A number less itself is none.
less_itself : (n : ℕ) → pos n -ℤ pos n ≡ pos 0
less_itself n = omega (arith, signed_arith)

-- That day has the number 0.
first_day : days_from_civil (pos 1970) 1 1 ≡ pos 0
unfolding days_from_civil
first_day = less_itself (day_count (pos 1970) 1 1)

-- UTC is not ahead.
not_ahead : (t : ℕ) → zone_offset utc t ≡ pos 0
unfolding source_offset
not_ahead t = refl

-- That is an offset.
in_range : (t : ℕ) → IsOffsetSeconds (zone_offset utc t)
in_range t = subst IsOffsetSeconds (sym (not_ahead t)) (omega (arith, signed_arith), omega (arith, signed_arith))

-- The nanoseconds of one o'clock.
nanos_one : civil_nanos one ≡ nanos_of_seconds (pos 3_600 +ℤ zone_offset utc 3_600)
unfolding civil_nanos
nanos_one =
    ap (λ (d : ℤ). d *ℤ pos 86_400_000_000_000 +ℤ pos 3_600_000_000_000) first_day
    ∙ ap (λ (x : ℤ). nanos_of_seconds (pos 3_600 +ℤ x)) (sym (not_ahead 3_600))

-- Those of three o'clock.
nanos_three : civil_nanos three ≡ nanos_of_seconds (pos 10_800 +ℤ zone_offset utc 10_800)
unfolding civil_nanos
nanos_three =
    ap (λ (d : ℤ). d *ℤ pos 86_400_000_000_000 +ℤ pos 10_800_000_000_000) first_day
    ∙ ap (λ (x : ℤ). nanos_of_seconds (pos 10_800 +ℤ x)) (sym (not_ahead 10_800))

-- And those of a minute after one.
nanos_after : civil_nanos after_one ≡ nanos_of_seconds (pos 3_660 +ℤ zone_offset utc 3_660)
unfolding civil_nanos
nanos_after =
    ap (λ (d : ℤ). d *ℤ pos 86_400_000_000_000 +ℤ pos 3_660_000_000_000) first_day
    ∙ ap (λ (x : ℤ). nanos_of_seconds (pos 3_660 +ℤ x)) (sym (not_ahead 3_660))

-- One o'clock matches.
matches_one : matches_civil hourly (truncated one) ≡ true
unfolding matches_civil matches_day weekday_number
matches_one =
    ap (λ (d : ℤ). matches_civil hourly (record {
      year = pos 1970;
      month = 1;
      day = 1;
      weekday = (weekday_number d + 1) % 7;
      hour = 1;
      minute = 0;
    })) first_day

-- So does three o'clock.
matches_three : matches_civil hourly (truncated three) ≡ true
unfolding matches_civil matches_day weekday_number
matches_three =
    ap (λ (d : ℤ). matches_civil hourly (record {
      year = pos 1970;
      month = 1;
      day = 1;
      weekday = (weekday_number d + 1) % 7;
      hour = 3;
      minute = 0;
    })) first_day

-- A minute after one doesn't.
matches_after : matches_civil hourly (truncated after_one) ≡ false
unfolding matches_civil
matches_after = refl

-- It is due at one o'clock.
pub due_hour : due hourly utc 3_600 ≡ true
due_hour =
    due-minute hourly utc 3_600 60 refl (omega arith)
    ∙ (ap (λ (c : Civil). matches_civil hourly c) (civil_at-truncated one utc 3_600 (in_range 3_600) nanos_one)
    ∙ matches_one)

-- And at three o'clock.
pub due_three : due hourly utc 10_800 ≡ true
due_three =
    due-minute hourly utc 10_800 180 refl (omega arith)
    ∙ (ap (λ (c : Civil). matches_civil hourly c) (civil_at-truncated three utc 10_800 (in_range 10_800) nanos_three)
    ∙ matches_three)

-- And not a minute after one.
due_after : due hourly utc 3_660 ≡ false
due_after =
    due-minute hourly utc 3_660 61 refl (omega arith)
    ∙ (ap (λ (c : Civil). matches_civil hourly c) (civil_at-truncated after_one utc 3_660 (in_range 3_660) nanos_after)
    ∙ matches_after)

-- So nothing is due up to a second after that.
pub quiet_minute : IsQuiet hourly utc 3_600 3_661
quiet_minute t above below = by (cases_eq t 3_660)
  where
    by : (t ≡ 3_660) ⊎ (t ≡ 3_660 → ⊥) → due hourly utc t ≡ false
    by (inl e) = ap (due hourly utc) e ∙ due_after
    by (inr n) = due-other hourly utc t (λ e. n (omega (arith, e, above, below)))

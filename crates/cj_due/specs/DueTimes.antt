-- The due times of a schedule in a zone, one after the other: what a caller gets of them, and what
-- is known at the last one.
use Rattle.std.specs.Prelude.{◌≡◌, ℕ, ◌+◌, ◌*◌, ◌/◌, ◌%◌, ◌<◌, ◌≤◌, true, List}
use Rattle.cj_base.specs.Instant.{last_second}
use Rattle.cj_schedule.specs.Matches.{Sets}
use Rattle.cj_zone.specs.declared.zone.Zone.{Zone}
use Rattle.cj_due.specs.Due.{due, missed_times}
use Rattle.cj_due.specs.calendar.Shown.{day_at, minute_at}

-- the due times after `lo` and up to `hi`, each once, in order: at `hi` they are the times missed
-- since `lo`
-- rule: due
abbrev pub due_times : Sets → Zone → ℕ → ℕ → List ℕ
due_times s z lo hi = missed_times s z lo hi

-- after `at` and up to `until` a minute is due where the clock, which shows the minute `base` when
-- 1970 begins in UTC, shows an allowed one
pub record IsSteadyClock (s : Sets) (z : Zone) (at until base : ℕ) : Type 0 where
  pub in_range : base ≤ 6_295_087_000
  pub shows : (k : ℕ) → at < k * 60 → k * 60 ≤ until → due s z (k * 60) ≡ minute_at s (base + k)

-- at the instant, a whole minute, the clock shows this minute of an allowed day
pub record IsOnDay (s : Sets) (at base minute : ℕ) : Type 0 where
  pub whole : at % 60 ≡ 0
  pub place : (base + at / 60) % 1_440 ≡ minute
  pub allowed : day_at s ((base + at / 60) / 1_440) ≡ true

-- the due times up to `at` were given, and those up to `end` are asked for: what the clock shows up
-- to `until`, and, if that is later than `at`, on which minute of its day `at` is
pub record IsCursor (s : Sets) (z : Zone) (at end until base minute : ℕ) : Type 0 where
  pub in_range : end ≤ last_second
  pub at_in_range : at ≤ last_second
  pub within : until ≤ end
  pub minute_in_range : minute < 1_440
  pub clock : IsSteadyClock s z at until base
  pub on_day : at < until → IsOnDay s at base minute

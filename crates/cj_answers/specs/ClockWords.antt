-- What `--explain` says of local times that a zone's clock skips, or shows twice, and that a
-- schedule names.
use Rattle.std.specs.Prelude.{◌≡◌, ℕ, ◌+◌, ◌-◌, min, List, [], Option, None, Some, codes}
use Rattle.std.specs.Borrow.{Bor}
use Rattle.cj_base.specs.Instant.{last_second}
use Rattle.cj_schedule.specs.Grammar.{IsSchedule}
use Rattle.cj_schedule.specs.Matches.{Sets}
use Rattle.cj_types.specs.declared.cron.CronSpec.{CronSpec}
use Rattle.cj_zone.specs.declared.zone.Zone.{Zone}
use Rattle.cj_zone.specs.Zones.{utc_zone, zone_named}
use Rattle.cj_upcoming.specs.Changes.{changes}
use Rattle.cj_upcoming.specs.Named.{AreNamedLines}
use Rattle.cj_answers.specs.Marks.{marked}

-- 366 days later
abbrev pub year_after : ℕ → ℕ
year_after t = min (t + 31_622_400) last_second

-- and earlier, or the first second of 1970
abbrev pub year_before : ℕ → ℕ
year_before t = t - 31_622_400

-- the lines of the year after an instant, each with a mark before it
-- rule: explain-clock
pub record IsClockWords (mark : List ℕ) (s : Sets) (z : Zone) (after : ℕ) (words : List ℕ)
    : Type 0 where
  pub lines : List ℕ
  pub named : AreNamedLines s z (utc_zone (codes "UTC")) (changes z after (year_after after)) lines
  pub are : words ≡ marked mark lines

-- by which option the zone is given
abbrev pub clock_mark : Option (Bor (List ℕ)) → List ℕ
clock_mark None = codes "--zone: "
clock_mark (Some name) = codes "--time-zone: "

-- by which member a CronJob names its zone
abbrev pub zone_mark : List ℕ
zone_mark = codes "spec.timeZone: "

-- of a text that is a schedule, on the clock of the zone of that name, which is known
-- rule: explain-clock
pub record IsNamedClock (name schedule : List ℕ) (zones : List Zone) (after : ℕ) (words : List ℕ)
    : Type 0 where
  pub says : (sets : Sets) (zone : Zone) → IsSchedule schedule sets
      → zone_named name zones ≡ Some zone → IsClockWords zone_mark sets zone after words

-- of a CronJob that names no zone nothing is said, as UTC never changes
-- rule: explain-clock
abbrev pub IsZoneClock : Option (List ℕ) → List ℕ → List Zone → ℕ → List ℕ → Type 0
IsZoneClock None schedule zones after words = words ≡ []
IsZoneClock (Some name) schedule zones after words = IsNamedClock name schedule zones after words

-- nor where no moment is given
-- rule: explain-clock
abbrev pub IsClockAdvice : CronSpec → List Zone → Option ℕ → List ℕ → Type 0
IsClockAdvice spec zones None words = words ≡ []
IsClockAdvice spec zones (Some after) words =
    IsZoneClock spec.time_zone spec.schedule zones after words

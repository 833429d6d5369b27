-- Whether a schedule comes at all.
use Rattle.std.specs.Prelude.{◌≡◌, ◌⊎◌, ℕ, ◌+◌, List, [], Option, None, Some, codes}
use Rattle.cj_schedule.specs.Grammar.{IsSchedule}
use Rattle.cj_schedule.specs.Matches.{Sets}
use Rattle.cj_types.specs.declared.cron.CronSpec.{CronSpec}
use Rattle.cj_zone.specs.declared.zone.Zone.{Zone}
use Rattle.cj_zone.specs.Zones.{zone_named}
use Rattle.cj_due.specs.Due.{reach, IsLeastDue, IsQuiet}

-- 2024-01-01T00:00:00Z
abbrev pub look_from : ℕ
look_from = 1_704_067_200

abbrev pub never_words : List ℕ
never_words = codes "spec.schedule: comes at no time within 3,000 days of 2024-01-01T00:00:00Z\n"

-- it never comes, and that is said; or it comes, and nothing is
-- rule: explain-advice
abbrev pub IsComing : Sets → Zone → List ℕ → Type 0
IsComing sets zone words =
    (IsQuiet sets zone look_from (look_from + reach) × (words ≡ never_words))
    ⊎ ((t : ℕ) × IsLeastDue sets zone look_from (look_from + reach) t × (words ≡ []))

-- the zone that the CronJob names, UTC where it names none
abbrev pub spec_zone : Option (List ℕ) → List Zone → Option Zone
spec_zone None zones = zone_named (codes "UTC") zones
spec_zone (Some name) zones = zone_named name zones

-- of a CronJob whose schedule is one, and whose zone is known
-- rule: explain-advice
pub record IsScheduleAdvice (spec : CronSpec) (zones : List Zone) (words : List ℕ) : Type 0 where
  pub says : (sets : Sets) (zone : Zone) → IsSchedule spec.schedule sets
      → spec_zone spec.time_zone zones ≡ Some zone → IsComing sets zone words

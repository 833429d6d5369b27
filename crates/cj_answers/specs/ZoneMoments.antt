-- Moments without an offset, by the clock of a zone.
use Rattle.std.specs.Prelude.{◌≡◌, ℕ, ◌%◌, List, Some, codes}
use Rattle.cj_zone.specs.declared.zone.Zone.{Zone}
use Rattle.cj_zone.specs.Civil.{civil_at}
use Rattle.cj_zone.specs.Zones.{utc_zone}
use Rattle.cj_answers.specs.Moments.{utc_of}
use Rattle.cj_answers.specs.declared.zone_moments.ZonedMoment.{ZonedMoment}
use Rattle.cj_answers.specs.declared.zone_moments.ZonedMoment.TheVariants.{At, Other, Skipped}

-- the clock of a zone shows at t what that of another shows at u, to the second
pub record ShowsSame (zone other : Zone) (t u : ℕ) : Type 0 where
  pub minute : civil_at zone t ≡ civil_at other u
  pub second : t % 60 ≡ u % 60

-- the zone's clock shows at that moment what the text says
-- rule: moment-zone
pub record IsShownAt (zone : Zone) (text : List ℕ) (t : ℕ) : Type 0 where
  pub wanted : ℕ
  pub read : utc_of text ≡ Some wanted
  pub shown : ShowsSame zone (utc_zone (codes "UTC")) t wanted

-- rule: moment-zone
abbrev pub IsZonedMoment : Zone → List ℕ → ZonedMoment → Type 0
IsZonedMoment zone text (At t) = IsShownAt zone text t
IsZonedMoment zone text Skipped = (u : ℕ) × (utc_of text ≡ Some u)
IsZonedMoment zone text Other = Unit {0}

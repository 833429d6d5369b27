-- Facts about every zone.
use Rattle.std.specs.Prelude.{◌≡◌, ℕ, ◌/◌, ℤ, pos, ◌+ℤ◌, ◌-ℤ◌, ◌*ℤ◌, ◌≤ℤ◌}
use Rattle.cj_base.specs.declared.civil.Civil.{Civil}
use Rattle.cj_zone.specs.declared.zone.Zone.{Zone}
use Rattle.cj_zone.specs.Civil.{civil_at, civil_of}

abbrev pub SameDate : Civil → Civil → Type 0
SameDate a b = (a.year ≡ b.year) × (a.month ≡ b.month) × (a.day ≡ b.day) × (a.weekday ≡ b.weekday)

-- the clock shows the date of a day that is at most two days from the day in UTC
pub record DateIsNear (zone : Zone) (t : ℕ) : Type 0 where
  pub day : ℤ
  pub from : (pos (t / 86_400) -ℤ pos 2) ≤ℤ day
  pub to : day ≤ℤ (pos (t / 86_400) +ℤ pos 2)
  pub date : SameDate (civil_at zone t) (civil_of (day *ℤ pos 86_400))

-- at every instant, every zone's clock shows a date at most two days from the date in UTC
-- rule: civil-time
abbrev pub DatesAreNear : Type 0
DatesAreNear = (zone : Zone) (t : ℕ) → DateIsNear zone t

-- The times at which one schedule is due from an instant on.
use Rattle.std.specs.Prelude.{◌≡◌, ℕ, ◌+◌, ◌<◌, ◌≤◌, true, false}
use Rattle.cj_schedule.specs.Matches.{Sets}
use Rattle.cj_zone.specs.declared.zone.Zone.{Zone}
use Rattle.cj_due.specs.Due.{due, reach}
use Rattle.cj_upcoming.specs.declared.start.Start.{Start}
use Rattle.cj_upcoming.specs.Window.{Span}
use Rattle.cj_upcoming.specs.Starts.{IsDueIn}

-- the least due instant from one on, which it is near
pub record IsFirstDue (s : Sets) (z : Zone) (from t : ℕ) : Type 0 where
  pub above : from ≤ t
  pub near : t ≤ from + reach
  pub due_then : due s z t ≡ true
  pub least : (k : ℕ) → from ≤ k → k < t → due s z k ≡ false

-- nothing is due from one instant on and within 3,000 days
-- rule: upcoming-never
abbrev pub IsDueNone : Sets → Zone → ℕ → Type 0
IsDueNone s z from = (t : ℕ) → from ≤ t → t ≤ from + reach → due s z t ≡ false

-- a due instant of the window, of the CronJob at a place
pub record IsTimeAt (w : Span) (schedule : Sets) (zone : Zone) (place : ℕ) (s : Start)
    : Type 0 where
  pub at_place : s.cron ≡ place
  pub due_in : IsDueIn w schedule zone s.time

-- Intervals of time in which a clock keeps its UTC offset.
use Rattle.std.specs.Prelude.{◌≡◌, ℕ, ◌≤◌, ℤ, pos, ◌*ℤ◌}
use Rattle.jiff_tz.specs.Year.{year_of_nanos}

-- from one instant up to another the clock has the offset that it has at the first
pub record IsSteady (ahead : ℕ → ℤ) (from last : ℕ) : Type 0 where
  pub same : (t : ℕ) → from ≤ t → t ≤ last → ahead t ≡ ahead from

-- two instants are in one UTC year
pub record IsSameYear (a b : ℕ) : Type 0 where
  pub same : year_of_nanos (pos a *ℤ pos 1_000_000_000) ≡ year_of_nanos (pos b *ℤ pos 1_000_000_000)

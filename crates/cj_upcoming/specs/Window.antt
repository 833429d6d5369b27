-- Windows of time.
use Rattle.std.specs.Prelude.{ℕ, ◌<◌, ◌≤◌}

-- from one instant on and before another
pub record Span : Type 0 where
  pub from : ℕ
  pub end : ℕ

-- the instant lies in the window
-- rule: upcoming-window
abbrev pub IsIn : Span → ℕ → Type 0
IsIn w t = (w.from ≤ t) × (t < w.end)

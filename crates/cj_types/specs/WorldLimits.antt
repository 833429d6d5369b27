-- How much is kept: of the history the first entries, and of a watch's events the latest.
use Rattle.std.specs.Prelude.{ℕ}

-- the most entries of a history, 2^24
-- rule: world-limits
abbrev pub last_history : ℕ
last_history = 16_777_216

-- the most events of a window
-- rule: world-limits
abbrev pub last_window : ℕ
last_window = 100_000

-- the most entries of the history, and the number of events in the window
pub record Kept : Type 0 where
  pub history : ℕ
  pub window : ℕ

abbrev pub kept : ℕ → ℕ → Kept
kept history window = record { history = history; window = window }

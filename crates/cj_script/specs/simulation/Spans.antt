-- The clock of a run: which instants it has.
use Rattle.std.specs.Prelude.{◌≤◌, ◌+◌, ◌-◌, ◌*◌, ◌%◌, ◌==◌, ◌&&◌, nat_le, ℕ, Bool, if◌then◌else◌, Option, Some, None}

-- a clock: its first instant, the last one that it may have, and the seconds from one to the next
pub record SpanView : Type 0 where
  pub start : ℕ
  pub end : ℕ
  pub step : ℕ

abbrev pub span : ℕ → ℕ → ℕ → SpanView
span start end step = record { start = start; end = end; step = step }

-- the most seconds from one instant to the next
-- rule: run-clock
abbrev pub last_step : ℕ
last_step = 3_600

-- a clock doesn't end before its start, and its step is 1 to 3,600 seconds
-- rule: run-clock
abbrev pub span_of : ℕ → ℕ → ℕ → Option SpanView
span_of start end step = if nat_le start end && nat_le 1 step
    && nat_le step last_step then Some (span start end step) else None

-- the instant of a number, from 0 on
-- rule: run-clock
abbrev pub instant : SpanView → ℕ → ℕ
instant s n = s.start + n * s.step

-- the clock has an instant of that number: it isn't after the end
-- rule: run-clock
abbrev pub IsInstant : SpanView → ℕ → Type 0
IsInstant s n = instant s n ≤ s.end

-- the clock has that instant
abbrev pub is_instant : SpanView → ℕ → Bool
is_instant s at = nat_le s.start at && nat_le at s.end && ((at - s.start) % s.step == 0)

-- a moment, where the clock has it
abbrev pub clocked : SpanView → ℕ → Option ℕ
clocked s at = if is_instant s at then Some at else None

-- Intervals of time in which a clock has one of two UTC offsets.
use Rattle.std.specs.Prelude.{◌≡◌, ◌⊎◌, ℕ, ◌≤◌, ℤ, Option, None, Some}
use Rattle.jiff_core.specs.Timestamp.{IsOffsetSeconds}
use Rattle.jiff_tz.specs.PosixText.{DstText, TzText}

abbrev pub IsOneOf : ℤ → ℤ → ℤ → Type 0
IsOneOf one other offset = (offset ≡ one) ⊎ (offset ≡ other)

-- both are UTC offsets, and from one instant up to another the clock has one or the other
pub record IsOffsetInterval (ahead : ℕ → ℤ) (one other : ℤ) (from last : ℕ) : Type 0 where
  pub one_in : IsOffsetSeconds one
  pub other_in : IsOffsetSeconds other
  pub is_one_of : (t : ℕ) → from ≤ t → t ≤ last → IsOneOf one other (ahead t)

-- a rule's offset in daylight saving time, or its standard offset where it has none
abbrev pub dst_seconds : ℤ → Option DstText → ℤ
dst_seconds standard None = standard
dst_seconds standard (Some daylight) = daylight.seconds

abbrev pub other_seconds : TzText → ℤ
other_seconds rule = dst_seconds rule.std_seconds rule.dst

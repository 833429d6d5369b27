-- The minutes in which something starts, and the fullest of them.
use Rattle.std.specs.Prelude.{◌≡◌, ℕ, ◌+◌, ◌==◌, ◌≤◌, Bool, List, [], ◌∷◌, ◌++◌, All, length, min, if◌then◌else◌}
use Rattle.std.specs.declared.cmp.Ordering.{Ordering}
use Rattle.std.specs.Ordering.{nat_cmp, is_lt, on, then_cmp}
use Rattle.std.specs.List.Sorted.{IsPermutation}
use Rattle.cj_status.specs.Order.{IsRising}
use Rattle.cj_upcoming.specs.declared.start.Start.{Start}
use Rattle.cj_upcoming.specs.declared.minute.Minute.{Minute}

-- a number of starts of one time, from a place of the list on
abbrev pub minute : ℕ → ℕ → ℕ → Minute
minute time first count = record { time = time; first = first; count = count }

-- the minutes of starts in order, of the first of which that number were counted before these
abbrev pub minutes_from : ℕ → ℕ → ℕ → List Start → List Minute
minutes_from time first count [] = minute time first count ∷ []
minutes_from time first count (s ∷ ss) =
    if s.time == time then minutes_from time first (count + 1) ss
    else minute time first count ∷ minutes_from s.time (first + count) 1 ss

-- a minute for each time, with the place of its first start and how many it has
-- rule: upcoming-lines
abbrev pub minutes : List Start → List Minute
minutes [] = []
minutes (s ∷ ss) = minutes_from s.time 0 1 ss

-- its starts are among these
abbrev pub IsWithin : List Start → Minute → Type 0
IsWithin starts m = m.first + m.count ≤ length starts

-- the greater count first, then the earlier
-- rule: upcoming-peaks
abbrev pub fuller_cmp : Minute → Minute → Ordering
fuller_cmp = then_cmp (λ a b. nat_cmp b.count a.count) (on (λ m. m.first) nat_cmp)

abbrev pub is_fuller : Minute → Minute → Bool
is_fuller a b = is_lt (fuller_cmp a b)

-- that number of the minutes, or all where they are fewer, the fullest first; no other has more
-- starts than one of them
-- rule: upcoming-peaks
pub record IsPeaks (most : ℕ) (minutes peaks : List Minute) : Type 0 where
  pub rest : List Minute
  pub same : IsPermutation minutes (peaks ++ rest)
  pub size : length peaks ≡ min most (length minutes)
  pub greatest : All (λ p. All (λ r. r.count ≤ p.count) rest) peaks
  pub order : IsRising is_fuller peaks

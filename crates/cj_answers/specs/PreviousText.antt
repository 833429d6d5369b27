-- What the command `previous` prints.
use Rattle.std.specs.Prelude.{◌≡◌, ◌⊎◌, ℕ, zero, suc, ◌-◌, List, [], ◌∷◌, ◌++◌, codes, length, nat_lt, if◌then◌else◌}
use Rattle.cj_schedule.specs.Matches.{Sets}
use Rattle.cj_zone.specs.declared.zone.Zone.{Zone}
use Rattle.cj_due.specs.Due.{reach, IsQuiet, IsLatestDue}
use Rattle.cj_answers.specs.NextText.{line_of}

-- the last second before an instant, and the one after which due times are looked for: 3,000 days
-- before it, or the first second of 1970
-- rule: previous-lines
abbrev pub upto : ℕ → ℕ
upto before = before - 1

abbrev pub floor_of : ℕ → ℕ
floor_of before = (before - 1) - reach

-- the greatest due instant before one is the first of the times, and the rest goes on from it
pub record LeadsBack (s : Sets) (z : Zone) (before : ℕ) (times : List ℕ)
    (Rest : ℕ → List ℕ → Type 0) : Type 0 where
  pub t : ℕ
  pub rest : List ℕ
  pub latest : IsLatestDue s z (floor_of before) (upto before) t
  pub first : times ≡ t ∷ rest
  pub more : Rest t rest

-- nothing is due within 3,000 days before
pub record StopsBack (s : Sets) (z : Zone) (before : ℕ) (times : List ℕ) : Type 0 where
  pub quiet : IsQuiet s z (floor_of before) (upto before)
  pub none : times ≡ []

-- that number of due instants, each the greatest one before the one before it, or fewer where there
-- is none
-- rules: previous-json, previous-lines
abbrev pub AreBefore : Sets → Zone → ℕ → ℕ → List ℕ → Type 0
AreBefore s z before zero times = times ≡ []
AreBefore s z before (suc n) times =
    LeadsBack s z before times (λ t rest. AreBefore s z t n rest) ⊎ StopsBack s z before times

-- a line for each of them
abbrev pub lines_of : List ℕ → List ℕ
lines_of [] = []
lines_of (t ∷ ts) = line_of t ++ lines_of ts

-- where they are fewer than were asked for, that is said
abbrev pub end_of : ℕ → ℕ → List ℕ
end_of found count = if nat_lt found count then codes "none\n" else []

-- rule: previous-lines
pub record IsPreviousText (s : Sets) (z : Zone) (before count : ℕ) (text : List ℕ) : Type 0 where
  pub times : List ℕ
  pub are : AreBefore s z before count times
  pub text_is : text ≡ lines_of times ++ end_of (length times) count

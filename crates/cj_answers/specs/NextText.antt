-- What the command `next` prints.
use Rattle.std.specs.Prelude.{◌≡◌, ◌⊎◌, ℕ, zero, suc, ◌+◌, List, [], ◌++◌, codes}
use Rattle.cj_schedule.specs.Matches.{Sets}
use Rattle.cj_zone.specs.declared.zone.Zone.{Zone}
use Rattle.cj_zone.specs.TimeText.{time_text_of}
use Rattle.cj_due.specs.Due.{reach, IsQuiet, IsLeastDue}

-- a time on a line of its own
abbrev pub line_of : ℕ → List ℕ
line_of t = time_text_of t ++ codes "\n"

-- `t` is the least due instant after `after`, on the first line; the rest of the text goes on from
-- it
pub record GoesOn (s : Sets) (z : Zone) (after : ℕ) (text : List ℕ) (Rest : ℕ → List ℕ → Type 0)
    : Type 0 where
  pub t : ℕ
  pub rest : List ℕ
  pub least : IsLeastDue s z after (after + reach) t
  pub first : text ≡ line_of t ++ rest
  pub more : Rest t rest

-- nothing is due within 3,000 days, and the text says so
pub record Ends (s : Sets) (z : Zone) (after : ℕ) (text : List ℕ) : Type 0 where
  pub quiet : IsQuiet s z after (after + reach)
  pub says : text ≡ codes "none\n"

-- the lines of that number of due instants, each the least one after the one before, or `none` and
-- an end where there is none
-- rule: next-lines
abbrev pub IsNextText : Sets → Zone → ℕ → ℕ → List ℕ → Type 0
IsNextText s z after zero text = text ≡ []
IsNextText s z after (suc n) text =
    GoesOn s z after text (λ t rest. IsNextText s z t n rest) ⊎ Ends s z after text

-- The next times of a schedule, as people read them.
use Rattle.std.specs.Prelude.{◌≡◌, ◌⊎◌, ℕ, zero, suc, ◌+◌, ◌-◌, List, ◌++◌, [], codes}
use Rattle.cj_schedule.specs.Matches.{Sets}
use Rattle.cj_zone.specs.declared.zone.Zone.{Zone}
use Rattle.cj_zone.specs.Civil.{civil_at}
use Rattle.cj_zone.specs.Offset.{zone_offset}
use Rattle.cj_zone.specs.TimeText.{time_text_of}
use Rattle.cj_due.specs.Due.{reach, IsQuiet, IsLeastDue}
use Rattle.cj_upcoming.specs.Parts.{day_name}
use Rattle.cj_upcoming.specs.Clocks.{civil_text, offset_text, span_text}
use Rattle.cj_zone.specs.Zones.{utc_zone}
use Rattle.cj_upcoming.specs.Changes.{changes}
use Rattle.cj_upcoming.specs.Named.{AreNamedLines}

-- `WEEKDAY LOCAL OFFSET TIME in SPAN`
-- rule: describe-times
abbrev pub time_line : Zone → ℕ → ℕ → List ℕ
time_line z start t =
    day_name (civil_at z t).weekday ++ (codes " " ++ (civil_text (civil_at z t) ++ (codes " "
    ++ (offset_text (zone_offset z t) ++ (codes " " ++ (time_text_of t ++ (codes " in "
    ++ (span_text (t - start) ++ codes "\n"))))))))

-- behind the text stand what the clock skips or shows twice on the way to a due time, of what the
-- schedule names, and that time
-- rule: describe-times
pub record AddsStep (s : Sets) (z : Zone) (start after t : ℕ) (text longer : List ℕ) : Type 0 where
  pub lines : List ℕ
  pub named : AreNamedLines s z (utc_zone (codes "UTC")) (changes z after t) lines
  pub are : longer ≡ text ++ (lines ++ time_line z start t)

-- the least due time after one, and the rest of the text, which goes on from it
pub record GoesOn (s : Sets) (z : Zone) (start after : ℕ) (text : List ℕ)
    (Rest : ℕ → List ℕ → Type 0) : Type 0 where
  pub t : ℕ
  pub rest : List ℕ
  pub least : IsLeastDue s z after (after + reach) t
  pub lines : List ℕ
  pub named : AreNamedLines s z (utc_zone (codes "UTC")) (changes z after t) lines
  pub more : Rest t rest
  pub are : text ≡ (lines ++ time_line z start t) ++ rest

abbrev pub none_line : List ℕ
none_line = codes "none within 3,000 days\n"

-- nothing is due within 3,000 days
pub record Ends (s : Sets) (z : Zone) (after : ℕ) (text : List ℕ) : Type 0 where
  pub quiet : IsQuiet s z after (after + reach)
  pub says : text ≡ none_line

-- that number of due times, each the least one after the one before, or an end where there is none
-- rule: describe-times
abbrev pub AreComing : Sets → Zone → ℕ → ℕ → ℕ → List ℕ → Type 0
AreComing s z start after zero text = text ≡ []
AreComing s z start after (suc n) text =
    GoesOn s z start after text (λ t rest. AreComing s z start t n rest) ⊎ Ends s z after text

-- The next times of a schedule, as JSON. The members of an object are in the order of their names.
use Rattle.std.specs.Prelude.{◌≡◌, ◌⊎◌, ℕ, zero, suc, ◌+◌, ◌-◌, List, [], ◌∷◌, ◌++◌, map, codes}
use Rattle.serde_json.specs.Data.{Data, number, unsigned, string, array, object, member, no_members}
use Rattle.serde_json.specs.View.{items_of}
use Rattle.cj_schedule.specs.Matches.{Sets}
use Rattle.cj_zone.specs.declared.zone.Zone.{Zone}
use Rattle.cj_zone.specs.Civil.{civil_at}
use Rattle.cj_zone.specs.Offset.{zone_offset}
use Rattle.cj_zone.specs.TimeText.{time_text_of}
use Rattle.cj_due.specs.Due.{reach, IsQuiet, IsLeastDue}
use Rattle.cj_upcoming.specs.Changes.{changes}
use Rattle.cj_upcoming.specs.Parts.{day_name}
use Rattle.cj_upcoming.specs.Clocks.{civil_text, offset_text}
use Rattle.cj_upcoming.specs.json.Changes.{changes_data}

-- the least due instant after one is the first of the times, and the rest goes on from it
pub record LeadsOn (s : Sets) (z : Zone) (after : ℕ) (times : List ℕ) (Rest : ℕ → List ℕ → Type 0)
    : Type 0 where
  pub t : ℕ
  pub rest : List ℕ
  pub least : IsLeastDue s z after (after + reach) t
  pub first : times ≡ t ∷ rest
  pub more : Rest t rest

-- nothing is due within 3,000 days
pub record Stops (s : Sets) (z : Zone) (after : ℕ) (times : List ℕ) : Type 0 where
  pub quiet : IsQuiet s z after (after + reach)
  pub none : times ≡ []

-- that number of due instants, each the least one after the one before, or fewer where there is
-- none
-- rules: describe-json, next-json
abbrev pub AreTimes : Sets → Zone → ℕ → ℕ → List ℕ → Type 0
AreTimes s z after zero times = times ≡ []
AreTimes s z after (suc n) times =
    LeadsOn s z after times (λ t rest. AreTimes s z t n rest) ⊎ Stops s z after times

abbrev pub time_object : ℕ → List ℕ → Data → Data → Data → Data
time_object span day shown ahead utc = object (
    member (codes "inSeconds") (number (unsigned span)) (
    member (codes "local") shown (
    member (codes "offset") ahead (
    member (codes "utc") utc (
    member (codes "weekday") (string day) no_members)))))

-- how far off a time is, what the zone's clock shows then, how far that is ahead of UTC, the time
-- in UTC, and its day
-- rule: describe-json
abbrev pub coming_data : Zone → ℕ → ℕ → Data
coming_data z start t =
    time_object (t - start) (day_name (civil_at z t).weekday) (string (civil_text (civil_at z t)))
    (string (offset_text (zone_offset z t))) (string (time_text_of t))

abbrev pub times_data : Zone → ℕ → List ℕ → Data
times_data z start ts = array (items_of (map (coming_data z start) ts))

-- where the clock is put on the way from one time to the next
-- rule: describe-json
abbrev pub changes_along : Zone → ℕ → List ℕ → List Data
changes_along z after [] = []
changes_along z after (t ∷ ts) = changes_data z (changes z after t) ++ changes_along z t ts

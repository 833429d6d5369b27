-- The next due times as JSON. The members of an object are in the order of their names.
use Rattle.std.specs.Prelude.{ℕ, List, map, Bool, true, false, Option, None, Some, codes}
use Rattle.std.specs.Borrow.{Bor}
use Rattle.serde_json.specs.Data.{Data, null, string, array, object, member, no_members}
use Rattle.serde_json.specs.View.{items_of}
use Rattle.cj_schedule.specs.Matches.{Sets}
use Rattle.cj_zone.specs.declared.zone.Zone.{Zone}
use Rattle.cj_json.specs.Values.{time_data}
use Rattle.cj_upcoming.specs.json.Coming.{AreTimes}
use Rattle.cj_args.specs.declared.request.NextRequest.{NextRequest}
use Rattle.cj_answers.specs.NextText.{IsNextText}
use Rattle.cj_answers.specs.as_json.Forms.{IsJsonLine}

-- the zone, as the words give it
abbrev pub zone_data : Option (Bor (List ℕ)) → Option (Bor (List ℕ)) → Data
zone_data (Some name) rule = string name.now
zone_data None (Some rule) = string rule.now
zone_data None None = null

abbrev pub times_data : List ℕ → Data
times_data times = array (items_of (map time_data times))

abbrev pub next_object : List ℕ → Data → Data → Data → Data
next_object schedule after zone times = object (
    member (codes "after") after (
    member (codes "schedule") (string schedule) (
    member (codes "timeZone") zone (
    member (codes "times") times no_members))))

-- rule: next-json
abbrev pub next_data : NextRequest → ℕ → List ℕ → Data
next_data r after times =
    next_object r.schedule.now (time_data after) (zone_data r.time_zone r.zone) (times_data times)

pub record IsNextJson (r : NextRequest) (s : Sets) (z : Zone) (after : ℕ) (text : List ℕ)
    : Type 0 where
  pub times : List ℕ
  pub are : AreTimes s z after r.count times
  pub line : IsJsonLine (next_data r after times) text

-- in JSON, or a line for each
-- rules: next-json, next-lines
abbrev pub IsNextPrinted : Bool → NextRequest → Sets → Zone → ℕ → List ℕ → Type 0
IsNextPrinted true r s z after text = IsNextJson r s z after text
IsNextPrinted false r s z after text = IsNextText s z after r.count text

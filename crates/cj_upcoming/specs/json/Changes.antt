-- Where clocks are put, as JSON. The members of an object are in the order of their names.
use Rattle.std.specs.Prelude.{ℕ, ◌-◌, List, [], ◌∷◌, ◌++◌, map, Option, Some, None, codes}
use Rattle.serde_json.specs.Data.{Data, string, array, object, member, no_members}
use Rattle.serde_json.specs.View.{items_of}
use Rattle.cj_zone.specs.declared.zone.Zone.{Zone}
use Rattle.cj_zone.specs.Civil.{civil_at}
use Rattle.cj_zone.specs.TimeText.{time_text_of}
use Rattle.cj_zone.specs.Zones.{zone_named}
use Rattle.cj_upcoming.specs.Changes.{change_word, changes}
use Rattle.cj_upcoming.specs.Clocks.{civil_text}
use Rattle.cj_upcoming.specs.Window.{Span}

abbrev pub change_object : List ℕ → List ℕ → Data → Data → Data → Data
change_object word zone from to time = object (
    member (codes "change") (string word) (
    member (codes "from") from (
    member (codes "time") time (
    member (codes "timeZone") (string zone) (
    member (codes "to") to no_members)))))

-- whether it skips or repeats local times, what the clock shows just before and then, and when that
-- is
-- rule: upcoming-json
abbrev pub change_data : Zone → ℕ → Data
change_data z t =
    change_object (change_word z t) z.name (string (civil_text (civil_at z (t - 1))))
    (string (civil_text (civil_at z t)))
    (string (time_text_of t))

abbrev pub changes_data : Zone → List ℕ → List Data
changes_data z ts = map (change_data z) ts

abbrev pub changes_where : Option Zone → Span → List Data
changes_where None w = []
changes_where (Some z) w = changes_data z (changes z w.from (w.end - 1))

-- of each of these zones that is given, those after the window's first instant
-- rule: upcoming-json
abbrev pub zone_changes : List Zone → Span → List (List ℕ) → List Data
zone_changes zones w [] = []
zone_changes zones w (n ∷ ns) = changes_where (zone_named n zones) w ++ zone_changes zones w ns

abbrev pub zone_changes_data : List Zone → Span → List (List ℕ) → Data
zone_changes_data zones w names = array (items_of (zone_changes zones w names))

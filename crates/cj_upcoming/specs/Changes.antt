-- Where a zone's clock is put forward or back: it then skips local times, or shows them twice.
use Rattle.std.specs.Prelude.{ℕ, ◌+◌, ◌-◌, Bool, not, List, [], ◌∷◌, ◌++◌, filter, codes, if◌then◌else◌, int_lt}
use Rattle.std.specs.List.{range_with_len}
use Rattle.std.specs.Ordering.{int_eq}
use Rattle.cj_zone.specs.declared.zone.Zone.{Zone}
use Rattle.cj_zone.specs.Offset.{zone_offset}
use Rattle.cj_zone.specs.Civil.{civil_at}
use Rattle.cj_zone.specs.TimeText.{time_text_of}
use Rattle.cj_upcoming.specs.Clocks.{civil_text}

-- the clock is ahead of UTC by another time at the instant than a second before
-- rule: clock-changes
abbrev pub is_change : Zone → ℕ → Bool
is_change z t = not (int_eq (zone_offset z t) (zone_offset z (t - 1)))

-- the instants after one and up to another at which it is put
-- rule: clock-changes
unfoldable pub changes : Zone → ℕ → ℕ → List ℕ
changes z after last = filter (is_change z) (range_with_len (after + 1) (last - after))

-- put forward it skips local times, put back it shows some twice
abbrev pub change_word : Zone → ℕ → List ℕ
change_word z t =
    if int_lt (zone_offset z (t - 1)) (zone_offset z t) then codes "skips" else codes "repeats"

-- `skips ZONE LOCAL LOCAL TIME`: what the clock shows just before and then, and when that is
-- rule: clock-changes
abbrev pub change_line : Zone → ℕ → List ℕ
change_line z t =
    change_word z t
    ++ (codes " " ++ (z.name ++ (codes " " ++ (civil_text (civil_at z (t - 1)) ++ (codes " "
    ++ (civil_text (civil_at z t) ++ (codes " " ++ (time_text_of t ++ codes "\n"))))))))

abbrev pub change_lines : Zone → List ℕ → List ℕ
change_lines z [] = []
change_lines z (t ∷ ts) = change_line z t ++ change_lines z ts

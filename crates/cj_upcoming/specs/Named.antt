-- Local times that a zone's clock skips, or shows twice, and that a schedule names: Kubernetes
-- CronJob documentation, "Time zones".
use Rattle.std.specs.Prelude.{◌≡◌, ℕ, ◌+◌, ◌-◌, min, max, ℤ, pos, int_lt, unsigned_abs, List, [], ◌∷◌, ◌++◌, Option, Some, None, codes, if◌then◌else◌}
use Rattle.cj_base.specs.Instant.{last_second}
use Rattle.cj_due.specs.Due.{IsLatestDue, IsQuiet}
use Rattle.cj_schedule.specs.Matches.{Sets}
use Rattle.cj_zone.specs.Civil.{civil_at}
use Rattle.cj_zone.specs.Offset.{zone_offset}
use Rattle.cj_zone.specs.TimeText.{time_text_of}
use Rattle.cj_zone.specs.declared.zone.Zone.{Zone}
use Rattle.cj_upcoming.specs.Clocks.{civil_text}

-- what a clock shows that is so far ahead of UTC: the instant at which UTC's clock shows that, from
-- 1970 on
abbrev pub shown : ℕ → ℤ → ℕ
shown t ahead = min (if int_lt ahead (pos 0) then t - unsigned_abs ahead
    else t + unsigned_abs ahead) last_second

-- where the clock is put: what it would show, and what it shows
abbrev pub shown_before : Zone → ℕ → ℕ
shown_before z t = shown t (zone_offset z (t - 1))

abbrev pub shown_after : Zone → ℕ → ℕ
shown_after z t = shown t (zone_offset z t)

-- between the two lie the local times that are skipped, or come twice: the last of them that the
-- schedule names, if it names one; `u` is UTC
-- rule: clock-named
abbrev pub IsNamedOne : Sets → Zone → Zone → ℕ → Option ℕ → Type 0
IsNamedOne s z u t None =
    IsQuiet s u (min (shown_before z t) (shown_after z t) - 1)
    (max (shown_before z t) (shown_after z t) - 1)
IsNamedOne s z u t (Some v) =
    IsLatestDue s u (min (shown_before z t) (shown_after z t) - 1)
    (max (shown_before z t) (shown_after z t) - 1) v

abbrev pub named_word : Zone → ℕ → List ℕ
named_word z t =
    if int_lt (zone_offset z (t - 1)) (zone_offset z t) then codes
    ", which the schedule names, is skipped: the clock goes from "
    else codes ", which the schedule names, comes twice: the clock goes from "

-- rule: clock-named
abbrev pub named_line : Zone → Zone → ℕ → ℕ → List ℕ
named_line z u t v =
    civil_text (civil_at u v)
    ++ (named_word z t ++ (civil_text (civil_at u (shown_before z t)) ++ (codes " to "
    ++ (civil_text (civil_at u (shown_after z t))
    ++ (codes " at " ++ (time_text_of t ++ codes "\n"))))))

abbrev pub named_line_if : Zone → Zone → ℕ → Option ℕ → List ℕ
named_line_if z u t None = []
named_line_if z u t (Some v) = named_line z u t v

-- the line of a change, if it has one
abbrev pub IsNamedLine : Sets → Zone → Zone → ℕ → List ℕ → Type 0
IsNamedLine s z u t line =
    (named : Option ℕ) × IsNamedOne s z u t named × (line ≡ named_line_if z u t named)

-- a line for each of these changes at which the schedule names such a time
-- rule: clock-named
abbrev pub AreNamedLines : Sets → Zone → Zone → List ℕ → List ℕ → Type 0
AreNamedLines s z u [] lines = lines ≡ []
AreNamedLines s z u (t ∷ ts) lines =
    (line : List ℕ) × (rest : List ℕ) × IsNamedLine s z u t line × AreNamedLines s z u ts rest
    × (lines ≡ line ++ rest)

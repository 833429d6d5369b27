-- Moments as people write them: RFC 3339, also without an offset, a date alone, `now`, or so much
-- before or after it.
use Rattle.std.specs.Prelude.{ℕ, ◌+◌, ◌-◌, ◌*◌, ◌==◌, ℤ, pos, negsuc, List, [], ◌∷◌, ◌++◌, ◌&&◌, Bool, true, bytes_eq, codes, nat_le, if◌then◌else◌, int_div, is_some, Option, None, Some, option_map, Result, Ok, Err}
use Rattle.std.specs.Borrow.{Bor}
use Rattle.cj_base.specs.Instant.{last_second}
use Rattle.jiff_core.specs.declared.error.Error.{Error}
use Rattle.jiff_fmt.specs.Temporal.{parse_timestamp}

-- a number of seconds, where it is an instant
abbrev pub second_of : ℤ → Option ℕ
second_of (pos n) = if nat_le n last_second then Some n else None
second_of (negsuc n) = None

abbrev pub instant_by : Result ℤ Error → Option ℕ
instant_by (Ok nanos) = second_of (int_div nanos (pos 1_000_000_000))
instant_by (Err e) = None

-- an instant of RFC 3339, with `Z` or an offset, as jiff reads it; a fraction of a second is left
-- out
-- rule: moment-text
abbrev pub instant_of : List ℕ → Option ℕ
instant_of text = instant_by (parse_timestamp text)

-- what was read, or else a text
abbrev pub or_instant : Option ℕ → List ℕ → Option ℕ
or_instant (Some t) text = Some t
or_instant None text = instant_of text

-- a time without an offset is in UTC, and a date alone is its first moment there
-- rule: moment-text
abbrev pub utc_of : List ℕ → Option ℕ
utc_of text = or_instant (instant_of (text ++ codes "Z")) (text ++ codes "T00:00:00Z")

abbrev pub or_utc : Option ℕ → List ℕ → Option ℕ
or_utc (Some t) text = Some t
or_utc None text = utc_of text

-- rule: moment-text
abbrev pub moment_of : List ℕ → Option ℕ
moment_of text = or_utc (instant_of text) text

-- ---- where one is asked for

-- the moment that is asked about, where there is a text and it says one
-- rule: moment-text
abbrev pub asked_moment : Option (Bor (List ℕ)) → Option ℕ
asked_moment None = None
asked_moment (Some text) = moment_of text.now

-- no text is given, or it says one
-- rule: moment-text
abbrev pub is_moment : Option (Bor (List ℕ)) → Bool
is_moment None = true
is_moment (Some text) = is_some (moment_of text.now)

-- what a moment has to be
-- rules: explain, moment-text
abbrev pub moment_words : List ℕ
moment_words = codes "--now: want a time like 2024-01-01T00:00:00Z or 2024-01-01T01:00:00+01:00, a date like 2024-01-01, now, or -1h or +2d from now\n"

-- ---- so much before or after the clock

abbrev pub is_digit : ℕ → Bool
is_digit b = nat_le 48 b && nat_le b 57

-- the seconds of a second, a minute, an hour, a day and a week
-- rule: moment-text
abbrev pub unit_of : ℕ → Option ℕ
unit_of b =
    if b == 115 then Some 1 else
    if b == 109 then Some 60 else
    if b == 104 then Some 3_600 else
    if b == 100 then Some 86_400 else
    if b == 119 then Some 604_800 else
    None

abbrev pub span_end : ℕ → ℕ → List ℕ → Option ℕ
span_end count unit [] = option_map (λ seconds. count * seconds) (unit_of unit)
span_end count unit (b ∷ bs) = None

-- digits of a number below some 10^10, then a unit
abbrev pub span_from : ℕ → List ℕ → Option ℕ
span_from count [] = None
span_from count (b ∷ bs) =
    if is_digit b
    then (if nat_le count 1_000_000_000 then span_from (count * 10 + (b - 48)) bs else None)
    else span_end count b bs

abbrev pub before : ℕ → Option ℕ → Option ℕ
before clock None = None
before clock (Some span) = if nat_le span clock then Some (clock - span) else None

abbrev pub behind : ℕ → Option ℕ → Option ℕ
behind clock None = None
behind clock (Some span) = if nat_le (clock + span) last_second then Some (clock + span) else None

-- `-` or `+`, and how much
abbrev pub shifted : ℕ → List ℕ → Option ℕ
shifted clock [] = None
shifted clock (b ∷ bs) =
    if b == 45 then before clock (span_from 0 bs) else
    if b == 43 then behind clock (span_from 0 bs) else
    None

-- by the clock: `now`, or so much before or after it
-- rule: moment-text
abbrev pub by_clock : ℕ → List ℕ → Option ℕ
by_clock clock text = if bytes_eq text (codes "now") then Some clock else shifted clock text

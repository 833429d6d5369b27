-- Times by a zone's clock, alone and in a text.
use Rattle.std.specs.Prelude.{◌≡◌, ◌⊎◌, ℕ, ◌*◌, ◌%◌, ◌≤◌, ℤ, pos, ◌+ℤ◌, ◌*ℤ◌, unsigned_abs, List, [], ◌++◌, Ok, codes}
use Rattle.jiff_core.specs.declared.civil.datetime.DateTime.{DateTime}
use Rattle.jiff_core.specs.declared.offset.Offset.{Offset}
use Rattle.jiff_core.specs.DateTime.{civil_nanos}
use Rattle.jiff_core.specs.Timestamp.{nanos_of_seconds}
use Rattle.jiff_fmt.specs.Temporal.{parse_timestamp}
use Rattle.jiff_fmt.specs.Text.{offset_text}
use Rattle.jiff.specs.Names.{iso_datetime_text}
use Rattle.cj_base.specs.Instant.{last_second}
use Rattle.cj_base.specs.declared.civil.Civil.{Civil}
use Rattle.cj_zone.specs.declared.zone.Zone.{Zone}
use Rattle.cj_zone.specs.Civil.{civil_at}
use Rattle.cj_zone.specs.Offset.{zone_offset}
use Rattle.cj_zone.specs.TimeText.{time_text_of}

-- a date and a time within a civil minute
pub record IsWithin (civil : Civil) (shown : DateTime) : Type 0 where
  pub year : shown.date.year ≡ civil.year
  pub month : shown.date.month ≡ civil.month
  pub day : shown.date.day ≡ civil.day
  pub hour : shown.time.hour ≡ civil.hour
  pub minute : shown.time.minute ≡ civil.minute

-- a UTC offset in whole minutes
abbrev pub IsWhole : ℤ → Type 0
IsWhole offset = unsigned_abs offset % 60 ≡ 0

-- the date and the time that the zone's clock shows at the instant, followed by the UTC offset, in
-- whole minutes, that taken from them gives the instant again; it is read as the instant
-- (RFC 3339, section 5.6)
pub record IsShown (zone : Zone) (t : ℕ) (text : List ℕ) : Type 0 where
  pub shown : DateTime
  pub offset : Offset
  pub clock : IsWithin (civil_at zone t) shown
  pub instant : civil_nanos shown ≡ pos t *ℤ pos 1_000_000_000 +ℤ nanos_of_seconds offset.seconds
  pub whole : IsWhole offset.seconds
  pub says : text ≡ iso_datetime_text shown ++ offset_text offset
  pub reads : parse_timestamp text ≡ Ok (pos t *ℤ pos 1_000_000_000)

-- the zone's offset at the instant is not these seconds, or these are not whole minutes
abbrev pub IsNotShown : Zone → ℕ → ℤ → Type 0
IsNotShown zone t seconds = zone_offset zone t ≡ seconds → IsWhole seconds → ⊥

-- the instant by the zone's clock, or in UTC where the clock's offset is not in whole minutes
-- rule: local-times
abbrev pub IsTimeByClock : Zone → ℕ → List ℕ → Type 0
IsTimeByClock zone t text =
    IsShown zone t text ⊎ (¬ (IsWhole (zone_offset zone t)) × (text ≡ time_text_of t))

-- what the heading of a table says of its times
abbrev pub utc_words : List ℕ
utc_words = codes "(all times in UTC)"

abbrev pub clock_words : Zone → List ℕ
clock_words zone = codes "(all times by the clock of " ++ (zone.name ++ codes ")")

-- by how much a time with an offset is longer
abbrev pub blanks : List ℕ
blanks = codes "     "

-- how a text is shown by a zone's clock: piece by piece, each as it is, or a printed time by the
-- clock, or the words of a heading; and blanks between two
-- rule: local-times
pub data IsByClock (zone : Zone) : List ℕ → List ℕ → Type 0 where
  same : (text : List ℕ) → IsByClock zone text text
  time : (t : ℕ) (shown : List ℕ) → t ≤ last_second → IsTimeByClock zone t shown
      → IsByClock zone (time_text_of t) shown
  words : IsByClock zone utc_words (clock_words zone)
  spaces : IsByClock zone [] blanks
  joined : (first second shown rest : List ℕ) → IsByClock zone first shown
      → IsByClock zone second rest → IsByClock zone (first ++ second) (shown ++ rest)

-- the text as the clock shows it, behind another text
pub record Adds (zone : Zone) (text old new : List ℕ) : Type 0 where
  pub shown : List ℕ
  pub by_clock : IsByClock zone text shown
  pub is : new ≡ old ++ shown

-- so is the front of the text, and the rest of it is left
pub record AddsFront (zone : Zone) (text rest old new : List ℕ) : Type 0 where
  pub front : List ℕ
  pub parts : text ≡ front ++ rest
  pub adds : Adds zone front old new

-- The zone that the words of a command on one schedule ask for.
use Rattle.std.specs.Prelude.{◌≡◌, ◌⊎◌, ℕ, List, [], Option, None, Some, IsNone, Bool, true, false, bytes_eq, codes}
use Rattle.std.specs.Borrow.{Bor}
use Rattle.std.specs.List.{list_any}
use Rattle.jiff_tz.specs.PosixReader.{read_whole}
use Rattle.cj_zone.specs.declared.source.Source.TheVariants.{Rule}
use Rattle.cj_zone.specs.declared.zone.Zone.{Zone}
use Rattle.cj_zone.specs.Made.{IsMade}
use Rattle.cj_zone.specs.Zones.{is_refused_name, utc_zone, zone_named}
use Rattle.cj_io.specs.declared.zone_files.file.ZoneFile.{ZoneFile}
use Rattle.cj_io.specs.zone_files.Files.{IsTableWith}
use Rattle.cj_io.specs.zone_files.Rules.{HasNoSign, IsPair, utc_zones}

-- ---- by a rule

-- a zone of that name, whose clock is what `jiff` makes of the rule
pub record IsRuled (name rule : List ℕ) (zone : Zone) : Type 0 where
  pub name_is : zone.name ≡ name
  pub source : zone.source ≡ Rule rule
  pub made : IsMade (Rule rule)

-- there is none: it is a name that no zone may have, or `jiff` refuses the rule
abbrev pub IsNoRuled : List ℕ → List ℕ → Type 0
IsNoRuled name rule = (is_refused_name utc_zones name ≡ true) ⊎ IsNone (read_whole rule)

-- ---- by a name

-- what a table of these files has by that name
-- rule: zoneinfo
pub record IsLookedUp (name : List ℕ) (files : List ZoneFile) (zone : Option Zone) : Type 0 where
  pub zones : List Zone
  pub table : IsTableWith [] files zones
  pub is : zone_named name zones ≡ zone

-- one of the files is that of the zone of that name
abbrev pub has_file : List ℕ → List ZoneFile → Bool
has_file name files = list_any (λ file. bytes_eq file.name name) files

-- ---- by the word of `--zone`

-- a word without `=` is the name of a zone where a file is of that name; else it is a rule, which
-- is then also the zone's name
-- rule: zone-word
abbrev pub IsSole : Bool → List ℕ → List ZoneFile → Zone → Type 0
IsSole true word files zone = IsLookedUp word files (Some zone)
IsSole false word files zone = IsRuled word word zone

abbrev pub IsNoSole : Bool → List ℕ → List ZoneFile → Type 0
IsNoSole true word files = IsLookedUp word files None
IsNoSole false word files = IsNoRuled word word

-- NAME=RULE, split at the first `=`, is the zone of that name and that rule
-- rule: zone-word
pub record IsPaired (word : List ℕ) (zone : Zone) : Type 0 where
  pub name : List ℕ
  pub rule : List ℕ
  pub pair : IsPair word name rule
  pub ruled : IsRuled name rule zone

pub record IsNoPaired (word : List ℕ) : Type 0 where
  pub name : List ℕ
  pub rule : List ℕ
  pub pair : IsPair word name rule
  pub refused : IsNoRuled name rule

-- rule: zone-word
abbrev pub IsWord : List ℕ → List ZoneFile → Zone → Type 0
IsWord word files zone =
    IsPaired word zone ⊎ (HasNoSign word × IsSole (has_file word files) word files zone)

abbrev pub IsNoWord : List ℕ → List ZoneFile → Type 0
IsNoWord word files =
    IsNoPaired word ⊎ (HasNoSign word × IsNoSole (has_file word files) word files)

-- ---- by both options

abbrev pub is_utc : List ℕ → Bool
is_utc word = bytes_eq word (codes "UTC")

-- UTC by its name, else by the word
abbrev pub IsZoneBy : Bool → List ℕ → List ZoneFile → Zone → Type 0
IsZoneBy true word files zone = zone ≡ utc_zone (codes "UTC")
IsZoneBy false word files zone = IsWord word files zone

abbrev pub IsNoZoneBy : Bool → List ℕ → List ZoneFile → Type 0
IsNoZoneBy true word files = ⊥
IsNoZoneBy false word files = IsNoWord word files

-- UTC where no word is given
abbrev pub IsZoneOf : Option (Bor (List ℕ)) → List ZoneFile → Zone → Type 0
IsZoneOf None files zone = zone ≡ utc_zone (codes "UTC")
IsZoneOf (Some word) files zone = IsZoneBy (is_utc word.now) word.now files zone

abbrev pub IsNoZoneOf : Option (Bor (List ℕ)) → List ZoneFile → Type 0
IsNoZoneOf None files = ⊥
IsNoZoneOf (Some word) files = IsNoZoneBy (is_utc word.now) word.now files

-- by `--time-zone` or by `--zone`, not by both
-- rules: describe-zone, zoneinfo
abbrev pub IsZoneFor : Option (Bor (List ℕ)) → Option (Bor (List ℕ)) → List ZoneFile → Zone → Type 0
IsZoneFor None word files zone = IsZoneOf word files zone
IsZoneFor (Some name) None files zone = IsLookedUp name.now files (Some zone)
IsZoneFor (Some name) (Some word) files zone = ⊥

-- there is no zone of the word or of the name, or both are given
abbrev pub IsNoZoneFor : Option (Bor (List ℕ)) → Option (Bor (List ℕ)) → List ZoneFile → Type 0
IsNoZoneFor None word files = IsNoZoneOf word files
IsNoZoneFor (Some name) None files = IsLookedUp name.now files None
IsNoZoneFor (Some name) (Some word) files = Unit {0}

-- Zones that are given by files, and tables of all that are given.
use Rattle.std.specs.Prelude.{◌≡◌, ◌⊎◌, ℕ, List, [], ◌∷◌, true}
use Rattle.cj_zone.specs.declared.source.Source.TheVariants.{File}
use Rattle.cj_zone.specs.declared.zone.Zone.{Zone}
use Rattle.cj_zone.specs.Made.{IsNotFile}
use Rattle.cj_zone.specs.Zones.{is_refused_name}
use Rattle.cj_io.specs.declared.zone_files.file.ZoneFile.{ZoneFile}
use Rattle.cj_io.specs.zone_files.Rules.{AddsRules, AddsSource, utc_zones}

-- the name isn't free, or `jiff` finds no zone file (RFC 8536) in the bytes
abbrev pub IsPassedOver : List Zone → ZoneFile → Type 0
IsPassedOver zones file = (is_refused_name zones file.name ≡ true) ⊎ IsNotFile file.bytes

-- the zone of a file more, unless it is passed over
-- rule: zoneinfo
abbrev pub AddsFile : List Zone → ZoneFile → List Zone → Type 0
AddsFile zones file more =
    (IsPassedOver zones file × (more ≡ zones)) ⊎ AddsSource zones file.name (File file.bytes) more

-- the zones with those of the files, one after another
-- rule: zoneinfo
abbrev pub AddsFiles : List Zone → List ZoneFile → List Zone → Type 0
AddsFiles zones [] all = all ≡ zones
AddsFiles zones (file ∷ files) all = (more : List Zone) × AddsFile zones file more
    × AddsFiles more files all

-- UTC, the zones of the rules, then those of the files: a rule that is refused leaves no table, a
-- file never wins over a rule
-- rules: zoneinfo, zone-refused
pub record IsTableWith (rules : List (List ℕ)) (files : List ZoneFile) (zones : List Zone)
    : Type 0 where
  pub of_rules : List Zone
  pub rules_add : AddsRules utc_zones rules of_rules
  pub files_add : AddsFiles of_rules files zones

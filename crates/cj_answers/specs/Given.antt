-- The zones that the words of a command and its folder give.
use Rattle.std.specs.Prelude.{◌≡◌, ℕ, List, [], Some, map, codes, Bool}
use Rattle.cj_zone.specs.declared.zone.Zone.{Zone}
use Rattle.cj_zone.specs.Table.{local_zone, zones_of}
use Rattle.cj_zone.specs.Zones.{utc_zone}
use Rattle.cj_args.specs.declared.request.ZoneWords.{ZoneWords}
use Rattle.cj_io.specs.declared.zone_files.file.ZoneFile.{ZoneFile}
use Rattle.cj_io.specs.declared.zone_files.given.GivenZones.{GivenZones}
use Rattle.cj_io.specs.zone_files.Files.{IsTableWith}
use Rattle.cj_answers.specs.Outcome.{Outcome, explained, refusal}

-- UTC, the zones of the rules, then those of the files
-- rules: zone-option, zoneinfo
abbrev pub AreGiven : ZoneWords → List ZoneFile → List Zone → Type 0
AreGiven words files zones = IsTableWith (map (λ r. r.now) words.rules.items) files zones

-- there are none, as one of the rules is refused
abbrev pub IsNoneGiven : ZoneWords → List ZoneFile → Type 0
IsNoneGiven words files = (zones : List Zone) → AreGiven words files zones → ⊥

-- the zones that an input with zones of its own is read under: those of the rules, with UTC as the
-- local one, and the files
-- rules: zone-option, zoneinfo
pub record IsReadUnder (words : ZoneWords) (files : List ZoneFile) (given : GivenZones)
    : Type 0 where
  pub rules : AreGiven words [] (zones_of given.rules)
  pub local : local_zone given.rules ≡ Some (utc_zone (codes "UTC"))
  pub files_are : given.files.now ≡ files

-- what a zone has to be
-- rule: explain
abbrev pub pair_words : List ℕ
pair_words = codes "--zone: want NAME=RULE like Europe/Berlin=CET-1CEST,M3.5.0,M10.5.0/3\n"

-- a rule is refused before anything is read
-- rules: zone-refused, explain
pub record RefusesRule (words : ZoneWords) (explain : Bool) (o : Outcome) : Type 0 where
  pub zones : IsNoneGiven words []
  pub answer : o ≡ explained explain pair_words (refusal (codes "cronsim: zone\n"))

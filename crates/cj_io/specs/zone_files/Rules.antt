-- Zones that are given by rules, each NAME=RULE.
use Rattle.std.specs.Prelude.{◌≡◌, ◌⊎◌, ℕ, ◌==◌, ◌<◌, List, [], ◌∷◌, ◌++◌, length, IsNone, Bool, false, true, codes}
use Rattle.std.specs.List.{before_first, after_first, position_or_len}
use Rattle.jiff_tz.specs.PosixReader.{read_whole}
use Rattle.cj_zone.specs.declared.source.Source.{Source}
use Rattle.cj_zone.specs.declared.source.Source.TheVariants.{Rule}
use Rattle.cj_zone.specs.declared.zone.Zone.{Zone}
use Rattle.cj_zone.specs.Made.{IsMade}
use Rattle.cj_zone.specs.Zones.{is_refused_name, utc_zone}
use Rattle.cj_io.specs.declared.zone_files.refused.Refused.{Refused}
use Rattle.cj_io.specs.declared.zone_files.refused.Refused.TheVariants as Why

-- ---- zones, one more at the end

-- UTC under its two names
abbrev pub utc_zones : List Zone
utc_zones = utc_zone (codes "UTC") ∷ utc_zone (codes "Etc/UTC") ∷ []

-- a zone of that name, which is free, and of that source, of which `jiff` makes a clock
pub record AddsSource (zones : List Zone) (name : List ℕ) (source : Source) (more : List Zone)
    : Type 0 where
  pub free : is_refused_name zones name ≡ false
  pub clock : IsMade source
  pub more_are : more ≡ zones ++ record { name = name; source = source } ∷ []

-- ---- NAME=RULE

abbrev pub is_equals_sign : ℕ → Bool
is_equals_sign b = b == 61

-- split at the first `=`
abbrev pub name_in : List ℕ → List ℕ
name_in pair = before_first is_equals_sign pair

abbrev pub rule_in : List ℕ → List ℕ
rule_in pair = after_first is_equals_sign pair

abbrev pub HasNoSign : List ℕ → Type 0
HasNoSign pair = position_or_len is_equals_sign pair ≡ length pair

-- there is an `=`, with this name before the first and this rule after it
pub record IsPair (pair name rule : List ℕ) : Type 0 where
  pub inside : position_or_len is_equals_sign pair < length pair
  pub name_is : name ≡ name_in pair
  pub rule_is : rule ≡ rule_in pair

-- ---- rules

-- the zone of a rule more
-- rule: zone-refused
pub record AddsRule (zones : List Zone) (pair : List ℕ) (more : List Zone) : Type 0 where
  pub inside : position_or_len is_equals_sign pair < length pair
  pub adds : AddsSource zones (name_in pair) (Rule (rule_in pair)) more

-- the zones with those of the rules, one after another
-- rule: zone-refused
abbrev pub AddsRules : List Zone → List (List ℕ) → List Zone → Type 0
AddsRules zones [] all = all ≡ zones
AddsRules zones (pair ∷ pairs) all = (more : List Zone) × AddsRule zones pair more
    × AddsRules more pairs all

-- there is no `=`, or the name isn't free, or `jiff` refuses the rule
-- rule: zone-refused
abbrev pub IsNoRule : List Zone → List ℕ → Type 0
IsNoRule zones pair =
    HasNoSign pair ⊎ (is_refused_name zones (name_in pair) ≡ true)
    ⊎ IsNone (read_whole (rule_in pair))

-- want of memory, or a rule that is refused for that reason
abbrev pub Refuses : Refused → Type 0 → Type 0
Refuses e Reason = (e ≡ Why.Memory) ⊎ ((e ≡ Why.Zone) × Reason)

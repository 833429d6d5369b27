-- The kinds of values of fields: each reads the value of a member, or gives the cause for which it
-- is refused.
use Rattle.std.specs.Prelude.{ℕ, ◌==◌, ◌||◌, ◌&&◌, List, length, codes, nat_le, bytes_eq, Bool, true, false, if◌then◌else◌, Option, Some, None, option_map, Result, Ok, Err, is_some, is_none}
use Rattle.serde_json.specs.Data.{Data, Members, no_members, member, Num, unsigned, negative, float}
use Rattle.serde_json.specs.Find.{as_bool, as_str, as_object, as_number}
use Rattle.cj_base.specs.declared.cause.Cause.{Cause}
use Rattle.cj_base.specs.declared.cause.Cause.TheVariants as Why
use Rattle.cj_types.specs.declared.policy.Policy.{Policy}
use Rattle.cj_types.specs.declared.policy.Policy.TheVariants.{Allow, Forbid, Replace}
use Rattle.cj_types.specs.Names.{name_cause, namespace_cause}
use Rattle.cj_schedule.specs.Reading.{fault_of}
use Rattle.cj_zone.specs.declared.zone.Zone.{Zone}
use Rattle.cj_zone.specs.Zones.{zone_named}
use Rattle.cj_manifest.specs.Members.{unless_null}

-- ---- values and causes

abbrev pub or_wrong_type : {A : Type 0} → Option A → Result A Cause
or_wrong_type None = Err Why.WrongType
or_wrong_type (Some x) = Ok x

abbrev pub when : {A : Type 0} → Bool → Cause → A → Result A Cause
when true cause x = Ok x
when false cause x = Err cause

abbrev pub unless : {A : Type 0} → Option Cause → A → Result A Cause
unless None x = Ok x
unless (Some cause) x = Err cause

abbrev pub and_then : {A B : Type 0} → (A → Result B Cause) → Result A Cause → Result B Cause
and_then f (Ok x) = f x
and_then f (Err cause) = Err cause

-- ---- text, truth value, object

abbrev pub text : Data → Result (List ℕ) Cause
text d = or_wrong_type (as_str d)

abbrev pub truth : Data → Result Bool Cause
truth d = or_wrong_type (as_bool d)

-- rule: fraction
abbrev pub an_object : Data → Result Data Cause
an_object d = if is_some (as_object d) then Ok d else Err Why.WrongType

-- ---- choices

-- a choice of one supported text
abbrev pub choice : List ℕ → Data → Result (List ℕ) Cause
choice only d = and_then (λ s. when (bytes_eq s only) Why.NotSupported s) (text d)

-- a choice of two texts
abbrev pub either : List ℕ → List ℕ → Data → Result (List ℕ) Cause
either one other d = and_then (λ s. when (bytes_eq s one || bytes_eq s other) Why.NotSupported s)
    (text d)

-- a policy by its name; the empty text counts as absent, and so as Allow
abbrev pub policy_named : List ℕ → Result Policy Cause
policy_named s =
    if length s == 0 || bytes_eq s (codes "Allow") then Ok Allow
    else (if bytes_eq s (codes "Forbid") then Ok Forbid
    else (if bytes_eq s (codes "Replace") then Ok Replace
    else Err Why.NotSupported))

abbrev pub policy : Data → Result Policy Cause
policy d = and_then policy_named (text d)

-- ---- range

-- a whole number from 0 to the greatest
abbrev pub up_to : ℕ → Num → Result ℕ Cause
up_to most (unsigned n) = when (nat_le n most) Why.Range n
up_to most (negative z) = Err Why.Range
up_to most (float x) = Err Why.WrongType

abbrev pub range : ℕ → Data → Result ℕ Cause
range most d = and_then (up_to most) (or_wrong_type (as_number d))

-- ---- names

-- rule: all-faults
abbrev pub name : ℕ → Data → Result (List ℕ) Cause
name limit d = and_then (λ s. unless (name_cause limit s) s) (text d)

abbrev pub namespace : Data → Result (List ℕ) Cause
namespace d = and_then (λ s. unless (namespace_cause s) s) (text d)

-- ---- schedule and zone

abbrev pub schedule : Data → Result (List ℕ) Cause
schedule d = and_then (λ s. unless (option_map Why.Schedule (fault_of s)) s) (text d)

-- the name of a zone in the table
-- rule: all-faults
abbrev pub zone : List Zone → Data → Result (List ℕ) Cause
zone zones d = and_then (λ s. when (is_some (zone_named s zones)) Why.Zone s) (text d)

-- ---- object of texts

-- each member that is there is a text
abbrev pub all_texts : Members → Bool
all_texts no_members = true
all_texts (member k d ms) = (is_none (unless_null d) || is_some (as_str d)) && all_texts ms

abbrev pub texts : Data → Result Members Cause
texts d = and_then (λ ms. when (all_texts ms) Why.WrongType ms) (or_wrong_type (as_object d))

-- ---- required, optional, or with a default

-- rule: all-faults
abbrev pub required : {A : Type 0} → (Data → Result A Cause) → Option Data → Result A Cause
required row None = Err Why.Required
required row (Some d) = row d

-- rule: all-faults
abbrev pub optional : {A : Type 0} → (Data → Result A Cause) → Option Data → Result (Option A) Cause
optional row None = Ok None
optional row (Some d) = and_then (λ x. Ok (Some x)) (row d)

abbrev pub or_default : {A : Type 0} → A → (Data → Result A Cause) → Option Data → Result A Cause
or_default x row None = Ok x
or_default x row (Some d) = row d

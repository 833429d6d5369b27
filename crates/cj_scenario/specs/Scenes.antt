-- The form of a scenario for a plan: a JSON object (RFC 8259) with a CronJob's manifest, the moment
-- of its creation, the last time that was scheduled, its Jobs, and zones by name. Members that
-- aren't named here, or are null, are of no account.
use Rattle.std.specs.Prelude.{◌≡◌, ◌⊎◌, map, ℕ, ◌==◌, ◌/◌, ◌≤◌, List, [], ◌∷◌, ◌++◌, codes, bytes_eq, Bool, false, if◌then◌else◌, Option, Some, None, option_and_then}
use Rattle.std.specs.List.{list_any}
use Rattle.serde_json.specs.Data.{Data, Items, no_items, item, Members, no_members, member}
use Rattle.serde_json.specs.Find.{as_array, as_object, as_str}
use Rattle.cj_base.specs.Instant.{last_second}
use Rattle.cj_types.specs.declared.policy.Outcome.{Outcome}
use Rattle.cj_types.specs.declared.policy.Outcome.TheVariants.{Complete, Failed}
use Rattle.cj_zone.specs.declared.source.Source.TheVariants.{Rule}
use Rattle.cj_zone.specs.declared.zone.Zone.{Zone}
use Rattle.cj_zone.specs.Made.{IsMade}
use Rattle.cj_zone.specs.Table.{zones_of}
use Rattle.cj_zone.specs.TimeText.{time_text_of}
use Rattle.cj_zone.specs.Zones.{is_refused_name}
use Rattle.cj_io.specs.declared.zone_files.given.GivenZones.{GivenZones}
use Rattle.cj_io.specs.zone_files.Files.{AddsFiles}
use Rattle.cj_manifest.specs.Members.{present, unless_null}
use Rattle.cj_scenario.specs.declared.fault.SceneFault.{SceneFault}
use Rattle.cj_scenario.specs.declared.fault.SceneFault.TheVariants.{Form as FormFault, Memory}
use Rattle.cj_scenario.specs.declared.given.GivenJob.{GivenJob}

-- ---- times

-- a text that is a printed instant up to the end of 9998
pub record IsTime (d : Data) (t : ℕ) : Type 0 where
  pub in_range : t ≤ last_second
  pub printed : as_str d ≡ Some (time_text_of t)

-- a time that must be there
abbrev pub IsTimeIn : Option Data → ℕ → Type 0
IsTimeIn None t = ⊥
IsTimeIn (Some d) t = IsTime d t

-- a time or none
abbrev pub IsMaybeTime : Option Data → Option ℕ → Type 0
IsMaybeTime None last = last ≡ None
IsMaybeTime (Some d) None = ⊥
IsMaybeTime (Some d) (Some t) = IsTime d t

-- ---- zones

-- another zone, of a name that is free, whose clock is what `jiff` makes of the rule
pub record AddsRule (zones : List Zone) (name rule : List ℕ) (more : List Zone) : Type 0 where
  pub zone : Zone
  pub more_are : more ≡ zones ++ zone ∷ []
  pub free : is_refused_name zones name ≡ false
  pub name_is : zone.name ≡ name
  pub source_is : zone.source ≡ Rule rule
  pub clock : IsMade (Rule rule)

-- a rule is a text
abbrev pub AddsText : List Zone → List ℕ → Option (List ℕ) → List Zone → Type 0
AddsText zones name None more = ⊥
AddsText zones name (Some rule) more = AddsRule zones name rule more

-- a member that is null adds none
abbrev pub AddsMember : List Zone → List ℕ → Option Data → List Zone → Type 0
AddsMember zones name None more = more ≡ zones
AddsMember zones name (Some d) more = AddsText zones name (as_str d) more

-- the zones with those of the members, one after another
abbrev pub AddsMembers : List Zone → Members → List Zone → Type 0
AddsMembers zones no_members all = all ≡ zones
AddsMembers zones (member name d ms) all =
    (more : List Zone) × AddsMember zones name (unless_null d) more × AddsMembers more ms all

abbrev pub AddsMaybe : List Zone → Option Members → List Zone → Type 0
AddsMaybe zones None all = ⊥
AddsMaybe zones (Some ms) all = AddsMembers zones ms all

-- the zones with those of an object from names to rules, where there is one
abbrev pub AddsObject : List Zone → Option Data → List Zone → Type 0
AddsObject zones None all = all ≡ zones
AddsObject zones (Some d) all = AddsMaybe zones (as_object d) all

-- the zones of the rules that are given, those of such an object, and those of the files that are
-- given
-- rules: zone-option, zoneinfo
pub record AreZones (given : GivenZones) (o : Option Data) (zones : List Zone) : Type 0 where
  pub own : List Zone
  pub own_are : AddsObject (zones_of given.rules) o own
  pub zones_are : AddsFiles own given.files.now zones

-- ---- Jobs

-- the state of a Job of that time, by the word for it; a Complete one ended at its time
abbrev pub outcome_named : ℕ → List ℕ → Option (Option Outcome)
outcome_named time word =
    if bytes_eq word (codes "Running") then Some None
    else (if bytes_eq word (codes "Complete") then Some (Some (Complete time))
    else (if bytes_eq word (codes "Failed") then Some (Some Failed)
    else None))

abbrev pub outcome_in : ℕ → Option Data → Option (Option Outcome)
outcome_in time o = option_and_then (outcome_named time) (option_and_then as_str o)

-- an object with a time and an outcome
pub record IsGiven (d : Data) (job : GivenJob) : Type 0 where
  pub time : IsTimeIn (present (codes "time") d) job.time
  pub outcome : outcome_in job.time (present (codes "outcome") d) ≡ Some job.outcome

-- one of the Jobs has a time of this minute since 1970
abbrev pub has_minute : ℕ → List GivenJob → Bool
has_minute minute jobs = list_any (λ j. j.time / 60 == minute) jobs

-- one Job more, of a minute that none of them has
pub record AddsItem (jobs : List GivenJob) (d : Data) (more : List GivenJob) : Type 0 where
  pub job : GivenJob
  pub given : IsGiven d job
  pub free : has_minute (job.time / 60) jobs ≡ false
  pub more_are : more ≡ jobs ++ job ∷ []

-- the Jobs with those of the items, one after another
abbrev pub AddsItems : List GivenJob → Items → List GivenJob → Type 0
AddsItems jobs no_items all = all ≡ jobs
AddsItems jobs (item d ds) all = (more : List GivenJob) × AddsItem jobs d more
    × AddsItems more ds all

abbrev pub AddsArray : Option Items → List GivenJob → Type 0
AddsArray None jobs = ⊥
AddsArray (Some ds) jobs = AddsItems [] ds jobs

-- the Jobs of a list, where there is one
abbrev pub AreJobs : Option Data → List GivenJob → Type 0
AreJobs None jobs = jobs ≡ []
AreJobs (Some d) jobs = AddsArray (as_array d) jobs

-- ---- the whole

-- what a scenario says, with its manifest still as a value
pub record Form : Type 0 where
  pub zones : List Zone
  pub manifest : Data
  pub created : ℕ
  pub last : Option ℕ
  pub jobs : List GivenJob

-- rule: plan-scenario
pub record IsForm (given : GivenZones) (d : Data) (f : Form) : Type 0 where
  pub zones : AreZones given (present (codes "zones") d) f.zones
  pub manifest : present (codes "manifest") d ≡ Some f.manifest
  pub created : IsTimeIn (present (codes "created") d) f.created
  pub last : IsMaybeTime (present (codes "last") d) f.last
  pub jobs : AreJobs (present (codes "jobs") d) f.jobs

-- ---- refusals

-- want of memory, or a fault of the form for that reason
abbrev pub Refuses : SceneFault → Type 0 → Type 0
Refuses e Reason = (e ≡ Memory) ⊎ ((e ≡ FormFault) × Reason)

-- the names of zones
abbrev pub names_of : List Zone → List (List ℕ)
names_of zones = map (λ z. z.name) zones

-- a value of no form
-- rule: plan-scenario
abbrev pub IsNoForm : GivenZones → Data → Type 0
IsNoForm given d = (f : Form) → IsForm given d f → ⊥

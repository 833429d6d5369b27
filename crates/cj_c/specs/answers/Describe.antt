-- The text for a schedule: it in a sentence, and its next times. The members of an object are in
-- the order of their names.
use Rattle.std.specs.Prelude.{◌≡◌, ◌⊎◌, ℕ, ◌==◌, ◌<◌, nat_lt, ◌||◌, Bool, true, false, List, bytes_eq, codes, length, IsNone, if◌then◌else◌}
use Rattle.std.specs.List.{before_first, position_or_len}
use Rattle.std.specs.Str.{IsUtf8}
use Rattle.jiff_tz.specs.PosixReader.{read_whole}
use Rattle.serde_json.specs.Data.{Data, null, string, array, object, member, no_members}
use Rattle.serde_json.specs.View.{items_of}
use Rattle.cj_audit.specs.Faults.{one_fault, schedule_cause}
use Rattle.cj_base.specs.Instant.{last_second}
use Rattle.cj_base.specs.declared.schedule_fault.ScheduleFault.{ScheduleFault}
use Rattle.cj_io.specs.zone_files.Rules.{utc_zones}
use Rattle.cj_json.specs.Values.{time_data}
use Rattle.cj_schedule.specs.Grammar.{IsSchedule}
use Rattle.cj_schedule.specs.Matches.{Sets}
use Rattle.cj_upcoming.specs.Sentence.{sentence}
use Rattle.cj_upcoming.specs.json.Coming.{AreTimes, changes_along, times_data}
use Rattle.cj_zone.specs.Made.{IsMade}
use Rattle.cj_zone.specs.Zones.{is_refused_name, utc_zone}
use Rattle.cj_zone.specs.declared.source.Source.TheVariants.{Rule}
use Rattle.cj_zone.specs.declared.zone.Zone.{Zone}
use Rattle.cj_c.specs.Faults.{IsTextRefused, fault_told}
use Rattle.cj_c.specs.Status.{range}
use Rattle.cj_c.specs.answers.Buffers.{IsAnswered, IsUnchanged}
use Rattle.cj_c.specs.answers.FaultText.{IsNoneOf}
use Rattle.cj_c.specs.answers.Texts.{IsJsonText}
use Rattle.cj_c.specs.declared.fault.CronFault.{CronFault}

-- ---- the zone

-- there is no rule, or it is UTC's name
abbrev pub is_utc : List ℕ → Bool
is_utc rule = (length rule == 0) || bytes_eq rule (codes "UTC")

-- a zone whose clock is what `jiff` makes of the rule, and whose name is the rule
pub record IsRuled (rule : List ℕ) (zone : Zone) : Type 0 where
  pub name : zone.name ≡ rule
  pub source : zone.source ≡ Rule rule
  pub made : IsMade (Rule rule)

abbrev pub IsZoneBy : Bool → List ℕ → Zone → Type 0
IsZoneBy true rule zone = zone ≡ utc_zone (codes "UTC")
IsZoneBy false rule zone = IsRuled rule zone

-- UTC, or the zone of the rule
-- rule: library-describe
abbrev pub IsZoneOf : List ℕ → Zone → Type 0
IsZoneOf rule zone = IsZoneBy (is_utc rule) rule zone

-- a text is no rule: it is a name that no zone may have, or `jiff` refuses it
abbrev pub IsNoRule : List ℕ → Type 0
IsNoRule rule = (is_refused_name utc_zones rule ≡ true) ⊎ IsNone (read_whole rule)

-- there is none: the rule is too long, or isn't UTF-8, or is none
-- rule: library-describe
abbrev pub HasNoZone : List ℕ → Type 0
HasNoZone rule = (1024 < length rule) ⊎ (¬ (IsUtf8 rule) ⊎ IsNoRule rule)

-- ---- what is told

-- a text up to the end of its first line
abbrev pub first_line : List ℕ → List ℕ
first_line text =
    if nat_lt (position_or_len (λ b. b == 10) text) (length text)
    then before_first (λ b. b == 10) text else text

-- the zone, as the rule gives it
abbrev pub zone_where : Bool → List ℕ → Data
zone_where true rule = null
zone_where false rule = string rule

abbrev pub zone_data : List ℕ → Data
zone_data rule = zone_where (length rule == 0) rule

abbrev pub describe_object : Data → Data → List ℕ → Data → Data → Data → Data
describe_object after changes schedule sentence zone times = object (
    member (codes "after") after (
    member (codes "changes") changes (
    member (codes "schedule") (string schedule) (
    member (codes "sentence") sentence (
    member (codes "timeZone") zone (
    member (codes "times") times no_members))))))

-- the start, where the clock is put on the way from one time to the next, the schedule, its
-- sentence, the zone, and the times
-- rule: library-describe
abbrev pub describe_data : List ℕ → List ℕ → Sets → Zone → ℕ → List ℕ → Data
describe_data schedule rule s z after times =
    describe_object (time_data after) (array (items_of (changes_along z after times))) schedule
    (string (first_line (sentence s z.name))) (zone_data rule) (times_data z after times)

-- of a schedule in a zone, and its next times after an instant
-- rule: library-describe
pub record IsDescribed (schedule rule : List ℕ) (after count : ℕ) (text : List ℕ) : Type 0 where
  pub sets : Sets
  pub read : IsSchedule schedule sets
  pub zone : Zone
  pub zone_is : IsZoneOf rule zone
  pub times : List ℕ
  pub are : AreTimes sets zone after count times
  pub printed : IsJsonText (describe_data schedule rule sets zone after times) text

-- ---- what is refused

-- a fault of a schedule; or its text is no text
abbrev pub IsFaultPrinted : CronFault → List ℕ → Type 0
IsFaultPrinted told text =
    ((fault : ScheduleFault) × (told ≡ fault_told fault)
    × IsJsonText (one_fault (schedule_cause fault) (codes "schedule")) text)
    ⊎ (IsNoneOf told × IsJsonText (one_fault (codes "Format") (codes "schedule")) text)

-- why the schedule is refused
pub record IsScheduleRefusal (schedule text : List ℕ) : Type 0 where
  pub told : CronFault
  pub refused : IsTextRefused schedule told
  pub printed : IsFaultPrinted told text

-- why the zone is
pub record IsRuleRefusal (rule text : List ℕ) : Type 0 where
  pub none : HasNoZone rule
  pub printed : IsJsonText (one_fault (codes "Zone") (codes "zone")) text

-- why it is refused: the schedule is, which is looked at first; or the zone
-- rule: library-describe
abbrev pub IsDescribeRefusal : List ℕ → List ℕ → List ℕ → Type 0
IsDescribeRefusal schedule rule text = IsScheduleRefusal schedule text ⊎ IsRuleRefusal rule text

-- what the call leaves: that, or the instant is out of range, and all stays as it was
-- rule: library-describe
abbrev pub IsDescribeAnswered : List ℕ → List ℕ → ℕ → ℕ → List ℕ → List ℕ → ℕ → ℕ → ℕ → Type 0
IsDescribeAnswered schedule rule after count old new was is status =
    IsAnswered (IsDescribed schedule rule after count) (IsDescribeRefusal schedule rule) old new was
    is status
    ⊎ ((status ≡ range) × (last_second < after) × IsUnchanged old new was is)

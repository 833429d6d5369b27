-- What `describe` answers of a schedule.
use Rattle.std.specs.Prelude.{◌≡◌, ◌⊎◌, ℕ, List, None, Some, codes}
use Rattle.cj_base.specs.declared.schedule_fault.ScheduleFault.{ScheduleFault}
use Rattle.cj_schedule.specs.Matches.{Sets}
use Rattle.cj_schedule.specs.Grammar.{IsSchedule}
use Rattle.cj_schedule.specs.Reading.{fault_of}
use Rattle.cj_zone.specs.declared.zone.Zone.{Zone}
use Rattle.cj_io.specs.declared.zone_files.file.ZoneFile.{ZoneFile}
use Rattle.cj_args.specs.declared.request.DescribeRequest.{DescribeRequest}
use Rattle.cj_answers.specs.Moments.{asked_moment}
use Rattle.cj_answers.specs.Outcome.{IsInForm, IsScheduleRefusal, Outcome, RefusesForm, done, explained, next_zone_words, refusal}
use Rattle.cj_answers.specs.as_json.Describe.{IsDescribePrinted}
use Rattle.cj_answers.specs.as_json.Forms.{is_json}
use Rattle.cj_answers.specs.Zoning.{IsNoZoneFor, IsZoneFor}

-- what a start has to be
-- rules: explain, moment-text
abbrev pub since_words : List ℕ
since_words = codes "--after: want a time like 2024-01-01T00:00:00Z or 2024-01-01T01:00:00+01:00, a date like 2024-01-01, now, or -1h or +2d from now\n"

-- the schedule is refused first
pub record RefusesText (r : DescribeRequest) (o : Outcome) : Type 0 where
  pub fault : ScheduleFault
  pub at : fault_of r.schedule.now ≡ Some fault
  pub told : IsScheduleRefusal r.explain r.schedule.now fault o

-- then the start
pub record RefusesSince (r : DescribeRequest) (o : Outcome) : Type 0 where
  pub sets : Sets
  pub schedule : IsSchedule r.schedule.now sets
  pub start : asked_moment r.after ≡ None
  pub answer : o ≡ explained r.explain since_words (refusal (codes "cronsim: time\n"))

-- then the zone
pub record RefusesItsZone (r : DescribeRequest) (files : List ZoneFile) (o : Outcome) : Type 0 where
  pub sets : Sets
  pub schedule : IsSchedule r.schedule.now sets
  pub after : ℕ
  pub start : asked_moment r.after ≡ Some after
  pub none : IsNoZoneFor r.time_zone r.zone files
  pub answer : o ≡ explained r.explain (next_zone_words r.time_zone)
      (refusal (codes "cronsim: zone\n"))

-- else it is described
pub record Describes (r : DescribeRequest) (files : List ZoneFile) (o : Outcome) : Type 0 where
  pub sets : Sets
  pub schedule : IsSchedule r.schedule.now sets
  pub after : ℕ
  pub start : asked_moment r.after ≡ Some after
  pub zone : Zone
  pub is_zone : IsZoneFor r.time_zone r.zone files zone
  pub text : List ℕ
  pub described : IsDescribePrinted (is_json r.output.now) r sets zone after text
  pub answer : o ≡ done text

-- what `describe` answers in a form that there is
-- rules: describe-json, describe-sentence, describe-times
abbrev pub IsDescribeAnswer : DescribeRequest → List ZoneFile → Outcome → Type 0
IsDescribeAnswer r files o =
    RefusesText r o ⊎ RefusesSince r o ⊎ RefusesItsZone r files o ⊎ Describes r files o

-- the form is looked at first
abbrev pub IsDescribeOutcome : DescribeRequest → List ZoneFile → Outcome → Type 0
IsDescribeOutcome r files o =
    RefusesForm r.explain r.output.now o ⊎ IsInForm r.output.now (IsDescribeAnswer r files o)

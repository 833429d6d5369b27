-- What `previous` answers of a schedule.
use Rattle.std.specs.Prelude.{◌≡◌, ◌⊎◌, ℕ, List, None, Some, codes}
use Rattle.cj_base.specs.declared.schedule_fault.ScheduleFault.{ScheduleFault}
use Rattle.cj_schedule.specs.Matches.{Sets}
use Rattle.cj_schedule.specs.Grammar.{IsSchedule}
use Rattle.cj_schedule.specs.Reading.{fault_of}
use Rattle.cj_zone.specs.declared.zone.Zone.{Zone}
use Rattle.cj_io.specs.declared.zone_files.file.ZoneFile.{ZoneFile}
use Rattle.cj_args.specs.declared.previous.PreviousRequest.{PreviousRequest}
use Rattle.cj_answers.specs.ClockWords.{IsClockWords, clock_mark, year_before}
use Rattle.cj_answers.specs.Moments.{asked_moment}
use Rattle.cj_answers.specs.Outcome.{IsInForm, IsScheduleRefusal, Outcome, RefusesForm, done, explained, next_zone_words, refusal}
use Rattle.cj_answers.specs.as_json.Forms.{is_json}
use Rattle.cj_answers.specs.as_json.Previous.{IsPreviousPrinted}
use Rattle.cj_answers.specs.Zoning.{IsNoZoneFor, IsZoneFor}

-- what the moment has to be
-- rules: explain, moment-text
abbrev pub before_words : List ℕ
before_words = codes "--before: want a time like 2024-01-01T00:00:00Z or 2024-01-01T01:00:00+01:00, a date like 2024-01-01, now, or -1h or +2d from now\n"

-- the schedule is refused first
pub record RefusesPast (r : PreviousRequest) (o : Outcome) : Type 0 where
  pub fault : ScheduleFault
  pub at : fault_of r.schedule.now ≡ Some fault
  pub told : IsScheduleRefusal r.explain r.schedule.now fault o

-- then the moment
pub record RefusesBefore (r : PreviousRequest) (o : Outcome) : Type 0 where
  pub sets : Sets
  pub schedule : IsSchedule r.schedule.now sets
  pub start : asked_moment r.before ≡ None
  pub answer : o ≡ explained r.explain before_words (refusal (codes "cronsim: time\n"))

-- then the zone
pub record RefusesPastZone (r : PreviousRequest) (files : List ZoneFile) (o : Outcome)
    : Type 0 where
  pub sets : Sets
  pub schedule : IsSchedule r.schedule.now sets
  pub before : ℕ
  pub start : asked_moment r.before ≡ Some before
  pub none : IsNoZoneFor r.time_zone r.zone files
  pub answer : o ≡ explained r.explain (next_zone_words r.time_zone)
      (refusal (codes "cronsim: zone\n"))

-- the due times of a schedule in a zone are printed, in lines or as JSON; `--explain` adds what the
-- zone's clock skipped or showed twice in the year before
-- rule: explain-clock
pub record TellsPast (r : PreviousRequest) (sets : Sets) (zone : Zone) (before : ℕ) (o : Outcome)
    : Type 0 where
  pub text : List ℕ
  pub printed : IsPreviousPrinted (is_json r.output.now) r sets zone before text
  pub words : List ℕ
  pub clock : IsClockWords (clock_mark r.time_zone) sets zone (year_before before) words
  pub answer : o ≡ explained r.explain words (done text)

-- else the due times are printed
pub record PrintsPast (r : PreviousRequest) (files : List ZoneFile) (o : Outcome) : Type 0 where
  pub sets : Sets
  pub schedule : IsSchedule r.schedule.now sets
  pub before : ℕ
  pub start : asked_moment r.before ≡ Some before
  pub zone : Zone
  pub is_zone : IsZoneFor r.time_zone r.zone files zone
  pub tells : TellsPast r sets zone before o

-- what `previous` answers in a form that there is
-- rules: previous-json, previous-lines
abbrev pub IsPreviousAnswer : PreviousRequest → List ZoneFile → Outcome → Type 0
IsPreviousAnswer r files o =
    RefusesPast r o ⊎ RefusesBefore r o ⊎ RefusesPastZone r files o ⊎ PrintsPast r files o

-- the form is looked at first
abbrev pub IsPreviousOutcome : PreviousRequest → List ZoneFile → Outcome → Type 0
IsPreviousOutcome r files o =
    RefusesForm r.explain r.output.now o ⊎ IsInForm r.output.now (IsPreviousAnswer r files o)

-- What the program answers to a request.
use Rattle.std.specs.Prelude.{◌≡◌, ◌⊎◌, ℕ, List, [], ◌++◌, Option, None, Some, Bool, true, false, codes, decimal, string_bytes}
use Rattle.std.specs.Borrow.{Bor}
use Rattle.cj_base.specs.ScheduleCause.{cause_name}
use Rattle.cj_base.specs.declared.schedule_fault.ScheduleFault.{ScheduleFault}
use Rattle.cj_schedule.specs.Matches.{Sets}
use Rattle.cj_schedule.specs.Grammar.{IsSchedule}
use Rattle.cj_schedule.specs.Reading.{fault_of}
use Rattle.cj_zone.specs.declared.zone.Zone.{Zone}
use Rattle.cj_io.specs.declared.exit_status.ExitStatus.{ExitStatus}
use Rattle.cj_io.specs.declared.exit_status.ExitStatus.TheVariants as Status
use Rattle.cj_io.specs.declared.zone_files.file.ZoneFile.{ZoneFile}
use Rattle.cj_explain.specs.Schedules.{IsExplained}
use Rattle.cj_answers.specs.ClockWords.{IsClockWords, clock_mark}
use Rattle.cj_answers.specs.Hints.{schedule_hint}
use Rattle.cj_answers.specs.as_json.Forms.{form_words, is_form, is_json}
use Rattle.cj_answers.specs.as_json.Next.{IsNextPrinted}
use Rattle.cj_answers.specs.Moments.{moment_of}
use Rattle.cj_answers.specs.Zoning.{IsNoZoneFor, IsZoneFor}
use Rattle.cj_answers.specs.declared.answer.Answer.{Answer}
use Rattle.cj_answers.specs.declared.answer.Ending.{Ending}
use Rattle.cj_answers.specs.declared.answer.Ending.TheVariants.{Done, Refused}
use Rattle.cj_args.specs.declared.request.NextRequest.{NextRequest}

-- the ending, and the bytes on standard output and on standard error
pub record Outcome : Type 0 where
  pub ending : Ending
  pub printed : List ℕ
  pub said : List ℕ

-- the exit status of the program
-- rule: statuses
abbrev pub status_of : Ending → ExitStatus
status_of Done = Status.Success
status_of Refused = Status.Refused

abbrev pub outcome_of : Answer → Outcome
outcome_of a =
    record { ending = a.ending; printed = string_bytes a.printed; said = string_bytes a.said }

-- the input was refused, with one line on standard error
abbrev pub refusal : List ℕ → Outcome
refusal line = record { ending = Refused; printed = []; said = line }

-- an outcome with what is said of it to people, behind the fixed lines and only where they asked
-- for it
-- rule: explain
abbrev pub explained : Bool → List ℕ → Outcome → Outcome
explained true words o = record o { said = o.said ++ words }
explained false words o = o

abbrev pub done : List ℕ → Outcome
done text = record { ending = Done; printed = text; said = [] }

-- the form of what is printed is refused
-- rule: output
pub record RefusesForm (explain : Bool) (output : List ℕ) (o : Outcome) : Type 0 where
  pub unknown : is_form output ≡ false
  pub answer : o ≡ explained explain form_words (refusal (codes "cronsim: output\n"))

-- it is one that there is, and the answer is this
pub record IsInForm (output : List ℕ) (Answer : Type 0) : Type 0 where
  pub known : is_form output ≡ true
  pub answer : Answer

-- `cronsim: schedule FIELD BYTE CAUSE`
abbrev pub schedule_line : ScheduleFault → List ℕ
schedule_line f =
    codes "cronsim: schedule "
    ++ (decimal f.field
    ++ (codes " " ++ (decimal f.byte ++ (codes " " ++ (cause_name f.cause ++ codes "\n")))))

-- the line of a schedule's fault, what is wrong with the text, and what people may have overlooked
-- rule: explain-hint
pub record IsScheduleRefusal (explain : Bool) (text : List ℕ) (fault : ScheduleFault) (o : Outcome)
    : Type 0 where
  pub words : List ℕ
  pub are : IsExplained text fault words
  pub answer : o ≡ explained explain (words ++ schedule_hint text fault)
      (refusal (schedule_line fault))

-- what a start has to be
-- rules: explain, moment-text
abbrev pub after_words : List ℕ
after_words = codes "--after: want a time like 2024-01-01T00:00:00Z or 2024-01-01T01:00:00+01:00, a date like 2024-01-01, now, or -1h or +2d from now\n"

-- what a rule has to be
-- rule: explain
abbrev pub rule_words : List ℕ
rule_words = codes "--zone: want UTC, a name like Europe/Berlin, or a POSIX rule like CET-1CEST,M3.5.0,M10.5.0/3\n"

-- what the name of a zone has to be
-- rule: explain
abbrev pub time_zone_words : List ℕ
time_zone_words =
    codes "--time-zone: want the name of a zone whose file is in the folder of --zoneinfo, and no --zone beside it\n"

abbrev pub next_zone_words : Option (Bor (List ℕ)) → List ℕ
next_zone_words None = rule_words
next_zone_words (Some name) = time_zone_words

-- the schedule is refused first
pub record RefusesSchedule (r : NextRequest) (o : Outcome) : Type 0 where
  pub fault : ScheduleFault
  pub at : fault_of r.schedule.now ≡ Some fault
  pub told : IsScheduleRefusal r.explain r.schedule.now fault o

-- then the start
pub record RefusesTime (r : NextRequest) (o : Outcome) : Type 0 where
  pub sets : Sets
  pub schedule : IsSchedule r.schedule.now sets
  pub start : moment_of r.after.now ≡ None
  pub answer : o ≡ explained r.explain after_words (refusal (codes "cronsim: time\n"))

-- then the zone
pub record RefusesZone (r : NextRequest) (files : List ZoneFile) (o : Outcome) : Type 0 where
  pub sets : Sets
  pub schedule : IsSchedule r.schedule.now sets
  pub after : ℕ
  pub start : moment_of r.after.now ≡ Some after
  pub none : IsNoZoneFor r.time_zone r.zone files
  pub answer : o ≡ explained r.explain (next_zone_words r.time_zone)
      (refusal (codes "cronsim: zone\n"))

-- the due times of a schedule in a zone are printed, in lines or as JSON; `--explain` adds what the
-- zone's clock skips or shows twice
pub record TellsTimes (r : NextRequest) (sets : Sets) (zone : Zone) (after : ℕ) (o : Outcome)
    : Type 0 where
  pub text : List ℕ
  pub times : IsNextPrinted (is_json r.output.now) r sets zone after text
  pub words : List ℕ
  pub clock : IsClockWords (clock_mark r.time_zone) sets zone after words
  pub answer : o ≡ explained r.explain words (done text)

-- else the due times are printed
pub record PrintsTimes (r : NextRequest) (files : List ZoneFile) (o : Outcome) : Type 0 where
  pub sets : Sets
  pub schedule : IsSchedule r.schedule.now sets
  pub after : ℕ
  pub start : moment_of r.after.now ≡ Some after
  pub zone : Zone
  pub is_zone : IsZoneFor r.time_zone r.zone files zone
  pub tells : TellsTimes r sets zone after o

-- what `next` answers in a form that there is
-- rules: next-json, next-lines
abbrev pub IsNextAnswer : NextRequest → List ZoneFile → Outcome → Type 0
IsNextAnswer r files o =
    RefusesSchedule r o ⊎ RefusesTime r o ⊎ RefusesZone r files o ⊎ PrintsTimes r files o

-- the form is looked at first
abbrev pub IsNextOutcome : NextRequest → List ZoneFile → Outcome → Type 0
IsNextOutcome r files o =
    RefusesForm r.explain r.output.now o ⊎ IsInForm r.output.now (IsNextAnswer r files o)

-- The command line, as `clap` reads it.
use Rattle.std.specs.Prelude.{◌≡◌, ℕ, ◌≤◌, List, [], ◌∷◌, codes, Option, None, Some, option_map, Bool, true, false, bytes_eq, ◌||◌, if◌then◌else◌}
use Rattle.std.specs.Prelude.{⊤, ◌≢◌, ◌⊎◌, Result, IfOk, IfErr, map, unwrap_or, slice_get}
use Rattle.std.specs.Borrow.{Bor}
use Rattle.std.specs.Str.Parse.{IsNumeral, digits_value, without_leading_plus}
use Rattle.clap.specs.Lexer.{usize_max}
use Rattle.clap.specs.Words.{App, Row, Rule, Text, all_of, first_of, new_app, new_rule, with_rule, with_subcommand, subcommand_of, takes}
use Rattle.clap.specs.declared.builder.action.ArgAction.TheVariants.{Append, SetTrue}
use Rattle.clap.specs.declared.builder.value_parser.ValueParser.TheVariants.{Unsigned}
use Rattle.cj_args.specs.declared.request.AuditRequest.{AuditRequest}
use Rattle.cj_args.specs.declared.clocks.ClockWords.{ClockWords}
use Rattle.cj_args.specs.declared.request.CheckRequest.{CheckRequest}
use Rattle.cj_args.specs.declared.request.ControlRequest.{ControlRequest}
use Rattle.cj_args.specs.declared.crontab.CrontabRequest.{CrontabRequest}
use Rattle.cj_args.specs.declared.request.DescribeRequest.{DescribeRequest}
use Rattle.cj_args.specs.declared.request.NextRequest.{NextRequest}
use Rattle.cj_args.specs.declared.request.PlanRequest.{PlanRequest}
use Rattle.cj_args.specs.declared.previous.PreviousRequest.{PreviousRequest}
use Rattle.cj_args.specs.declared.report.ReportRequest.{ReportRequest}
use Rattle.cj_args.specs.declared.request.ReplayRequest.{ReplayRequest}
use Rattle.cj_args.specs.declared.request.RunRequest.{RunRequest}
use Rattle.cj_args.specs.declared.request.UpcomingRequest.{UpcomingRequest}
use Rattle.cj_args.specs.declared.request.WhyRequest.{WhyRequest}
use Rattle.cj_args.specs.declared.request.ZoneWords.{ZoneWords}
use Rattle.cj_args.specs.declared.scenario.ScenarioRequest.{ScenarioRequest}
use Rattle.cj_args.specs.declared.request.Request.{Request}
use Rattle.cj_args.specs.declared.request.Request.TheVariants.{Audit, Check, Control, Crontab, Describe, Next, Plan, Previous, Replay, Report, Run, Scenario, Upcoming, Why}
use Rattle.cj_args.specs.declared.word_fault.WordFault.{WordFault}
use Rattle.cj_args.specs.declared.word_fault.WordFault.TheVariants.{Incomplete, OutOfMemory, Refused}

abbrev pub schedule_rule : Rule
schedule_rule = record (new_rule (codes "schedule")) { required = true; value_names = 1 }

abbrev pub after_rule : Rule
after_rule = record (new_rule (codes "after"))
    { long = Some (codes "after"); required = true; value_names = 1 }

-- how many due times, and how many where nobody says it
abbrev pub count_rule : Text → Rule
count_rule usual = record (new_rule (codes "count")) {
  long = Some (codes "count");
  value_names = 1;
  parser = Some (Unsigned 1 1_000);
  defaults = usual ∷ [];
}

abbrev pub zone_rule : Rule
zone_rule = record (new_rule (codes "zone")) { long = Some (codes "zone"); value_names = 1 }

-- the name of a zone that is looked up in a folder
-- rule: zoneinfo
abbrev pub time_zone_rule : Rule
time_zone_rule =
    record (new_rule (codes "time-zone")) { long = Some (codes "time-zone"); value_names = 1 }

-- the zones that an input may name: an option that may be given several times
-- rule: zoneinfo
abbrev pub zones_rule : Rule
zones_rule = record (new_rule (codes "zone")) {
  long = Some (codes "zone");
  action = Some Append;
  value_names = 1;
}

-- the folder of zone files
-- rule: zoneinfo
abbrev pub folder_rule : Rule
folder_rule =
    record (new_rule (codes "zoneinfo")) { long = Some (codes "zoneinfo"); value_names = 1 }

-- a flag of every command
-- rule: explain
abbrev pub explain_rule : Rule
explain_rule =
    record (new_rule (codes "explain")) { long = Some (codes "explain"); action = Some SetTrue }

-- `.. [--zoneinfo DIR] [--explain]`
abbrev pub with_folder : App → App
with_folder a = with_rule (with_rule a folder_rule) explain_rule

-- a flag, whose long name is its id
abbrev pub flag_rule : Text → Rule
flag_rule id = record (new_rule id) { long = Some id; action = Some SetTrue }

-- by whose clock times are printed: `.. [--time-zone ZONE] [--local]`
-- rule: local-times
abbrev pub with_clock : App → App
with_clock a = with_rule (with_rule a time_zone_rule) (flag_rule (codes "local"))

-- `.. [--zone NAME=RULE].. [--zoneinfo DIR] [--explain]`
abbrev pub with_zones : App → App
with_zones a = with_folder (with_rule a zones_rule)

-- the form of what is printed, by the letter that `kubectl` has for it, and which it is where
-- nobody says it
-- rule: output
abbrev pub output_rule : Text → Rule
output_rule usual = record (new_rule (codes "output")) {
  long = Some (codes "output");
  short = Some 111;
  value_names = 1;
  defaults = usual ∷ [];
}

-- lines where nobody says it
abbrev pub lines_rule : Rule
lines_rule = output_rule (codes "lines")

-- `cronsim next SCHEDULE --after TIME [--count N] [--zone RULE] [--time-zone NAME] [-o FORMAT]
-- [--zoneinfo DIR] [--explain]`
abbrev pub next_app : App
next_app =
    let from = with_rule (with_rule (new_app (codes "next")) schedule_rule) after_rule in
    let zoned = with_rule (with_rule (with_rule from (count_rule (codes "1"))) zone_rule)
    time_zone_rule in
    with_folder (with_rule zoned lines_rule)

abbrev pub file_rule : Rule
file_rule = record (new_rule (codes "file")) { required = true; value_names = 1 }

-- one file or more
-- rule: check-several
abbrev pub files_rule : Rule
files_rule =
    record file_rule { range = Some (record { start_inclusive = 1; end_inclusive = usize_max }) }

-- a moment that may be left out
abbrev pub moment_rule : Rule
moment_rule = record (new_rule (codes "now")) { long = Some (codes "now"); value_names = 1 }

-- `cronsim check FILE.. [--strict] [--now TIME] [-o FORMAT] [--zone NAME=RULE].. [--zoneinfo DIR]
-- [--explain]`
-- rule: check-strict
abbrev pub check_app : App
check_app =
    let of =
    with_rule (with_rule (new_app (codes "check")) files_rule) (flag_rule (codes "strict")) in
    with_zones (with_rule (with_rule of moment_rule) lines_rule)

abbrev pub now_rule : Rule
now_rule =
    record (new_rule (codes "now")) { long = Some (codes "now"); required = true; value_names = 1 }

-- `cronsim plan FILE --now TIME [-o FORMAT] [--zone NAME=RULE].. [--zoneinfo DIR] [--explain]`
abbrev pub plan_app : App
plan_app = with_zones (with_rule (with_rule (with_rule (new_app (codes "plan")) file_rule) now_rule)
    lines_rule)

-- `cronsim replay FILE [-o FORMAT] [--zone NAME=RULE].. [--zoneinfo DIR] [--explain]`
-- rule: replay-json
abbrev pub replay_app : App
replay_app = with_zones (with_rule (with_rule (new_app (codes "replay")) file_rule) lines_rule)

-- how many workers there are, or how many syncs may be under way at once, and how many where nobody
-- says it
-- rules: run-workers, control-options
abbrev pub workers_rule : Text → Rule
workers_rule usual = record (new_rule (codes "workers")) {
  long = Some (codes "workers");
  value_names = 1;
  parser = Some (Unsigned 1 32);
  defaults = usual ∷ [];
}

-- an option that may be given several times
abbrev pub crons_rule : Rule
crons_rule = record (new_rule (codes "cron")) {
  long = Some (codes "cron");
  action = Some Append;
  value_names = 1;
}

-- the namespace, by the letter that `kubectl` has for it
abbrev pub namespace_rule : Rule
namespace_rule =
    record (new_rule (codes "namespace"))
    { long = Some (codes "namespace"); short = Some 110; value_names = 1 }

-- `cronsim run FILE [--workers N] [--timeline] [--history] [--svg] [-o FORMAT]
-- [--cron [NAMESPACE/]NAME].. [-n NAMESPACE] [--time-zone ZONE] [--local] [--zone NAME=RULE]..
-- [--zoneinfo DIR] [--explain]`
-- rules: run-workers, run-named, local-times
abbrev pub run_app : App
run_app =
    let workers = workers_rule (codes "2") in
    let of = with_rule (with_rule (new_app (codes "run")) file_rule) workers in
    let shown = with_rule (with_rule of (flag_rule (codes "timeline")))
    (flag_rule (codes "history")) in
    let told = with_rule (with_rule shown (flag_rule (codes "svg"))) lines_rule in
    with_zones (with_clock (with_rule (with_rule told crons_rule) namespace_rule))

-- a flag that changes nothing, by the letter that `kubectl` has for it: all namespaces
abbrev pub all_rule : Rule
all_rule = record (flag_rule (codes "all-namespaces")) { short = Some 65 }

-- the file of a command on a cluster: standard input where nobody names one
-- rule: input-default
abbrev pub input_rule : Rule
input_rule = record (new_rule (codes "file")) { value_names = 1; defaults = codes "-" ∷ [] }

-- one such file or more
-- rule: input-default
abbrev pub inputs_rule : Rule
inputs_rule =
    record input_rule { range = Some (record { start_inclusive = 1; end_inclusive = usize_max }) }

-- `cronsim why [FILE] [--now TIME] [--cron [NAMESPACE/]NAME].. [-n NAMESPACE] [-A] [-o FORMAT]
-- [--problems] [--time-zone ZONE] [--local] [--zone NAME=RULE].. [--zoneinfo DIR] [--explain]`
abbrev pub why_app : App
why_app =
    let of = with_rule (with_rule (new_app (codes "why")) input_rule) moment_rule in
    let named = with_rule (with_rule (with_rule of crons_rule) namespace_rule) all_rule in
    with_zones (with_clock (with_rule (with_rule named (output_rule (codes "table")))
    (flag_rule (codes "problems"))))

-- an option with one value, which may be left out
abbrev pub left_rule : Text → Rule
left_rule id = record (new_rule id) { long = Some id; value_names = 1 }

-- `cronsim audit [FILE] [--since TIME] [--now TIME] [--cron [NAMESPACE/]NAME].. [-n NAMESPACE] [-A]
-- [-o FORMAT] [--svg] [--time-zone ZONE] [--local] [--zone NAME=RULE].. [--zoneinfo DIR]
-- [--explain]`
abbrev pub audit_app : App
audit_app =
    let file = with_rule (new_app (codes "audit")) input_rule in
    let of = with_rule (with_rule file (left_rule (codes "since"))) moment_rule in
    let named = with_rule (with_rule (with_rule of crons_rule) namespace_rule) all_rule in
    with_zones (with_clock (with_rule (with_rule named lines_rule) (flag_rule (codes "svg"))))

-- the start of a window, which may be left out
abbrev pub from_rule : Rule
from_rule = record (new_rule (codes "from")) { long = Some (codes "from"); value_names = 1 }

-- how long a window is, a day where nobody says it
-- rule: upcoming-length
abbrev pub length_rule : Rule
length_rule =
    record (new_rule (codes "for"))
    { long = Some (codes "for"); value_names = 1; defaults = codes "24h" ∷ [] }

-- how many of the fullest minutes, none where nobody says it
-- rule: upcoming-peaks
abbrev pub peaks_rule : Rule
peaks_rule = record (new_rule (codes "peaks")) {
  long = Some (codes "peaks");
  value_names = 1;
  parser = Some (Unsigned 0 1_000);
  defaults = codes "0" ∷ [];
}

-- `cronsim upcoming [FILE].. [--from TIME] [--for LENGTH | --until TIME] ..
-- [--cron [NAMESPACE/]NAME].. [-n NAMESPACE] [-A] [--minutes] [--peaks N] [-o FORMAT] [--svg]
-- [--time-zone ZONE] [--local] [--zone NAME=RULE].. [--zoneinfo DIR] [--explain]`
abbrev pub upcoming_app : App
upcoming_app =
    let from = with_rule (with_rule (new_app (codes "upcoming")) inputs_rule) from_rule in
    let of = with_rule (with_rule from length_rule) (left_rule (codes "until")) in
    let named = with_rule (with_rule (with_rule of crons_rule) namespace_rule) all_rule in
    let told = with_rule (with_rule named (flag_rule (codes "minutes"))) peaks_rule in
    with_zones (with_clock (with_rule (with_rule told lines_rule) (flag_rule (codes "svg"))))

-- a start that may be left out
abbrev pub since_rule : Rule
since_rule = record (new_rule (codes "after")) { long = Some (codes "after"); value_names = 1 }

-- a flag that says that the argument is the name of a file
abbrev pub in_file_rule : Rule
in_file_rule = record (flag_rule (codes "file")) { short = Some 102 }

-- `cronsim describe SCHEDULE [-f] [--after TIME] [--count N] [--zone RULE] [--time-zone NAME] [-o
-- FORMAT] [--zoneinfo DIR] [--explain]`
-- rule: describe-file
abbrev pub describe_app : App
describe_app =
    let of = with_rule (with_rule (new_app (codes "describe")) schedule_rule) in_file_rule in
    let from = with_rule of since_rule in
    let zoned = with_rule (with_rule (with_rule from (count_rule (codes "5"))) zone_rule)
    time_zone_rule in
    with_folder (with_rule zoned lines_rule)

-- an option with one value, whose long name is its id, and the value where nobody gives one
abbrev pub usual_rule : Text → Text → Rule
usual_rule id usual =
    record (new_rule id) { long = Some id; value_names = 1; defaults = usual ∷ [] }

-- `cronsim report [FILE].. [--since TIME] [--now TIME] [--cron [NAMESPACE/]NAME].. [-n NAMESPACE]
-- [-A] [--zone NAME=RULE].. [--zoneinfo DIR] [--explain]`
-- rule: report
abbrev pub report_app : App
report_app =
    let of = with_rule (with_rule (new_app (codes "report")) inputs_rule) (left_rule (codes "since")) in
    let named = with_rule (with_rule (with_rule of moment_rule) crons_rule) namespace_rule in
    with_zones (with_rule named all_rule)

-- `cronsim crontab FILE [--system] [--image IMAGE] [--shell SHELL] [-n NAMESPACE] ..`
abbrev pub made_app : App
made_app =
    let of = with_rule (with_rule (new_app (codes "crontab")) file_rule)
    (flag_rule (codes "system")) in
    with_rule (with_rule (with_rule of (left_rule (codes "image"))) (left_rule (codes "shell")))
    namespace_rule

-- `.. [--time-zone NAME] [--now TIME] [-o FORMAT] [--zone NAME=RULE].. [--zoneinfo DIR]
-- [--explain]`
-- rule: crontab
abbrev pub crontab_app : App
crontab_app =
    let at = with_rule (with_rule made_app (left_rule (codes "time-zone"))) (left_rule (codes "now"))
    in
    with_zones (with_rule at lines_rule)

-- `cronsim previous SCHEDULE [--before TIME] [--count N] [--zone RULE] [--time-zone NAME] [-o
-- FORMAT] [--zoneinfo DIR] [--explain]`
-- rule: previous-lines
abbrev pub previous_app : App
previous_app =
    let of = with_rule (new_app (codes "previous")) schedule_rule in
    let upto = with_rule of (left_rule (codes "before")) in
    let zoned = with_rule (with_rule (with_rule upto (count_rule (codes "1"))) zone_rule)
    time_zone_rule in
    with_folder (with_rule zoned lines_rule)

-- `cronsim scenario [FILE] [--from TIME] [--for LENGTH | --until TIME] ..
-- [--cron [NAMESPACE/]NAME].. [-n NAMESPACE] [--zone NAME=RULE].. [--zoneinfo DIR] [--explain]`
-- rule: scenario
abbrev pub scenario_app : App
scenario_app =
    let from = with_rule (with_rule (new_app (codes "scenario")) input_rule) from_rule in
    let of = with_rule (with_rule from length_rule) (left_rule (codes "until")) in
    with_zones (with_rule (with_rule of crons_rule) namespace_rule)

-- labels, by the letter that `kubectl` has for them
abbrev pub selector_rule : Rule
selector_rule = record (new_rule (codes "selector"))
    { long = Some (codes "selector"); short = Some 108; value_names = 1 }

-- `cronsim control [--workers N] [-n NAMESPACE] [-l SELECTOR] [--only-annotated] [--dry-run] ..`
abbrev pub chosen_app : App
chosen_app =
    let workers = workers_rule (codes "8") in
    let of = with_rule (with_rule (new_app (codes "control")) workers) namespace_rule in
    with_rule (with_rule (with_rule of selector_rule) (flag_rule (codes "only-annotated")))
    (flag_rule (codes "dry-run"))

-- `.. [--api-version VERSION] [--replica NAME] [--log FORMAT] [--transcript FILE]
-- [--check FILE] [--zoneinfo DIR] [--explain]`
-- rule: control-options
abbrev pub control_app : App
control_app =
    let of = with_rule chosen_app (usual_rule (codes "api-version") (codes "batch/v1")) in
    let told = with_rule (with_rule of (left_rule (codes "replica")))
    (usual_rule (codes "log") (codes "text")) in
    with_folder (with_rule (with_rule told (left_rule (codes "transcript")))
    (left_rule (codes "check")))

-- the commands on a schedule and on a manifest
abbrev pub reading_app : App
reading_app =
    let bare = new_app (codes "cronsim") in
    let top =
    record bare { top = record bare.top { has_version = true; subcommand_required = true } } in
    with_subcommand (with_subcommand top next_app.top) check_app.top

-- those and the command on a decision
abbrev pub deciding_app : App
deciding_app = with_subcommand reading_app plan_app.top

-- those and the commands that run the controller
abbrev pub acting_app : App
acting_app = with_subcommand (with_subcommand deciding_app replay_app.top) run_app.top

-- those and the commands on a cluster
abbrev pub clustered_app : App
clustered_app = with_subcommand (with_subcommand acting_app why_app.top) audit_app.top

-- those and the commands on the times to come
abbrev pub asked_app : App
asked_app =
    let asked = with_subcommand (with_subcommand clustered_app upcoming_app.top) describe_app.top in
    with_subcommand asked previous_app.top

-- those and the commands that make a page or a scenario of a cluster
abbrev pub made_of_app : App
made_of_app = with_subcommand (with_subcommand asked_app report_app.top) scenario_app.top

-- those and the command that reads a crontab
abbrev pub reported_app : App
reported_app = with_subcommand made_of_app crontab_app.top

-- those and the controller of a cluster
-- rules: words, help
abbrev pub cronsim_app : App
cronsim_app = with_subcommand reported_app control_app.top

-- the text is decimal digits, after a plus or none, that spell the number
abbrev pub IsDecimal : Text → ℕ → Type 0
IsDecimal text n =
    IsNumeral 10 (without_leading_plus text) × (digits_value 10 (without_leading_plus text) ≡ n)

-- `clap` states `true` as the value of a flag that is given
abbrev pub is_true : Option Text → Bool
is_true None = false
is_true (Some text) = bytes_eq text (codes "true")

abbrev pub is_given : Text → List Row → Bool
is_given id rows = is_true (first_of id rows)

-- all values of an argument, in their order; none where it wasn't given
abbrev pub texts_of : Text → List Row → List Text
texts_of id rows = unwrap_or (all_of id rows) []

-- the zones are the values that `clap` states for the options on zones
-- rules: words, zoneinfo
pub record AreZones (rows : List Row) (z : ZoneWords) : Type 0 where
  pub rules : texts_of (codes "zone") rows ≡ map (λ s. s.now) z.rules.items
  pub folder : first_of (codes "zoneinfo") rows ≡ option_map (λ s. s.now) z.folder

-- the clock is that which `clap` states for its options
-- rules: words, local-times
pub record IsClock (rows : List Row) (c : ClockWords) : Type 0 where
  pub zone : first_of (codes "time-zone") rows ≡ option_map (λ s. s.now) c.zone
  pub local : c.is_local ≡ is_given (codes "local") rows

-- what the rows of a command are read as: a request that has the values which `clap` states for its
-- arguments; no request, where none has these values; or no memory
abbrev pub Reads : {R : Type 0} → (R → Type 0) → Result R WordFault → Type 0
Reads {R} Is result =
    IfOk result Is
    × IfErr result (λ e. (e ≡ Incomplete) ⊎ (e ≡ OutOfMemory))
    × IfErr result (λ e. e ≡ Incomplete → (r : R) → ¬ (Is r))

-- the request has the values that `clap` states for the arguments of `next`
pub record IsNext (rows : List Row) (r : NextRequest) : Type 0 where
  pub schedule : first_of (codes "schedule") rows ≡ Some r.schedule.now
  pub after : first_of (codes "after") rows ≡ Some r.after.now
  pub count : (text : Text) × (first_of (codes "count") rows ≡ Some text) × IsDecimal text r.count
  pub least : 1 ≤ r.count
  pub most : r.count ≤ 1_000
  pub zone : first_of (codes "zone") rows ≡ option_map (λ s. s.now) r.zone
  pub time_zone : first_of (codes "time-zone") rows ≡ option_map (λ s. s.now) r.time_zone
  pub output : first_of (codes "output") rows ≡ Some r.output.now
  pub folder : first_of (codes "zoneinfo") rows ≡ option_map (λ s. s.now) r.folder
  pub explain : r.explain ≡ is_given (codes "explain") rows

-- and for those of `check`
pub record IsCheck (rows : List Row) (r : CheckRequest) : Type 0 where
  pub files : texts_of (codes "file") rows ≡ map (λ s. s.now) r.files.items
  pub strict : r.strict ≡ is_given (codes "strict") rows
  pub moment : first_of (codes "now") rows ≡ option_map (λ s. s.now) r.moment
  pub output : first_of (codes "output") rows ≡ Some r.output.now
  pub zones : AreZones rows r.zones
  pub explain : r.explain ≡ is_given (codes "explain") rows

-- and for those of `plan`
pub record IsPlan (rows : List Row) (r : PlanRequest) : Type 0 where
  pub file : first_of (codes "file") rows ≡ Some r.file.now
  pub moment : first_of (codes "now") rows ≡ Some r.moment.now
  pub output : first_of (codes "output") rows ≡ Some r.output.now
  pub zones : AreZones rows r.zones
  pub explain : r.explain ≡ is_given (codes "explain") rows

-- and for those of `replay`
pub record IsReplay (rows : List Row) (r : ReplayRequest) : Type 0 where
  pub file : first_of (codes "file") rows ≡ Some r.file.now
  pub output : first_of (codes "output") rows ≡ Some r.output.now
  pub zones : AreZones rows r.zones
  pub explain : r.explain ≡ is_given (codes "explain") rows

-- and for those of `run`
pub record IsRunOf (rows : List Row) (r : RunRequest) : Type 0 where
  pub file : first_of (codes "file") rows ≡ Some r.file.now
  pub workers : (text : Text) × (first_of (codes "workers") rows ≡ Some text)
      × IsDecimal text r.workers
  pub least : 1 ≤ r.workers
  pub most : r.workers ≤ 32
  pub timeline : r.timeline ≡ is_given (codes "timeline") rows
  pub history : r.history ≡ is_given (codes "history") rows
  pub svg : r.svg ≡ is_given (codes "svg") rows
  pub output : first_of (codes "output") rows ≡ Some r.output.now
  pub crons : texts_of (codes "cron") rows ≡ map (λ s. s.now) r.crons.items
  pub namespace : first_of (codes "namespace") rows ≡ option_map (λ s. s.now) r.namespace
  pub clock : IsClock rows r.clock
  pub zones : AreZones rows r.zones
  pub explain : r.explain ≡ is_given (codes "explain") rows

-- and for those of `why`
pub record IsWhy (rows : List Row) (r : WhyRequest) : Type 0 where
  pub file : first_of (codes "file") rows ≡ Some r.file.now
  pub moment : first_of (codes "now") rows ≡ option_map (λ s. s.now) r.moment
  pub crons : texts_of (codes "cron") rows ≡ map (λ s. s.now) r.crons.items
  pub namespace : first_of (codes "namespace") rows ≡ option_map (λ s. s.now) r.namespace
  pub output : first_of (codes "output") rows ≡ Some r.output.now
  pub problems : r.problems ≡ is_given (codes "problems") rows
  pub clock : IsClock rows r.clock
  pub zones : AreZones rows r.zones
  pub explain : r.explain ≡ is_given (codes "explain") rows

-- and for those of `audit`
pub record IsAudit (rows : List Row) (r : AuditRequest) : Type 0 where
  pub file : first_of (codes "file") rows ≡ Some r.file.now
  pub since : first_of (codes "since") rows ≡ option_map (λ s. s.now) r.since
  pub moment : first_of (codes "now") rows ≡ option_map (λ s. s.now) r.moment
  pub crons : texts_of (codes "cron") rows ≡ map (λ s. s.now) r.crons.items
  pub namespace : first_of (codes "namespace") rows ≡ option_map (λ s. s.now) r.namespace
  pub output : first_of (codes "output") rows ≡ Some r.output.now
  pub svg : r.svg ≡ is_given (codes "svg") rows
  pub clock : IsClock rows r.clock
  pub zones : AreZones rows r.zones
  pub explain : r.explain ≡ is_given (codes "explain") rows

-- and for those of `upcoming`
pub record IsUpcoming (rows : List Row) (r : UpcomingRequest) : Type 0 where
  pub files : texts_of (codes "file") rows ≡ map (λ s. s.now) r.files.items
  pub from : first_of (codes "from") rows ≡ option_map (λ s. s.now) r.from
  pub length : first_of (codes "for") rows ≡ Some r.length.now
  pub until : first_of (codes "until") rows ≡ option_map (λ s. s.now) r.until
  pub crons : texts_of (codes "cron") rows ≡ map (λ s. s.now) r.crons.items
  pub namespace : first_of (codes "namespace") rows ≡ option_map (λ s. s.now) r.namespace
  pub minutes : r.minutes ≡ is_given (codes "minutes") rows
  pub peaks : (text : Text) × (first_of (codes "peaks") rows ≡ Some text) × IsDecimal text r.peaks
  pub most : r.peaks ≤ 1_000
  pub output : first_of (codes "output") rows ≡ Some r.output.now
  pub svg : r.svg ≡ is_given (codes "svg") rows
  pub clock : IsClock rows r.clock
  pub zones : AreZones rows r.zones
  pub explain : r.explain ≡ is_given (codes "explain") rows

-- and for those of `describe`
pub record IsDescribe (rows : List Row) (r : DescribeRequest) : Type 0 where
  pub schedule : first_of (codes "schedule") rows ≡ Some r.schedule.now
  pub is_file : r.is_file ≡ is_given (codes "file") rows
  pub after : first_of (codes "after") rows ≡ option_map (λ s. s.now) r.after
  pub count : (text : Text) × (first_of (codes "count") rows ≡ Some text) × IsDecimal text r.count
  pub least : 1 ≤ r.count
  pub most : r.count ≤ 1_000
  pub zone : first_of (codes "zone") rows ≡ option_map (λ s. s.now) r.zone
  pub time_zone : first_of (codes "time-zone") rows ≡ option_map (λ s. s.now) r.time_zone
  pub output : first_of (codes "output") rows ≡ Some r.output.now
  pub folder : first_of (codes "zoneinfo") rows ≡ option_map (λ s. s.now) r.folder
  pub explain : r.explain ≡ is_given (codes "explain") rows

-- and for those of `previous`
-- rule: previous-lines
pub record IsPrevious (rows : List Row) (r : PreviousRequest) : Type 0 where
  pub schedule : first_of (codes "schedule") rows ≡ Some r.schedule.now
  pub before : first_of (codes "before") rows ≡ option_map (λ s. s.now) r.before
  pub count : (text : Text) × (first_of (codes "count") rows ≡ Some text) × IsDecimal text r.count
  pub least : 1 ≤ r.count
  pub most : r.count ≤ 1_000
  pub zone : first_of (codes "zone") rows ≡ option_map (λ s. s.now) r.zone
  pub time_zone : first_of (codes "time-zone") rows ≡ option_map (λ s. s.now) r.time_zone
  pub output : first_of (codes "output") rows ≡ Some r.output.now
  pub folder : first_of (codes "zoneinfo") rows ≡ option_map (λ s. s.now) r.folder
  pub explain : r.explain ≡ is_given (codes "explain") rows

-- and for those of `scenario`
-- rule: scenario
pub record IsScenario (rows : List Row) (r : ScenarioRequest) : Type 0 where
  pub file : first_of (codes "file") rows ≡ Some r.file.now
  pub from : first_of (codes "from") rows ≡ option_map (λ s. s.now) r.from
  pub length : first_of (codes "for") rows ≡ Some r.length.now
  pub until : first_of (codes "until") rows ≡ option_map (λ s. s.now) r.until
  pub crons : texts_of (codes "cron") rows ≡ map (λ s. s.now) r.crons.items
  pub namespace : first_of (codes "namespace") rows ≡ option_map (λ s. s.now) r.namespace
  pub zones : AreZones rows r.zones
  pub explain : r.explain ≡ is_given (codes "explain") rows

-- and for those of `report`
-- rule: report
pub record IsReport (rows : List Row) (r : ReportRequest) : Type 0 where
  pub files : texts_of (codes "file") rows ≡ map (λ s. s.now) r.files.items
  pub since : first_of (codes "since") rows ≡ option_map (λ s. s.now) r.since
  pub moment : first_of (codes "now") rows ≡ option_map (λ s. s.now) r.moment
  pub crons : texts_of (codes "cron") rows ≡ map (λ s. s.now) r.crons.items
  pub namespace : first_of (codes "namespace") rows ≡ option_map (λ s. s.now) r.namespace
  pub zones : AreZones rows r.zones
  pub explain : r.explain ≡ is_given (codes "explain") rows

-- and for those of `crontab`
-- rule: crontab
pub record IsCrontab (rows : List Row) (r : CrontabRequest) : Type 0 where
  pub file : first_of (codes "file") rows ≡ Some r.file.now
  pub system : r.system ≡ is_given (codes "system") rows
  pub image : first_of (codes "image") rows ≡ option_map (λ s. s.now) r.image
  pub shell : first_of (codes "shell") rows ≡ option_map (λ s. s.now) r.shell
  pub namespace : first_of (codes "namespace") rows ≡ option_map (λ s. s.now) r.namespace
  pub time_zone : first_of (codes "time-zone") rows ≡ option_map (λ s. s.now) r.time_zone
  pub moment : first_of (codes "now") rows ≡ option_map (λ s. s.now) r.moment
  pub output : first_of (codes "output") rows ≡ Some r.output.now
  pub zones : AreZones rows r.zones
  pub explain : r.explain ≡ is_given (codes "explain") rows

-- and for those of `control`
-- rule: control-options
pub record IsControl (rows : List Row) (r : ControlRequest) : Type 0 where
  pub workers : (text : Text) × (first_of (codes "workers") rows ≡ Some text)
      × IsDecimal text r.workers
  pub least : 1 ≤ r.workers
  pub most : r.workers ≤ 32
  pub namespace : first_of (codes "namespace") rows ≡ option_map (λ s. s.now) r.namespace
  pub selector : first_of (codes "selector") rows ≡ option_map (λ s. s.now) r.selector
  pub only_annotated : r.only_annotated ≡ is_given (codes "only-annotated") rows
  pub dry_run : r.dry_run ≡ is_given (codes "dry-run") rows
  pub api_version : first_of (codes "api-version") rows ≡ Some r.api_version.now
  pub replica : first_of (codes "replica") rows ≡ option_map (λ s. s.now) r.replica
  pub log : first_of (codes "log") rows ≡ Some r.log.now
  pub transcript : first_of (codes "transcript") rows ≡ option_map (λ s. s.now) r.transcript
  pub check : first_of (codes "check") rows ≡ option_map (λ s. s.now) r.check
  pub folder : first_of (codes "zoneinfo") rows ≡ option_map (λ s. s.now) r.folder
  pub explain : r.explain ≡ is_given (codes "explain") rows

-- the request is of the subcommand with that name, and has the values of its arguments
abbrev pub IsOfRows : Option (Text × List Row) → Request → Type 0
IsOfRows found (Next r) = (rows : List Row) × (found ≡ Some (codes "next", rows)) × IsNext rows r
IsOfRows found (Check r) = (rows : List Row) × (found ≡ Some (codes "check", rows)) × IsCheck rows r
IsOfRows found (Plan r) = (rows : List Row) × (found ≡ Some (codes "plan", rows)) × IsPlan rows r
IsOfRows found (Replay r) =
    (rows : List Row) × (found ≡ Some (codes "replay", rows)) × IsReplay rows r
IsOfRows found (Run r) = (rows : List Row) × (found ≡ Some (codes "run", rows)) × IsRunOf rows r
IsOfRows found (Why r) = (rows : List Row) × (found ≡ Some (codes "why", rows)) × IsWhy rows r
IsOfRows found (Audit r) = (rows : List Row) × (found ≡ Some (codes "audit", rows)) × IsAudit rows r
IsOfRows found (Upcoming r) =
    (rows : List Row) × (found ≡ Some (codes "upcoming", rows)) × IsUpcoming rows r
IsOfRows found (Describe r) =
    (rows : List Row) × (found ≡ Some (codes "describe", rows)) × IsDescribe rows r
IsOfRows found (Report r) =
    (rows : List Row) × (found ≡ Some (codes "report", rows)) × IsReport rows r
IsOfRows found (Crontab r) =
    (rows : List Row) × (found ≡ Some (codes "crontab", rows)) × IsCrontab rows r
IsOfRows found (Previous r) =
    (rows : List Row) × (found ≡ Some (codes "previous", rows)) × IsPrevious rows r
IsOfRows found (Scenario r) =
    (rows : List Row) × (found ≡ Some (codes "scenario", rows)) × IsScenario rows r
IsOfRows found (Control r) =
    (rows : List Row) × (found ≡ Some (codes "control", rows)) × IsControl rows r

-- the request is of the subcommand that `clap` states for the words, with the values that it states
-- rule: words
abbrev pub IsOf : List Text → Request → Type 0
IsOf words r = IsOfRows (subcommand_of cronsim_app words) r

-- the name of the first of some files
abbrev pub first_file : List (Bor Text) → Option Text
first_file files = option_map (λ s. s.now) (slice_get files 0)

-- the schedules are those of a file's CronJobs: where it is said, and of standard input
-- rule: describe-file
abbrev pub is_in_file : DescribeRequest → Bool
is_in_file r = r.is_file || bytes_eq r.schedule.now (codes "-")

abbrev pub described_file : DescribeRequest → Option Text
described_file r = if is_in_file r then Some r.schedule.now else None

-- the name of the file that a request has read, the first one of several, where it has one read
abbrev pub file_of : Request → Option Text
file_of (Next r) = None
file_of (Check r) = first_file r.files.items
file_of (Plan r) = Some r.file.now
file_of (Replay r) = Some r.file.now
file_of (Run r) = Some r.file.now
file_of (Why r) = Some r.file.now
file_of (Audit r) = Some r.file.now
file_of (Upcoming r) = first_file r.files.items
file_of (Describe r) = described_file r
file_of (Previous r) = None
file_of (Report r) = first_file r.files.items
file_of (Crontab r) = Some r.file.now
file_of (Scenario r) = Some r.file.now
file_of (Control r) = option_map (λ s. s.now) r.check

-- the zones that the words give, where a command takes them
-- rule: zoneinfo
abbrev pub zones_of : Request → Option ZoneWords
zones_of (Next r) = None
zones_of (Check r) = Some r.zones
zones_of (Plan r) = Some r.zones
zones_of (Replay r) = Some r.zones
zones_of (Run r) = Some r.zones
zones_of (Why r) = Some r.zones
zones_of (Audit r) = Some r.zones
zones_of (Upcoming r) = Some r.zones
zones_of (Describe r) = None
zones_of (Previous r) = None
zones_of (Report r) = Some r.zones
zones_of (Crontab r) = Some r.zones
zones_of (Scenario r) = Some r.zones
zones_of (Control r) = None

-- the name of the folder in which a request has zones looked up, where one is given
-- rule: zoneinfo
abbrev pub folder_of : Request → Option Text
folder_of (Next r) = option_map (λ s. s.now) r.folder
folder_of (Check r) = option_map (λ s. s.now) r.zones.folder
folder_of (Plan r) = option_map (λ s. s.now) r.zones.folder
folder_of (Replay r) = option_map (λ s. s.now) r.zones.folder
folder_of (Run r) = option_map (λ s. s.now) r.zones.folder
folder_of (Why r) = option_map (λ s. s.now) r.zones.folder
folder_of (Audit r) = option_map (λ s. s.now) r.zones.folder
folder_of (Upcoming r) = option_map (λ s. s.now) r.zones.folder
folder_of (Describe r) = option_map (λ s. s.now) r.folder
folder_of (Previous r) = option_map (λ s. s.now) r.folder
folder_of (Report r) = option_map (λ s. s.now) r.zones.folder
folder_of (Crontab r) = option_map (λ s. s.now) r.zones.folder
folder_of (Scenario r) = option_map (λ s. s.now) r.zones.folder
folder_of (Control r) = option_map (λ s. s.now) r.folder

-- whether a request has its refusal explained
-- rule: explain
abbrev pub explains : Request → Bool
explains (Next r) = r.explain
explains (Check r) = r.explain
explains (Plan r) = r.explain
explains (Replay r) = r.explain
explains (Run r) = r.explain
explains (Why r) = r.explain
explains (Audit r) = r.explain
explains (Upcoming r) = r.explain
explains (Describe r) = r.explain
explains (Previous r) = r.explain
explains (Report r) = r.explain
explains (Crontab r) = r.explain
explains (Scenario r) = r.explain
explains (Control r) = r.explain

-- when words are refused: `clap` doesn't take them, or no request has the values that it states for
-- them
-- rule: words
abbrev pub RefusesWords : List Text → WordFault → Type 0
RefusesWords words (Refused e) = takes cronsim_app words ≢ true
RefusesWords words Incomplete = (r : Request) → ¬ (IsOf words r)
RefusesWords words OutOfMemory = ⊤

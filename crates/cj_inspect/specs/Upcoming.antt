-- What `upcoming` answers of CronJobs.
use Rattle.std.specs.Prelude.{◌≡◌, ◌⊎◌, ℕ, ◌+◌, ◌-◌, ◌≤◌, nat_le, List, [], ◌∷◌, ◌++◌, ◌&&◌, ◌||◌, not, bytes_eq, length, map, nat_lt, Option, None, Some, IfSome, option_map, Bool, true, false, codes, decimal, ◌==◌, if◌then◌else◌}
use Rattle.std.specs.Borrow.{Bor}
use Rattle.std.specs.List.{list_all, list_any}
use Rattle.cj_base.specs.Instant.{last_second}
use Rattle.cj_zone.specs.declared.zone.Zone.{Zone}
use Rattle.cj_zone.specs.Table.{zones_of}
use Rattle.cj_due.specs.Due.{reach}
use Rattle.cj_cluster.specs.declared.cron.ClusterCron.{ClusterCron}
use Rattle.cj_cluster.specs.declared.kubectl.fault.ListFault.{ListFault}
use Rattle.cj_upcoming.specs.Length.{length_of}
use Rattle.cj_answers.specs.Spans.{span_of}
use Rattle.cj_upcoming.specs.Upcoming.{HasMore}
use Rattle.cj_upcoming.specs.Window.{Span}
use Rattle.cj_args.specs.declared.request.UpcomingRequest.{UpcomingRequest}
use Rattle.cj_io.specs.declared.zone_files.file.ZoneFile.{ZoneFile}
use Rattle.cj_inspect.specs.declared.cron_files.CronFile.{CronFile}
use Rattle.cj_inspect.specs.declared.cron_files.FileCrons.{FileCrons}
use Rattle.cj_inspect.specs.declared.upcoming.Asked.{Asked}
use Rattle.cj_inspect.specs.declared.upcoming.Asked.TheVariants as Is
use Rattle.cj_answers.specs.Clusters.{RefusesList, ending_by, is_read, note_lines, note_words}
use Rattle.cj_inspect.specs.CronFiles.{AreFiles, Stops}
use Rattle.cj_answers.specs.Given.{AreGiven, IsNoneGiven, pair_words}
use Rattle.cj_answers.specs.Marks.{marked}
use Rattle.cj_answers.specs.Moments.{asked_moment, moment_of}
use Rattle.cj_answers.specs.Outcome.{IsInForm, Outcome, RefusesForm, explained, outcome_of, refusal}
use Rattle.cj_inspect.specs.Why.{IsNoticed, chosen, is_noted, is_noted_in, is_nothing, line_where}
use Rattle.cj_inspect.specs.Nights.{TellsNights}
use Rattle.cj_inspect.specs.Windows.{IsCounted, IsSummed, window_look}
use Rattle.cj_answers.specs.as_json.Forms.{is_json}
use Rattle.cj_inspect.specs.as_json.Upcoming.{IsWindowJson, files_data}

-- ---- what the files have

-- the CronJobs of all files, one file after another
-- rule: upcoming-files
abbrev pub all_crons : List FileCrons → List ClusterCron
all_crons [] = []
all_crons (f ∷ fs) = f.crons ++ all_crons fs

-- no item of theirs was refused
-- rule: upcoming-status
abbrev pub are_read : List FileCrons → Bool
are_read fs = list_all (λ f. is_read f.list.notes) fs

abbrev pub is_several : List FileCrons → Bool
is_several fs = nat_lt 1 (length fs)

-- of several files each line begins with its file
-- rule: upcoming-files
abbrev pub mark_for : Bool → List ℕ → List ℕ
mark_for true name = name ++ codes ": "
mark_for false name = []

-- the items that can't be used, in lines
abbrev pub file_lines : Bool → FileCrons → List ℕ
file_lines several f = marked (mark_for several f.name) (note_lines f.list.notes)

abbrev pub all_lines : Bool → List FileCrons → List ℕ
all_lines several [] = []
all_lines several (f ∷ fs) = file_lines several f ++ all_lines several fs

-- what is wrong with them
abbrev pub file_words : Bool → FileCrons → List ℕ
file_words several f = marked (mark_for several f.name) (note_words f.list.notes)

abbrev pub all_words : Bool → List FileCrons → List ℕ
all_words several [] = []
all_words several (f ∷ fs) = file_words several f ++ all_words several fs

-- ---- which CronJobs

-- an item that can't be used is of a CronJob that is called so
abbrev pub is_noted_of : Option (List ℕ) → List ℕ → FileCrons → Bool
is_noted_of within text f = list_any (λ note. is_noted within text note.cron) f.list.notes

-- no CronJob of the files is called so, and no item that can't be used
-- rule: why-named
abbrev pub is_unknown : Option (List ℕ) → List FileCrons → List ClusterCron → Bor (List ℕ) → Bool
is_unknown within fs crons t =
    is_nothing (chosen within (t ∷ []) crons) && not (list_any (is_noted_of within t.now) fs)

-- of each that is unknown
abbrev pub unknown_lines : Option (List ℕ) → List FileCrons → List ClusterCron
    → List (Bor (List ℕ)) → List ℕ
unknown_lines within fs crons [] = []
unknown_lines within fs crons (t ∷ ts) =
    line_where (is_unknown within fs crons t) t.now ++ unknown_lines within fs crons ts

abbrev pub within_of : UpcomingRequest → Option (List ℕ)
within_of r = option_map (λ s. s.now) r.namespace

abbrev pub unknown_of : UpcomingRequest → List FileCrons → List ℕ
unknown_of r fs = unknown_lines (within_of r) fs (all_crons fs) r.crons.items

-- those that are meant, one file after another
-- rules: upcoming-files, why-named
abbrev pub meant_of : UpcomingRequest → List FileCrons → List ClusterCron
meant_of r fs = chosen (within_of r) r.crons.items (all_crons fs)

-- ---- the answer

-- one of those that are named is unknown, as these lines say
pub record RefusesUnknown (r : UpcomingRequest) (fs : List FileCrons) (o : Outcome) : Type 0 where
  pub some : is_nothing (unknown_of r fs) ≡ false
  pub answer : o ≡ explained r.explain (unknown_of r fs) (refusal (codes "cronsim: cron\n"))

-- the greatest number of starts that are listed
-- rule: upcoming-most
abbrev pub most_starts : ℕ
most_starts = 4_000_000

-- what helps where they are more
-- rules: explain, upcoming-most
abbrev pub many_words : List ℕ
many_words = codes "--for: more than 4000000 starts in the window; want a shorter one, or fewer CronJobs by --cron or -n\n"

-- they are more
pub record RefusesMany (r : UpcomingRequest) (zones : List Zone) (w : Span) (fs : List FileCrons)
    (o : Outcome) : Type 0 where
  pub more : HasMore zones w (meant_of r fs) most_starts
  pub answer : o ≡ explained r.explain many_words (refusal (codes "cronsim: starts\n"))

-- `FILE: objects of other kinds, passed over: N`, of several files with the name of the file
abbrev pub passed_mark : Bool → List ℕ → List ℕ
passed_mark true name = name
passed_mark false name = codes "FILE"

-- nothing is said where there are none
abbrev pub passed_words : Bool → List ℕ → ℕ → List ℕ
passed_words true mark count = []
passed_words false mark count =
    mark ++ (codes ": objects of other kinds, passed over: " ++ (decimal count ++ codes "\n"))

-- rule: upcoming-manifests
abbrev pub passed_line : Bool → FileCrons → List ℕ
passed_line several f = passed_words (f.passed == 0) (passed_mark several f.name) f.passed

abbrev pub passed_lines : Bool → List FileCrons → List ℕ
passed_lines several [] = []
passed_lines several (f ∷ fs) = passed_line several f ++ passed_lines several fs

-- done where no item was refused
-- rules: upcoming-manifests, upcoming-status
abbrev pub told : List FileCrons → List ℕ → Outcome
told fs text = record {
  ending = ending_by (are_read fs);
  printed = text;
  said = passed_lines (is_several fs) fs;
}

-- the items that can't be used, then the lines of the window
pub record IsWindowLines (zones : List Zone) (w : Span) (fs : List FileCrons)
    (crons : List ClusterCron) (most : ℕ) (text : List ℕ) : Type 0 where
  pub lines : List ℕ
  pub window : IsCounted zones w crons most lines
  pub are : text ≡ all_lines (is_several fs) fs ++ lines

-- those items, then a line for each CronJob, and what else is told of the window
-- rule: upcoming-summary
pub record IsWindowSum (zones : List Zone) (w : Span) (fs : List FileCrons)
    (crons : List ClusterCron) (text : List ℕ) : Type 0 where
  pub lines : List ℕ
  pub window : IsSummed zones w crons lines
  pub are : text ≡ all_lines (is_several fs) fs ++ lines

-- the minutes where they are asked for
-- rules: upcoming-lines, upcoming-summary
abbrev pub IsWindowTold : Bool → List Zone → Span → List FileCrons → List ClusterCron → ℕ
    → List ℕ → Type 0
IsWindowTold true zones w fs crons most text = IsWindowLines zones w fs crons most text
IsWindowTold false zones w fs crons most text = IsWindowSum zones w fs crons text

-- in JSON, or in lines
-- rules: upcoming-json, upcoming-lines
abbrev pub IsWindowPrinted : Bool → Bool → List Zone → Span → List FileCrons → List ClusterCron → ℕ
    → List ℕ → Type 0
IsWindowPrinted true minutes zones w fs crons most text =
    IsWindowJson zones w crons most (files_data (is_several fs) fs) text
IsWindowPrinted false minutes zones w fs crons most text =
    IsWindowTold minutes zones w fs crons most text

-- a picture, of which nothing is said; or else that
-- rule: upcoming-svg
abbrev pub IsWindowShown : Bool → Bool → Bool → List Zone → Span → List FileCrons
    → List ClusterCron → ℕ → List ℕ → Type 0
IsWindowShown true json minutes zones w fs crons most text = Unit {0}
IsWindowShown false json minutes zones w fs crons most text =
    IsWindowPrinted json minutes zones w fs crons most text

-- with what clocks do in the window
-- rule: clock-nights
pub record TellsWindow (r : UpcomingRequest) (zones : List Zone) (w : Span) (fs : List FileCrons)
    (o : Outcome) : Type 0 where
  pub text : List ℕ
  pub window : IsWindowShown r.svg (is_json r.output.now) r.minutes zones w fs (meant_of r fs)
      r.peaks text
  pub nights : TellsNights r.explain zones (window_look w) (map (λ c. c.cron) (meant_of r fs))
      (explained r.explain (all_words (is_several fs) fs) (told fs text)) o

-- a CronJob of the files is in the namespace that is given, if one is, be it one that can't be used
-- rule: why-named
abbrev pub has_home : Option (List ℕ) → List FileCrons → Bool
has_home None fs = true
has_home (Some namespace) fs =
    list_any (λ c. bytes_eq c.cron.key.namespace namespace) (all_crons fs)
    || list_any (λ f. list_any (λ note. is_noted_in namespace note.cron) f.list.notes) fs

-- with what is told beside it
-- rules: upcoming-status, why-named
pub record TellsNoticed (r : UpcomingRequest) (zones : List Zone) (w : Span) (fs : List FileCrons)
    (o : Outcome) : Type 0 where
  pub base : Outcome
  pub tells : RefusesMany r zones w fs base ⊎ TellsWindow r zones w fs base
  pub notices : IsNoticed (has_home (within_of r) fs) false base o

-- the CronJobs that are named are all there
pub record TellsKnown (r : UpcomingRequest) (zones : List Zone) (w : Span) (fs : List FileCrons)
    (o : Outcome) : Type 0 where
  pub known : is_nothing (unknown_of r fs) ≡ true
  pub tells : TellsNoticed r zones w fs o

-- the answer for what the files have
-- rule: upcoming-lines
abbrev pub IsTold : UpcomingRequest → List Zone → Span → List FileCrons → Outcome → Type 0
IsTold r zones w fs o = RefusesUnknown r fs o ⊎ TellsKnown r zones w fs o

-- a file is refused as it would be alone; of several files its lines begin with its name
pub record RefusesMarked (explain several : Bool) (file : CronFile) (o : Outcome) : Type 0 where
  pub alone : Outcome
  pub refuses : RefusesList explain file.bytes.now alone
  pub answer : o ≡ record alone { said = marked (mark_for several file.name.now) alone.said }

-- a file is neither a manifest nor what a client prints; the first such file is named
-- rule: upcoming-files
pub record RefusesFile (r : UpcomingRequest) (zones : List Zone) (files : List CronFile)
    (o : Outcome) : Type 0 where
  pub file : CronFile
  pub fault : ListFault
  pub stops : Stops zones files file fault
  pub refuses : RefusesMarked r.explain (nat_lt 1 (length files)) file o

-- else what they have
pub record TellsFiles (r : UpcomingRequest) (zones : List Zone) (w : Span) (files : List CronFile)
    (o : Outcome) : Type 0 where
  pub found : List FileCrons
  pub read : AreFiles zones files found
  pub tells : IsTold r zones w found o

-- the answer for the files
-- rule: upcoming-files
abbrev pub IsToldOf : UpcomingRequest → List Zone → Span → List CronFile → Outcome → Type 0
IsToldOf r zones w files o = RefusesFile r zones files o ⊎ TellsFiles r zones w files o

-- ---- the words

-- what a start has to be
-- rules: explain, moment-text
abbrev pub from_words : List ℕ
from_words = codes "--from: want a time like 2024-01-01T00:00:00Z or 2024-01-01T01:00:00+01:00, a date like 2024-01-01, now, or -1h or +2d from now\n"

-- the start is refused then
pub record RefusesStart (r : UpcomingRequest) (o : Outcome) : Type 0 where
  pub start : asked_moment r.from ≡ None
  pub answer : o ≡ explained r.explain from_words (refusal (codes "cronsim: time\n"))

-- the window from an instant on has this length, or ends too late
-- rules: upcoming-window, upcoming-length
abbrev pub IsWindow : ℕ → Option ℕ → Span → Type 0
IsWindow from None w = ⊥
IsWindow from (Some n) w = (w.from ≡ from) × (w.end ≡ from + n)

abbrev pub IsNoWindow : ℕ → Option ℕ → Type 0
IsNoWindow from None = Unit {0}
IsNoWindow from (Some n) = (n ≤ reach) × (from + n ≤ last_second) → ⊥

-- what a length has to be
-- rules: explain, upcoming-length
abbrev pub length_words : List ℕ
length_words = codes "--for: want units s, m, h, d, w, as 90m, 24h, 7d or 1h30m, at most 3000d, and an end before the year 9999\n"

-- so long from one instant to another that isn't before it
abbrev pub between : ℕ → Option ℕ → Option ℕ
between from None = None
between from (Some end) = if nat_le from end then Some (end - from) else None

-- a length of one unit, or else of several
-- rule: upcoming-length
abbrev pub or_span : Option ℕ → List ℕ → Option ℕ
or_span (Some length) text = Some length
or_span None text = span_of text

-- how long the window is: up to the moment that is given as its end, else as its length says
-- rule: upcoming-until
abbrev pub length_for : ℕ → List ℕ → Option (Bor (List ℕ)) → Option ℕ
length_for from text None = or_span (length_of text) text
length_for from text (Some until) = between from (moment_of until.now)

-- what an end has to be
-- rule: upcoming-until
abbrev pub until_words : List ℕ
until_words = codes "--until: want a moment as --from, not before the start and at most 3000d behind it\n"

-- what is wanted of a window that is refused
-- rules: upcoming-length, upcoming-until
abbrev pub end_words : Option (Bor (List ℕ)) → List ℕ
end_words None = length_words
end_words (Some until) = until_words

-- then the length
pub record RefusesLength (r : UpcomingRequest) (o : Outcome) : Type 0 where
  pub from : ℕ
  pub start : asked_moment r.from ≡ Some from
  pub none : IsNoWindow from (length_for from r.length.now r.until)
  pub answer : o ≡ explained r.explain (end_words r.until) (refusal (codes "cronsim: length\n"))

pub record IsWindowOf (r : UpcomingRequest) (w : Span) : Type 0 where
  pub from : ℕ
  pub start : asked_moment r.from ≡ Some from
  pub window : IsWindow from (length_for from r.length.now r.until) w

-- then a zone
pub record RefusesUpcomingZone (r : UpcomingRequest) (files : List ZoneFile) (o : Outcome)
    : Type 0 where
  pub w : Span
  pub window : IsWindowOf r w
  pub zones : IsNoneGiven r.zones files
  pub answer : o ≡ explained r.explain pair_words (refusal (codes "cronsim: zone\n"))

abbrev pub RefusesWindow : UpcomingRequest → List ZoneFile → Outcome → Type 0
RefusesWindow r files o = RefusesStart r o ⊎ RefusesLength r o ⊎ RefusesUpcomingZone r files o

-- the form is looked at first; nothing is read then
abbrev pub RefusesWords : UpcomingRequest → List ZoneFile → Outcome → Type 0
RefusesWords r files o =
    RefusesForm r.explain r.output.now o ⊎ IsInForm r.output.now (RefusesWindow r files o)

-- the window and the zones of the words
pub record IsWanted (r : UpcomingRequest) (files : List ZoneFile) (w : Span) (zones : List Zone)
    : Type 0 where
  pub window : IsWindowOf r w
  pub zones_are : AreGiven r.zones files zones

abbrev pub IsWindowAsked : UpcomingRequest → List ZoneFile → Asked → Type 0
IsWindowAsked r files (Is.Known w zones) = IsWanted r files w (zones_of zones)
IsWindowAsked r files (Is.Refused a) = RefusesWindow r files (outcome_of a)

-- in a form that there is
abbrev pub IsAsked : UpcomingRequest → List ZoneFile → Asked → Type 0
IsAsked r files (Is.Known w zones) = IsInForm r.output.now (IsWanted r files w (zones_of zones))
IsAsked r files (Is.Refused a) = RefusesWords r files (outcome_of a)

-- what the files are answered
pub record TellsGiven (r : UpcomingRequest) (files : List ZoneFile) (sources : List CronFile)
    (o : Outcome) : Type 0 where
  pub w : Span
  pub zones : List Zone
  pub wanted : IsInForm r.output.now (IsWanted r files w zones)
  pub tells : IsToldOf r zones w sources o

-- what `upcoming` answers of several files that were read
-- rules: upcoming-files, upcoming-json, upcoming-lines
abbrev pub IsUpcomingFiles : UpcomingRequest → List ZoneFile → List CronFile → Outcome → Type 0
IsUpcomingFiles r files sources o = RefusesWords r files o ⊎ TellsGiven r files sources o

-- what is read, all of the input, is the one file
pub record TellsInput (r : UpcomingRequest) (files : List ZoneFile) (input : Option (List ℕ))
    (o : Outcome) : Type 0 where
  pub source : CronFile
  pub bytes_are : IfSome input (λ xs. source.bytes.now ≡ xs)
  pub fits : length source.bytes.now ≤ 268_435_456
  pub tells : TellsGiven r files (source ∷ []) o

-- what `upcoming` answers, where the input is known
-- rules: upcoming-files, upcoming-json, upcoming-lines
abbrev pub IsUpcomingOutcome : UpcomingRequest → List ZoneFile → Option (List ℕ) → Outcome → Type 0
IsUpcomingOutcome r files input o = RefusesWords r files o ⊎ TellsInput r files input o

-- What `why` answers of a cluster.
use Rattle.std.specs.Prelude.{◌≡◌, ◌⊎◌, ℕ, ◌==◌, ◌≤◌, nat_lt, List, [], ◌∷◌, ◌++◌, ◌&&◌, ◌||◌, not, filter, length, map as map_list, Option, None, Some, IfSome, option_map, unwrap_or, Bool, true, false, bytes_eq, codes}
use Rattle.std.specs.Borrow.{Bor}
use Rattle.std.specs.List.{list_all, list_any}
use Rattle.std.specs.FinMap as map
use Rattle.cj_zone.specs.declared.zone.Zone.{Zone}
use Rattle.cj_cluster.specs.declared.cron.ClusterCron.{ClusterCron}
use Rattle.cj_cluster.specs.kubectl.Reading.{IsClusterList}
use Rattle.cj_cluster.specs.declared.kubectl.list.ClusterList.{ClusterList}
use Rattle.cj_cluster.specs.declared.kubectl.named.CronName.{CronName}
use Rattle.cj_cluster.specs.declared.kubectl.notes.ItemNote.{ItemNote}
use Rattle.cj_cluster.specs.kubectl.Named.{key_text}
use Rattle.cj_why.specs.reviews.Rows.{AreLined, AreRows}
use Rattle.cj_why.specs.reviews.Table.{IsTable}
use Rattle.cj_why.specs.reviews.Words.{IsReview}
use Rattle.cj_why.specs.declared.reviews.rows.CronRow.{CronRow}
use Rattle.cj_args.specs.declared.request.WhyRequest.{WhyRequest}
use Rattle.cj_io.specs.declared.zone_files.file.ZoneFile.{ZoneFile}
use Rattle.cj_answers.specs.declared.answer.Ending.{Ending}
use Rattle.cj_answers.specs.declared.answer.Ending.TheVariants.{Refused}
use Rattle.cj_answers.specs.Clusters.{RefusesList, ending_by, is_read, note_lines, note_words}
use Rattle.cj_answers.specs.Given.{AreGiven, IsNoneGiven, pair_words}
use Rattle.cj_answers.specs.Moments.{asked_moment, moment_words}
use Rattle.cj_answers.specs.Outcome.{Outcome, explained, refusal}
use Rattle.cj_answers.specs.as_json.Forms.{IsJsonLine, is_json}
use Rattle.cj_inspect.specs.as_json.Why.{why_data}
use Rattle.cj_inspect.specs.Calls.{AreCallsJson}
use Rattle.cj_inspect.specs.Failures.{failed_lines}
use Rattle.cj_inspect.specs.Nights.{IsNightData, TellsNights}
use Rattle.cj_inspect.specs.declared.nights.look.Look.TheVariants.{Around}
use Rattle.cj_why.specs.reviews.CronJson.{AreCronJson}
use Rattle.serde_json.specs.Data.{Data}

-- ---- which CronJobs

abbrev pub is_nothing : {A : Type 0} → List A → Bool
is_nothing [] = true
is_nothing (x ∷ xs) = false

-- the namespace is the one that is given, if one is
-- rule: why-named
abbrev pub is_within : Option (List ℕ) → List ℕ → Bool
is_within None namespace = true
is_within (Some given) namespace = bytes_eq namespace given

-- the text is the key, or the name in the namespace that is given, else in `default`, as a client
-- has it
-- rule: why-named
abbrev pub is_called : Option (List ℕ) → List ℕ → List ℕ → List ℕ → List ℕ → Bool
is_called within text key namespace name =
    bytes_eq key text
    || (bytes_eq name text && bytes_eq namespace (unwrap_or within (codes "default")))

-- one of the texts is, or there are none; and the namespace is the one that is given
-- rule: why-named
abbrev pub is_meant : Option (List ℕ) → List (Bor (List ℕ)) → ClusterCron → Bool
is_meant within texts c =
    is_within within c.cron.key.namespace
    && (is_nothing texts
    || list_any (λ t. is_called within t.now (key_text c.cron.key.namespace c.cron.key.name)
    c.cron.key.namespace c.cron.key.name) texts)

-- those that are meant, in the order of their keys
-- rules: why-lines, why-named
abbrev pub chosen : Option (List ℕ) → List (Bor (List ℕ)) → List ClusterCron → List ClusterCron
chosen within texts crons = filter (is_meant within texts) crons

-- the item that can't be used is of a CronJob that is called so
abbrev pub is_noted : Option (List ℕ) → List ℕ → Option CronName → Bool
is_noted within text None = false
is_noted within text (Some n) =
    is_within within n.namespace && is_called within text n.key n.namespace n.name

-- no CronJob of the list is called so, and no item that can't be used
-- rule: why-named
abbrev pub is_unknown : Option (List ℕ) → List ClusterCron → List ItemNote → Bor (List ℕ) → Bool
is_unknown within crons notes t =
    is_nothing (chosen within (t ∷ []) crons)
    && not (list_any (λ note. is_noted within t.now note.cron) notes)

unfoldable pub unknown_end : List ℕ
unknown_end = codes "; want NAMESPACE/NAME, or NAME in the namespace of -n, else in default\n"

-- what a CronJob's name has to be
-- rules: explain, why-named
abbrev pub unknown_line : List ℕ → List ℕ
unknown_line text = codes "--cron: no CronJob of the list is " ++ (text ++ unknown_end)

abbrev pub line_where : Bool → List ℕ → List ℕ
line_where false text = []
line_where true text = unknown_line text

abbrev pub line_of : Option (List ℕ) → List ClusterCron → List ItemNote → Bor (List ℕ) → List ℕ
line_of within crons notes t = line_where (is_unknown within crons notes t) t.now

-- of each that is unknown
abbrev pub unknown_lines : Option (List ℕ) → List ClusterCron → List ItemNote
    → List (Bor (List ℕ)) → List ℕ
unknown_lines within crons notes [] = []
unknown_lines within crons notes (t ∷ ts) =
    line_of within crons notes t ++ unknown_lines within crons notes ts

abbrev pub within_of : WhyRequest → Option (List ℕ)
within_of r = option_map (λ s. s.now) r.namespace

abbrev pub unknown_of : WhyRequest → ClusterList → List ℕ
unknown_of r list =
    unknown_lines (within_of r) (map.values list.cluster.crons) list.notes r.crons.items

abbrev pub meant_of : WhyRequest → ClusterList → List ClusterCron
meant_of r list = chosen (within_of r) r.crons.items (map.values list.cluster.crons)

-- an item may be of a CronJob in the namespace that is given, if one is
abbrev pub is_near : Option (List ℕ) → Option CronName → Bool
is_near None cron = true
is_near (Some namespace) None = true
is_near (Some namespace) (Some n) = bytes_eq n.namespace namespace

-- an item that can't be used is told of: where CronJobs are named, one that is of such a CronJob,
-- else one that may be of the namespace
-- rule: why-named
abbrev pub is_told : Option (List ℕ) → List (Bor (List ℕ)) → ItemNote → Bool
is_told within texts note =
    (is_nothing texts && is_near within note.cron)
    || list_any (λ t. is_noted within t.now note.cron) texts

-- the list with the items that are told of
-- rule: why-named
abbrev pub narrowed : WhyRequest → ClusterList → ClusterList
narrowed r list = record {
  cluster = list.cluster;
  notes = filter (is_told (within_of r) r.crons.items) list.notes;
}

-- ---- what is told beside the answer

-- the item that can't be used is a CronJob of that namespace
abbrev pub is_noted_in : List ℕ → Option CronName → Bool
is_noted_in namespace None = false
is_noted_in namespace (Some n) = bytes_eq n.namespace namespace

-- a CronJob of the list is in the namespace that is given, if one is, be it one that can't be used
-- rule: why-named
abbrev pub has_home : Option (List ℕ) → ClusterList → Bool
has_home None list = true
has_home (Some namespace) list =
    list_any (λ c. bytes_eq c.cron.key.namespace namespace) (map.values list.cluster.crons)
    || list_any (λ note. is_noted_in namespace note.cron) list.notes

-- there are CronJobs, and the moment is before the creation of each
-- rule: why-early
abbrev pub is_early : ℕ → List ClusterCron → Bool
is_early now crons =
    not (is_nothing crons) && list_all (λ c. nat_lt now c.cron.meta.created) crons

-- there is no CronJob, and no item that is refused or of another kind
-- rule: why-early
abbrev pub is_bare : ClusterList → Bool
is_bare list = is_nothing (map.values list.cluster.crons) && is_nothing list.notes

-- refused where no CronJob is in the namespace
abbrev pub ending_at_home : Bool → Ending → Ending
ending_at_home true ending = ending
ending_at_home false ending = Refused

-- with words before what is said
abbrev pub noticed : Bool → List ℕ → Outcome → Outcome
noticed home words o = record {
  ending = ending_at_home home o.ending;
  printed = o.printed;
  said = words ++ o.said;
}

-- such words are there just where no CronJob is in the namespace, or the moment is before all of
-- them; the first is refused
-- rules: why-named, why-early, why-status
pub record IsNoticed (home early : Bool) (base o : Outcome) : Type 0 where
  pub words : List ℕ
  pub none : is_nothing words ≡ (home && not early)
  pub answer : o ≡ noticed home words base

-- ---- the form of what is printed

abbrev pub is_lines : List ℕ → Bool
is_lines text = bytes_eq text (codes "lines")

-- rule: why-output
abbrev pub is_output : List ℕ → Bool
is_output text = (bytes_eq text (codes "table") || is_lines text) || is_json text

-- what a form has to be
-- rules: explain, why-output
abbrev pub output_words : List ℕ
output_words = codes "--output: want table, lines, json or yaml\n"

-- why, in full: people ask for it, or name one CronJob
-- rule: why-table
abbrev pub is_full : WhyRequest → Bool
is_full r = r.explain || (length r.crons.items == 1)

-- ---- the answer

-- one of those that are named is unknown, as these lines say
-- rule: why-named
pub record RefusesCron (r : WhyRequest) (unknown : List ℕ) (o : Outcome) : Type 0 where
  pub some : is_nothing unknown ≡ false
  pub answer : o ≡ explained r.explain unknown (refusal (codes "cronsim: cron\n"))

-- where only those are printed that need attention, there is none
-- rule: why-status
abbrev pub is_fine : {A : Type 0} → WhyRequest → List A → Bool
is_fine r shown = not r.problems || is_nothing shown

-- done where no item was refused, and none of those needs attention
-- rule: why-status
abbrev pub reviewed : Bool → List ItemNote → List ℕ → Outcome
reviewed fine notes printed = record {
  ending = ending_by (is_read notes && fine);
  printed = note_lines notes ++ printed;
  said = [];
}

-- the items that can't be used, then the lines of the CronJobs
-- rules: why-lines, why-problems
pub record PrintsReview (r : WhyRequest) (zones : List Zone) (now : ℕ) (list : ClusterList)
    (o : Outcome) : Type 0 where
  pub lined : List ClusterCron
  pub are : AreLined r.problems zones list.cluster now (meant_of r list) lined
  pub printed : List ℕ
  pub said : List ℕ
  pub review : IsReview r.explain zones list.cluster now lined printed said
  pub answer : o ≡ explained r.explain (note_words list.notes ++ said)
      (reviewed (is_fine r lined) list.notes printed)

-- the items that can't be used, then the table of the CronJobs
-- rules: why-table, why-problems
pub record PrintsTable (r : WhyRequest) (zones : List Zone) (now : ℕ) (list : ClusterList)
    (o : Outcome) : Type 0 where
  pub rows : List CronRow
  pub are : AreRows r.problems (is_full r) zones list.cluster now (meant_of r list) rows
  pub table : List ℕ
  pub laid : IsTable (is_full r) now (length (map.values list.cluster.crons)) rows table
  pub answer : o ≡ explained r.explain (note_words list.notes)
      (reviewed (is_fine r rows) list.notes table)

-- what is known of these CronJobs, what their next syncs would write, and what their clocks do, as
-- one JSON value
-- rules: why-json, why-calls, clock-nights
pub record IsWhyJson (zones : List Zone) (now : ℕ) (list : ClusterList) (lined : List ClusterCron)
    (text : List ℕ) : Type 0 where
  pub crons : List Data
  pub are : AreCronJson zones list.cluster now lined crons
  pub calls : List Data
  pub told : AreCallsJson zones list.cluster now lined calls
  pub clocks : Data
  pub clocks_are : IsNightData clocks
  pub line : IsJsonLine (why_data now calls clocks crons list.notes) text

-- that alone is printed, and done where no item was refused, and none of those needs attention
-- rule: why-status
abbrev pub valued : Bool → List ItemNote → List ℕ → Outcome
valued fine notes printed =
    record { ending = ending_by (is_read notes && fine); printed = printed; said = [] }

-- of all CronJobs that are meant, or of those that need attention
-- rules: why-json, why-problems
pub record PrintsJson (r : WhyRequest) (zones : List Zone) (now : ℕ) (list : ClusterList)
    (o : Outcome) : Type 0 where
  pub lined : List ClusterCron
  pub are : AreLined r.problems zones list.cluster now (meant_of r list) lined
  pub printed : List ℕ
  pub value : IsWhyJson zones now list lined printed
  pub answer : o ≡ explained r.explain (note_words list.notes)
      (valued (is_fine r lined) list.notes printed)

-- as JSON, or in a table
abbrev pub IsWhole : Bool → WhyRequest → List Zone → ℕ → ClusterList → Outcome → Type 0
IsWhole true r zones now list o = PrintsJson r zones now list o
IsWhole false r zones now list o = PrintsTable r zones now list o

-- in lines, or in one of these
-- rule: why-output
abbrev pub IsPrinted : Bool → WhyRequest → List Zone → ℕ → ClusterList → Outcome → Type 0
IsPrinted true r zones now list o = PrintsReview r zones now list o
IsPrinted false r zones now list o = IsWhole (is_json r.output.now) r zones now list o

-- with what the clocks of those that are meant do, where the reasons are given in full
-- rule: clock-nights
pub record TellsClocks (r : WhyRequest) (zones : List Zone) (now : ℕ) (list : ClusterList)
    (o : Outcome) : Type 0 where
  pub printed : Outcome
  pub prints : IsPrinted (is_lines r.output.now) r zones now list printed
  pub nights : TellsNights (is_full r) zones (Around now) (map_list (λ c. c.cron) (meant_of r list))
      printed o

-- and with which of their Jobs failed
-- rule: why-failures
pub record TellsReasons (r : WhyRequest) (zones : List Zone) (now : ℕ) (list : ClusterList)
    (o : Outcome) : Type 0 where
  pub clocked : Outcome
  pub clocks : TellsClocks r zones now list clocked
  pub answer : o ≡ explained (is_full r) (failed_lines list.cluster (meant_of r list)) clocked

-- and with what is told beside it
-- rules: why-named, why-early
pub record TellsReview (r : WhyRequest) (zones : List Zone) (now : ℕ) (list : ClusterList)
    (o : Outcome) : Type 0 where
  pub base : Outcome
  pub reasons : TellsReasons r zones now list base
  pub notices : IsNoticed (has_home (within_of r) list)
      (is_early now (map.values list.cluster.crons) || is_bare list) base o

-- the CronJobs that are named are all there
pub record PrintsKnown (r : WhyRequest) (zones : List Zone) (now : ℕ) (list : ClusterList)
    (unknown : List ℕ) (o : Outcome) : Type 0 where
  pub known : is_nothing unknown ≡ true
  pub prints : TellsReview r zones now list o

-- refused where one of those that are named is unknown
abbrev pub IsListReviewed : WhyRequest → List Zone → ℕ → ClusterList → Outcome → Type 0
IsListReviewed r zones now list o =
    RefusesCron r (unknown_of r list) o ⊎ PrintsKnown r zones now list (unknown_of r list) o

-- of a list that was read
pub record ReviewsList (r : WhyRequest) (zones : List Zone) (now : ℕ) (bytes : List ℕ) (o : Outcome)
    : Type 0 where
  pub list : ClusterList
  pub read : IsClusterList zones bytes list
  pub reviewed : IsListReviewed r zones now (narrowed r list) o

-- what the bytes of a list are answered
abbrev pub IsReviewed : WhyRequest → List Zone → ℕ → List ℕ → Outcome → Type 0
IsReviewed r zones now bytes o = RefusesList r.explain bytes o ⊎ ReviewsList r zones now bytes o

-- the moment is refused
pub record RefusesWhyMoment (r : WhyRequest) (o : Outcome) : Type 0 where
  pub moment : asked_moment r.moment ≡ None
  pub answer : o ≡ explained r.explain moment_words (refusal (codes "cronsim: time\n"))

-- then a zone, and nothing is read then
pub record RefusesWhyZone (r : WhyRequest) (files : List ZoneFile) (o : Outcome) : Type 0 where
  pub now : ℕ
  pub moment : asked_moment r.moment ≡ Some now
  pub zones : IsNoneGiven r.zones files
  pub answer : o ≡ explained r.explain pair_words (refusal (codes "cronsim: zone\n"))

-- else what is read, all of the input, is looked at
pub record ReviewsInput (r : WhyRequest) (files : List ZoneFile) (input : Option (List ℕ))
    (o : Outcome) : Type 0 where
  pub now : ℕ
  pub moment : asked_moment r.moment ≡ Some now
  pub zones : List Zone
  pub zones_are : AreGiven r.zones files zones
  pub bytes : List ℕ
  pub bytes_are : IfSome input (λ xs. bytes ≡ xs)
  pub fits : length bytes ≤ 268_435_456
  pub reviewed : IsReviewed r zones now bytes o

-- the form of what is printed is refused first
pub record RefusesOutput (r : WhyRequest) (o : Outcome) : Type 0 where
  pub unknown : is_output r.output.now ≡ false
  pub answer : o ≡ explained r.explain output_words (refusal (codes "cronsim: output\n"))

-- then the moment
abbrev pub IsWhyAnswer : WhyRequest → List ZoneFile → Option (List ℕ) → Outcome → Type 0
IsWhyAnswer r files input o =
    RefusesWhyMoment r o ⊎ RefusesWhyZone r files o ⊎ ReviewsInput r files input o

pub record AnswersWhy (r : WhyRequest) (files : List ZoneFile) (input : Option (List ℕ))
    (o : Outcome) : Type 0 where
  pub known : is_output r.output.now ≡ true
  pub answer : IsWhyAnswer r files input o

-- what `why` answers, where the input is known
-- rules: why-lines, why-table
abbrev pub IsWhyOutcome : WhyRequest → List ZoneFile → Option (List ℕ) → Outcome → Type 0
IsWhyOutcome r files input o = RefusesOutput r o ⊎ AnswersWhy r files input o

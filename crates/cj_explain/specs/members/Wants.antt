-- What the members of a scenario, a script and a run's scenario have to be: JSON values (RFC 8259).
use Rattle.std.specs.Prelude.{ℕ, List, codes, bytes_eq, Bool, true, false, ◌&&◌, ◌||◌, nat_le, Option, Some, None, is_some}
use Rattle.serde_json.specs.Data.{Data, Items, no_items, item}
use Rattle.serde_json.specs.Find.{as_array, as_bool, as_object, as_str}
use Rattle.cj_types.specs.WorldLimits.{last_history, last_window}
use Rattle.cj_script.specs.operations.Operations.{key_of, number_in}
use Rattle.cj_script.specs.operations.Instants.{instant_of}
use Rattle.cj_script.specs.operations.Verbs.{verb_named}
use Rattle.cj_explain.specs.declared.members.want.Range.{Range}
use Rattle.cj_explain.specs.declared.members.want.Range.TheVariants.{Any, History, Window, Step, Max}
use Rattle.cj_explain.specs.declared.members.want.Word.{Word}
use Rattle.cj_explain.specs.declared.members.want.Word.TheVariants.{Rule, Time, State, End, Role, Verb, Key}
use Rattle.cj_explain.specs.declared.members.want.Want.{Want}
use Rattle.cj_explain.specs.declared.members.want.Want.TheVariants as Of

-- ---- numbers

abbrev pub is_within : ℕ → ℕ → Bool
is_within most n = nat_le 1 n && nat_le n most

-- rule: explain-members
abbrev pub in_range : Range → ℕ → Bool
in_range Any n = true
in_range History n = is_within last_history n
in_range Window n = is_within last_window n
in_range Step n = is_within 3_600 n
in_range Max n = is_within 500 n

abbrev pub has_number : Range → Option ℕ → Bool
has_number range None = false
has_number range (Some n) = in_range range n

abbrev pub is_number : Range → Data → Bool
is_number range d = has_number range (number_in (Some d))

abbrev pub range_words : Range → List ℕ
range_words Any = codes "a whole number"
range_words History = codes "a whole number from 1 to 16777216"
range_words Window = codes "a whole number from 1 to 100000"
range_words Step = codes "a whole number from 1 to 3600"
range_words Max = codes "a whole number from 1 to 500"

-- ---- texts

abbrev pub is_end : List ℕ → Bool
is_end text = bytes_eq text (codes "Complete") || bytes_eq text (codes "Failed")

abbrev pub is_state : List ℕ → Bool
is_state text = bytes_eq text (codes "Running") || is_end text

abbrev pub is_role : List ℕ → Bool
is_role text =
    bytes_eq text (codes "User") || bytes_eq text (codes "Runner")
    || bytes_eq text (codes "Informer")
    || bytes_eq text (codes "Worker")

abbrev pub is_key : List ℕ → Bool
is_key text = is_some (key_of text)

-- rule: explain-members
abbrev pub is_word : Word → List ℕ → Bool
is_word Rule text = true
is_word Time text = is_some (instant_of text)
is_word State text = is_state text
is_word End text = is_end text
is_word Role text = is_role text
is_word Verb text = is_some (verb_named text)
is_word Key text = is_key text

abbrev pub has_text : Word → Option (List ℕ) → Bool
has_text word None = false
has_text word (Some text) = is_word word text

abbrev pub is_text : Word → Data → Bool
is_text word d = has_text word (as_str d)

abbrev pub word_words : Word → List ℕ
word_words Rule = codes "a POSIX rule like CET-1CEST,M3.5.0,M10.5.0/3"
word_words Time = codes "a UTC time like 2024-01-01T00:00:00Z"
word_words State = codes "Running, Complete or Failed"
word_words End = codes "Complete or Failed"
word_words Role = codes "User, Runner, Informer or Worker"
word_words Verb = codes "createCron, updateCron, deleteCron, createJob, updateJob, deleteJob, endJob, watch, add, tick, shut, feed, take, seeCron, seeJobs, seeActive, claim, drop, make, setStatus or finish"
word_words Key = codes "a key, NAMESPACE/NAME"

-- ---- reasons

abbrev pub reason_text : Option (List ℕ) → Bool
reason_text None = false
reason_text (Some text) =
    bytes_eq text (codes "UnknownTimeZone") || bytes_eq text (codes "TooManyMissedTimes")
    || bytes_eq text (codes "JobAlreadyActive") || bytes_eq text (codes "FailedCreate")

abbrev pub is_reason : Data → Bool
is_reason d = reason_text (as_str d)

abbrev pub all_reasons : Items → Bool
all_reasons no_items = true
all_reasons (item d ds) = is_reason d && all_reasons ds

abbrev pub reasons_in : Option Items → Bool
reasons_in None = false
reasons_in (Some ds) = all_reasons ds

abbrev pub are_reasons : Data → Bool
are_reasons d = reasons_in (as_array d)

-- ---- all

-- rule: explain-members
abbrev pub fits : Want → Data → Bool
fits Of.Manifest d = true
fits Of.Object d = is_some (as_object d)
fits Of.List d = is_some (as_array d)
fits Of.Truth d = is_some (as_bool d)
fits Of.Reasons d = are_reasons d
fits (Of.Number range) d = is_number range d
fits (Of.Text word) d = is_text word d

-- rule: explain-members
abbrev pub words : Want → List ℕ
words Of.Manifest = codes "a manifest"
words Of.Object = codes "an object"
words Of.List = codes "a list"
words Of.Truth = codes "true or false"
words Of.Reasons = codes "a list of UnknownTimeZone, TooManyMissedTimes, JobAlreadyActive and FailedCreate"
words (Of.Number range) = range_words range
words (Of.Text word) = word_words word

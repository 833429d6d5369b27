-- What `check` says of several files.
use Rattle.std.specs.Prelude.{ℕ, ◌==◌, Bool, true, false, List, [], ◌∷◌, ◌++◌, length, Option, None, Some, codes, decimal, string_bytes, if◌then◌else◌}
use Rattle.std.specs.List.{count_by}
use Rattle.cj_args.specs.declared.request.CheckRequest.{CheckRequest}
use Rattle.cj_answers.specs.declared.answer.Answer.{Answer}
use Rattle.cj_answers.specs.declared.answer.Ending.{Ending}
use Rattle.cj_answers.specs.declared.answer.Ending.TheVariants.{Done, Refused}
use Rattle.cj_check.specs.declared.several.FileAnswer.{FileAnswer}
use Rattle.cj_check.specs.declared.several.FileState.{FileState}
use Rattle.cj_check.specs.declared.several.FileState.TheVariants as Is
use Rattle.cj_check.specs.declared.several.Stream.{Stream}
use Rattle.cj_check.specs.declared.several.Stream.TheVariants as To
use Rattle.cj_answers.specs.Marks.{marked}
use Rattle.cj_answers.specs.Outcome.{Outcome, explained, refusal}
use Rattle.cj_check.specs.AsJson.{unread_line}
use Rattle.cj_answers.specs.as_json.Forms.{form_words, is_form, is_json}

-- how a file fared that was answered so
abbrev pub state_by : Ending → FileState
state_by Done = Is.Fine
state_by Refused = Is.Refused

abbrev pub state_of : Option Answer → FileState
state_of None = Is.Unread
state_of (Some a) = state_by a.ending

abbrev pub is_same : FileState → FileState → Bool
is_same Is.Fine Is.Fine = true
is_same Is.Refused Is.Refused = true
is_same Is.Unread Is.Unread = true
is_same _ _ = false

abbrev pub has_state : FileState → FileAnswer → Bool
has_state state file = is_same state (state_of file.answer)

-- the answer to a file alone, on standard output and on standard error; a line for one that
-- couldn't be read
-- rule: check-several
abbrev pub text_of : Stream → Option Answer → List ℕ
text_of To.Output None = []
text_of To.Output (Some a) = string_bytes a.printed
text_of To.Error None = codes "cronsim: input or output failed\n"
text_of To.Error (Some a) = string_bytes a.said

abbrev pub mark_of : List ℕ → List ℕ
mark_of name = name ++ codes ": "

abbrev pub file_lines : Stream → FileAnswer → List ℕ
file_lines stream file = marked (mark_of file.name.now) (text_of stream file.answer)

-- one file after another
abbrev pub all_lines : Stream → List FileAnswer → List ℕ
all_lines stream [] = []
all_lines stream (file ∷ files) = file_lines stream file ++ all_lines stream files

-- what isn't looked at, once for all files
-- rule: explain-pod
abbrev pub several_pod : Bool → List ℕ
several_pod true = codes "FILE: of each Pod only its restartPolicy was looked at; kubectl apply --dry-run=server -f FILE checks the rest\n"
several_pod false = []

-- how many fared how
-- rule: check-several
abbrev pub count_words : Bool → List FileAnswer → List ℕ
count_words false files = []
count_words true files =
    decimal (length files) ++ (codes " files: " ++ (decimal (count_by (has_state Is.Fine) files)
    ++ (codes " fine, " ++ (decimal (count_by (has_state Is.Refused) files)
    ++ (codes " refused, "
    ++ (decimal (count_by (has_state Is.Unread) files) ++ codes " not read\n"))))))

abbrev pub last_words : CheckRequest → List FileAnswer → List ℕ
last_words r files = several_pod r.explain ++ count_words r.strict files

abbrev pub several_ending : List FileAnswer → Ending
several_ending files = if count_by (has_state Is.Fine) files == length files then Done else Refused

-- the value of a file, on a line
-- rule: check-json
abbrev pub value_of : List ℕ → Option Answer → List ℕ
value_of name None = unread_line name
value_of name (Some a) = string_bytes a.printed

abbrev pub all_values : List FileAnswer → List ℕ
all_values [] = []
all_values (file ∷ files) = value_of file.name.now file.answer ++ all_values files

-- in JSON a line for each file, or its lines
-- rules: check-json, check-several
abbrev pub printed_of : Bool → List FileAnswer → List ℕ
printed_of true files = all_values files
printed_of false files = all_lines To.Output files

abbrev pub several_in : CheckRequest → List FileAnswer → Outcome
several_in r files = record {
  ending = several_ending files;
  printed = printed_of (is_json r.output.now) files;
  said = all_lines To.Error files ++ last_words r files;
}

-- the form is looked at first
-- rule: output
abbrev pub several_for : Bool → CheckRequest → List FileAnswer → Outcome
several_for true r files = several_in r files
several_for false r files = explained r.explain form_words (refusal (codes "cronsim: output\n"))

-- what `check` answers of several files
-- rule: check-several
abbrev pub several : CheckRequest → List FileAnswer → Outcome
several r files = several_for (is_form r.output.now) r files

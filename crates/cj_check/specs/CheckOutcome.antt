-- What `check` answers of one file.
use Rattle.std.specs.Prelude.{◌≡◌, ◌⊎◌, ℕ, ◌≤◌, List, [], length, Option, IfSome, Bool, true, false, codes, unwrap_or}
use Rattle.cj_args.specs.Command.{first_file}
use Rattle.cj_args.specs.declared.request.CheckRequest.{CheckRequest}
use Rattle.cj_io.specs.declared.zone_files.file.ZoneFile.{ZoneFile}
use Rattle.cj_zone.specs.declared.zone.Zone.{Zone}
use Rattle.cj_check.specs.CheckList.{IsTextChecked}
use Rattle.cj_answers.specs.Given.{AreGiven, IsNoneGiven, pair_words}
use Rattle.cj_answers.specs.Moments.{is_moment, moment_words}
use Rattle.cj_answers.specs.Outcome.{IsInForm, Outcome, RefusesForm, explained, refusal}
use Rattle.cj_check.specs.AsJson.{IsCheckJson}
use Rattle.cj_answers.specs.as_json.Forms.{is_json}

-- what is answered in lines, with the JSON value in place of what is printed
-- rule: check-json
pub record IsJsonChecked (r : CheckRequest) (zones : List Zone) (file bytes : List ℕ) (o : Outcome)
    : Type 0 where
  pub lines : Outcome
  pub checked : IsTextChecked r zones bytes lines
  pub text : List ℕ
  pub json : IsCheckJson zones file bytes text
  pub answer : o ≡ record lines { printed = text }

-- in JSON, or in lines
-- rules: check-json, check-lines
abbrev pub IsCheckPrinted : Bool → CheckRequest → List Zone → List ℕ → List ℕ → Outcome → Type 0
IsCheckPrinted true r zones file bytes o = IsJsonChecked r zones file bytes o
IsCheckPrinted false r zones file bytes o = IsTextChecked r zones bytes o

-- a zone is refused, and nothing is read then
pub record RefusesNamedZone (r : CheckRequest) (files : List ZoneFile) (o : Outcome) : Type 0 where
  pub zones : IsNoneGiven r.zones files
  pub answer : o ≡ explained r.explain pair_words (refusal (codes "cronsim: zone\n"))

-- else what is read, all of the input, is checked
pub record ChecksInput (r : CheckRequest) (file : List ℕ) (files : List ZoneFile)
    (input : Option (List ℕ)) (o : Outcome) : Type 0 where
  pub zones : List Zone
  pub zones_are : AreGiven r.zones files zones
  pub bytes : List ℕ
  pub bytes_are : IfSome input (λ xs. bytes ≡ xs)
  pub fits : length bytes ≤ 16_777_216
  pub checked : IsCheckPrinted (is_json r.output.now) r zones file bytes o

-- a zone is refused, or the input is checked
abbrev pub IsInputAnswer : CheckRequest → List ℕ → List ZoneFile → Option (List ℕ) → Outcome
    → Type 0
IsInputAnswer r file files input o = RefusesNamedZone r files o ⊎ ChecksInput r file files input o

-- what is given as the moment says none
pub record RefusesNow (r : CheckRequest) (o : Outcome) : Type 0 where
  pub none : is_moment r.moment ≡ false
  pub answer : o ≡ explained r.explain moment_words (refusal (codes "cronsim: time\n"))

-- it says one, or nothing is given, and the answer is this
pub record IsAtMoment (r : CheckRequest) (Answer : Type 0) : Type 0 where
  pub known : is_moment r.moment ≡ true
  pub answer : Answer

-- what `check` answers of the file of that name in a form that there is, where the input is known:
-- the moment is looked at before the zones
-- rules: check-json, check-lines
abbrev pub IsCheckAnswer : CheckRequest → List ℕ → List ZoneFile → Option (List ℕ) → Outcome
    → Type 0
IsCheckAnswer r file files input o =
    RefusesNow r o ⊎ IsAtMoment r (IsInputAnswer r file files input o)

-- the form is looked at first
abbrev pub IsFileOutcome : CheckRequest → List ℕ → List ZoneFile → Option (List ℕ) → Outcome
    → Type 0
IsFileOutcome r file files input o =
    RefusesForm r.explain r.output.now o
    ⊎ IsInForm r.output.now (IsCheckAnswer r file files input o)

abbrev pub first_name : CheckRequest → List ℕ
first_name r = unwrap_or (first_file r.files.items) []

-- what `check` answers of one file
-- rules: check-json, check-lines
abbrev pub IsCheckOutcome : CheckRequest → List ZoneFile → Option (List ℕ) → Outcome → Type 0
IsCheckOutcome r files input o = IsFileOutcome r (first_name r) files input o

-- What `check` answers of a manifest.
use Rattle.std.specs.Prelude.{◌≡◌, ◌⊎◌, ℕ, ◌==◌, ◌&&◌, ◌||◌, not, bytes_eq, if◌then◌else◌, List, [], ◌∷◌, ◌++◌, length, Bool, true, false, codes}
use Rattle.std.specs.List.{list_any}
use Rattle.cj_base.specs.declared.faults.FieldFault.{FieldFault}
use Rattle.cj_base.specs.declared.refusal.Refusal.TheVariants.{Invalid, Syntax}
use Rattle.cj_zone.specs.declared.zone.Zone.{Zone}
use Rattle.cj_manifest.specs.declared.manifest.Manifest.{Manifest}
use Rattle.cj_manifest.specs.declared.manifest.Manifest.TheVariants as Of
use Rattle.cj_manifest.specs.Either.{key_of, kind_of, manifest_draft, manifest_faults, manifest_warnings}
use Rattle.cj_manifest.specs.Reading.{IsReading, IsRefused}
use Rattle.cj_answers.specs.declared.answer.Ending.{Ending}
use Rattle.cj_answers.specs.declared.answer.Ending.TheVariants.{Done, Refused}
use Rattle.cj_args.specs.declared.request.CheckRequest.{CheckRequest}
use Rattle.cj_scenario.specs.declared.detection.form.Form.TheVariants as A
use Rattle.cj_scenario.specs.detection.Detections.{IsDetection}
use Rattle.cj_check.specs.FaultWords.{AreFaultWords}
use Rattle.cj_check.specs.JobFields.{IsUnfit}
use Rattle.cj_answers.specs.Json.{IsJsonWords}
use Rattle.cj_answers.specs.Advice.{IsAdvice, dropped_words_all}
use Rattle.cj_answers.specs.Coming.{IsScheduleAdvice}
use Rattle.cj_answers.specs.Lines.{fault_lines, ok_line, warning_lines}
use Rattle.cj_answers.specs.Moments.{asked_moment}
use Rattle.cj_answers.specs.Outcome.{Outcome, explained}

-- the name of the template, which `kubectl create cronjob` writes, and which no Job gets
abbrev pub is_harmless : List ℕ → Bool
is_harmless path = bytes_eq path (codes "spec.jobTemplate.metadata.name")

abbrev pub is_no_text : List ℕ → Bool
is_no_text [] = true
is_no_text (x ∷ xs) = false

-- a warning refuses a manifest where that is wanted, unless it is harmless, and so does a schedule
-- that never comes and a field of the Job's spec that holds something else, of which these words
-- tell
-- rules: check-job-fields, check-strict
abbrev pub fine_ending : Bool → List (List ℕ) → List ℕ → Ending
fine_ending strict warnings told =
    if strict && (list_any (λ w. not (is_harmless w)) warnings || not (is_no_text told))
    then Refused else Done

-- what tells of the schedule is said then, where it isn't anyway
-- rule: check-strict
abbrev pub strict_words : Bool → Bool → List ℕ → List ℕ
strict_words true false coming = coming
strict_words true true coming = []
strict_words false explain coming = []

-- whether the schedule of a CronJob comes at all
abbrev pub IsComingWords : Manifest → List Zone → List ℕ → Type 0
IsComingWords (Of.CronJob draft) zones words = IsScheduleAdvice draft.spec zones words
IsComingWords (Of.Job draft) zones words = words ≡ []

-- one file alone is checked
abbrev pub is_alone : CheckRequest → Bool
is_alone r = length r.files.items == 1

-- what isn't looked at, where one manifest alone is checked
-- rule: explain-pod
abbrev pub pod_words : Bool → List ℕ
pod_words true = codes "FILE: of the Pod only its restartPolicy was looked at; kubectl apply --dry-run=server -f FILE checks the rest\n"
pod_words false = []

-- printed, with an ending and these words on standard error
abbrev pub ended : Ending → List ℕ → List ℕ → Outcome
ended ending said lines = record { ending = ending; printed = lines; said = said }

-- refused on standard output, as what a manifest's faults are for
abbrev pub faulty : List ℕ → Outcome
faulty lines = record { ending = Refused; printed = lines; said = [] }

-- the line of bytes that are no JSON, and where they aren't
pub record IsNoJson (explain : Bool) (bytes : List ℕ) (o : Outcome) : Type 0 where
  pub words : List ℕ
  pub place : IsJsonWords bytes words
  pub answer : o ≡ explained explain words (faulty (codes "refused 1 Syntax\n"))

-- the bytes are no JSON
pub record IsNoManifest (explain : Bool) (zones : List Zone) (bytes : List ℕ) (o : Outcome)
    : Type 0 where
  pub refused : IsRefused (manifest_faults zones) bytes Syntax
  pub says : IsNoJson explain bytes o

-- every fault is named; `--explain` says more of each, and what the text is, where it is no
-- manifest
pub record IsFaulty (explain : Bool) (zones : List Zone) (bytes : List ℕ) (o : Outcome)
    : Type 0 where
  pub faults : List FieldFault
  pub refused : IsRefused (manifest_faults zones) bytes (Invalid faults)
  pub words : List ℕ
  pub told : AreFaultWords bytes faults words
  pub beside : List ℕ
  pub seen : IsDetection A.Manifest bytes beside
  pub answer : o ≡ explained explain (words ++ beside) (faulty (fault_lines faults))

-- there is none, and every member that is dropped is named; each field of the Job's spec that holds
-- something else is told, and `--explain` says what is worth a look
-- rule: check-job-fields
pub record IsFine (r : CheckRequest) (alone : Bool) (zones : List Zone) (bytes : List ℕ)
    (o : Outcome) : Type 0 where
  pub manifest : Manifest
  pub warnings : List (List ℕ)
  pub reading : IsReading Manifest (manifest_faults zones) manifest_draft manifest_warnings bytes
      manifest warnings
  pub words : List ℕ
  pub advice : IsAdvice manifest zones (asked_moment r.moment) words
  pub coming : List ℕ
  pub comes : IsComingWords manifest zones coming
  pub unfit : List ℕ
  pub unfit_is : IsUnfit manifest unfit
  pub answer : o ≡ explained r.explain (dropped_words_all warnings ++ (words ++ pod_words alone))
      (ended (fine_ending r.strict warnings (coming ++ unfit))
      (strict_words r.strict r.explain coming ++ unfit)
      (ok_line (kind_of manifest) (key_of manifest) ++ warning_lines warnings))

-- what the bytes of a manifest are answered under these zones
abbrev pub IsChecked : CheckRequest → Bool → List Zone → List ℕ → Outcome → Type 0
IsChecked r alone zones bytes o =
    IsNoManifest r.explain zones bytes o ⊎ IsFaulty r.explain zones bytes o
    ⊎ IsFine r alone zones bytes o

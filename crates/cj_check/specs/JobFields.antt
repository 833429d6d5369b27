-- What the known fields of a Job's spec hold: Kubernetes API reference, batch/v1 JobSpec. The API
-- server refuses a Job, and the CronJob that has it, where one of them holds something else.
use Rattle.std.specs.Prelude.{◌≡◌, ◌⊎◌, ℕ, List, [], ◌∷◌, ◌++◌, codes, Bool, false, not, Option, None, Some, is_some, option_and_then, if◌then◌else◌}
use Rattle.std.specs.Borrow.{Bor}
use Rattle.serde_json.specs.Data.{Data}
use Rattle.serde_json.specs.Find.{as_bool, as_number, as_object, as_str, as_u64}
use Rattle.cj_manifest.specs.Either.{spec_of}
use Rattle.cj_manifest.specs.Members.{present}
use Rattle.cj_manifest.specs.Reading.{IsNoValue, Reads}
use Rattle.cj_manifest.specs.declared.manifest.Manifest.{Manifest}
use Rattle.cj_manifest.specs.declared.manifest.Manifest.TheVariants as Of
use Rattle.cj_check.specs.declared.job_fields.Holds.{Holds}
use Rattle.cj_check.specs.declared.job_fields.Holds.TheVariants.{Count, Flag, Object, Text}

-- a field's name, and what it holds
abbrev pub Row : Type 0
Row = List ℕ × Holds

-- the fields that are known
-- rule: check-job-fields
abbrev pub known_fields : List Row
known_fields =
    (codes "parallelism", Count)
    ∷ (codes "completions", Count)
    ∷ (codes "activeDeadlineSeconds", Count)
    ∷ (codes "backoffLimit", Count)
    ∷ (codes "backoffLimitPerIndex", Count)
    ∷ (codes "maxFailedIndexes", Count)
    ∷ (codes "ttlSecondsAfterFinished", Count)
    ∷ (codes "manualSelector", Flag)
    ∷ (codes "suspend", Flag)
    ∷ (codes "completionMode", Text)
    ∷ (codes "podReplacementPolicy", Text)
    ∷ (codes "managedBy", Text)
    ∷ (codes "selector", Object)
    ∷ (codes "podFailurePolicy", Object)
    ∷ (codes "successPolicy", Object)
    ∷ (codes "template", Object)
    ∷ []

-- the row of a field in the code
abbrev pub row_of : Bor (List ℕ) × Holds → Row
row_of field = (field.0.now, field.1)

-- a value is what a field holds: a number below 0, or with a fraction, is no count
-- rule: check-job-fields
abbrev pub is_fit : Holds → Data → Bool
is_fit Count d = is_some (option_and_then as_u64 (as_number d))
is_fit Flag d = is_some (as_bool d)
is_fit Text d = is_some (as_str d)
is_fit Object d = is_some (as_object d)

abbrev pub is_unfit : Holds → Option Data → Bool
is_unfit holds None = false
is_unfit holds (Some d) = not (is_fit holds d)

abbrev pub wanted : Holds → List ℕ
wanted Count = codes "a whole number of at least 0"
wanted Flag = codes "true or false"
wanted Text = codes "a text"
wanted Object = codes "an object"

unfoldable pub unfit_line : List ℕ → List ℕ → Holds → List ℕ
unfit_line prefix name holds =
    prefix
    ++ (name
    ++ (codes ": want "
    ++ (wanted holds ++ codes "; the API server refuses another value\n")))

-- a line for each field that is there and holds something else
-- rule: check-job-fields
abbrev pub unfit_among : List ℕ → Data → List Row → List ℕ
unfit_among prefix d [] = []
unfit_among prefix d (row ∷ rows) =
    if is_unfit row.1 (present row.0 d) then unfit_line prefix row.0 row.1
    ++ unfit_among prefix d rows else unfit_among prefix d rows

abbrev pub unfit_lines : List ℕ → Data → List ℕ
unfit_lines prefix d = unfit_among prefix d known_fields

-- where the Job's spec is in a manifest
abbrev pub prefix_of : Manifest → List ℕ
prefix_of (Of.CronJob draft) = codes "spec.jobTemplate.spec."
prefix_of (Of.Job draft) = codes "spec."

-- the text is this value
pub record ReadsUnfit (prefix : List ℕ) (text : List ℕ) (words : List ℕ) : Type 0 where
  pub value : Data
  pub reads : Reads text value
  pub are : words ≡ unfit_lines prefix value

-- what is said of the Job's spec in a manifest; nothing of a text that is no JSON, which none is
-- rule: check-job-fields
abbrev pub IsUnfit : Manifest → List ℕ → Type 0
IsUnfit m words =
    ReadsUnfit (prefix_of m) (spec_of m) words ⊎ (IsNoValue (spec_of m) × (words ≡ []))

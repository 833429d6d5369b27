-- Which file of a folder holds no object of Kubernetes.
use Rattle.std.specs.Prelude.{◌≡◌, ◌⊎◌, ℕ, List, [], ◌&&◌, ◌||◌, not, Bool, false, is_some, unwrap_or, codes}
use Rattle.std.specs.Str.{bytes_eq}
use Rattle.serde_json.specs.Data.{Data}
use Rattle.serde_json.specs.Find.{as_object}
use Rattle.cj_manifest.specs.Members.{present}
use Rattle.cj_manifest.specs.Reading.{IsNoValue, Reads}
use Rattle.cj_answers.specs.Objects.{text_at}

-- the version of the API is one that has CronJobs
abbrev pub is_batch : Data → Bool
is_batch d =
    bytes_eq (unwrap_or (text_at (codes "apiVersion") d) []) (codes "batch/v1")
    || bytes_eq (unwrap_or (text_at (codes "apiVersion") d) []) (codes "batch/v1beta1")

-- an object without a kind, which each object of Kubernetes has (Kubernetes API conventions, "Types
-- (Kinds)"); one that has a spec, or such an apiVersion, may be a CronJob whose kind was forgotten
-- rule: check-folder
abbrev pub is_bare : Data → Bool
is_bare d =
    (is_some (as_object d) && not (is_some (present (codes "kind") d)))
    && (not (is_some (present (codes "spec") d)) && not (is_batch d))

-- whether the bytes are the JSON of such an object
abbrev pub IsBare : List ℕ → Bool → Type 0
IsBare bytes b = (IsNoValue bytes × (b ≡ false)) ⊎ ((d : Data) × Reads bytes d × (b ≡ is_bare d))

-- The warnings of a manifest, by path: of the older version of the API, then of the members that
-- are dropped, level after level, by name within a level.
use Rattle.std.specs.Prelude.{ℕ, List, [], ◌∷◌, ◌++◌, codes, bytes_eq, Bool, false, ◌||◌, if◌then◌else◌, Option, Some, None, is_none, unwrap_or}
use Rattle.std.specs.Result.{result_ok}
use Rattle.serde_json.specs.Data.{Data, Members, no_members, member}
use Rattle.serde_json.specs.Find.{as_object}
use Rattle.cj_manifest.specs.declared.kind.ObjectKind.TheVariants as Of
use Rattle.cj_manifest.specs.declared.level.Level.{Level}
use Rattle.cj_manifest.specs.declared.level.Level.TheVariants as In
use Rattle.cj_manifest.specs.Members.{unless_null}
use Rattle.cj_manifest.specs.Owners.{then_do}
use Rattle.cj_manifest.specs.Drafts.{given}
use Rattle.cj_manifest.specs.Table as fields

-- ---- the members that are read, or dropped without a warning

-- the members of `metadata` that the table names for both kinds
abbrev pub is_metadata_name : List ℕ → Bool
is_metadata_name k =
    bytes_eq k (codes "name") || bytes_eq k (codes "namespace") || bytes_eq k (codes "labels")
    || bytes_eq k (codes "annotations") || bytes_eq k (codes "uid")
    || bytes_eq k (codes "resourceVersion")

-- the members of `metadata` that a server sets, and that no client's manifest decides
-- rule: dropped-silently
abbrev pub is_set_by_server : List ℕ → Bool
is_set_by_server k =
    bytes_eq k (codes "managedFields") || bytes_eq k (codes "creationTimestamp")
    || bytes_eq k (codes "generation") || bytes_eq k (codes "selfLink")

abbrev pub is_top_name : List ℕ → Bool
is_top_name k =
    bytes_eq k (codes "apiVersion") || bytes_eq k (codes "kind") || bytes_eq k (codes "metadata")
    || bytes_eq k (codes "spec") || bytes_eq k (codes "status")

abbrev pub is_cron_spec_name : List ℕ → Bool
is_cron_spec_name k =
    bytes_eq k (codes "schedule") || bytes_eq k (codes "timeZone")
    || bytes_eq k (codes "concurrencyPolicy")
    || bytes_eq k (codes "suspend") || bytes_eq k (codes "startingDeadlineSeconds")
    || bytes_eq k (codes "successfulJobsHistoryLimit")
    || bytes_eq k (codes "failedJobsHistoryLimit")
    || bytes_eq k (codes "jobTemplate")

-- rule: dropped-silently
abbrev pub is_known : Level → List ℕ → Bool
is_known In.Top k = is_top_name k
is_known In.CronMetadata k = is_metadata_name k || is_set_by_server k
is_known In.JobMetadata k = bytes_eq k (codes "ownerReferences") || is_metadata_name k
    || is_set_by_server k
is_known In.CronSpec k = is_cron_spec_name k
is_known In.Template k = bytes_eq k (codes "metadata") || bytes_eq k (codes "spec")
is_known In.TemplateMetadata k = bytes_eq k (codes "labels") || bytes_eq k (codes "annotations")

-- ---- the warnings

-- the path of a level, with which the paths of its members begin
abbrev pub prefix : Level → List ℕ
prefix In.Top = []
prefix In.CronMetadata = codes "metadata."
prefix In.JobMetadata = codes "metadata."
prefix In.CronSpec = codes "spec."
prefix In.Template = codes "spec.jobTemplate."
prefix In.TemplateMetadata = codes "spec.jobTemplate.metadata."

-- the paths of the unknown members that aren't null
abbrev pub unknown : Level → Members → List (List ℕ)
unknown level no_members = []
unknown level (member k d ms) =
    if is_known level k || is_none (unless_null d) then unknown level ms else (prefix level ++ k)
    ∷ unknown level ms

-- the warnings in an object, where it is there
-- rule: warnings
abbrev pub dropped : Level → Option Data → List (List ℕ)
dropped level None = []
dropped level (Some d) = unknown level (unwrap_or (as_object d) no_members)

-- the template of a CronJob's manifest, and its metadata
abbrev pub template_in : Data → Option Data
template_in d = then_do (result_ok (fields.spec d)) (λ s. result_ok (fields.job_template s))

abbrev pub template_metadata_in : Data → Option Data
template_metadata_in d = then_do (template_in d) (λ t. given (fields.template_metadata t))

abbrev pub is_beta : Option (List ℕ) → Bool
is_beta None = false
is_beta (Some version) = bytes_eq version (codes "batch/v1beta1")

-- the warning of a CronJob's older API version: the object is stored and written as batch/v1
abbrev pub version_warnings : Data → List (List ℕ)
version_warnings d = if is_beta (result_ok (fields.api_version Of.Cron d)) then codes "apiVersion"
    ∷ [] else []

-- the warnings of a manifest: first of the version of the API, then of the members that are dropped
-- rules: v1beta1, warnings
abbrev pub cron_warnings : Data → List (List ℕ)
cron_warnings d =
    version_warnings d
    ++ dropped In.Top (Some d)
    ++ dropped In.CronMetadata (result_ok (fields.metadata d))
    ++ dropped In.CronSpec (result_ok (fields.spec d))
    ++ dropped In.Template (template_in d)
    ++ dropped In.TemplateMetadata (template_metadata_in d)

-- rule: warnings
abbrev pub job_warnings : Data → List (List ℕ)
job_warnings d = dropped In.Top (Some d) ++ dropped In.JobMetadata (result_ok (fields.metadata d))

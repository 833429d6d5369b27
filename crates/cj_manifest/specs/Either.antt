-- A manifest of either kind: a Job's where its `kind` is the text `Job`, else a CronJob's.
use Rattle.std.specs.Prelude.{ℕ, List, codes, Bool, Option, option_map, is_none, if◌then◌else◌}
use Rattle.std.specs.Result.{result_err}
use Rattle.serde_json.specs.Data.{Data}
use Rattle.cj_base.specs.declared.faults.FieldFault.{FieldFault}
use Rattle.cj_types.specs.Keys.{Place}
use Rattle.cj_zone.specs.declared.zone.Zone.{Zone}
use Rattle.cj_manifest.specs.declared.kind.ObjectKind.TheVariants as Of
use Rattle.cj_manifest.specs.declared.manifest.Manifest.{Manifest}
use Rattle.cj_manifest.specs.declared.manifest.Manifest.TheVariants as Said
use Rattle.cj_manifest.specs.Drafts.{cron_draft, job_draft}
use Rattle.cj_manifest.specs.Faults.{cron_faults, job_faults}
use Rattle.cj_manifest.specs.Table as fields
use Rattle.cj_manifest.specs.Warnings.{cron_warnings, job_warnings}

-- read as a Job's, the row of the kind has no fault
abbrev pub is_job : Data → Bool
is_job d = is_none (result_err (fields.kind Of.Job d))

abbrev pub manifest_faults : List Zone → Data → List FieldFault
manifest_faults zones d = if is_job d then job_faults d else cron_faults zones d

abbrev pub manifest_draft : Data → Option Manifest
manifest_draft d =
    if is_job d then option_map (λ draft. Said.Job draft) (job_draft d) else option_map
    (λ draft. Said.CronJob draft) (cron_draft d)

abbrev pub manifest_warnings : Data → List (List ℕ)
manifest_warnings d = if is_job d then job_warnings d else cron_warnings d

abbrev pub kind_of : Manifest → List ℕ
kind_of (Said.CronJob draft) = codes "CronJob"
kind_of (Said.Job draft) = codes "Job"

abbrev pub key_of : Manifest → Place
key_of (Said.CronJob draft) = draft.key
key_of (Said.Job draft) = draft.key

-- the JSON text of the Job's spec in it
abbrev pub spec_of : Manifest → List ℕ
spec_of (Said.CronJob draft) = draft.spec.template.spec
spec_of (Said.Job draft) = draft.spec

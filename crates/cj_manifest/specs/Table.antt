-- The table: the row of each field, in the names of batch/v1 (Kubernetes API reference, `CronJob`
-- and `Job`).
use Rattle.std.specs.Prelude.{ℕ, List, codes, Bool, false, not, Option, Result}
use Rattle.serde_json.specs.Data.{Data, Items, Members}
use Rattle.serde_json.specs.Written.{has_float}
use Rattle.cj_base.specs.declared.cause.Cause.{Cause}
use Rattle.cj_base.specs.declared.cause.Cause.TheVariants as Why
use Rattle.cj_types.specs.declared.policy.Policy.{Policy}
use Rattle.cj_types.specs.declared.policy.Policy.TheVariants.{Allow}
use Rattle.cj_types.specs.Limits.{last_deadline, last_history_limit}
use Rattle.cj_types.specs.Names.{longest, longest_cron}
use Rattle.cj_zone.specs.declared.zone.Zone.{Zone}
use Rattle.cj_manifest.specs.declared.kind.ObjectKind.{ObjectKind}
use Rattle.cj_manifest.specs.declared.kind.ObjectKind.TheVariants as Of
use Rattle.cj_manifest.specs.Members.{present}
use Rattle.cj_manifest.specs.Owners as owners_in
use Rattle.cj_manifest.specs.Values.{when, and_then, required, optional, or_default, text, truth, an_object, choice, either, range, texts}
use Rattle.cj_manifest.specs.Values as read

-- ---- the two kinds of object

abbrev pub kind_name : ObjectKind → List ℕ
kind_name Of.Cron = codes "CronJob"
kind_name Of.Job = codes "Job"

-- the most characters of a name
abbrev pub name_limit : ObjectKind → ℕ
name_limit Of.Cron = longest_cron
name_limit Of.Job = longest

-- ---- the whole

-- the whole is an object, and each number in it an i64 or a u64
abbrev pub whole : Data → Result Data Cause
whole d = and_then (λ o. when (not (has_float o)) Why.Fraction o) (an_object d)

-- `apiVersion`; a CronJob's may be the version before batch/v1, which Kubernetes served up to 1.24:
-- "Deprecated API Migration Guide"
abbrev pub supported : ObjectKind → Data → Result (List ℕ) Cause
supported Of.Cron d = either (codes "batch/v1") (codes "batch/v1beta1") d
supported Of.Job d = choice (codes "batch/v1") d

-- rules: all-faults, v1beta1
abbrev pub api_version : ObjectKind → Data → Result (List ℕ) Cause
api_version k d = required (supported k) (present (codes "apiVersion") d)

abbrev pub kind : ObjectKind → Data → Result (List ℕ) Cause
kind k d = required (choice (kind_name k)) (present (codes "kind") d)

abbrev pub metadata : Data → Result Data Cause
metadata d = required an_object (present (codes "metadata") d)

abbrev pub spec : Data → Result Data Cause
spec d = required an_object (present (codes "spec") d)

-- ---- in `metadata`

-- rule: all-faults
abbrev pub name : ObjectKind → Data → Result (List ℕ) Cause
name k m = required (read.name (name_limit k)) (present (codes "name") m)

abbrev pub namespace : Data → Result (List ℕ) Cause
namespace m = or_default (codes "default") read.namespace (present (codes "namespace") m)

abbrev pub labels : Data → Result (Option Members) Cause
labels m = optional texts (present (codes "labels") m)

abbrev pub annotations : Data → Result (Option Members) Cause
annotations m = optional texts (present (codes "annotations") m)

abbrev pub uid : Data → Result (Option (List ℕ)) Cause
uid m = optional text (present (codes "uid") m)

abbrev pub resource_version : Data → Result (Option (List ℕ)) Cause
resource_version m = optional text (present (codes "resourceVersion") m)

-- `ownerReferences`, of a Job alone
abbrev pub owners : Data → Result (Option Items) Cause
owners m = optional owners_in.owners (present (codes "ownerReferences") m)

-- ---- in a CronJob's `spec`

-- rule: all-faults
abbrev pub schedule : Data → Result (List ℕ) Cause
schedule s = required read.schedule (present (codes "schedule") s)

abbrev pub time_zone : List Zone → Data → Result (Option (List ℕ)) Cause
time_zone zones s = optional (read.zone zones) (present (codes "timeZone") s)

abbrev pub policy : Data → Result Policy Cause
policy s = or_default Allow read.policy (present (codes "concurrencyPolicy") s)

abbrev pub suspend : Data → Result Bool Cause
suspend s = or_default false truth (present (codes "suspend") s)

abbrev pub seconds : Data → Result ℕ Cause
seconds d = range last_deadline d

abbrev pub deadline : Data → Result (Option ℕ) Cause
deadline s = optional seconds (present (codes "startingDeadlineSeconds") s)

-- a history limit: how many finished Jobs are kept
abbrev pub limit : Data → Result ℕ Cause
limit d = range last_history_limit d

abbrev pub successful_limit : Data → Result ℕ Cause
successful_limit s = or_default 3 limit (present (codes "successfulJobsHistoryLimit") s)

abbrev pub failed_limit : Data → Result ℕ Cause
failed_limit s = or_default 1 limit (present (codes "failedJobsHistoryLimit") s)

abbrev pub job_template : Data → Result Data Cause
job_template s = required an_object (present (codes "jobTemplate") s)

-- in `jobTemplate`; labels and annotations in its metadata are the rows above
abbrev pub template_metadata : Data → Result (Option Data) Cause
template_metadata t = optional an_object (present (codes "metadata") t)

abbrev pub job_spec : Data → Result Data Cause
job_spec t = required an_object (present (codes "spec") t)

-- ---- in the `spec` of a Job

abbrev pub pods : Data → Result Data Cause
pods j = required an_object (present (codes "template") j)

abbrev pub pod_spec : Data → Result Data Cause
pod_spec p = required an_object (present (codes "spec") p)

-- rule: all-faults
abbrev pub restart_policy : Data → Result (List ℕ) Cause
restart_policy p = required (either (codes "Never") (codes "OnFailure"))
    (present (codes "restartPolicy") p)

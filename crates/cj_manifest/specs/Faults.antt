-- The faults of a manifest, in the order of the table. Nothing in a faulty object is looked at.
use Rattle.std.specs.Prelude.{List, [], ◌++◌, Option, Some, None, Result, Ok, Err}
use Rattle.std.specs.Result.{result_err}
use Rattle.serde_json.specs.Data.{Data}
use Rattle.cj_base.specs.declared.cause.Cause.{Cause}
use Rattle.cj_base.specs.declared.field.Field.{Field}
use Rattle.cj_base.specs.declared.field.Field.TheVariants as At
use Rattle.cj_base.specs.declared.faults.FieldFault.{FieldFault}
use Rattle.cj_types.specs.Keys.{fault_of}
use Rattle.cj_zone.specs.declared.zone.Zone.{Zone}
use Rattle.cj_manifest.specs.declared.kind.ObjectKind.{ObjectKind}
use Rattle.cj_manifest.specs.declared.kind.ObjectKind.TheVariants as Of
use Rattle.cj_manifest.specs.declared.pods.PodFields.{PodFields}
use Rattle.cj_manifest.specs.Table as fields

-- the fault of a row, if it has one
abbrev pub fault_by : {A : Type 0} → Field → Result A Cause → List FieldFault
fault_by field row = fault_of field (result_err row)

-- an object's own fault, or those of the rows in it
abbrev pub with_fields : Field → (Data → List FieldFault) → Result Data Cause → List FieldFault
with_fields field rows (Ok d) = rows d
with_fields field rows (Err cause) = fault_of field (Some cause)

-- the own fault of an object that may be absent, or the faults of the rows in it
abbrev pub with_optional_fields : Field → (Data → List FieldFault) → Result (Option Data) Cause
    → List FieldFault
with_optional_fields field rows (Ok None) = []
with_optional_fields field rows (Ok (Some d)) = rows d
with_optional_fields field rows (Err cause) = fault_of field (Some cause)

-- ---- metadata

abbrev pub owner_faults : ObjectKind → Data → List FieldFault
owner_faults Of.Cron m = []
owner_faults Of.Job m = fault_by At.OwnerReferences (fields.owners m)

abbrev pub metadata_faults : ObjectKind → Data → List FieldFault
metadata_faults k m =
    fault_by At.Name (fields.name k m)
    ++ fault_by At.Namespace (fields.namespace m)
    ++ fault_by At.Labels (fields.labels m)
    ++ fault_by At.Annotations (fields.annotations m)
    ++ fault_by At.Uid (fields.uid m)
    ++ fault_by At.ResourceVersion (fields.resource_version m)
    ++ owner_faults k m

-- ---- the spec of a Job, below one of two paths

abbrev pub pod_spec_faults : PodFields → Data → List FieldFault
pod_spec_faults named p = fault_by named.restart_policy (fields.restart_policy p)

abbrev pub pods_faults : PodFields → Data → List FieldFault
pods_faults named p = with_fields named.spec (pod_spec_faults named) (fields.pod_spec p)

-- rule: job-rows
abbrev pub job_spec_faults : PodFields → Data → List FieldFault
job_spec_faults named j = with_fields named.template (pods_faults named) (fields.pods j)

-- the paths below `spec.jobTemplate.spec`
abbrev pub template_fields : PodFields
template_fields = record {
  template = At.JobTemplatePods;
  spec = At.JobTemplatePodSpec;
  restart_policy = At.JobTemplateRestartPolicy;
}

-- the paths below a Job's `spec`
abbrev pub job_fields : PodFields
job_fields = record { template = At.Pods; spec = At.PodSpec; restart_policy = At.RestartPolicy }

-- ---- the spec of a CronJob

abbrev pub template_metadata_faults : Data → List FieldFault
template_metadata_faults m =
    fault_by At.JobTemplateLabels (fields.labels m)
    ++ fault_by At.JobTemplateAnnotations (fields.annotations m)

abbrev pub template_faults : Data → List FieldFault
template_faults t =
    with_optional_fields At.JobTemplateMetadata template_metadata_faults
    (fields.template_metadata t)
    ++ with_fields At.JobTemplateSpec (job_spec_faults template_fields) (fields.job_spec t)

abbrev pub timing_faults : List Zone → Data → List FieldFault
timing_faults zones s =
    fault_by At.ScheduleText (fields.schedule s)
    ++ fault_by At.TimeZone (fields.time_zone zones s)
    ++ fault_by At.ConcurrencyPolicy (fields.policy s)
    ++ fault_by At.Suspend (fields.suspend s)

abbrev pub limit_faults : Data → List FieldFault
limit_faults s =
    fault_by At.StartingDeadlineSeconds (fields.deadline s)
    ++ fault_by At.SuccessfulJobsHistoryLimit (fields.successful_limit s)
    ++ fault_by At.FailedJobsHistoryLimit (fields.failed_limit s)

abbrev pub cron_spec_faults : List Zone → Data → List FieldFault
cron_spec_faults zones s =
    timing_faults zones s ++ limit_faults s
    ++ with_fields At.JobTemplate template_faults (fields.job_template s)

-- ---- the whole

abbrev pub top_faults : ObjectKind → Data → List FieldFault
top_faults k d =
    fault_by At.ApiVersion (fields.api_version k d)
    ++ fault_by At.Kind (fields.kind k d)
    ++ with_fields At.Metadata (metadata_faults k) (fields.metadata d)

abbrev pub object_faults : ObjectKind → (Data → List FieldFault) → Data → List FieldFault
object_faults k spec_faults d = top_faults k d ++ with_fields At.Spec spec_faults (fields.spec d)

-- the faults of a CronJob's manifest, under the zones of a table
-- rule: all-faults
abbrev pub cron_faults : List Zone → Data → List FieldFault
cron_faults zones d = with_fields At.Whole (object_faults Of.Cron (cron_spec_faults zones))
    (fields.whole d)

-- the faults of a Job's manifest, except those of its spec
-- rule: cluster-job
abbrev pub head_faults : Data → List FieldFault
head_faults d = with_fields At.Whole (top_faults Of.Job) (fields.whole d)

-- the faults of a Job's manifest
-- rules: all-faults, job-rows
abbrev pub job_faults : Data → List FieldFault
job_faults d = with_fields At.Whole (object_faults Of.Job (job_spec_faults job_fields))
    (fields.whole d)

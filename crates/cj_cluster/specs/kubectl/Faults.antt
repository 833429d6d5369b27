-- The faults of what a server says of an object beside its manifest.
use Rattle.std.specs.Prelude.{ℕ, List, ◌++◌, Option, Some, None}
use Rattle.std.specs.Result.{result_err}
use Rattle.serde_json.specs.Data.{Data}
use Rattle.cj_base.specs.declared.cause.Cause.{Cause}
use Rattle.cj_base.specs.declared.cause.Cause.TheVariants as Why
use Rattle.cj_base.specs.declared.field.Field.TheVariants as At
use Rattle.cj_base.specs.declared.faults.FieldFault.{FieldFault}
use Rattle.cj_types.specs.Keys.{fault_of}
use Rattle.cj_manifest.specs.Faults.{fault_by}
use Rattle.cj_cluster.specs.declared.kubectl.times.CronTimes.{CronTimes}
use Rattle.cj_cluster.specs.declared.kubectl.times.RunTimes.{RunTimes}
use Rattle.cj_cluster.specs.kubectl.Rows.{active_of, finish_row, status_row}

-- an object of a cluster has a uid
abbrev pub uid_cause : Option (List ℕ) → Option Cause
uid_cause None = Some Why.Required
uid_cause (Some uid) = None

-- by the causes against the uid, the status and its list of Jobs
abbrev pub cron_faults_by : Option Cause → Option Cause → Option Cause → CronTimes → List FieldFault
cron_faults_by uid status active times =
    fault_of At.Uid uid
    ++ fault_by At.CreationTimestamp times.created
    ++ fault_of At.Status status
    ++ fault_of At.Active active
    ++ fault_by At.LastScheduleTime times.last
    ++ fault_by At.LastSuccessfulTime times.success

-- rule: cluster-cron
abbrev pub cron_server_faults : Option (List ℕ) → Data → CronTimes → List FieldFault
cron_server_faults uid d times =
    cron_faults_by (uid_cause uid) (result_err (status_row d)) (result_err (active_of d)) times

-- by the causes against the status and its conditions
abbrev pub job_faults_by : Option Cause → Option Cause → RunTimes → List FieldFault
job_faults_by status conditions times =
    fault_by At.CreationTimestamp times.created
    ++ fault_by At.ScheduledTimestamp times.scheduled
    ++ fault_of At.Status status
    ++ fault_of At.Conditions conditions
    ++ fault_by At.CompletionTime times.ended

-- rule: cluster-job
abbrev pub job_server_faults : Data → RunTimes → List FieldFault
job_server_faults d times =
    job_faults_by (result_err (status_row d)) (result_err (finish_row d)) times

-- The JSON object of a CronJob and of a Job (Kubernetes API reference, batch/v1).
use Rattle.std.specs.Prelude.{ℕ, List, [], ◌∷◌, map, codes, Option, Some, None, option_map}
use Rattle.std.specs.Fmt.{decimal}
use Rattle.serde_json.specs.Data.{Data, boolean, number, string, array, object, unsigned, Members, no_members, put}
use Rattle.serde_json.specs.View.{items_of}
use Rattle.cj_types.specs.declared.cron.CronJob.{CronJob}
use Rattle.cj_types.specs.declared.cron.CronSpec.{CronSpec}
use Rattle.cj_types.specs.declared.cron.CronStatus.{CronStatus}
use Rattle.cj_types.specs.declared.cron.JobTemplate.{JobTemplate}
use Rattle.cj_types.specs.declared.job.Job.{Job}
use Rattle.cj_types.specs.declared.meta.Meta.{Meta}
use Rattle.cj_types.specs.declared.owners.OwnerRef.{OwnerRef}
use Rattle.cj_types.specs.declared.policy.Outcome.{Outcome}
use Rattle.cj_types.specs.declared.policy.Outcome.TheVariants.{Complete, Failed}
use Rattle.cj_types.specs.Keys.{Place}
use Rattle.cj_types.specs.Printed.{policy_name}
use Rattle.cj_types.specs.Uids.{uid_text}
use Rattle.cj_json.specs.Parts.{put_some_text, put_some_number, put_time, put_some_time, put_some_object, put_some_list, put_labels, owner_data, kept_value}

-- ---- metadata

abbrev pub put_uid : Meta → Members → Members
put_uid meta ms = put (codes "uid") (string (uid_text meta.uid)) ms

abbrev pub put_version : Meta → Members → Members
put_version meta ms = put (codes "resourceVersion") (string (decimal meta.version)) ms

abbrev pub identity : Place → Meta → Members
identity key meta =
    put_uid meta (
    put_version meta (
    put (codes "namespace") (string key.namespace) (
    put (codes "name") (string key.name) (
    put (codes "generation") (number (unsigned meta.generation)) (
    put_time (codes "creationTimestamp") meta.created no_members)))))

abbrev pub metadata_members : Place → Meta → List OwnerRef → Members
metadata_members key meta owners =
    put_some_list (codes "ownerReferences") (map owner_data owners) (
    put_labels (codes "labels") meta.labels (
    put_labels (codes "annotations") meta.annotations (identity key meta)))

-- ---- a CronJob

abbrev pub template_metadata : JobTemplate → Members
template_metadata t = put_labels (codes "labels") t.labels
    (put_labels (codes "annotations") t.annotations no_members)

-- a template, whose spec is given as a value
abbrev pub template_data : JobTemplate → Data → Data
template_data t job = object (put_some_object (codes "metadata") (template_metadata t)
    (put (codes "spec") job no_members))

abbrev pub spec_head : CronSpec → Data → Members
spec_head s template =
    put (codes "schedule") (string s.schedule) (
    put (codes "failedJobsHistoryLimit") (number (unsigned s.failed_limit)) (
    put (codes "concurrencyPolicy") (string (policy_name s.policy)) (
    put (codes "jobTemplate") template no_members)))

abbrev pub cron_spec_data : CronSpec → Data → Data
cron_spec_data s job = object (
    put_some_text (codes "timeZone") s.time_zone (
    put_some_number (codes "startingDeadlineSeconds") s.starting_deadline_seconds (
    put (codes "suspend") (boolean s.suspend) (
    put (codes "successfulJobsHistoryLimit") (number (unsigned s.successful_limit)) (
    spec_head s (template_data s.template job))))))

-- a reference to a Job that runs
abbrev pub active_data : List ℕ → List ℕ → Data
active_data namespace name = object (
    put (codes "namespace") (string namespace) (
    put (codes "name") (string name) (
    put (codes "kind") (string (codes "Job")) (
    put (codes "apiVersion") (string (codes "batch/v1")) no_members))))

abbrev pub cron_status_members : List ℕ → CronStatus → Members
cron_status_members namespace status =
    put_some_time (codes "lastSuccessfulTime") status.last_successful_time (
    put_some_time (codes "lastScheduleTime") status.last_schedule_time (
    put_some_list (codes "active") (map (active_data namespace) status.active) no_members))

-- the JSON object of a stored object of the given kind, with its status if it has one
abbrev pub object_data : List ℕ → Members → Data → Members → Data
object_data kind metadata spec status = object (
    put_some_object (codes "status") status (
    put (codes "spec") spec (
    put (codes "metadata") (object metadata) (
    put (codes "kind") (string kind) (
    put (codes "apiVersion") (string (codes "batch/v1")) no_members)))))

abbrev pub cron_data : CronJob → Data → Data
cron_data o job =
    object_data (codes "CronJob") (metadata_members o.key o.meta []) (cron_spec_data o.spec job)
    (cron_status_members o.key.namespace o.status)

-- the JSON object, if the kept spec has a value
-- rule: written
abbrev pub cron_written : CronJob → Option Data
cron_written o = option_map (cron_data o) (kept_value o.spec.template.spec)

-- ---- a Job

abbrev pub condition : List ℕ → Data
condition kind = object (put (codes "type") (string kind)
    (put (codes "status") (string (codes "True")) no_members))

abbrev pub one_condition : List ℕ → Members
one_condition kind = put (codes "conditions") (array (items_of (condition kind ∷ []))) no_members

abbrev pub complete_members : ℕ → Members
complete_members t = put_time (codes "completionTime") t (one_condition (codes "Complete"))

abbrev pub ended_members : Outcome → Members
ended_members (Complete t) = complete_members t
ended_members Failed = one_condition (codes "Failed")

abbrev pub job_status_members : Option Outcome → Members
job_status_members None = no_members
job_status_members (Some outcome) = ended_members outcome

abbrev pub job_data : Job → Data → Data
job_data o spec =
    object_data (codes "Job") (metadata_members o.key o.meta o.owners) spec
    (job_status_members o.outcome)

-- rule: written
abbrev pub job_written : Job → Option Data
job_written o = option_map (job_data o) (kept_value o.spec)

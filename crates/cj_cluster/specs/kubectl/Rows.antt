-- What a server says of an object beside its manifest (Kubernetes API reference, `CronJobStatus`,
-- `JobStatus` and `ObjectMeta`).
use Rattle.std.specs.Prelude.{◌≡◌, ℕ, ◌||◌, List, [], ◌∷◌, codes, bytes_eq, if◌then◌else◌, Bool, false, Option, Some, None, is_none, is_some, option_and_then, unwrap_or, Result, Ok, Err}
use Rattle.std.specs.Result.{result_ok}
use Rattle.serde_json.specs.Data.{Data, Items, no_items, item}
use Rattle.serde_json.specs.Find.{as_array, as_bool, as_str}
use Rattle.cj_base.specs.declared.cause.Cause.{Cause}
use Rattle.cj_base.specs.declared.cause.Cause.TheVariants as Why
use Rattle.cj_types.specs.Made.{scheduled_annotation}
use Rattle.cj_types.specs.Names.{longest}
use Rattle.cj_manifest.specs.Drafts.{given}
use Rattle.cj_manifest.specs.Members.{present}
use Rattle.cj_manifest.specs.Owners.{then_do, text_at}
use Rattle.cj_manifest.specs.Values.{an_object, and_then, name, optional, or_wrong_type}
use Rattle.cj_manifest.specs.Table as row
use Rattle.cj_cluster.specs.declared.kubectl.conditions.Ending.{Ending}
use Rattle.cj_cluster.specs.declared.kubectl.conditions.Ending.TheVariants.{Success, Failure}
use Rattle.cj_cluster.specs.declared.kubectl.times.CronTimes.{CronTimes}
use Rattle.cj_cluster.specs.declared.kubectl.times.RunTimes.{RunTimes}
use Rattle.cj_cluster.specs.kubectl.Instants.{IsInstant, IsNoInstant}

-- ---- times

-- a text is the time that it prints, or badly formed
abbrev pub IsTextTime : List ℕ → Result ℕ Cause → Type 0
IsTextTime text (Ok t) = IsInstant text t
IsTextTime text (Err cause) = (cause ≡ Why.Format) × IsNoInstant text

-- a time is a text
-- rule: cluster-times
abbrev pub IsTimeRow : Option (List ℕ) → Result ℕ Cause → Type 0
IsTimeRow None r = r ≡ Err Why.WrongType
IsTimeRow (Some text) r = IsTextTime text r

abbrev pub IsRequiredTime : Option Data → Result ℕ Cause → Type 0
IsRequiredTime None r = r ≡ Err Why.Required
IsRequiredTime (Some d) r = IsTimeRow (as_str d) r

-- a time that is there
abbrev pub some_time : Result ℕ Cause → Result (Option ℕ) Cause
some_time r = and_then (λ t. Ok (Some t)) r

abbrev pub IsOptionalTime : Option Data → Result (Option ℕ) Cause → Type 0
IsOptionalTime None r = r ≡ Ok None
IsOptionalTime (Some d) r =
    (time : Result ℕ Cause) × IsTimeRow (as_str d) time × (r ≡ some_time time)

-- ---- the status

-- a member of an object, where both are there
abbrev pub member_of : List ℕ → Option Data → Option Data
member_of name None = None
member_of name (Some d) = present name d

-- rules: cluster-cron, cluster-job
abbrev pub status_row : Data → Result (Option Data) Cause
status_row d = optional an_object (present (codes "status") d)

abbrev pub status_of : Data → Option Data
status_of d = given (status_row d)

-- ---- the Jobs that run

abbrev pub name_of : Data → Result (List ℕ) Cause
name_of d = name longest d

-- the name in a reference to a Job, where it has one
abbrev pub name_in : Data → Result (Option (List ℕ)) Cause
name_in d = optional name_of (present (codes "name") d)

-- with what one reference names before the others
abbrev pub before : Result (Option (List ℕ)) Cause → Result (List (List ℕ)) Cause
    → Result (List (List ℕ)) Cause
before (Err cause) names = Err cause
before (Ok None) names = names
before (Ok (Some name)) names = and_then (λ ns. Ok (name ∷ ns)) names

-- the names in all references, or the first cause
abbrev pub names_in : Items → Result (List (List ℕ)) Cause
names_in no_items = Ok []
names_in (item d ds) = before (name_in d) (names_in ds)

-- rule: cluster-cron
abbrev pub active_row : Option Data → Result (List (List ℕ)) Cause
active_row None = Ok []
active_row (Some d) = and_then names_in (or_wrong_type (as_array d))

abbrev pub active_of : Data → Result (List (List ℕ)) Cause
active_of d = active_row (member_of (codes "active") (status_of d))

-- a reference that names no Job
abbrev pub is_nameless : Data → Bool
is_nameless d = is_none (present (codes "name") d)

abbrev pub has_nameless : Items → Bool
has_nameless no_items = false
has_nameless (item d ds) = is_nameless d || has_nameless ds

abbrev pub stuck_list : Option Items → Bool
stuck_list None = false
stuck_list (Some ds) = has_nameless ds

-- a reference in `status.active` names no Job: Kubernetes' controller asks for the Job of each
-- reference at each sync, and one without a name has it fail (batch/v1, `CronJobStatus`; API
-- concepts, "Resource URIs")
-- rule: cluster-stuck
abbrev pub stuck_of : Data → Bool
stuck_of d = stuck_list (option_and_then as_array (member_of (codes "active") (status_of d)))

-- ---- the end of a Job

-- how a Job ended, and the member that says when
pub record Finish : Type 0 where
  pub ending : Ending
  pub time : Option Data

abbrev pub ending_named : List ℕ → Option Ending
ending_named name =
    if bytes_eq name (codes "Complete") then Some Success
    else (if bytes_eq name (codes "Failed") then Some Failure else None)

-- the ending, where a condition holds
abbrev pub where_true : List ℕ → Option Ending → Option Ending
where_true holds ending = if bytes_eq holds (codes "True") then ending else None

-- the ending that a condition states; one of another form states none
-- rule: cluster-job
abbrev pub ending_in : Data → Option Ending
ending_in condition =
    then_do (text_at (codes "status") condition) (λ holds.
    then_do (text_at (codes "type") condition) (λ name. where_true holds (ending_named name)))

-- the first that is there
abbrev pub or_else : Option Data → Option Data → Option Data
or_else None other = other
or_else (Some d) other = Some d

-- the end that a condition states, or else a later one
abbrev pub finish_or : Option Ending → Option Data → Option Finish → Option Finish
finish_or None time later = later
finish_or (Some ending) time later = Some (record { ending = ending; time = time })

-- by the first condition that states an end; when, the time of completion says, or else the
-- condition
abbrev pub first_finish : Option Data → Items → Option Finish
first_finish completion no_items = None
first_finish completion (item d ds) =
    finish_or (ending_in d) (or_else completion (present (codes "lastTransitionTime") d))
    (first_finish completion ds)

-- rule: cluster-job
abbrev pub conditions_row : Option Data → Option Data → Result (Option Finish) Cause
conditions_row completion None = Ok None
conditions_row completion (Some d) =
    and_then (λ ds. Ok (first_finish completion ds)) (or_wrong_type (as_array d))

abbrev pub finish_row : Data → Result (Option Finish) Cause
finish_row d =
    conditions_row (member_of (codes "completionTime") (status_of d))
    (member_of (codes "conditions") (status_of d))

-- a Job that ended, did so at a time
abbrev pub IsEndTime : Option Finish → Result (Option ℕ) Cause → Type 0
IsEndTime None r = r ≡ Ok None
IsEndTime (Some finish) r =
    (time : Result ℕ Cause) × IsRequiredTime finish.time time × (r ≡ some_time time)

-- ---- the times of an object

abbrev pub metadata_of : Data → Option Data
metadata_of d = result_ok (row.metadata d)

abbrev pub IsCreated : Data → Result ℕ Cause → Type 0
IsCreated d r = IsRequiredTime (member_of (codes "creationTimestamp") (metadata_of d)) r

-- rule: cluster-cron
pub record AreCronTimes (d : Data) (times : CronTimes) : Type 0 where
  pub created : IsCreated d times.created
  pub last : IsOptionalTime (member_of (codes "lastScheduleTime") (status_of d)) times.last
  pub success : IsOptionalTime (member_of (codes "lastSuccessfulTime") (status_of d)) times.success

-- its deletion was asked for, so its controller starts nothing any more (Kubernetes API reference,
-- `ObjectMeta`, `deletionTimestamp`)
-- rule: cluster-deleting
abbrev pub deleting_of : Data → Bool
deleting_of d = is_some (member_of (codes "deletionTimestamp") (metadata_of d))

abbrev pub is_set : Option Data → Bool
is_set None = false
is_set (Some d) = unwrap_or (as_bool d) false

-- a Job whose Pods aren't to run (Kubernetes Job documentation, "Suspending a Job")
-- rule: cluster-job
abbrev pub suspended_of : Data → Bool
suspended_of d = is_set (member_of (codes "suspend") (present (codes "spec") d))

-- the annotation with the time for which a Job was made
abbrev pub scheduled_in : Data → Option Data
scheduled_in d = member_of scheduled_annotation (member_of (codes "annotations") (metadata_of d))

-- the annotation by which `kubectl create job --from` marks a Job that somebody made by hand
abbrev pub manual_text : Data → Option (List ℕ)
manual_text d =
    option_and_then as_str
    (member_of (codes "cronjob.kubernetes.io/instantiate")
    (member_of (codes "annotations") (metadata_of d)))

abbrev pub says_manual : Option (List ℕ) → Bool
says_manual None = false
says_manual (Some text) = bytes_eq text (codes "manual")

-- rules: cluster-job, cluster-manual
pub record AreRunTimes (d : Data) (times : RunTimes) : Type 0 where
  pub created : IsCreated d times.created
  pub scheduled : IsOptionalTime (scheduled_in d) times.scheduled
  pub ended : IsEndTime (given (finish_row d)) times.ended
  pub manual : times.is_manual ≡ says_manual (manual_text d)
  pub suspended : times.is_suspended ≡ suspended_of d

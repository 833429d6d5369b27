-- What a controller takes from an object that an API server shows (Kubernetes API reference:
-- ObjectMeta, ObjectReference, CronJobSpec, CronJobStatus, JobStatus).
use Rattle.std.specs.Prelude.{◌≡◌, ◌⊎◌, ℕ, ◌&&◌, List, [], ◌∷◌, ◌++◌, codes, bytes_eq, Bool, true, false, if◌then◌else◌, Option, Some, None, is_none, is_some, option_and_then, unwrap_or, Result, Ok, Err}
use Rattle.serde_json.specs.Data.{Data, Items, no_items, item}
use Rattle.serde_json.specs.Find.{as_array, as_bool, as_number, as_str, as_u64}
use Rattle.cj_base.specs.declared.cause.Cause.{Cause}
use Rattle.cj_base.specs.declared.cause.Cause.TheVariants as Why
use Rattle.cj_base.specs.declared.field.Field.{Field}
use Rattle.cj_base.specs.declared.field.Field.TheVariants as At
use Rattle.cj_base.specs.declared.refusal.Refusal.{Refusal}
use Rattle.cj_base.specs.declared.refusal.Refusal.TheVariants.{Invalid}
use Rattle.cj_fence.specs.declared.objects.Cron.{Cron}
use Rattle.cj_fence.specs.declared.objects.Job.{Job}
use Rattle.cj_fence.specs.declared.policy.Policy.{Policy}
use Rattle.cj_fence.specs.declared.policy.Policy.TheVariants.{Allow, Forbid, Replace}
use Rattle.cj_fence.specs.declared.refs.Ref.{Ref}
use Rattle.cj_fence.specs.declared.table.Row.{Row}
use Rattle.cj_cluster.specs.kubectl.Instants.{IsInstant, IsNoInstant}
use Rattle.cj_cluster.specs.kubectl.Rows.{IsOptionalTime, member_of}
use Rattle.cj_manifest.specs.Members.{present}
use Rattle.cj_manifest.specs.Owners.{text_at}
use Rattle.cj_manifest.specs.Values.{and_then, optional, or_default, or_wrong_type, required, text}
use Rattle.cj_types.specs.Names.{name_cause}
use Rattle.cj_control.specs.declared.hold.Hold.{Hold}
use Rattle.cj_control.specs.declared.hold.Hold.TheVariants.{Parallelism, Suspend, Unsaid}
use Rattle.cj_control.specs.declared.objects.head.Head.{Head}
use Rattle.cj_control.specs.declared.objects.cron.CronSaid.{CronSaid}
use Rattle.cj_control.specs.declared.objects.cron.CronTimes.{CronTimes}
use Rattle.cj_control.specs.declared.objects.marks.JobMarks.{JobMarks}

-- ---- members

abbrev pub meta : List ℕ → Data → Option Data
meta name d = member_of name (present (codes "metadata") d)

abbrev pub spec : List ℕ → Data → Option Data
spec name d = member_of name (present (codes "spec") d)

abbrev pub status : List ℕ → Data → Option Data
status name d = member_of name (present (codes "status") d)

-- the text of an annotation
abbrev pub annotation : List ℕ → Data → Option (List ℕ)
annotation name d = option_and_then as_str (member_of name (meta (codes "annotations") d))

-- ---- what is refused, and at which field

abbrev pub in_field : {A : Type 0} → Field → Result A Cause → Result A Refusal
in_field field (Ok x) = Ok x
in_field field (Err cause) = Err (Invalid (record { field = field; cause = cause } ∷ []))

abbrev pub then_read : {A B : Type 0} → Result A Refusal → (A → Result B Refusal) → Result B Refusal
then_read (Ok x) f = f x
then_read (Err e) f = Err e

-- ---- names

-- NAMESPACE/NAME
abbrev pub full_name : List ℕ → List ℕ → List ℕ
full_name namespace name = namespace ++ (codes "/" ++ name)

-- a Job may have this name: a DNS subdomain of at most 253 characters (Kubernetes, "Object Names
-- and IDs", from RFC 1123)
-- rule: control-reads
abbrev pub is_job_name : List ℕ → Bool
is_job_name name = is_none (name_cause 253 name)

-- the name of the Job that a reference is to, in its CronJob's namespace; one without such a name
-- is of no Job
-- rule: control-reads
abbrev pub ref_name : List ℕ → List ℕ → List ℕ
ref_name namespace name = if is_job_name name then full_name namespace name else []

-- what an API server gives each object (ObjectMeta)
-- rule: control-reads
abbrev pub head : Data → Result Head Refusal
head d =
    then_read (in_field At.Namespace (required text (meta (codes "namespace") d))) (λ namespace.
    then_read (in_field At.Name (required text (meta (codes "name") d))) (λ name.
    then_read (in_field At.Uid (required text (meta (codes "uid") d))) (λ uid.
    then_read (in_field At.ResourceVersion (required text (meta (codes "resourceVersion") d)))
    (λ version. Ok (record
    { namespace = namespace; name = name; uid = uid; version = version })))))

-- ---- a CronJob

-- a reference in status.active (ObjectReference)
abbrev pub ref_row : List ℕ → Data → Result Ref Refusal
ref_row namespace d =
    then_read (in_field At.Active (or_default [] text (present (codes "name") d))) (λ name.
    then_read (in_field At.Active (or_default [] text (present (codes "uid") d))) (λ uid.
    Ok (record { name = ref_name namespace name; uid = uid })))

-- with one reference more before the others
abbrev pub ref_before : Result Ref Refusal → Result (List Ref) Refusal → Result (List Ref) Refusal
ref_before r rest = then_read r (λ x. then_read rest (λ xs. Ok (x ∷ xs)))

abbrev pub refs_in : List ℕ → Items → Result (List Ref) Refusal
refs_in namespace no_items = Ok []
refs_in namespace (item d ds) = ref_before (ref_row namespace d) (refs_in namespace ds)

abbrev pub refs_of : List ℕ → Result Items Refusal → Result (List Ref) Refusal
refs_of namespace items = then_read items (refs_in namespace)

-- the Jobs that status.active names
-- rule: control-reads
abbrev pub active : List ℕ → Option Data → Result (List Ref) Refusal
active namespace None = Ok []
active namespace (Some d) = refs_of namespace (in_field At.Active (or_wrong_type (as_array d)))

-- spec.concurrencyPolicy; the empty text counts as Allow
abbrev pub policy_named : List ℕ → Result Policy Cause
policy_named [] = Ok Allow
policy_named (x ∷ xs) =
    if bytes_eq (x ∷ xs) (codes "Allow") then Ok Allow
    else (if bytes_eq (x ∷ xs) (codes "Forbid") then Ok Forbid
    else (if bytes_eq (x ∷ xs) (codes "Replace") then Ok Replace
    else Err Why.NotSupported))

abbrev pub policy_row : Data → Result Policy Cause
policy_row d = and_then policy_named (text d)

abbrev pub count_row : Data → Result ℕ Cause
count_row d = or_wrong_type (option_and_then as_u64 (as_number d))

-- the last schedule time and the last successful time, 0 where there is none
-- rule: control-reads
abbrev pub times : Result (Option ℕ) Cause → Result (Option ℕ) Cause → Result CronTimes Refusal
times last success =
    then_read (in_field At.LastScheduleTime last) (λ last.
    then_read (in_field At.LastSuccessfulTime success) (λ success.
    Ok (record { last = unwrap_or last 0; success = unwrap_or success 0 })))

pub record AreTimes (d : Data) (r : Result CronTimes Refusal) : Type 0 where
  pub last : Result (Option ℕ) Cause
  pub timed : IsOptionalTime (status (codes "lastScheduleTime") d) last
  pub success : Result (Option ℕ) Cause
  pub succeeded : IsOptionalTime (status (codes "lastSuccessfulTime") d) success
  pub is : times last success ≡ r

-- these times, the policy and the starting deadline
-- rule: control-reads
abbrev pub said : Data → Result CronTimes Refusal → Result CronSaid Refusal
said d times =
    then_read times (λ times.
    then_read (in_field At.ConcurrencyPolicy
    (or_default Allow policy_row (spec (codes "concurrencyPolicy") d))) (λ policy.
    then_read (in_field At.StartingDeadlineSeconds
    (optional count_row (spec (codes "startingDeadlineSeconds") d))) (λ deadline.
    Ok (record { times = times; policy = policy; deadline = deadline }))))

pub record IsSaid (d : Data) (r : Result CronSaid Refusal) : Type 0 where
  pub times : Result CronTimes Refusal
  pub are : AreTimes d times
  pub is : said d times ≡ r

-- under its name, with its namespace
abbrev pub cron_row : Head → CronSaid → List Ref → Row Cron
cron_row h s refs = record {
  name = full_name h.namespace h.name;
  object = record {
    uid = h.uid;
    version = h.version;
    last = s.times.last;
    success = s.times.success;
    active = refs;
    policy = s.policy;
    deadline = s.deadline;
  };
}

abbrev pub cron : Data → Result CronSaid Refusal → Result (Row Cron) Refusal
cron d s =
    then_read s (λ s.
    then_read (head d) (λ h.
    then_read (active h.namespace (status (codes "active") d)) (λ refs.
    Ok (cron_row h s refs))))

-- a CronJob as the fenced start sees it, or the field at fault
-- rule: control-reads
pub record IsCron (d : Data) (r : Result (Row Cron) Refusal) : Type 0 where
  pub said : Result CronSaid Refusal
  pub is_said : IsSaid d said
  pub is : cron d said ≡ r

-- ---- a Job

-- the owner that says to be the controller (OwnerReference)
abbrev pub says_so : Option Bool → Bool
says_so None = false
says_so (Some b) = b

abbrev pub is_controller : Data → Bool
is_controller d = says_so (option_and_then as_bool (present (codes "controller") d))

abbrev pub controller_in : Items → List ℕ
controller_in no_items = []
controller_in (item d ds) =
    if is_controller d then unwrap_or (text_at (codes "uid") d) [] else controller_in ds

abbrev pub list_or_none : Option Items → Items
list_or_none None = no_items
list_or_none (Some ds) = ds

-- its uid; empty where no owner is the controller
-- rule: control-reads
abbrev pub controller : Data → List ℕ
controller d =
    controller_in (list_or_none (option_and_then as_array (meta (codes "ownerReferences") d)))

-- whether a text is there, and is this
abbrev pub is_text : List ℕ → Option (List ℕ) → Bool
is_text name None = false
is_text name (Some s) = bytes_eq s name

-- the scheduled time, an annotation; 0 where it isn't there or no time
abbrev pub IsTimeMark : Option (List ℕ) → ℕ → Type 0
IsTimeMark None t = t ≡ 0
IsTimeMark (Some text) t = IsInstant text t ⊎ ((t ≡ 0) × IsNoInstant text)

-- the policy under which the Job was made, an annotation; Allow where it isn't there
abbrev pub policy_mark : Option (List ℕ) → Policy
policy_mark name =
    if is_text (codes "Forbid") name then Forbid
    else (if is_text (codes "Replace") name then Replace else Allow)

-- a condition that holds and says that the Job has ended (JobCondition)
abbrev pub ends : Data → Bool
ends d =
    is_text (codes "True") (text_at (codes "status") d)
    && (if is_text (codes "Complete") (text_at (codes "type") d) then true
    else is_text (codes "Failed") (text_at (codes "type") d))

abbrev pub has_ended : Items → Bool
has_ended no_items = false
has_ended (item d ds) = if ends d then true else has_ended ds

-- a condition that holds and says that the Job is complete (JobCondition)
abbrev pub completes : Data → Bool
completes d =
    is_text (codes "True") (text_at (codes "status") d)
    && is_text (codes "Complete") (text_at (codes "type") d)

abbrev pub has_completed : Items → Bool
has_completed no_items = false
has_completed (item d ds) = if completes d then true else has_completed ds

-- the moment that a text prints, if it prints one
abbrev pub IsMoment : List ℕ → Option ℕ → Type 0
IsMoment text r =
    ((t : ℕ) × IsInstant text t × (r ≡ Some t)) ⊎ (IsNoInstant text × (r ≡ None))

abbrev pub IsTextMoment : Option (List ℕ) → Option ℕ → Type 0
IsTextMoment None r = r ≡ None
IsTextMoment (Some text) r = IsMoment text r

abbrev pub IsMomentAt : Option Data → Option ℕ → Type 0
IsMomentAt d r = IsTextMoment (option_and_then as_str d) r

abbrev pub IsCompletedBy : Bool → Option Data → Option ℕ → Type 0
IsCompletedBy true d r = IsMomentAt d r
IsCompletedBy false d r = r ≡ None

-- when a Job that is complete was completed (JobStatus, completionTime)
-- rule: last-success
abbrev pub IsCompleted : Data → Option ℕ → Type 0
IsCompleted d r = IsCompletedBy
    (has_completed (list_or_none (option_and_then as_array (status (codes "conditions") d))))
    (status (codes "completionTime") d) r

abbrev pub has_items : Items → Bool
has_items no_items = false
has_items (item d ds) = true

-- what holds a Job back until it is started (JobSpec): suspend is true, or parallelism is 0.
-- Earlier versions wrote "true" in either case
-- rule: control-held
abbrev pub hold_text : Hold → List ℕ
hold_text Suspend = codes "suspend"
hold_text Parallelism = codes "parallelism"
hold_text Unsaid = codes "true"

-- the hold of one of these three texts
-- rule: control-held
abbrev pub hold_of : Option (List ℕ) → Option Hold
hold_of text =
    if is_text (codes "suspend") text then Some Suspend
    else (if is_text (codes "parallelism") text then Some Parallelism
    else (if is_text (codes "true") text then Some Unsaid else None))

-- by an annotation; none where the Job isn't held, or in a way that isn't known here
-- rule: control-held
abbrev pub hold_in : Data → Option Hold
hold_in d = hold_of (annotation (codes "cronsim/held") d)

-- while the annotation is there, whatever it says: a newer version may know more kinds of hold
-- rule: control-held
abbrev pub is_held : Data → Bool
is_held d = is_some (annotation (codes "cronsim/held") d)

-- what a Job's marks, its status and its metadata say
-- rule: control-reads
pub record AreMarks (d : Data) (m : JobMarks) : Type 0 where
  pub time : IsTimeMark
      (annotation (codes "batch.kubernetes.io/cronjob-scheduled-timestamp") d) m.time
  pub policy : m.policy ≡ policy_mark (annotation (codes "cronsim/policy") d)
  pub held : m.held ≡ is_held d
  pub finished : m.finished ≡ has_ended (list_or_none
      (option_and_then as_array (status (codes "conditions") d)))
  pub deleting : m.deleting ≡ is_some (meta (codes "deletionTimestamp") d)
  pub pinned : m.pinned ≡ has_items (list_or_none
      (option_and_then as_array (meta (codes "finalizers") d)))

abbrev pub job_row : Head → List ℕ → JobMarks → Row Job
job_row h owner m = record {
  name = full_name h.namespace h.name;
  object = record {
    uid = h.uid;
    version = h.version;
    owner = owner;
    time = m.time;
    policy = m.policy;
    held = m.held;
    finished = m.finished;
    deleting = m.deleting;
    pinned = m.pinned;
  };
}

-- a Job as the fenced start sees it, or the field at fault
-- rule: control-reads
pub record IsJob (d : Data) (r : Result (Row Job) Refusal) : Type 0 where
  pub marks : JobMarks
  pub are : AreMarks d marks
  pub is : then_read (head d) (λ h. Ok (job_row h (controller d) marks)) ≡ r

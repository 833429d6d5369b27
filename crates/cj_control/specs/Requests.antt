-- The bodies of a sync's writes (meta/v1, DeleteOptions and Preconditions; v1, ObjectReference; RFC
-- 6902, JSON Patch; RFC 7386, JSON Merge Patch).
use Rattle.std.specs.Prelude.{◌≡◌, ℕ, List, [], ◌∷◌, codes, Option, Some, None}
use Rattle.serde_json.specs.Data.{Data, Members, array, member, no_members, object, string}
use Rattle.serde_json.specs.View.{items_of}
use Rattle.cj_json.specs.Values.{time_data}
use Rattle.cj_cluster.specs.kubectl.Rows.{member_of}
use Rattle.cj_control.specs.declared.api.ApiVersion.{ApiVersion}
use Rattle.cj_control.specs.declared.created.MarkTexts.{MarkTexts}
use Rattle.cj_control.specs.declared.hold.Hold.{Hold}
use Rattle.cj_control.specs.declared.hold.Hold.TheVariants.{Parallelism, Suspend, Unsaid}
use Rattle.cj_control.specs.declared.objects.head.Head.{Head}
use Rattle.cj_control.specs.declared.request.HeldBy.{HeldBy}
use Rattle.cj_control.specs.Created.{created_body, hold_by}
use Rattle.cj_control.specs.Objects.{hold_text, meta}

abbrev pub operation : List ℕ → List ℕ → Data → Data
operation op path value = object (
    member (codes "op") (string op) (
    member (codes "path") (string path) (
    member (codes "value") value no_members)))

abbrev pub removal : List ℕ → Data
removal path = object (
    member (codes "op") (string (codes "remove")) (
    member (codes "path") (string path) no_members))

-- the annotation that a Job is held, as a JSON Pointer (RFC 6901)
abbrev pub held_mark : List ℕ
held_mark = codes "/metadata/annotations/cronsim~1held"

-- what a start of a hold tests for there
-- rule: control-start
abbrev pub tested : Hold → Data
tested hold = string (hold_text hold)

-- what held the Job back gets the template's values: suspend, parallelism, or both where it isn't
-- said which of them it was
-- rule: control-start
abbrev pub given_back : Hold → Data → Data → List Data
given_back Suspend suspend parallelism =
    operation (codes "add") (codes "/spec/suspend") suspend ∷ []
given_back Parallelism suspend parallelism =
    operation (codes "add") (codes "/spec/parallelism") parallelism ∷ []
given_back Unsaid suspend parallelism =
    operation (codes "add") (codes "/spec/suspend") suspend
    ∷ operation (codes "add") (codes "/spec/parallelism") parallelism ∷ []

-- a JSON patch: on condition of the uid and of the hold, the hold goes and the Job may run. The
-- server refuses the start of another hold (422), since a test fails (RFC 6902, 4.6)
-- rule: control-start
abbrev pub start_body : List ℕ → Hold → Data → Data → Data
start_body uid hold suspend parallelism = array (items_of (
    operation (codes "test") (codes "/metadata/uid") (string uid)
    ∷ operation (codes "test") held_mark (tested hold)
    ∷ removal held_mark
    ∷ given_back hold suspend parallelism))

-- holds with one text are one
-- rule: control-start
abbrev pub HoldLaw : Type 0
HoldLaw = (one other : Hold) → hold_text one ≡ hold_text other → one ≡ other

-- the annotation of a Job is what a start tests for, if it is of this hold and of no other
-- rule: control-start
pub record StartsOnly (hold : Hold) (d : Data) : Type 0 where
  pub its : member_of (codes "cronsim/held") (meta (codes "annotations") d) ≡ Some (tested hold)
  pub only : (other : Hold)
      → member_of (codes "cronsim/held") (meta (codes "annotations") d) ≡ Some (tested other)
      → other ≡ hold

-- a created Job is started by the start of its hold alone
-- rule: control-start
abbrev pub StartLaw : Type 0
StartLaw = (api : ApiVersion) (h : Head) (name : List ℕ) (m : MarkTexts) (by : HeldBy)
    (template : Data) → StartsOnly (hold_by by) (created_body api h name m by template)

-- DeleteOptions: the Job of that uid alone, and its Pods after it
-- rule: control-delete
abbrev pub delete_body : List ℕ → Data
delete_body uid = object (
    member (codes "preconditions") (object (member (codes "uid") (string uid) no_members)) (
    member (codes "propagationPolicy") (string (codes "Background")) no_members))

-- and only as it was read
-- rule: control-delete
abbrev pub expire_body : List ℕ → List ℕ → Data
expire_body uid version = object (
    member (codes "preconditions") (object (
    member (codes "resourceVersion") (string version) (
    member (codes "uid") (string uid) no_members))) (
    member (codes "propagationPolicy") (string (codes "Background")) no_members))

-- an ObjectReference to a Job
-- rule: control-claim
abbrev pub reference : List ℕ → List ℕ → List ℕ → Data
reference namespace name uid = object (
    member (codes "apiVersion") (string (codes "batch/v1")) (
    member (codes "kind") (string (codes "Job")) (
    member (codes "name") (string name) (
    member (codes "namespace") (string namespace) (
    member (codes "uid") (string uid) no_members)))))

-- status.lastSuccessfulTime, where it is sent
-- rule: control-claim
abbrev pub success_member : Option ℕ → Members
success_member None = no_members
success_member (Some t) = member (codes "lastSuccessfulTime") (time_data t) no_members

abbrev pub claim_patch : List ℕ → List ℕ → Data → Data → Members → Data
claim_patch uid version time active success = object (
    member (codes "metadata") (object (
    member (codes "resourceVersion") (string version) (
    member (codes "uid") (string uid) no_members))) (
    member (codes "status") (object (
    member (codes "active") active (
    member (codes "lastScheduleTime") time success))) no_members))

-- a merge patch of a CronJob's status, on condition of its uid and version: the time, and what runs
-- with the Job that gets it, and the last successful time where it is sent
-- rule: control-claim
abbrev pub claim_body : List ℕ → List ℕ → ℕ → Data → Option ℕ → Data
claim_body uid version time active success =
    claim_patch uid version (time_data time) active (success_member success)

abbrev pub tidy_patch : List ℕ → List ℕ → Data → Members → Data
tidy_patch uid version active success = object (
    member (codes "metadata") (object (
    member (codes "resourceVersion") (string version) (
    member (codes "uid") (string uid) no_members))) (
    member (codes "status") (object (member (codes "active") active success)) no_members))

-- what runs, without the dead, and the last successful time where it is sent
-- rule: control-claim
abbrev pub tidy_body : List ℕ → List ℕ → Data → Option ℕ → Data
tidy_body uid version active success = tidy_patch uid version active (success_member success)

-- The Job that a controller creates for a time of a CronJob (batch/v1, Job; meta/v1, ObjectMeta and
-- OwnerReference).
use Rattle.std.specs.Prelude.{◌≡◌, ℕ, ◌||◌, List, [], ◌∷◌, codes, Bool, true, false, Option, Some, None, is_some}
use Rattle.serde_json.specs.Data.{Data, Members, array, boolean, member, no_members, number, object, put, string, unsigned}
use Rattle.serde_json.specs.Find.{as_object}
use Rattle.serde_json.specs.View.{items_of}
use Rattle.cj_manifest.specs.Members.{present}
use Rattle.cj_cluster.specs.kubectl.Rows.{member_of}
use Rattle.cj_control.specs.Objects.{annotation, controller, hold_in, hold_text, meta, status}
use Rattle.cj_control.specs.Api.{api_text}
use Rattle.cj_control.specs.declared.api.ApiVersion.{ApiVersion}
use Rattle.cj_control.specs.declared.objects.head.Head.{Head}
use Rattle.cj_control.specs.declared.created.MarkTexts.{MarkTexts}
use Rattle.cj_control.specs.declared.hold.Hold.{Hold}
use Rattle.cj_control.specs.declared.hold.Hold.TheVariants as Is
use Rattle.cj_control.specs.declared.request.HeldBy.{HeldBy}
use Rattle.cj_control.specs.declared.request.HeldBy.TheVariants.{Parallelism, Suspend}

-- the members of an object; none where it isn't one
abbrev pub or_no_members : Option Members → Members
or_no_members None = no_members
or_no_members (Some ms) = ms

abbrev pub members_of : Option Data → Members
members_of None = no_members
members_of (Some d) = or_no_members (as_object d)

-- whether a spec says how many Pods are to complete, or how many run at once
abbrev pub has_count : Option Data → Bool
has_count spec =
    is_some (member_of (codes "completions") spec)
    || is_some (member_of (codes "parallelism") spec)

-- one that says neither has one to complete
abbrev pub counted : Bool → Members → Members
counted true ms = ms
counted false ms = put (codes "completions") (number (unsigned 1)) ms

-- what holds a Job back that is created so
abbrev pub hold_by : HeldBy → Hold
hold_by Suspend = Is.Suspend
hold_by Parallelism = Is.Parallelism

-- the template's spec, held
-- rule: control-created
abbrev pub held_spec : HeldBy → Bool → Members → Members
held_spec Suspend counts ms = put (codes "suspend") (boolean true) ms
held_spec Parallelism counts ms = put (codes "parallelism") (number (unsigned 0)) (counted counts ms)

abbrev pub held : HeldBy → Option Data → Members
held by spec = held_spec by (has_count spec) (members_of spec)

-- the template's labels, and the CronJob's uid
-- rule: control-created
abbrev pub labels : List ℕ → Members → Members
labels uid ms = put (codes "cronsim/uid") (string uid) ms

-- the template's annotations, the time, the policy, the template's mark, and what holds it back
-- rule: control-created
abbrev pub annotations : HeldBy → MarkTexts → Members → Members
annotations by m ms =
    put (codes "cronsim/held") (string (hold_text (hold_by by))) (
    put (codes "cronsim/template") (string m.template) (
    put (codes "cronsim/policy") (string m.policy) (
    put (codes "batch.kubernetes.io/cronjob-scheduled-timestamp") (string m.time) ms)))

-- the CronJob as the controller
abbrev pub owner_by : List ℕ → List ℕ → List ℕ → Data
owner_by api name uid = object (
    member (codes "apiVersion") (string api) (
    member (codes "blockOwnerDeletion") (boolean true) (
    member (codes "controller") (boolean true) (
    member (codes "kind") (string (codes "CronJob")) (
    member (codes "name") (string name) (
    member (codes "uid") (string uid) no_members))))))

abbrev pub owner : ApiVersion → List ℕ → List ℕ → Data
owner api name uid = owner_by (api_text api) name uid

abbrev pub metadata_of : List ℕ → List ℕ → Data → Data → Data → Data
metadata_of namespace name annotations labels owners = object (
    member (codes "annotations") annotations (
    member (codes "labels") labels (
    member (codes "name") (string name) (
    member (codes "namespace") (string namespace) (
    member (codes "ownerReferences") owners no_members)))))

abbrev pub metadata : ApiVersion → Head → List ℕ → Data → Data → Data
metadata api h name annotations labels =
    metadata_of h.namespace name annotations labels
    (array (items_of (owner api h.name h.uid ∷ [])))

abbrev pub job : Data → Data → Data
job metadata spec = object (
    member (codes "apiVersion") (string (codes "batch/v1")) (
    member (codes "kind") (string (codes "Job")) (
    member (codes "metadata") metadata (
    member (codes "spec") spec no_members))))

-- a member of the template's metadata
abbrev pub template_members : List ℕ → Data → Members
template_members name template =
    members_of (member_of name (present (codes "metadata") template))

-- the Job of that name and with those marks, by the CronJob's head and its jobTemplate
-- rule: control-created
abbrev pub created_body : ApiVersion → Head → List ℕ → MarkTexts → HeldBy → Data → Data
created_body api h name m by template =
    job (metadata api h name
    (object (annotations by m (template_members (codes "annotations") template)))
    (object (labels h.uid (template_members (codes "labels") template))))
    (object (held by (present (codes "spec") template)))

-- what is created is what was asked for: of that name, controller, time and policy, held as was
-- asked, and with no end, no deletionTimestamp and no finalizer
-- rule: control-created
pub record ReadsBack (h : Head) (name : List ℕ) (m : MarkTexts) (by : HeldBy)
    (d : Data) : Type 0 where
  pub named : meta (codes "name") d ≡ Some (string name)
  pub placed : meta (codes "namespace") d ≡ Some (string h.namespace)
  pub owned : controller d ≡ h.uid
  pub timed : annotation (codes "batch.kubernetes.io/cronjob-scheduled-timestamp") d ≡ Some m.time
  pub policy : annotation (codes "cronsim/policy") d ≡ Some m.policy
  pub held : annotation (codes "cronsim/held") d ≡ Some (hold_text (hold_by by))
  pub waits : hold_in d ≡ Some (hold_by by)
  pub unended : status (codes "conditions") d ≡ None
  pub standing : meta (codes "deletionTimestamp") d ≡ None
  pub unpinned : meta (codes "finalizers") d ≡ None

abbrev pub CreatedLaw : Type 0
CreatedLaw = (api : ApiVersion) (h : Head) (name : List ℕ) (m : MarkTexts) (by : HeldBy)
    (template : Data) → ReadsBack h name m by (created_body api h name m by template)

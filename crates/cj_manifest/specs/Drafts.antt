-- The draft of a manifest without a fault, with defaults. Where a row has a fault, any value serves
-- in its place.
use Rattle.std.specs.Prelude.{ℕ, ◌==◌, List, [], length, codes, false, if◌then◌else◌, Option, Some, None, Result, Ok, Err}
use Rattle.std.specs.Result.{result_ok}
use Rattle.serde_json.specs.Data.{Data, Items, Members, no_members, member}
use Rattle.serde_json.specs.Find.{as_str}
use Rattle.serde_json.specs.Written.{compact_text}
use Rattle.cj_base.specs.declared.cause.Cause.{Cause}
use Rattle.cj_types.specs.declared.cron.CronJobDraft.{CronJobDraft}
use Rattle.cj_types.specs.declared.cron.CronSpec.{CronSpec}
use Rattle.cj_types.specs.declared.cron.JobTemplate.{JobTemplate}
use Rattle.cj_types.specs.declared.job.JobDraft.{JobDraft}
use Rattle.cj_types.specs.declared.meta.DraftMeta.{DraftMeta}
use Rattle.cj_types.specs.declared.owners.OwnerRef.{OwnerRef}
use Rattle.cj_types.specs.declared.policy.Policy.TheVariants.{Allow}
use Rattle.cj_types.specs.Keys.{Place, place}
use Rattle.cj_types.specs.LabelMap.{put_label}
use Rattle.cj_manifest.specs.declared.head.JobHead.{JobHead}
use Rattle.cj_manifest.specs.declared.kind.ObjectKind.{ObjectKind}
use Rattle.cj_manifest.specs.declared.kind.ObjectKind.TheVariants as Of
use Rattle.cj_manifest.specs.Members.{present}
use Rattle.cj_manifest.specs.Values.{optional, text}
use Rattle.cj_manifest.specs.Owners.{owner_list}
use Rattle.cj_manifest.specs.Table as fields

-- ---- values of rows

-- the value of a row, or the given one where it has a fault
abbrev pub value_or : {A : Type 0} → A → Result A Cause → A
value_or y (Ok x) = x
value_or y (Err cause) = y

-- the value of an optional row
abbrev pub given : {A : Type 0} → Result (Option A) Cause → Option A
given r = value_or None r

-- the empty text counts as absent
abbrev pub unless_empty : Option (List ℕ) → Option (List ℕ)
unless_empty None = None
unless_empty (Some s) = if length s == 0 then None else Some s

-- ---- labels and annotations

-- the labels with the member's text at its name, where the member is there
abbrev pub with_label : List ℕ → Option (List ℕ) → List (List ℕ × List ℕ) → List (List ℕ × List ℕ)
with_label name None labels = labels
with_label name (Some value) labels = put_label name value labels

-- the labels of all members
abbrev pub labels_onto : List (List ℕ × List ℕ) → Members → List (List ℕ × List ℕ)
labels_onto labels no_members = labels
labels_onto labels (member k d ms) = labels_onto (with_label k (as_str d) labels) ms

abbrev pub label_map : Option Members → List (List ℕ × List ℕ)
label_map None = []
label_map (Some ms) = labels_onto [] ms

-- ---- metadata

abbrev pub key_of : ObjectKind → Data → Place
key_of k m = place (value_or [] (fields.namespace m)) (value_or [] (fields.name k m))

abbrev pub uid_of : Data → Option (List ℕ)
uid_of m = unless_empty (given (fields.uid m))

abbrev pub version_of : Data → Option (List ℕ)
version_of m = unless_empty (given (fields.resource_version m))

abbrev pub labels_of : Data → List (List ℕ × List ℕ)
labels_of m = label_map (given (fields.labels m))

abbrev pub annotations_of : Data → List (List ℕ × List ℕ)
annotations_of m = label_map (given (fields.annotations m))

-- rule: drafts
abbrev pub meta_of : Data → DraftMeta
meta_of m = record { uid = uid_of m; version = version_of m; labels = labels_of m; annotations = annotations_of m }

abbrev pub owners_in : Option Items → List OwnerRef
owners_in None = []
owners_in (Some ds) = owner_list ds

abbrev pub owners_of : Data → List OwnerRef
owners_of m = owners_in (given (fields.owners m))

-- ---- a CronJob

-- the labels in the metadata of a template, which may be absent
abbrev pub template_labels : Option Data → List (List ℕ × List ℕ)
template_labels None = []
template_labels (Some m) = labels_of m

abbrev pub template_annotations : Option Data → List (List ℕ × List ℕ)
template_annotations None = []
template_annotations (Some m) = annotations_of m

-- a template and the spec in it, which is kept as its compact text
abbrev pub template_of : Data → Data → JobTemplate
template_of t j = record {
  labels = template_labels (given (fields.template_metadata t));
  annotations = template_annotations (given (fields.template_metadata t));
  spec = compact_text j;
}

-- the name of the zone in the manifest
abbrev pub zone_name : Data → Option (List ℕ)
zone_name s = given (optional text (present (codes "timeZone") s))

-- the schedule's text in the manifest
abbrev pub schedule_text : Data → List ℕ
schedule_text s = value_or [] (fields.schedule s)

abbrev pub cron_spec_of : Data → JobTemplate → CronSpec
cron_spec_of s template = record {
  schedule = schedule_text s;
  time_zone = zone_name s;
  policy = value_or Allow (fields.policy s);
  suspend = value_or false (fields.suspend s);
  starting_deadline_seconds = given (fields.deadline s);
  successful_limit = value_or 0 (fields.successful_limit s);
  failed_limit = value_or 0 (fields.failed_limit s);
  template = template;
}

abbrev pub then_do : {A B : Type 0} → Option A → (A → Option B) → Option B
then_do None f = None
then_do (Some x) f = f x

-- the draft of a CronJob, where the objects in it are there
-- rule: drafts
abbrev pub cron_draft : Data → Option CronJobDraft
cron_draft d =
    then_do (result_ok (fields.metadata d)) (λ m.
    then_do (result_ok (fields.spec d)) (λ s.
    then_do (result_ok (fields.job_template s)) (λ t.
    then_do (result_ok (fields.job_spec t)) (λ j.
    Some (record { key = key_of Of.Cron m; meta = meta_of m; spec = cron_spec_of s (template_of t j) })))))

-- ---- a Job

-- rule: drafts
abbrev pub job_draft : Data → Option JobDraft
job_draft d =
    then_do (result_ok (fields.metadata d)) (λ m.
    then_do (result_ok (fields.spec d)) (λ s.
    Some (record { key = key_of Of.Job m; meta = meta_of m; owners = owners_of m; spec = compact_text s })))

-- the key and the owners in the metadata of a Job
abbrev pub head_in : Data → JobHead
head_in m = record { key = key_of Of.Job m; owners = owners_of m }

-- the head of a Job, where its metadata is there
-- rule: cluster-job
abbrev pub job_head : Data → Option JobHead
job_head d = then_do (result_ok (fields.metadata d)) (λ m. Some (head_in m))

-- The Job that the controller creates for a scheduled time of a CronJob, as a draft.
use Rattle.std.specs.Prelude.{ℕ, ◌/◌, List, [], ◌∷◌, ◌++◌, None, true, codes}
use Rattle.std.specs.Fmt.{decimal}
use Rattle.cj_types.specs.declared.cron.CronJob.{CronJob}
use Rattle.cj_types.specs.declared.job.JobDraft.{JobDraft}
use Rattle.cj_types.specs.declared.meta.DraftMeta.{DraftMeta}
use Rattle.cj_types.specs.declared.owners.OwnerRef.{OwnerRef}
use Rattle.cj_types.specs.Keys.{Place, place}
use Rattle.cj_types.specs.LabelMap.{put_label}
use Rattle.cj_types.specs.Uids.{uid_text}

-- the annotation with which Kubernetes' CronJob controller marks its Jobs
abbrev pub scheduled_annotation : List ℕ
scheduled_annotation = codes "batch.kubernetes.io/cronjob-scheduled-timestamp"

-- the CronJob's name, `-`, and the time in whole minutes since 1970
-- rule: made-job
abbrev pub made_name : List ℕ → ℕ → List ℕ
made_name name time = name ++ 45 ∷ decimal (time / 60)

-- the Job's key: its name, in the CronJob's namespace
abbrev pub made_place : Place → ℕ → Place
made_place k time = place k.namespace (made_name k.name time)

-- the reference to the CronJob as the Job's controller
abbrev pub owner_of : CronJob → OwnerRef
owner_of cron = record {
  api_version = codes "batch/v1";
  kind = codes "CronJob";
  name = cron.key.name;
  uid = uid_text cron.meta.uid;
  controller = true;
  block_owner_deletion = true;
}

-- the template's labels, and its annotations with the scheduled time
-- rule: made-job
abbrev pub made_meta : CronJob → List ℕ → DraftMeta
made_meta cron time_text = record {
  uid = None;
  version = None;
  labels = cron.spec.template.labels;
  annotations = put_label scheduled_annotation time_text cron.spec.template.annotations;
}

-- the Job for a time, given also as a text
-- rule: made-job
abbrev pub made_job : CronJob → ℕ → List ℕ → JobDraft
made_job cron time time_text = record {
  key = made_place cron.key time;
  meta = made_meta cron time_text;
  owners = owner_of cron ∷ [];
  spec = cron.spec.template.spec;
}

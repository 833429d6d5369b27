-- What a write leaves, by the writes before it: Kubernetes API concepts, "Resource versions", and
-- API conventions, "Metadata". A write is told as the event that a watch gives of it. A list of
-- writes has the newest first.
use Rattle.std.specs.Prelude.{ℕ, ◌+◌, Bool, List, [], ◌∷◌, length, Option, Some, None, if◌then◌else◌}
use Rattle.cj_types.specs.Keys.{Place}
use Rattle.cj_types.specs.declared.meta.Meta.{Meta}
use Rattle.cj_types.specs.declared.meta.DraftMeta.{DraftMeta}
use Rattle.cj_types.specs.declared.cron.CronJob.{CronJob}
use Rattle.cj_types.specs.declared.cron.CronJobDraft.{CronJobDraft}
use Rattle.cj_types.specs.declared.cron.CronStatus.{CronStatus}
use Rattle.cj_types.specs.declared.job.Job.{Job}
use Rattle.cj_types.specs.declared.job.JobDraft.{JobDraft}
use Rattle.cj_types.specs.declared.policy.Outcome.{Outcome}
use Rattle.cj_types.specs.declared.event.Event.{Event}
use Rattle.cj_types.specs.declared.event.Event.TheVariants.{Added, Modified, Deleted}
use Rattle.cj_types.specs.declared.event.Object.TheVariants as Kind
use Rattle.cj_queue.specs.Parts.{key_eq}
use Rattle.cj_store.specs.Equal.{same_cron_spec, same_job_spec}
use Rattle.cj_store.specs.Jobs.{ended_at}

-- ---- looking back over writes

-- how many there were
abbrev pub version : List Event → ℕ
version ws = length ws

-- how many objects were created
-- rule: written-history
abbrev pub made : List Event → ℕ
made [] = 0
made (Added o ∷ ws) = made ws + 1
made (Modified o ∷ ws) = made ws
made (Deleted o ∷ ws) = made ws

-- the CronJob that a write leaves at a key where this one stood
abbrev pub cron_left : Event → Place → Option CronJob → Option CronJob
cron_left (Added (Kind.Cron c)) k was = if key_eq c.key k then Some c else was
cron_left (Modified (Kind.Cron c)) k was = if key_eq c.key k then Some c else was
cron_left (Deleted (Kind.Cron c)) k was = if key_eq c.key k then None else was
cron_left w k was = was

-- the current CronJob of a key: the one that the last write about it left
-- rule: written-history
abbrev pub current_cron : List Event → Place → Option CronJob
current_cron [] k = None
current_cron (w ∷ ws) k = cron_left w k (current_cron ws k)

-- the same of Jobs; a CronJob and a Job of one key are two objects
abbrev pub job_left : Event → Place → Option Job → Option Job
job_left (Added (Kind.Job j)) k was = if key_eq j.key k then Some j else was
job_left (Modified (Kind.Job j)) k was = if key_eq j.key k then Some j else was
job_left (Deleted (Kind.Job j)) k was = if key_eq j.key k then None else was
job_left w k was = was

-- rule: written-history
abbrev pub current_job : List Event → Place → Option Job
current_job [] k = None
current_job (w ∷ ws) k = job_left w k (current_job ws k)

-- ---- the next write

-- a new object: its version is the number of the write, its uid that of the creation, so that no
-- uid is given twice
-- rule: written-history
abbrev pub new_meta : List Event → DraftMeta → ℕ → Meta
new_meta ws d now = record {
  uid = made ws + 1;
  version = version ws + 1;
  generation = 1;
  created = now;
  labels = d.labels;
  annotations = d.annotations;
}

-- an object that is written again
abbrev pub written_again : List Event → Meta → Meta
written_again ws m = record m { version = version ws + 1 }

-- one that is replaced: the draft's labels and annotations, and a generation more unless the spec
-- is the same
abbrev pub replaced : List Event → DraftMeta → Bool → Meta → Meta
replaced ws d is_same m = record m {
  version = version ws + 1;
  generation = if is_same then m.generation else m.generation + 1;
  labels = d.labels;
  annotations = d.annotations;
}

-- a new CronJob has the draft's spec, and an empty status
abbrev pub cron_created : List Event → CronJobDraft → ℕ → Event
cron_created ws d now = Added (Kind.Cron (record {
  key = d.key;
  meta = new_meta ws d.meta now;
  spec = d.spec;
  status = record { active = []; last_schedule_time = None; last_successful_time = None };
}))

-- an update leaves uid, creation time and status alone
abbrev pub cron_updated : List Event → CronJobDraft → CronJob → Event
cron_updated ws d c = Modified (Kind.Cron
    (record c { meta = replaced ws d.meta (same_cron_spec d.spec c.spec) c.meta; spec = d.spec }))

-- an update of the status leaves the rest alone
abbrev pub status_set : List Event → CronStatus → CronJob → Event
status_set ws status c = Modified (Kind.Cron
    (record c { meta = written_again ws c.meta; status = status }))

-- a deletion is told with the last object, with its own version
abbrev pub cron_deleted : List Event → CronJob → Event
cron_deleted ws c = Deleted (Kind.Cron (record c { meta = written_again ws c.meta }))

-- a new Job has the draft's spec and owners, and hasn't ended
abbrev pub job_created : List Event → JobDraft → ℕ → Event
job_created ws d now = Added (Kind.Job (record { key = d.key; meta = new_meta ws d.meta now; owners = d.owners; spec = d.spec; outcome = None }))

abbrev pub job_updated : List Event → JobDraft → Job → Event
job_updated ws d j = Modified (Kind.Job (record j
    { meta = replaced ws d.meta (same_job_spec d.spec j.spec) j.meta; spec = d.spec }))

-- the end sets the outcome alone
abbrev pub job_ended : List Event → Outcome → ℕ → Job → Event
job_ended ws outcome now j = Modified (Kind.Job
    (record j { meta = written_again ws j.meta; outcome = Some (ended_at now outcome) }))

abbrev pub job_deleted : List Event → Job → Event
job_deleted ws j = Deleted (Kind.Job (record j { meta = written_again ws j.meta }))

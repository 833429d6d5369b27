-- How a planned write changes the content. A write is represented by its watch event.
use Rattle.std.specs.Prelude.{◌≡◌, ◌+◌, ◌≤◌, List, Option, Some, None, Result, Ok, Err, refl}
use Rattle.std.specs.FinMap as map
use Rattle.std.specs.Option.{option_map}
use Rattle.std.specs.Coded.{Coded, code_by, coded×}
use Rattle.cj_base.specs.declared.refusal.Refusal.{Refusal}
use Rattle.cj_types.specs.Keys.{Place}
use Rattle.cj_types.specs.Events.{version_of}
use Rattle.cj_types.specs.declared.cron.CronJob.{CronJob}
use Rattle.cj_types.specs.declared.job.Job.{Job}
use Rattle.cj_types.specs.declared.owners.OwnerRef.{OwnerRef}
use Rattle.cj_types.specs.declared.event.Event.{Event}
use Rattle.cj_types.specs.contracts.event.Event.{the_row as event_row}
use Rattle.cj_types.specs.declared.event.Event.TheVariants.{Added, Modified, Deleted}
use Rattle.cj_types.specs.declared.event.Object.TheVariants as Of
use Rattle.cj_store.specs.Content.{Content, coded_content, CronAt, JobAt, uid_at}

-- the events of writes on either kind
abbrev pub cron_added : CronJob → Event
cron_added cron = Added (Of.Cron cron)

abbrev pub cron_modified : CronJob → Event
cron_modified cron = Modified (Of.Cron cron)

abbrev pub cron_gone : CronJob → Event
cron_gone cron = Deleted (Of.Cron cron)

abbrev pub job_added : Job → Event
job_added job = Added (Of.Job job)

abbrev pub job_modified : Job → Event
job_modified job = Modified (Of.Job job)

abbrev pub job_gone : Job → Event
job_gone job = Deleted (Of.Job job)

-- an accepted answer mapped to another value, with the same refusals
abbrev pub map_ok : {X Y : Type 0} → (X → Y) → Result X Refusal → Result Y Refusal
map_ok f (Ok x) = Ok (f x)
map_ok f (Err e) = Err e

-- the content after the write: the version grows by 1, and the count of uids by 1 after a creation
-- rules: versions, events
abbrev pub after : Content → Event → Content
after s (Added (Of.Cron c)) = record s { crons = map.insert s.crons c.key c; version = s.version + 1; uids = s.uids + 1 }
after s (Modified (Of.Cron c)) = record s
    { crons = map.insert s.crons c.key c; version = s.version + 1 }
after s (Deleted (Of.Cron c)) = record s { crons = map.remove s.crons c.key; version = s.version + 1 }
after s (Added (Of.Job j)) = record s { jobs = map.insert s.jobs j.key j; version = s.version + 1; uids = s.uids + 1 }
after s (Modified (Of.Job j)) = record s { jobs = map.insert s.jobs j.key j; version = s.version + 1 }
after s (Deleted (Of.Job j)) = record s { jobs = map.remove s.jobs j.key; version = s.version + 1 }

-- the owner references of the Job at a key
abbrev pub owners_at : Content → Place → Option (List OwnerRef)
owners_at s key = option_map (λ job. job.owners) (map.get s.jobs key)

-- a creation is of a free name, with the next uid; any other write is of the object with that key
-- and uid, and keeps its owners
abbrev pub Stands : Content → Event → Type 0
Stands s (Added (Of.Cron c)) = (map.get s.crons c.key ≡ None) × (c.meta.uid ≡ s.uids + 1)
    × (c.meta.generation ≡ 1)
Stands s (Modified (Of.Cron c)) = (uid_at s (CronAt c.key) ≡ Some c.meta.uid)
    × (c.meta.generation ≤ s.version + 1)
Stands s (Deleted (Of.Cron c)) = uid_at s (CronAt c.key) ≡ Some c.meta.uid
Stands s (Added (Of.Job j)) = (map.get s.jobs j.key ≡ None) × (j.meta.uid ≡ s.uids + 1)
    × (j.meta.generation ≡ 1)
Stands s (Modified (Of.Job j)) = (owners_at s j.key ≡ Some j.owners)
    × (uid_at s (JobAt j.key) ≡ Some j.meta.uid) × (j.meta.generation ≤ s.version + 1)
Stands s (Deleted (Of.Job j)) = (owners_at s j.key ≡ Some j.owners)
    × (uid_at s (JobAt j.key) ≡ Some j.meta.uid)

-- the event is of a write that can come next on the content: it has the next version, and its
-- object fits the content
-- rule: planned-change
abbrev pub IsNext : Content → Event → Type 0
IsNext s e = (version_of e ≡ s.version + 1) × Stands s e

-- a write that was planned: the content that it was planned on, and its event
pub record PlannedWrite : Type 0 where
  pub before : Content
  pub event : Event

abbrev pub coded_write : Coded PlannedWrite
coded_write = code_by (Content × Event) (coded× coded_content event_row.coded)
    (λ w. (w.before, w.event)) (λ p. record { before = p.0; event = p.1 }) (λ _. refl)

-- the content is the very one that the write was planned on: the same objects, the same counts
-- rule: planned-change
abbrev pub IsFor : Content → PlannedWrite → Type 0
IsFor s change = change.before ≡ s

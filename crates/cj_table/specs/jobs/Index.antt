-- The index from CronJobs to Jobs: under each owner the slots of its Jobs by key.
use Rattle.std.specs.Prelude.{◌≡◌, ℕ, Bool, false, ◌&&◌, cond, Option, Some, None}
use Rattle.std.specs.Option.{option_map}
use Rattle.std.specs.BTreeMap.{is_at}
use Rattle.std.specs.FinMap as map
use Rattle.cj_types.specs.Keys.{Place, place, place_cmp}
use Rattle.cj_types.specs.Objects.{cron_of}
use Rattle.cj_types.specs.declared.job.Job.{Job}
use Rattle.cj_table.specs.jobs.Owners.{is_job_of}
use Rattle.cj_table.specs.jobs.Slots.{Slots, Table, job_at}

-- for each owner that has Jobs, the slots of these by key
abbrev pub Index : Type 0
Index = map.FinMap place_cmp Table

-- the given slots, or an empty map where none are given
abbrev pub or_none : Option Table → Table
or_none None = map.empty
or_none (Some own) = own

-- the slots of an owner's Jobs
abbrev pub own_slots : Index → Place → Table
own_slots index owner = or_none (map.get index owner)

-- the CronJob that a Job's controller reference names, if it names one
abbrev pub owner_of : Job → Option Place
owner_of job = option_map (λ name. place job.key.namespace name) (cron_of job)

-- the CronJob that the Job names, if there is a Job and it names one
abbrev pub owner_at : Option Job → Option Place
owner_at None = None
owner_at (Some job) = owner_of job

-- whether a Job is there and is one of the owner's
abbrev pub is_owned : Place → Option Job → Bool
is_owned owner None = false
is_owned owner (Some job) = is_job_of owner job

-- the slot, if one is given and its Job is one of the owner's
abbrev pub owned_slot : Slots → Place → Option ℕ → Option ℕ
owned_slot slots owner None = None
owned_slot slots owner (Some slot) = cond (is_owned owner (job_at slots slot)) (Some slot) None

-- the key of the Job in a slot, if there is one
abbrev pub key_at : Slots → ℕ → Option Place
key_at slots slot = option_map (λ job. job.key) (job_at slots slot)

-- the table, the slots and the index agree: each key of the table has a slot with a Job of that
-- key; a slot's Job has that slot in the table; and an owner has a key's slot in the index just
-- where the Job there is one of the owner's
-- rule: jobs-of
pub record IsIndex (table : Table) (slots : Slots) (index : Index) : Type 0 where
  pub keyed : (key : Place) (slot : ℕ) → map.get table key ≡ Some slot
      → key_at slots slot ≡ Some key
  pub held : (key : Place) (slot : ℕ) → key_at slots slot ≡ Some key → map.get table key ≡ Some slot
  pub exact : (owner key : Place)
      → map.get (own_slots index owner) key ≡ owned_slot slots owner (map.get table key)

-- whether an owner is given and is this one
abbrev pub is_owner : Option Place → Place → Bool
is_owner None other = false
is_owner (Some owner) other = is_at (place_cmp owner) other

-- the new index has this slot, or none, for the key under the owner, if one is given, and is else
-- as the old
abbrev pub Sets : Option ℕ → Index → Index → Option Place → Place → Type 0
Sets there old new owner key = (o k : Place)
    → map.get (own_slots new o) k ≡ cond (is_owner owner o && is_at (place_cmp key) k) there
    (map.get (own_slots old o) k)

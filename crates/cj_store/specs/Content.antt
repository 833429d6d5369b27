-- The content of a store, as contracts see it.
use Rattle.std.specs.Prelude.{◌≡◌, ℕ, ◌≤◌, ◌<◌, ◌^◌, Option, Some, refl}
use Rattle.std.specs.Option.{option_map}
use Rattle.std.specs.FinMap as map
use Rattle.std.specs.Coded.{Coded, code_by, coded×, coded_ℕ}
use Rattle.cj_types.specs.Keys.{Place, place_cmp, coded_place}
use Rattle.cj_types.specs.declared.cron.CronJob.{CronJob}
use Rattle.cj_types.specs.contracts.cron.CronJob.{the_row as cron_job}
use Rattle.cj_types.specs.declared.meta.Meta.{Meta}
use Rattle.cj_types.specs.declared.job.Job.{Job}
use Rattle.cj_types.specs.contracts.job.Job.{the_row as job}

-- the current objects of both kinds by key, the count of writes, and the count of creations
-- rule: store-objects
pub record Content : Type 0 where
  pub crons : map.FinMap place_cmp CronJob
  pub jobs : map.FinMap place_cmp Job
  pub version : ℕ
  pub uids : ℕ

abbrev pub coded_content : Coded Content
coded_content =
    code_by ((map.FinMap place_cmp CronJob × map.FinMap place_cmp Job) × (ℕ × ℕ))
    (coded× (coded× (map.code coded_place cron_job.coded) (map.code coded_place job.coded))
    (coded× coded_ℕ coded_ℕ))
    (λ s. ((s.crons, s.jobs), (s.version, s.uids)))
    (λ p. record { crons = (p.0).0; jobs = (p.0).1; version = (p.1).0; uids = (p.1).1 })
    (λ _. refl)

-- the content before the first write
abbrev pub nothing : Content
nothing = record { crons = map.empty; jobs = map.empty; version = 0; uids = 0 }

-- another write is possible: fewer than 2^40 were made
abbrev pub HasRoom : Content → Type 0
HasRoom s = s.version < 2 ^ 40

-- the place of an object: its kind and its key
pub data Home : Type 0 where
  CronAt : Place → Home
  JobAt : Place → Home

-- the metadata of the current object at a place
abbrev pub meta_at : Content → Home → Option Meta
meta_at s (CronAt k) = option_map (λ c. c.meta) (map.get s.crons k)
meta_at s (JobAt k) = option_map (λ j. j.meta) (map.get s.jobs k)

-- the uid of the current object at a place
abbrev pub uid_at : Content → Home → Option ℕ
uid_at s h = option_map (λ m. m.uid) (meta_at s h)

-- the uids and versions of the current objects are within the counts
abbrev pub IsCounted : Content → Type 0
IsCounted s = (h : Home) (m : Meta) → meta_at s h ≡ Some m
    → (m.version ≤ s.version) × (m.uid ≤ s.uids)

-- no two current objects have one uid
abbrev pub HasOwnUids : Content → Type 0
HasOwnUids s = (g h : Home) (m n : Meta) → meta_at s g ≡ Some m → meta_at s h ≡ Some n
    → m.uid ≡ n.uid → g ≡ h

-- each object is at its own key, and its generation is at most the count of writes
-- rule: store-objects
pub record IsSound (s : Content) : Type 0 where
  pub crons : (k : Place) (c : CronJob) → map.get s.crons k ≡ Some c
      → (c.key ≡ k) × (c.meta.generation ≤ s.version)
  pub jobs : (k : Place) (j : Job) → map.get s.jobs k ≡ Some j
      → (j.key ≡ k) × (j.meta.generation ≤ s.version)
  pub counts : s.uids ≤ s.version
  pub counted : IsCounted s
  pub own : HasOwnUids s

-- What each write keeps: every object stands at its own key and wasn't changed more often than there were writes.
use Rattle.std.proofs.Common.{◌≡◌, ℕ, ◌+◌, ◌≤◌, Bool, true, false, Option, Some, None, refl, sym, ap, ◌∙◌, arith}
use Rattle.std.specs.Option.{option_map}
use Rattle.std.specs.FinMap as map
use Rattle.cj_types.specs.Keys.{Place, place_cmp}
use Rattle.cj_types.specs.declared.cron.CronJob.{CronJob}
use Rattle.cj_types.specs.declared.job.Job.{Job}
use Rattle.cj_types.specs.declared.meta.Meta.{Meta}
use Rattle.cj_types.specs.declared.meta.DraftMeta.{DraftMeta}
use Rattle.cj_store.specs.Content.{Content, IsSound, IsCounted, Home, CronAt, JobAt, meta_at, uid_at}
use Rattle.cj_store.proofs.Holds.{Holds, put_holds, removal_holds, empty_holds}
use Rattle.cj_store.proofs.Homes.{Given, cron_put, cron_removal, job_put, job_removal, counted_put, counted_removal, own_put, own_removal, no_home, with_crons, with_jobs}
use Rattle.cj_store.specs.Metadata.{updated}
use Rattle.cj_store.specs.Change.{owners_at}

-- An object changed at most as often as writes were is so after an update, one write later.
pub updated_generation : (s : Content) (draft : DraftMeta) (b : Bool) (meta : Meta) → meta.generation ≤ s.version
    → (updated s draft b meta).generation ≤ s.version + 1
updated_generation s draft true meta h = omega arith
updated_generation s draft false meta h = omega arith

-- Where a CronJob stands at a key, its uid is the one at that place.
pub cron_uid_there : (s : Content) (k : Place) (c : CronJob) → map.get s.crons k ≡ Some c
    → uid_at s (CronAt k) ≡ Some c.meta.uid
cron_uid_there s k c e = ap (λ (o : Option CronJob). option_map (λ (m : Meta). m.uid)
    (option_map (λ (x : CronJob). x.meta) o)) e

-- Where a Job stands at a key, its uid is the one at that place.
pub job_uid_there : (s : Content) (k : Place) (j : Job) → map.get s.jobs k ≡ Some j
    → uid_at s (JobAt k) ≡ Some j.meta.uid
job_uid_there s k j e = ap (λ (o : Option Job). option_map (λ (m : Meta). m.uid) (option_map (λ (x : Job). x.meta) o)) e

-- For standing_uid: the uid of the object at a place, if one is there, is within the count.
uid_within : (s : Content) (h : Home) (u : ℕ) (o : Option Meta) → meta_at s h ≡ o → IsCounted s
    → option_map (λ (m : Meta). m.uid) o ≡ Some u → u ≤ s.uids
uid_within s h u None there counted e = absurd (cc e)
uid_within s h u (Some m) there counted e =
    let f : m.uid ≡ u = cc e in let w : m.uid ≤ s.uids = (counted h m there).1 in omega arith

-- the uid of an object that stands is within the count
pub standing_uid : (s : Content) (h : Home) (u : ℕ) → IsCounted s → uid_at s h ≡ Some u → u ≤ s.uids
standing_uid s h u counted e = uid_within s h u (meta_at s h) refl counted e

-- Where a Job stands at a key, its owners are those at that key.
pub owners_there : (s : Content) (k : Place) (j : Job) → map.get s.jobs k ≡ Some j → owners_at s k ≡ Some j.owners
owners_there s k j e = ap (option_map (λ (job : Job). job.owners)) e

abbrev CronIs : ℕ → Place → CronJob → Type 0
CronIs w k c = (c.key ≡ k) × (c.meta.generation ≤ w)

abbrev JobIs : ℕ → Place → Job → Type 0
JobIs w k j = (j.key ≡ k) × (j.meta.generation ≤ w)

-- CronJobs at their own keys, changed at most as often as writes were, are so one write later.
crons_later : (m : map.FinMap place_cmp CronJob) (w : ℕ) → Holds (CronIs w) m → Holds (CronIs (w + 1)) m
crons_later m w h k c is = ((h k c is).0, let a : c.meta.generation ≤ w = (h k c is).1 in omega arith)

-- Jobs at their own keys, changed at most as often as writes were, are so one write later.
jobs_later : (m : map.FinMap place_cmp Job) (w : ℕ) → Holds (JobIs w) m → Holds (JobIs (w + 1)) m
jobs_later m w h k j is = ((h k j is).0, let a : j.meta.generation ≤ w = (h k j is).1 in omega arith)

-- For Store::new: a store with no object and no write is sound.
pub new_sound : (crons : map.FinMap place_cmp CronJob) (jobs : map.FinMap place_cmp Job) → crons ≡ map.empty
    → jobs ≡ map.empty → IsSound (record { crons = crons; jobs = jobs; version = 0; uids = 0 })
new_sound crons jobs e f = record {
  crons = empty_holds (CronIs 0) crons e;
  jobs = empty_holds (JobIs 0) jobs f;
  counts = omega arith;
  counted = λ h m is. absurd (no_home (record { crons = crons; jobs = jobs; version = 0; uids = 0 }) e f h m is);
  own = λ g h m n is _ _. absurd (no_home (record { crons = crons; jobs = jobs; version = 0; uids = 0 }) e f g m is);
}

-- For add_cron and put_cron of Store: a sound store is sound with a CronJob put at its key.
pub put_cron_sound : (s : Content) (n : map.FinMap place_cmp CronJob) (k : Place) (c : CronJob) (u : ℕ) → IsSound s
    → n ≡ map.insert s.crons k c → c.key ≡ k → c.meta.generation ≤ s.version + 1
    → c.meta.version ≡ s.version + 1 → s.uids ≤ u → c.meta.uid ≤ u → u ≤ s.version + 1 → Given s (CronAt k) c.meta
    → IsSound (with_crons s n u)
put_cron_sound s n k c u sound e keyed dated version more uid counts given = record {
  crons = put_holds (CronIs (s.version + 1)) s.crons n k c e (keyed, dated) (crons_later s.crons s.version sound.crons);
  jobs = jobs_later s.jobs s.version sound.jobs;
  counts = counts;
  counted = counted_put s (with_crons s n u) (CronAt k) c.meta sound.counted (cron_put s n k c u e) (omega arith) more
      (omega arith) uid;
  own = own_put s (with_crons s n u) (CronAt k) c.meta sound.counted sound.own (cron_put s n k c u e) given;
}

-- For Store::remove_cron: a sound store is sound without the CronJob of a key.
pub remove_cron_sound : (s : Content) (n : map.FinMap place_cmp CronJob) (k : Place) → IsSound s
    → n ≡ map.remove s.crons k
    → IsSound (with_crons s n s.uids)
remove_cron_sound s n k sound e = record {
  crons = removal_holds (CronIs (s.version + 1)) s.crons n k e (crons_later s.crons s.version sound.crons);
  jobs = jobs_later s.jobs s.version sound.jobs;
  counts = let h : s.uids ≤ s.version = sound.counts in omega arith;
  counted = counted_removal s (with_crons s n s.uids) sound.counted (cron_removal s n k s.uids e) (omega arith)
      (omega arith);
  own = own_removal s (with_crons s n s.uids) sound.own (cron_removal s n k s.uids e);
}

-- For add_job and put_job of Store: a sound store is sound with a Job put at its key.
pub put_job_sound : (s : Content) (n : map.FinMap place_cmp Job) (k : Place) (j : Job) (u : ℕ) → IsSound s
    → n ≡ map.insert s.jobs k j → j.key ≡ k → j.meta.generation ≤ s.version + 1
    → j.meta.version ≡ s.version + 1 → s.uids ≤ u → j.meta.uid ≤ u → u ≤ s.version + 1 → Given s (JobAt k) j.meta
    → IsSound (with_jobs s n u)
put_job_sound s n k j u sound e keyed dated version more uid counts given = record {
  crons = crons_later s.crons s.version sound.crons;
  jobs = put_holds (JobIs (s.version + 1)) s.jobs n k j e (keyed, dated) (jobs_later s.jobs s.version sound.jobs);
  counts = counts;
  counted = counted_put s (with_jobs s n u) (JobAt k) j.meta sound.counted (job_put s n k j u e) (omega arith) more
      (omega arith) uid;
  own = own_put s (with_jobs s n u) (JobAt k) j.meta sound.counted sound.own (job_put s n k j u e) given;
}

-- For Store::remove_job: a sound store is sound without the Job of a key.
pub remove_job_sound : (s : Content) (n : map.FinMap place_cmp Job) (k : Place) → IsSound s → n ≡ map.remove s.jobs k
    → IsSound (with_jobs s n s.uids)
remove_job_sound s n k sound e = record {
  crons = crons_later s.crons s.version sound.crons;
  jobs = removal_holds (JobIs (s.version + 1)) s.jobs n k e (jobs_later s.jobs s.version sound.jobs);
  counts = let h : s.uids ≤ s.version = sound.counts in omega arith;
  counted = counted_removal s (with_jobs s n s.uids) sound.counted (job_removal s n k s.uids e) (omega arith)
      (omega arith);
  own = own_removal s (with_jobs s n s.uids) sound.own (job_removal s n k s.uids e);
}

-- the crons of a content, whose key is told in two ways
pub put_cron_at : (s t : Content) (n : map.FinMap place_cmp CronJob) (k : Place) (c : CronJob) → s ≡ t
    → n ≡ map.insert s.crons k c → c.key ≡ k → n ≡ map.insert t.crons c.key c
put_cron_at s t n k c e m keyed = m ∙ ap (λ (q : Place). map.insert s.crons q c) (sym keyed)
    ∙ ap (λ (r : Content). map.insert r.crons c.key c) e

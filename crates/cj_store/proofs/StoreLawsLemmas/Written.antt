-- What the event of a write does to the content.
use Rattle.std.proofs.Common.{◌≡◌, ◌≢◌, ◌⊎◌, inl, inr, Some, None, refl, ap, arith}
use Rattle.std.specs.Option.{option_map}
use Rattle.std.specs.FinMap as map
use Rattle.cj_types.specs.Keys.{Place, place_cmp}
use Rattle.cj_types.specs.declared.cron.CronJob.{CronJob}
use Rattle.cj_types.specs.declared.job.Job.{Job}
use Rattle.cj_types.specs.declared.event.Object.{Object}
use Rattle.cj_types.specs.declared.event.Object.TheVariants as Of
use Rattle.cj_types.specs.declared.event.Event.{Event}
use Rattle.cj_types.specs.declared.event.Event.TheVariants.{Added, Modified, Deleted}
use Rattle.cj_table.proofs.Puts.{put_split, removal_split, put_there, removal_there}
use Rattle.cj_store.specs.Content.{Content, Home, CronAt, JobAt}
use Rattle.cj_store.specs.Change.{after}
use Rattle.cj_store.specs.store_laws.Events.{object_at, home_of, left_by, Writes, EventsWrite}

-- f makes an object of what a map has, and home gives the place of a key of that map.
module _ {X : Type 0} (f : X → Object) (home : Place → Home) where
  -- For put_other: whichever of two a look-up gives after a put, another place has what it had.
  put_by : (m : map.FinMap place_cmp X) (k q : Place) (v : X) → home q ≢ home k
      → ((q ≡ k) × (map.get (map.insert m k v) q ≡ Some v)) ⊎ (map.get (map.insert m k v) q ≡ map.get m q)
      → option_map f (map.get (map.insert m k v) q) ≡ option_map f (map.get m q)
  put_by m k q v apart (inl e) = absurd (apart (ap home e.0))
  put_by m k q v apart (inr e) = ap (option_map f) e

  -- An object that is put at a key leaves what stands at any other place of the map.
  put_other : (m : map.FinMap place_cmp X) (k q : Place) (v : X) → home q ≢ home k
      → option_map f (map.get (map.insert m k v) q) ≡ option_map f (map.get m q)
  put_other m k q v apart = put_by m k q v apart (put_split m k v q)

  -- For removal_other: whichever of two a look-up gives after a removal, another place has what it had.
  removal_by : (m : map.FinMap place_cmp X) (k q : Place) → home q ≢ home k →
      ((q ≡ k) × (map.get (map.remove m k) q ≡ None)) ⊎ (map.get (map.remove m k) q ≡ map.get m q)
      → option_map f (map.get (map.remove m k) q) ≡ option_map f (map.get m q)
  removal_by m k q apart (inl e) = absurd (apart (ap home e.0))
  removal_by m k q apart (inr e) = ap (option_map f) e

  -- An object that is removed at a key leaves what stands at any other place of the map.
  removal_other : (m : map.FinMap place_cmp X) (k q : Place) → home q ≢ home k
      → option_map f (map.get (map.remove m k) q) ≡ option_map f (map.get m q)
  removal_other m k q apart = removal_by m k q apart (removal_split m k q)

-- what stands at the place of the write
here : (s : Content) (e : Event) → object_at (after s e) (home_of e) ≡ left_by e
here s (Added (Of.Cron c)) = ap (option_map (λ (x : CronJob). Of.Cron x)) (put_there s.crons c.key c)
here s (Added (Of.Job j)) = ap (option_map (λ (x : Job). Of.Job x)) (put_there s.jobs j.key j)
here s (Modified (Of.Cron c)) = ap (option_map (λ (x : CronJob). Of.Cron x)) (put_there s.crons c.key c)
here s (Modified (Of.Job j)) = ap (option_map (λ (x : Job). Of.Job x)) (put_there s.jobs j.key j)
here s (Deleted (Of.Cron c)) = ap (option_map (λ (x : CronJob). Of.Cron x)) (removal_there s.crons c.key)
here s (Deleted (Of.Job j)) = ap (option_map (λ (x : Job). Of.Job x)) (removal_there s.jobs j.key)

-- what stands elsewhere stands as it was
others : (s : Content) (e : Event) (h : Home) → h ≢ home_of e → object_at (after s e) h ≡ object_at s h
others s (Added (Of.Cron c)) (CronAt q) apart = put_other (λ (x : CronJob). Of.Cron x) CronAt s.crons c.key q c apart
others s (Added (Of.Cron c)) (JobAt q) apart = refl
others s (Added (Of.Job j)) (CronAt q) apart = refl
others s (Added (Of.Job j)) (JobAt q) apart = put_other (λ (x : Job). Of.Job x) JobAt s.jobs j.key q j apart
others s (Modified (Of.Cron c)) (CronAt q) apart = put_other (λ (x : CronJob). Of.Cron x) CronAt s.crons c.key q c apart
others s (Modified (Of.Cron c)) (JobAt q) apart = refl
others s (Modified (Of.Job j)) (CronAt q) apart = refl
others s (Modified (Of.Job j)) (JobAt q) apart = put_other (λ (x : Job). Of.Job x) JobAt s.jobs j.key q j apart
others s (Deleted (Of.Cron c)) (CronAt q) apart = removal_other (λ (x : CronJob). Of.Cron x) CronAt s.crons c.key q
    apart
others s (Deleted (Of.Cron c)) (JobAt q) apart = refl
others s (Deleted (Of.Job j)) (CronAt q) apart = refl
others s (Deleted (Of.Job j)) (JobAt q) apart = removal_other (λ (x : Job). Of.Job x) JobAt s.jobs j.key q apart

-- A write changes the place that its event tells of and no other, and counts one version more.
writes : (s : Content) (e : Event) → Writes s (after s e) e
writes s (Added (Of.Cron c)) = record {
  here = here s (Added (Of.Cron c));
  others = others s (Added (Of.Cron c));
  version = refl;
  uids = omega arith;
}
writes s (Added (Of.Job j)) = record {
  here = here s (Added (Of.Job j));
  others = others s (Added (Of.Job j));
  version = refl;
  uids = omega arith;
}
writes s (Modified (Of.Cron c)) = record {
  here = here s (Modified (Of.Cron c));
  others = others s (Modified (Of.Cron c));
  version = refl;
  uids = omega arith;
}
writes s (Modified (Of.Job j)) = record {
  here = here s (Modified (Of.Job j));
  others = others s (Modified (Of.Job j));
  version = refl;
  uids = omega arith;
}
writes s (Deleted (Of.Cron c)) = record {
  here = here s (Deleted (Of.Cron c));
  others = others s (Deleted (Of.Cron c));
  version = refl;
  uids = omega arith;
}
writes s (Deleted (Of.Job j)) = record {
  here = here s (Deleted (Of.Job j));
  others = others s (Deleted (Of.Job j));
  version = refl;
  uids = omega arith;
}

-- For event_laws: what the event of any write does to any content.
pub events_write : EventsWrite
events_write = writes

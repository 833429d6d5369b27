-- How the event of a write changes the content.
use Rattle.std.specs.Prelude.{◌≡◌, ◌≢◌, ℕ, ◌+◌, Option, Some, None}
use Rattle.std.specs.Option.{option_map}
use Rattle.std.specs.FinMap as map
use Rattle.cj_types.specs.declared.event.Object.{Object}
use Rattle.cj_types.specs.declared.event.Object.TheVariants as Of
use Rattle.cj_types.specs.declared.event.Event.{Event}
use Rattle.cj_types.specs.declared.event.Event.TheVariants.{Added, Modified, Deleted}
use Rattle.cj_store.specs.Content.{Content, Home, CronAt, JobAt}
use Rattle.cj_store.specs.Change.{after}

-- the current object at a place
abbrev pub object_at : Content → Home → Option Object
object_at s (CronAt k) = option_map (λ c. Of.Cron c) (map.get s.crons k)
object_at s (JobAt k) = option_map (λ j. Of.Job j) (map.get s.jobs k)

-- the place of an object
abbrev pub place_of : Object → Home
place_of (Of.Cron c) = CronAt c.key
place_of (Of.Job j) = JobAt j.key

-- the place of an event's object
abbrev pub home_of : Event → Home
home_of (Added object) = place_of object
home_of (Modified object) = place_of object
home_of (Deleted object) = place_of object

-- the object that the write leaves at its place, if any
abbrev pub left_by : Event → Option Object
left_by (Added object) = Some object
left_by (Modified object) = Some object
left_by (Deleted object) = None

-- how many objects the write creates
abbrev pub made_by : Event → ℕ
made_by (Added object) = 1
made_by (Modified object) = 0
made_by (Deleted object) = 0

pub record Writes (s t : Content) (e : Event) : Type 0 where
  pub here : object_at t (home_of e) ≡ left_by e
  pub others : (h : Home) → h ≢ home_of e → object_at t h ≡ object_at s h
  pub version : t.version ≡ s.version + 1
  pub uids : t.uids ≡ s.uids + made_by e

-- rule: planned-change
abbrev pub EventsWrite : Type 0
EventsWrite = (s : Content) (e : Event) → Writes s (after s e) e

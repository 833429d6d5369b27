-- One step of the informer, in the words of client-go: a Reflector lists and watches, and a handler
-- adds keys to the work queue.
use Rattle.std.specs.Prelude.{◌≡◌, ℕ, ◌-◌, Bool, ◌&&◌, nat_lt, List, [], ◌∷◌, ◌++◌, Option, Some, None, MatchBool, map, slice_get, length, if◌then◌else◌}
use Rattle.std.specs.List.{filter_map}
use Rattle.std.specs.Option.{option_map_or}
use Rattle.cj_base.specs.declared.refusal.Refusal.TheVariants.{Expired}
use Rattle.cj_types.specs.Events.{version_of}
use Rattle.cj_types.specs.Keys.{Place, place}
use Rattle.cj_types.specs.Names.{is_name}
use Rattle.cj_types.specs.Objects.{cron_of}
use Rattle.cj_types.specs.declared.cron.CronJob.{CronJob}
use Rattle.cj_types.specs.declared.event.Event.{Event}
use Rattle.cj_types.specs.declared.event.Event.TheVariants.{Added, Modified, Deleted}
use Rattle.cj_types.specs.declared.event.Object.{Object}
use Rattle.cj_types.specs.declared.event.Object.TheVariants as Kind
use Rattle.cj_types.specs.declared.job.Job.{Job}
use Rattle.cj_calls.specs.declared.call.Call.TheVariants as Of
use Rattle.cj_calls.specs.declared.reply.Reply.TheVariants as Is
use Rattle.cj_informer.specs.Exchanges.{Exchange, accepted, refused}

-- an informer: how many events it asks for at once, and the version that it has seen, none before
-- its first listing
pub record Follower : Type 0 where
  pub max : ℕ
  pub seen : Option ℕ

-- ---- the keys that objects concern

-- the key of a name that an object can have
abbrev pub key_named : List ℕ → Option (List ℕ) → Option Place
key_named namespace None = None
key_named namespace (Some name) = if is_name name then Some (place namespace name) else None

-- the key of the CronJob that a Job's controller reference names, if it names one
-- rule: informer-keys
abbrev pub key_of_job : Job → Option Place
key_of_job job = key_named job.key.namespace (cron_of job)

-- a CronJob's own key
-- rule: informer-keys
abbrev pub key_of_cron : CronJob → Option Place
key_of_cron cron = Some cron.key

abbrev pub key_of_object : Object → Option Place
key_of_object (Kind.Cron cron) = key_of_cron cron
key_of_object (Kind.Job job) = key_of_job job

-- rule: informer-keys
abbrev pub key_of_event : Event → Option Place
key_of_event (Added object) = key_of_object object
key_of_event (Modified object) = key_of_object object
key_of_event (Deleted object) = key_of_object object

-- each key is added
abbrev pub adds : List Place → List Exchange
adds keys = map (λ key. accepted (Of.Add key) Is.Done) keys

-- ---- events

-- the version of the last event, or the one seen before where none came
-- rule: informer-seen
abbrev pub last_version : ℕ → List Event → ℕ
last_version seen events = option_map_or version_of (slice_get events (length events - 1)) seen

-- a Feed that is answered with this version
abbrev pub feed : ℕ → ℕ → Exchange
feed max fed = accepted (Of.Feed max) (Is.Version fed)

-- the listings are fed, and a key is added for each event that concerns one
-- rule: informer-step
abbrev pub follow : ℕ → List Event → ℕ → List Exchange
follow max events fed = feed max fed ∷ adds (filter_map key_of_event events)

-- ---- listings

-- after this answer there is another Feed: it is below the version wanted, and above the answer
-- before it, if there is one
-- rule: informer-feeds
abbrev pub wants_more : ℕ → Option ℕ → ℕ → Bool
wants_more wanted None fed = nat_lt fed wanted
wants_more wanted (Some before) fed = nat_lt fed wanted && nat_lt before fed

-- the answers of Feeds, up to the first after which there is no other
-- rule: informer-feeds
abbrev pub AreFeeds : ℕ → Option ℕ → List ℕ → Type 0
AreFeeds wanted before [] = ⊥
AreFeeds wanted before (fed ∷ feds) = MatchBool (wants_more wanted before fed)
    (AreFeeds wanted (Some fed) feds) (feds ≡ [])

-- the answers of a listing: CronJobs and Jobs, each with the store's version, and how far the Feeds
-- come
pub record Lists : Type 0 where
  pub crons : List CronJob
  pub version : ℕ
  pub jobs : List Job
  pub version_of_jobs : ℕ
  pub feds : List ℕ
  pub enough : AreFeeds version None feds

-- the key of each CronJob is added, and that of each Job's owner
-- rule: informer-keys
abbrev pub add_both : List CronJob → List Job → List Exchange
add_both crons jobs = adds (filter_map key_of_cron crons) ++ adds (filter_map key_of_job jobs)

-- both kinds are listed, the listings are fed, and the keys are added
-- rule: informer-step
abbrev pub relist : ℕ → Lists → List Exchange
relist max l = accepted Of.ListCrons (Is.Crons l.crons l.version)
    ∷ accepted Of.ListJobs (Is.Jobs l.jobs l.version_of_jobs)
    ∷ (map (feed max) l.feds ++ add_both l.crons l.jobs)

-- ---- a step

-- how a step goes on after its Tick: from a version by events; by a listing at the start; or by a
-- listing where events after the version have expired (410 Gone)
pub data ListOrWatch : Type 0 where
  Follows : ℕ → List Event → ℕ → ListOrWatch
  Starts : Lists → ListOrWatch
  Resumes : ℕ → ℕ → Lists → ListOrWatch

-- a step lists at the start, and after that watches from the version seen
-- rule: informer-step
abbrev pub IsListOrWatch : Option ℕ → ListOrWatch → Type 0
IsListOrWatch seen (Follows from events fed) = seen ≡ Some from
IsListOrWatch seen (Starts l) = seen ≡ None
IsListOrWatch seen (Resumes from oldest l) = seen ≡ Some from

-- rule: informer-step
abbrev pub go_on : ℕ → ListOrWatch → List Exchange
go_on max (Follows from events fed) = accepted (Of.Watch from max) (Is.Events events)
    ∷ follow max events fed
go_on max (Starts l) = relist max l
go_on max (Resumes from oldest l) = refused (Of.Watch from max) (Expired oldest) ∷ relist max l

-- the version seen then: that of the last event, or of the earlier one of the two listings
-- rule: informer-seen
abbrev pub seen_after : ListOrWatch → ℕ
seen_after (Follows from events fed) = last_version from events
seen_after (Starts l) = l.version
seen_after (Resumes from oldest l) = l.version

-- a whole step: first a Tick gives the queue the moment
-- rule: informer-step
abbrev pub whole_step : ℕ → ℕ → ListOrWatch → List Exchange
whole_step max now list_or_watch = accepted (Of.Tick now) Is.Done ∷ go_on max list_or_watch

-- What each call of a worker answers, and what it leaves: one sync of a CronJob, split into the
-- calls that a controller makes of the API server (Kubernetes API concepts, "Efficient detection of
-- changes"; conventions, "Concurrency Control and Consistency") and of its work queue (client-go,
-- package workqueue).
use Rattle.std.specs.Prelude.{ℕ, ◌+◌, ◌*◌, Bool, true, false, Option, Some, None, option_map, Result, Ok, Err, if◌then◌else◌}
use Rattle.std.specs.FinMap as map
use Rattle.cj_base.specs.declared.refusal.Refusal.{Refusal}
use Rattle.cj_base.specs.declared.refusal.Refusal.TheVariants.{OutOfPhase, Stale, Empty, ShutDown}
use Rattle.cj_types.specs.Keys.{Place}
use Rattle.cj_types.specs.declared.cron.CronJob.{CronJob}
use Rattle.cj_types.specs.declared.cron.CronStatus.{CronStatus}
use Rattle.cj_types.specs.declared.job.Job.{Job}
use Rattle.cj_types.specs.declared.job.JobDraft.{JobDraft}
use Rattle.cj_types.specs.declared.event.Event.{Event}
use Rattle.cj_types.specs.declared.event.Event.TheVariants.{Added, Modified, Deleted}
use Rattle.cj_types.specs.declared.event.Object.{Object}
use Rattle.cj_types.specs.declared.event.Object.TheVariants as Kind
use Rattle.cj_store.specs.Change.{after, map_ok, cron_modified, job_added, job_gone}
use Rattle.cj_store.specs.Crons.{status_set}
use Rattle.cj_store.specs.Jobs.{job_made, job_deleted}
use Rattle.cj_watch.specs.Log.{pushed}
use Rattle.cj_types.specs.Events.{version_of}
use Rattle.cj_queue.specs.Queue.{Queue, first, taken, finished_ok, finished_retry}
use Rattle.cj_decide.specs.Decision.{Planned}
use Rattle.cj_status.specs.declared.refs.JobRef.{JobRef}
use Rattle.cj_decide.specs.declared.start.Claim.{Claim}
use Rattle.cj_calls.specs.declared.end.End.{End}
use Rattle.cj_calls.specs.declared.end.End.TheVariants.{Well, Again}
use Rattle.cj_calls.specs.declared.reply.Reply.{Reply}
use Rattle.cj_calls.specs.declared.reply.Reply.TheVariants as Say
use Rattle.cj_state.specs.phases.Inputs.{rests_on}
use Rattle.cj_state.specs.phases.Steps.{step_at, as_drop, as_make, as_status, is_over}
use Rattle.cj_state.specs.declared.phases.sync.Work.{Work}
use Rattle.cj_state.specs.declared.phases.sync.Phase.{Phase}
use Rattle.cj_state.specs.declared.phases.sync.Phase.TheVariants.{Held, Seen, Listed, Checked, Works}
use Rattle.cj_state.specs.declared.phases.sync.InFlight.{InFlight}
use Rattle.cj_state.specs.Readings.{listed_of, active_of}
use Rattle.cj_state.specs.declared.state.State.{State}

-- an answer, and the state after it
pub record Handled : Type 0 where
  pub answer : Result Reply Refusal
  pub state : State

abbrev pub handled : Result Reply Refusal → State → Handled
handled a s = record { answer = a; state = s }

-- a refusal leaves all as it was
abbrev pub refused : State → Refusal → Handled
refused s e = handled (Err e) s

abbrev pub sync_of : State → ℕ → Option InFlight
sync_of s w = map.get s.syncs w

abbrev pub with_sync : State → ℕ → Place → Phase → State
with_sync s w k p = record s { syncs = map.insert s.syncs w (record { key = k; phase = p }) }

-- a write, with its event
abbrev pub written : State → Event → State
written s e = record s { store = after s.store e; watch = pushed s.watch e }

-- a call of a worker that holds a key
abbrev pub by_sync : State → (Place → Phase → Handled) → Option InFlight → Handled
by_sync s f None = refused s OutOfPhase
by_sync s f (Some sync) = f sync.key sync.phase

-- ---- Take

abbrev pub take_first : State → ℕ → Option Place → Handled
take_first s w (Some k) = handled (Ok (Say.Key k))
    (with_sync (record s { queue = taken s.queue }) w k Held)
take_first s w None = refused s (if s.queue.shut then ShutDown else Empty)

abbrev pub take_by : State → ℕ → Option InFlight → Handled
take_by s w None = take_first s w (first s.queue.row.line)
take_by s w (Some sync) = refused s OutOfPhase

-- rule: phases
unfoldable pub take : State → ℕ → Handled
take s w = take_by s w (sync_of s w)

-- ---- the three readings

abbrev pub see_cron_in : State → ℕ → Place → Phase → Handled
see_cron_in s w k Held = handled (Ok (Say.SeenCron (map.get s.store.crons k)))
    (with_sync s w k (Seen (map.get s.store.crons k)))
see_cron_in s w k _ = refused s OutOfPhase

-- rule: phases
unfoldable pub see_cron : State → ℕ → Handled
see_cron s w = by_sync s (see_cron_in s w) (sync_of s w)

abbrev pub see_jobs_in : State → ℕ → Place → Phase → Handled
see_jobs_in s w k (Seen c) = handled (Ok (Say.SeenJobs (listed_of s k)))
    (with_sync s w k (Listed c (listed_of s k)))
see_jobs_in s w k _ = refused s OutOfPhase

-- rule: phases
unfoldable pub see_jobs : State → ℕ → Handled
see_jobs s w = by_sync s (see_jobs_in s w) (sync_of s w)

abbrev pub see_active_in : State → ℕ → Place → Phase → Handled
see_active_in s w k (Listed c js) = handled (Ok (Say.SeenActive (active_of s.store c)))
    (with_sync s w k (Checked c js (active_of s.store c)))
see_active_in s w k _ = refused s OutOfPhase

-- rule: phases
unfoldable pub see_active : State → ℕ → Handled
see_active s w = by_sync s (see_active_in s w) (sync_of s w)

-- ---- writes of a worker

-- the write is made, and the worker comes to a phase; or the call is refused
abbrev pub wrote : State → ℕ → Place → (Event → Reply) → (Event → Phase) → Result Event Refusal
    → Handled
wrote s w k say p (Ok change) = handled (Ok (say change))
    (with_sync (written s change) w k (p change))
wrote s w k say p (Err e) = refused s e

-- ---- Claim

abbrev pub works : Planned → ℕ → ℕ → Phase
works p v n = Works (record { plan = p; version = v; place = n })

abbrev pub seen_version : Option CronJob → ℕ
seen_version None = 0
seen_version (Some cron) = cron.meta.version

abbrev pub claims : State → ℕ → Place → Planned → Claim → Option CronJob → Handled
claims s w k p claim None = refused s Stale
claims s w k p claim (Some cron) =
    wrote s w k (λ e. Say.Claimed (Some (claim.time, version_of e))) (λ e. works p (version_of e) 0)
    (map_ok cron_modified (status_set s.store k cron.meta.uid cron.meta.version claim.status))

abbrev pub claim_where : State → ℕ → Place → Planned → Option Claim → Handled
claim_where s w k p None = handled (Ok (Say.Claimed None))
    (with_sync s w k (works p (seen_version p.cron) 0))
claim_where s w k p (Some claim) = claims s w k p claim p.cron

abbrev pub claim_in : State → ℕ → Planned → Place → Phase → Handled
claim_in s w p k (Checked c js ks) = if rests_on p c js ks then claim_where s w k p p.steps.claim
    else refused s Stale
claim_in s w p k _ = refused s OutOfPhase

-- rules: phases, claim-inputs
unfoldable pub claim : State → ℕ → Planned → Handled
claim s w p = by_sync s (claim_in s w p) (sync_of s w)

-- ---- the steps of a plan

abbrev pub further : Work → Phase
further work = works work.plan work.version (work.place + 1)

-- the sync after one step more
abbrev pub next_sync : Place → Work → InFlight
next_sync k work = record { key = k; phase = further work }

abbrev pub sits : State → ℕ → InFlight → State
sits s w sync = record s { syncs = map.insert s.syncs w sync }

-- the write is made as a step of a plan, or the call is refused
abbrev pub steps_on : State → ℕ → InFlight → (Event → Reply) → Result Event Refusal → Handled
steps_on s w sync say (Ok change) = handled (Ok (say change)) (sits (written s change) w sync)
steps_on s w sync say (Err e) = refused s e

-- a Job that isn't there, or has another uid by now, is gone
abbrev pub drops_it : State → ℕ → InFlight → Place → Result Event Refusal → Handled
drops_it s w sync name (Ok change) = handled (Ok (Say.Dropped (Some (name, version_of change))))
    (sits (written s change) w sync)
drops_it s w sync name (Err e) = handled (Ok (Say.Dropped None)) (sits s w sync)

abbrev pub drop_where : State → ℕ → Place → Work → Option JobRef → Handled
drop_where s w k work None = refused s OutOfPhase
drop_where s w k work (Some r) = drops_it s w (next_sync k work) r.key
    (map_ok job_gone (job_deleted s.store r.key (Some r.uid)))

abbrev pub drop_in : State → ℕ → Place → Phase → Handled
drop_in s w k (Works work) = drop_where s w k work (as_drop (step_at work.plan.steps work.place))
drop_in s w k _ = refused s OutOfPhase

-- rules: phases, plan-steps
unfoldable pub drop_next : State → ℕ → Handled
drop_next s w = by_sync s (drop_in s w) (sync_of s w)

abbrev pub object_reply : Object → Reply
object_reply (Kind.Cron c) = Say.Cron c
object_reply (Kind.Job j) = Say.Job j

-- the object that a write left, as its answer
abbrev pub event_reply : Event → Reply
event_reply (Added o) = object_reply o
event_reply (Modified o) = object_reply o
event_reply (Deleted o) = object_reply o

abbrev pub make_where : State → ℕ → Place → Work → Option JobDraft → Handled
make_where s w k work None = refused s OutOfPhase
make_where s w k work (Some draft) = steps_on s w (next_sync k work) event_reply
    (map_ok job_added (job_made s.store draft work.plan.at))

abbrev pub make_in : State → ℕ → Place → Phase → Handled
make_in s w k (Works work) = make_where s w k work (as_make (step_at work.plan.steps work.place))
make_in s w k _ = refused s OutOfPhase

-- rules: phases, plan-steps
unfoldable pub make_next : State → ℕ → Handled
make_next s w = by_sync s (make_in s w) (sync_of s w)

abbrev pub version_reply : Event → Reply
version_reply e = Say.Version (version_of e)

abbrev pub sets_it : State → ℕ → Place → Work → CronStatus → Option CronJob → Handled
sets_it s w k work status None = refused s OutOfPhase
sets_it s w k work status (Some cron) =
    steps_on s w (next_sync k work) version_reply
    (map_ok cron_modified (status_set s.store k cron.meta.uid work.version status))

abbrev pub status_where : State → ℕ → Place → Work → Option CronStatus → Handled
status_where s w k work None = refused s OutOfPhase
status_where s w k work (Some status) = sets_it s w k work status work.plan.cron

abbrev pub status_in : State → ℕ → Place → Phase → Handled
status_in s w k (Works work) = status_where s w k work
    (as_status (step_at work.plan.steps work.place))
status_in s w k _ = refused s OutOfPhase

-- rules: phases, plan-steps
unfoldable pub set_status : State → ℕ → Handled
set_status s w = by_sync s (status_in s w) (sync_of s w)

-- ---- Finish

abbrev pub leaves : State → ℕ → Queue → Handled
leaves s w q = handled (Ok Say.Done) (record s { queue = q; syncs = map.remove s.syncs w })

abbrev pub next_ms : Option ℕ → Option ℕ
next_ms at = option_map (λ t. 1000 * t) at

abbrev pub finish_work : State → ℕ → Place → Work → Bool → Handled
finish_work s w k work true = leaves s w (finished_ok s.queue k (next_ms work.plan.steps.next))
finish_work s w k work false = refused s OutOfPhase

abbrev pub finish_well : State → ℕ → Place → Phase → Handled
finish_well s w k (Works work) = finish_work s w k work
    (is_over (step_at work.plan.steps work.place))
finish_well s w k _ = refused s OutOfPhase

abbrev pub finish_in : State → ℕ → End → Place → Phase → Handled
finish_in s w (Again now) k p = leaves s w (finished_retry s.queue k now)
finish_in s w Well k p = finish_well s w k p

-- rules: phases, finish
unfoldable pub finish : State → ℕ → End → Handled
finish s w end = by_sync s (finish_in s w end) (sync_of s w)

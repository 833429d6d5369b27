-- A sync that nobody disturbs, from a worker's Take of a key to its Finish: Kubernetes CronJob
-- documentation, "Job creation" and "CronJob limitations"; the calls on the queue are those of
-- client-go's package workqueue (Get, Done).
use Rattle.std.specs.Prelude.{◌≡◌, ◌≢◌, ℕ, ◌≤◌, ◌==◌, ◌&&◌, Bool, true, false, List, [], ◌∷◌, ◌++◌, length, filter, map as map_list, Option, Some, None, Err}
use Rattle.std.specs.FinMap as map
use Rattle.cj_base.specs.declared.refusal.Refusal.TheVariants.{AlreadyExists}
use Rattle.cj_types.specs.Keys.{Place}
use Rattle.cj_types.specs.Made.{made_place}
use Rattle.cj_types.specs.Uids.{uid_text, last_uid}
use Rattle.cj_types.specs.declared.cron.CronJob.{CronJob}
use Rattle.cj_types.specs.declared.job.Job.{Job}
use Rattle.cj_types.specs.declared.policy.Policy.{Policy}
use Rattle.cj_types.specs.declared.policy.Policy.TheVariants.{Allow, Forbid, Replace}
use Rattle.cj_types.specs.declared.policy.Reason.{Reason}
use Rattle.cj_types.specs.declared.policy.Reason.TheVariants.{UnknownTimeZone, JobAlreadyActive}
use Rattle.cj_schedule.specs.Matches.{Sets}
use Rattle.cj_schedule.specs.Grammar.{IsSchedule}
use Rattle.cj_zone.specs.declared.zone.Zone.{Zone}
use Rattle.cj_due.specs.Due.{missed_count}
use Rattle.cj_due.specs.Window.{window_of}
use Rattle.cj_status.specs.declared.refs.JobRef.{JobRef}
use Rattle.cj_status.specs.Refs.{has_any}
use Rattle.cj_status.specs.Mine.{is_running}
use Rattle.cj_store.specs.Content.{Content}
use Rattle.cj_queue.specs.Queue.{first}
use Rattle.cj_decide.specs.Decision.{Planned, IsDecided, running_of}
use Rattle.cj_decide.specs.laws.Fits.{IsAt}
use Rattle.cj_decide.specs.laws.Laws.{IsClaimed, IsIn}
use Rattle.cj_calls.specs.Rows.{Told}
use Rattle.cj_calls.specs.declared.call.Call.{Call}
use Rattle.cj_calls.specs.declared.call.Call.TheVariants as Of
use Rattle.cj_calls.specs.declared.end.End.TheVariants.{Well}
use Rattle.cj_state.specs.declared.phases.sync.Phase.TheVariants.{Checked}
use Rattle.cj_state.specs.phases.Steps.{Step, drops, makes, sets, all_steps}
use Rattle.cj_state.specs.Legal.{IsLegal, ArePlanned, answer_of, state_of}
use Rattle.cj_world_laws.specs.legal.InFlightSyncs.{sync}
use Rattle.cj_world_laws.specs.once.Once as once
use Rattle.cj_world_laws.specs.once.Once.{Claimed, is_ok}
use Rattle.cj_history.specs.progress.Undisturbed.{worker, entry, AreAside, Leads}

-- ---- the calls

abbrev pub call_of : Step → Call
call_of (drops r) = Of.DropNext
call_of (makes d) = Of.MakeNext
call_of (sets f) = Of.SetStatus

-- the calls for the steps of a plan that are left, and the end
abbrev pub calls_left : List Reason → List Step → List Call
calls_left reasons [] = Of.Finish Well reasons ∷ []
calls_left reasons (x ∷ xs) = call_of x ∷ calls_left reasons xs

-- the readings after the Take
abbrev pub readings : List Call
readings = Of.SeeCron ∷ Of.SeeJobs ∷ Of.SeeActive ∷ []

-- the claim of a plan, its steps in their order, and the end
-- rule: sync-makes-job
abbrev pub works_off : Planned → List Call
works_off p = Of.Claim p ∷ calls_left p.steps.reasons (all_steps p.steps)

-- ---- where it begins

-- the worker holds no key, and the first of the line is one whose CronJob stands
pub record IsReady (window : ℕ) (h : List Told) (w : ℕ) (k : Place) (cron : CronJob) : Type 0 where
  pub idle : sync h w ≡ None
  pub line : first (state_of window h).queue.row.line ≡ Some k
  pub stands : map.get (state_of window h).store.crons k ≡ Some cron

-- the plan is the decision of the three answers that the worker got, at any moment and with any
-- zone
pub record IsFor (h : List Told) (w : ℕ) (k : Place) (p : Planned) : Type 0 where
  pub decided : IsDecided p
  pub rests : sync h w ≡ Some (record { key = k; phase = Checked p.cron p.jobs p.active })

-- the policy lets a Job start: always under Allow and Replace, and under Forbid where none runs
-- rule: sync-makes-job
abbrev pub IsLet : Policy → List JobRef → Type 0
IsLet Allow running = Unit {0}
IsLet Forbid running = running ≡ []
IsLet Replace running = Unit {0}

-- the time is the latest one missed at the plan's moment and in its zone, of a CronJob that isn't
-- suspended, and its policy lets a Job start beside what the live read found
-- rule: sync-makes-job
pub record IsOpen (cron : CronJob) (p : Planned) (time : ℕ) : Type 0 where
  pub runs : cron.spec.suspend ≡ false
  pub zone : Zone
  pub known : p.zone ≡ Some zone
  pub latest : IsClaimed cron p.at zone time
  pub allowed : IsLet cron.spec.policy (running_of cron p.active)

-- ---- where it ends

-- the Job for the time stands, whose controller is the CronJob and which hasn't ended; and the
-- CronJob's status has the time as its last, and the Job's name in `active`
-- rule: sync-makes-job
pub record IsStarted (s : Content) (k : Place) (cron : CronJob) (time : ℕ) : Type 0 where
  pub job : Job
  pub made : map.get s.jobs (made_place cron.key time) ≡ Some job
  pub runs : is_running (uid_text cron.meta.uid) job ≡ true
  pub now : CronJob
  pub stands : map.get s.crons k ≡ Some now
  pub uid : now.meta.uid ≡ cron.meta.uid
  pub last : now.status.last_schedule_time ≡ Some time
  pub active : IsAt cron.key.namespace now.status.active (made_place cron.key time)

-- none of these Jobs stands any more
abbrev pub IsTidied : List JobRef → Content → Type 0
IsTidied rs s = (r : JobRef) → IsIn r rs → (job : Job) → map.get s.jobs r.key ≡ Some job
    → job.meta.uid ≢ r.uid

-- under Replace none of those that ran before stands any more
abbrev pub IsReplaced : Policy → List JobRef → Content → Type 0
IsReplaced Allow running s = Unit {0}
IsReplaced Forbid running s = Unit {0}
IsReplaced Replace running s = IsTidied running s

-- the Job is started, what the plan cleans up is gone, and under Replace so is what the live read
-- found unfinished
-- rule: sync-makes-job
pub record IsMade (p : Planned) (k : Place) (cron : CronJob) (time : ℕ) (s : Content) : Type 0 where
  pub started : IsStarted s k cron time
  pub cleaned : IsTidied p.steps.cleanup s
  pub replaced : IsReplaced cron.spec.policy (running_of cron p.active) s

-- the plans for what the worker was answered make the Job for the latest time missed, where its
-- name isn't taken
-- rule: sync-makes-job
abbrev pub PlansMakeJob : ℕ → ℕ → Place → CronJob → List Told → Type 0
PlansMakeJob window w k cron h = (p : Planned) (time : ℕ) → IsFor h w k p → IsOpen cron p time
    → map.get (state_of window h).store.jobs (made_place cron.key time) ≡ None
    → Leads window w k (Some (made_place cron.key time)) h (works_off p)
    (λ g. IsMade p k cron time (state_of window g).store)

-- a claim of the CronJob with this uid, for that time
abbrev pub is_for : ℕ → ℕ → Claimed → Bool
is_for u time m = (m.owner == u) && (m.time == time)

-- one Job, no more and no fewer, was made for that CronJob and that time, as long as there are uids
-- rule: sync-makes-job
abbrev pub IsOnly : ℕ → ℕ → ℕ → List Told → Type 0
IsOnly window u time h = length h ≤ last_uid → ArePlanned h
    → length (filter (is_for u time) (once.makes window h)) ≡ 1

-- the Job that such plans make is the only one
-- rule: sync-makes-job
abbrev pub PlansMakeOne : ℕ → ℕ → Place → CronJob → List Told → Type 0
PlansMakeOne window w k cron h = (p : Planned) (time : ℕ) → IsFor h w k p → IsOpen cron p time
    → map.get (state_of window h).store.jobs (made_place cron.key time) ≡ None
    → Leads window w k (Some (made_place cron.key time)) h (works_off p)
    (IsOnly window cron.meta.uid time)

-- the worker's making is refused, whatever others call aside
abbrev pub IsRefused : ℕ → ℕ → Place → Option Place → List Told → Type 0
IsRefused window w k q h = (es : List Told) → IsLegal window (es ++ h) → AreAside w k q es h
    → answer_of window (es ++ h) (worker w) Of.MakeNext ≡ Err AlreadyExists

-- the claim of a plan, and its drops before the making
abbrev pub claims_and_drops : Planned → List Call
claims_and_drops p = Of.Claim p ∷ map_list (λ r. Of.DropNext) p.steps.drop_first

-- the time is lost where its Job's name is taken, by a Job that isn't dropped first: the claim and
-- the drops before the making are accepted, and the making is refused
-- rule: sync-makes-job
abbrev pub PlansFindTaken : ℕ → ℕ → Place → CronJob → List Told → Type 0
PlansFindTaken window w k cron h = (p : Planned) (time : ℕ) (job : Job) → IsFor h w k p
    → IsOpen cron p time
    → ((r : JobRef) → IsIn r p.steps.drop_first → r.key ≡ made_place cron.key time
    → r.uid ≡ job.meta.uid → ⊥)
    → map.get (state_of window h).store.jobs (made_place cron.key time) ≡ Some job
    → Leads window w k (Some (made_place cron.key time)) h (claims_and_drops p)
    (IsRefused window w k (Some (made_place cron.key time)))

-- the CronJob stands, with the last time that was scheduled for it before
-- rule: sync-makes-job
pub record IsUnclaimed (s : Content) (k : Place) (cron : CronJob) : Type 0 where
  pub now : CronJob
  pub stands : map.get s.crons k ≡ Some now
  pub uid : now.meta.uid ≡ cron.meta.uid
  pub last : now.status.last_schedule_time ≡ cron.status.last_schedule_time

-- a plan that claims nothing makes no Job, is worked off, leaves the last time, and what it cleans
-- up is gone
-- rule: sync-makes-job
abbrev pub PlansRest : ℕ → ℕ → Place → CronJob → List Told → Type 0
PlansRest window w k cron h = (p : Planned) → IsFor h w k p → p.steps.claim ≡ None
    → (p.steps.make ≡ None) × Leads window w k None h (works_off p)
    (λ g. IsUnclaimed (state_of window g).store k cron
    × IsTidied p.steps.cleanup (state_of window g).store)

-- why a plan starts no Job: the CronJob is suspended; its zone isn't known; no time was missed; or
-- one was, but the policy is Forbid and the live read found an unfinished Job
-- rule: sync-makes-job
pub data Closed (cron : CronJob) (p : Planned) : Type 0 where
  suspended : cron.spec.suspend ≡ true → Closed cron p
  zoneless : cron.spec.suspend ≡ false → p.zone ≡ None → Closed cron p
  unmissed : (zone : Zone) (sets : Sets) → cron.spec.suspend ≡ false → p.zone ≡ Some zone
      → IsSchedule cron.spec.schedule sets
      → missed_count sets zone (window_of cron p.at) p.at ≡ 0 → Closed cron p
  forbidden : (zone : Zone) (time : ℕ) → cron.spec.suspend ≡ false → p.zone ≡ Some zone
      → IsClaimed cron p.at zone time
      → cron.spec.policy ≡ Forbid → has_any (running_of cron p.active) ≡ true → Closed cron p

-- the reason that is told of it
abbrev pub Says : {cron : CronJob} {p : Planned} → Closed cron p → List Reason → Type 0
Says (suspended a) reasons = Unit {0}
Says (zoneless a b) reasons = IsIn UnknownTimeZone reasons
Says (unmissed z s a b c d) reasons = Unit {0}
Says (forbidden z t a b c d e) reasons = IsIn JobAlreadyActive reasons

-- such a plan claims nothing, and says why
-- rule: sync-makes-job
abbrev pub PlansStay : ℕ → Place → CronJob → List Told → Type 0
PlansStay w k cron h = (p : Planned) → IsFor h w k p → (y : Closed cron p)
    → (p.steps.claim ≡ None) × Says y p.steps.reasons

-- whatever is called later, by whomever: what a plan cleans up is no unfinished Job of the CronJob
-- rule: sync-makes-job
abbrev pub PlansSpare : ℕ → ℕ → Place → CronJob → List Told → Type 0
PlansSpare window w k cron h = (p : Planned) → IsFor h w k p → (es : List Told)
    → IsLegal window (es ++ h)
    → (r : JobRef) → IsIn r p.steps.cleanup → (job : Job)
    → map.get (state_of window (es ++ h)).store.jobs r.key ≡ Some job
    → job.meta.uid ≡ r.uid → is_running (uid_text cron.meta.uid) job ≡ false

-- what the worker's plans do after the readings
pub record PlansWork (window w : ℕ) (k : Place) (cron : CronJob) (h : List Told) : Type 0 where
  pub made : PlansMakeJob window w k cron h
  pub one : PlansMakeOne window w k cron h
  pub taken : PlansFindTaken window w k cron h
  pub rest : PlansRest window w k cron h
  pub stay : PlansStay w k cron h
  pub spare : PlansSpare window w k cron h

-- by the answers that a legal history determines, who takes the key is answered all calls of its
-- sync, and the latest time missed gets its Job
-- rule: sync-makes-job
abbrev pub MakesJob : Type 0
MakesJob = (window : ℕ) (h : List Told) (w : ℕ) (k : Place) (cron : CronJob) → IsLegal window h
    → IsReady window h w k cron
    → (is_ok (answer_of window h (worker w) Of.Take) ≡ true)
    × Leads window w k None (entry window h w Of.Take ∷ h) readings (PlansWork window w k cron)

-- What an accepted call of a worker does, by how far its sync has come.
use Rattle.std.proofs.Common.{◌≡◌, ℕ, Bool, true, false, List, ◌∷◌, Option, Some, None, refl, sym, ap, subst, ◌∙◌}
use Rattle.std.specs.Prelude.{Result, Ok, Err, if◌then◌else◌}
use Rattle.std.specs.FinMap as map
use Rattle.cj_base.specs.declared.refusal.Refusal.{Refusal}
use Rattle.cj_base.specs.declared.refusal.Refusal.TheVariants.{Stale}
use Rattle.cj_types.specs.Keys.{Place}
use Rattle.cj_types.specs.Events.{version_of}
use Rattle.cj_types.specs.declared.cron.CronJob.{CronJob}
use Rattle.cj_types.specs.declared.job.Job.{Job}
use Rattle.cj_types.specs.declared.event.Event.{Event}
use Rattle.cj_types.specs.declared.policy.Reason.{Reason}
use Rattle.cj_store.specs.Change.{map_ok, cron_modified, job_added}
use Rattle.cj_store.specs.Crons.{status_set}
use Rattle.cj_store.specs.Jobs.{job_made}
use Rattle.cj_queue.specs.Queue.{Queue, first, finished_ok, finished_retry}
use Rattle.cj_decide.specs.Decision.{Planned}
use Rattle.cj_decide.specs.declared.start.Claim.{Claim}
use Rattle.cj_calls.specs.Rows.{Told}
use Rattle.cj_calls.specs.declared.caller.Caller.{Caller}
use Rattle.cj_calls.specs.declared.caller.Role.{Role}
use Rattle.cj_calls.specs.declared.caller.Role.TheVariants.{User, Runner, Informer, Worker}
use Rattle.cj_calls.specs.declared.call.Call.{Call}
use Rattle.cj_calls.specs.declared.call.Call.TheVariants as Of
use Rattle.cj_calls.specs.declared.end.End.{End}
use Rattle.cj_calls.specs.declared.end.End.TheVariants.{Again, Well}
use Rattle.cj_calls.specs.declared.reply.Reply.{Reply}
use Rattle.cj_calls.specs.declared.reply.Reply.TheVariants as Say
use Rattle.cj_state.specs.phases.Inputs.{rests_on}
use Rattle.cj_state.specs.phases.Steps.{Step, drops, makes, sets, step_at, as_drop, as_make, as_status, is_over}
use Rattle.cj_state.specs.declared.phases.sync.Work.{Work}
use Rattle.cj_state.specs.declared.phases.sync.Phase.{Phase}
use Rattle.cj_state.specs.declared.phases.sync.Phase.TheVariants.{Held, Seen, Listed, Checked, Works}
use Rattle.cj_state.specs.declared.phases.sync.InFlight.{InFlight}
use Rattle.cj_state.specs.declared.state.State.{State}
use Rattle.cj_state.specs.Readings.{listed_of, active_of}
use Rattle.cj_state.specs.WorkerCalls.{Handled, refused, sync_of, by_sync, take, take_by, take_first, see_cron, see_cron_in, see_jobs, see_jobs_in, see_active, see_active_in, wrote, works, seen_version, claims, claim_where, claim_in, claim, further, next_sync, steps_on, drop_where, drop_in, drop_next, event_reply, make_where, make_in, make_next, version_reply, sets_it, status_where, status_in, set_status, leaves, next_ms, finish_work, finish_well, finish_in, finish}
use Rattle.cj_state.specs.Step.{by_role, by_worker, step_of}
use Rattle.cj_state.specs.Legal.{IsLegal, state_of}
use Rattle.cj_world_laws.specs.legal.InFlightSyncs.{sync}
use Rattle.cj_world_laws.specs.once.Once.{is_ok}
use Rattle.cj_world_laws.proofs.LegalLemmas.HeldSyncs.{syncs_agree}
use Rattle.cj_world_laws.proofs.OnceLemmas.Maps.{sync_here, sync_removal}
use Rattle.cj_history.specs.progress.Undisturbed.{worker}
use Rattle.cj_history.specs.progress.Syncs.{call_of}
use Rattle.cj_history.proofs.ProgressLemmas.Calls.{in_flight, drop_made}

-- the call is the next one of a sync in the phase, and leaves its worker that; or it gives the sync
-- up
pub data Moves (k : Place) (p : Phase) (call : Call) (o : Option InFlight) : Type 0 where
  sees : (c : Option CronJob) → p ≡ Held → call ≡ Of.SeeCron → o ≡ Some (in_flight k (Seen c)) → Moves k p call o
  lists : (c : Option CronJob) (js : List Job) → p ≡ Seen c → call ≡ Of.SeeJobs
      → o ≡ Some (in_flight k (Listed c js)) → Moves k p call o
  checks : (c : Option CronJob) (js : List Job) (ks : List (Option Job)) → p ≡ Listed c js → call ≡ Of.SeeActive
      → o ≡ Some (in_flight k (Checked c js ks)) → Moves k p call o
  starts : (c : Option CronJob) (js : List Job) (ks : List (Option Job)) (plan : Planned) (v : ℕ)
      → p ≡ Checked c js ks → call ≡ Of.Claim plan → rests_on plan c js ks ≡ true
      → o ≡ Some (in_flight k (works plan v 0)) → Moves k p call o
  goes_on : (work : Work) (x : Step) → p ≡ Works work → step_at work.plan.steps work.place ≡ Some x
      → call ≡ call_of x → o ≡ Some (in_flight k (further work)) → Moves k p call o
  ends : (work : Work) (reasons : List Reason) → p ≡ Works work → step_at work.plan.steps work.place ≡ None
      → call ≡ Of.Finish Well reasons → o ≡ None → Moves k p call o
  gives_up : (now : ℕ) (reasons : List Reason) → call ≡ Of.Finish (Again now) reasons → o ≡ None → Moves k p call o

-- s is the state before the call, w the worker, and k its key.
module _ (s : State) (w : ℕ) (k : Place) where
  -- it does so where it is accepted
  abbrev Now : Phase → Call → Handled → Type 0
  Now p call m = is_ok m.answer ≡ true → Moves k p call (sync_of m.state w)

  -- A SeeCron is of one who took the key.
  see_cron_now : (p : Phase) → Now p Of.SeeCron (see_cron_in s w k p)
  see_cron_now Held ok = sees (map.get s.store.crons k) refl refl (sync_here s.syncs w _)
  see_cron_now p ok = absurd (cc ok)

  -- A SeeJobs is of one who saw the CronJob.
  see_jobs_now : (p : Phase) → Now p Of.SeeJobs (see_jobs_in s w k p)
  see_jobs_now (Seen c) ok = lists c (listed_of s k) refl refl (sync_here s.syncs w _)
  see_jobs_now p ok = absurd (cc ok)

  -- A SeeActive is of one who saw the listing.
  see_active_now : (p : Phase) → Now p Of.SeeActive (see_active_in s w k p)
  see_active_now (Listed c js) ok = checks c js (active_of s.store c) refl refl (sync_here s.syncs w _)
  see_active_now p ok = absurd (cc ok)

  -- For claim_now: by whether the write is made.
  claimed_now : (c : Option CronJob) (js : List Job) (ks : List (Option Job)) (plan : Planned) (y : Claim)
      → rests_on plan c js ks ≡ true → (r : Result Event Refusal)
      → Now (Checked c js ks) (Of.Claim plan) (wrote s w k (λ e. Say.Claimed (Some (y.time, version_of e)))
      (λ e. works plan (version_of e) 0) r)
  claimed_now c js ks plan y rests (Ok e) ok =
      starts c js ks plan (version_of e) refl refl rests (sync_here s.syncs w _)
  claimed_now c js ks plan y rests (Err x) ok = absurd (cc ok)

  -- For claim_now: by the CronJob that was seen.
  claims_now : (c : Option CronJob) (js : List Job) (ks : List (Option Job)) (plan : Planned) (y : Claim)
      → rests_on plan c js ks ≡ true → (o : Option CronJob)
      → Now (Checked c js ks) (Of.Claim plan) (claims s w k plan y o)
  claims_now c js ks plan y rests None ok = absurd (cc ok)
  claims_now c js ks plan y rests (Some cron) ok =
      claimed_now c js ks plan y rests
      (map_ok cron_modified (status_set s.store k cron.meta.uid cron.meta.version y.status)) ok

  -- For claim_now: by what is claimed.
  claim_where_now : (c : Option CronJob) (js : List Job) (ks : List (Option Job)) (plan : Planned)
      → rests_on plan c js ks ≡ true → (o : Option Claim)
      → Now (Checked c js ks) (Of.Claim plan) (claim_where s w k plan o)
  claim_where_now c js ks plan rests None ok =
      starts c js ks plan (seen_version plan.cron) refl refl rests (sync_here s.syncs w _)
  claim_where_now c js ks plan rests (Some y) ok = claims_now c js ks plan y rests plan.cron ok

  -- For claim_now: by whether the plan rests on the readings.
  claim_by_now : (c : Option CronJob) (js : List Job) (ks : List (Option Job)) (plan : Planned) (b : Bool)
      → rests_on plan c js ks ≡ b
      → Now (Checked c js ks) (Of.Claim plan) (if b then claim_where s w k plan plan.steps.claim else refused s Stale)
  claim_by_now c js ks plan true rests ok = claim_where_now c js ks plan rests plan.steps.claim ok
  claim_by_now c js ks plan false rests ok = absurd (cc ok)

  -- A Claim is of one who made its readings, on which the plan rests.
  claim_now : (plan : Planned) (p : Phase) → Now p (Of.Claim plan) (claim_in s w plan k p)
  claim_now plan (Checked c js ks) ok = claim_by_now c js ks plan (rests_on plan c js ks) refl ok
  claim_now plan p ok = absurd (cc ok)

  -- For make_now and status_now: a step that is made leaves the worker at the next one.
  stepped_now : (sits : InFlight) (say : Event → Reply) (r : Result Event Refusal)
      → is_ok (steps_on s w sits say r).answer ≡ true → sync_of (steps_on s w sits say r).state w ≡ Some sits
  stepped_now sits say (Ok e) ok = sync_here s.syncs w sits
  stepped_now sits say (Err x) ok = absurd (cc ok)

  -- For drop_now: by the next step.
  drop_step : (work : Work) (o : Option Step) → step_at work.plan.steps work.place ≡ o
      → Now (Works work) Of.DropNext (drop_where s w k work (as_drop o))
  drop_step work None e ok = absurd (cc ok)
  drop_step work (Some (drops r)) e ok =
      goes_on work (drops r) refl e refl (drop_made s w (next_sync k work) r).sync_is
  drop_step work (Some (makes d)) e ok = absurd (cc ok)
  drop_step work (Some (sets f)) e ok = absurd (cc ok)

  -- A DropNext is of one whose next step is a drop.
  drop_now : (p : Phase) → Now p Of.DropNext (drop_in s w k p)
  drop_now (Works work) ok = drop_step work (step_at work.plan.steps work.place) refl ok
  drop_now p ok = absurd (cc ok)

  -- For make_now: by the next step.
  make_step : (work : Work) (o : Option Step) → step_at work.plan.steps work.place ≡ o
      → Now (Works work) Of.MakeNext (make_where s w k work (as_make o))
  make_step work None e ok = absurd (cc ok)
  make_step work (Some (drops r)) e ok = absurd (cc ok)
  make_step work (Some (makes d)) e ok =
      goes_on work (makes d) refl e refl
      (stepped_now (next_sync k work) event_reply (map_ok job_added (job_made s.store d work.plan.at)) ok)
  make_step work (Some (sets f)) e ok = absurd (cc ok)

  -- A MakeNext is of one whose next step is a making.
  make_now : (p : Phase) → Now p Of.MakeNext (make_in s w k p)
  make_now (Works work) ok = make_step work (step_at work.plan.steps work.place) refl ok
  make_now p ok = absurd (cc ok)

  -- For status_now: by the next step, and the CronJob that was seen.
  status_step : (work : Work) (o : Option Step) (c : Option CronJob) → step_at work.plan.steps work.place ≡ o
      → work.plan.cron ≡ c
      → Now (Works work) Of.SetStatus (status_where s w k work (as_status o))
  status_step work None c e f ok = absurd (cc ok)
  status_step work (Some (drops r)) c e f ok = absurd (cc ok)
  status_step work (Some (makes d)) c e f ok = absurd (cc ok)
  status_step work (Some (sets status)) c e f ok =
      subst (λ (x : Option CronJob). Now (Works work) Of.SetStatus (sets_it s w k work status x)) (sym f) (by c) ok
    where
      by : (x : Option CronJob) → Now (Works work) Of.SetStatus (sets_it s w k work status x)
      by None ok = absurd (cc ok)
      by (Some cron) ok =
          goes_on work (sets status) refl e refl
          (stepped_now (next_sync k work) version_reply
          (map_ok cron_modified (status_set s.store k cron.meta.uid work.version status)) ok)

  -- A SetStatus is of one whose next step is the status.
  status_now : (p : Phase) → Now p Of.SetStatus (status_in s w k p)
  status_now (Works work) ok = status_step work (step_at work.plan.steps work.place) work.plan.cron refl refl ok
  status_now p ok = absurd (cc ok)

  -- Who ended its sync has none.
  left_now : (q : Queue) → sync_of (leaves s w q).state w ≡ None
  left_now q = by (map.get (map.remove s.syncs w) w) refl
    where
      by : (o : Option InFlight) → map.get (map.remove s.syncs w) w ≡ o → map.get (map.remove s.syncs w) w ≡ None
      by None e = e
      by (Some x) e = absurd ((sync_removal s.syncs w w x e).0 refl)

  -- For finish_now: by the next step.
  finish_step : (work : Work) (reasons : List Reason) (o : Option Step) → step_at work.plan.steps work.place ≡ o
      → Now (Works work) (Of.Finish Well reasons) (finish_work s w k work (is_over o))
  finish_step work reasons None e ok =
      ends work reasons refl e refl (left_now (finished_ok s.queue k (next_ms work.plan.steps.next)))
  finish_step work reasons (Some x) e ok = absurd (cc ok)

  -- For finish_now: that ends the sync well.
  finish_well_now : (reasons : List Reason) (p : Phase) → Now p (Of.Finish Well reasons) (finish_well s w k p)
  finish_well_now reasons (Works work) ok = finish_step work reasons (step_at work.plan.steps work.place) refl ok
  finish_well_now reasons p ok = absurd (cc ok)

  -- A Finish is of one whose plan is worked off, or gives the sync up.
  finish_now : (end : End) (reasons : List Reason) (p : Phase) → Now p (Of.Finish end reasons) (finish_in s w end k p)
  finish_now (Again now) reasons p ok = gives_up now reasons refl (left_now (finished_retry s.queue k now))
  finish_now Well reasons p ok = finish_well_now reasons p ok

  -- For call_now: by the sync.
  at_sync : (p : Phase) (call : Call) (f : Place → Phase → Handled) → sync_of s w ≡ Some (in_flight k p)
      → Now p call (f k p) → Now p call (by_sync s f (sync_of s w))
  at_sync p call f at now = subst (λ (o : Option InFlight). Now p call (by_sync s f o)) (sym at) now

  -- For call_now: one who holds a key takes none.
  take_now : (p : Phase) → sync_of s w ≡ Some (in_flight k p) → Now p Of.Take (take_by s w (sync_of s w))
  take_now p at =
      subst (λ (o : Option InFlight). Now p Of.Take (take_by s w o)) (sym at) (λ ok. absurd (cc ok))

  -- For moves: each accepted call of one who holds the key is the next one of its sync.
  call_now : (p : Phase) (call : Call) → sync_of s w ≡ Some (in_flight k p) → Now p call (by_worker s w call)
  unfolding take see_cron see_jobs see_active claim drop_next make_next set_status finish
  call_now p Of.Take at = take_now p at
  call_now p Of.SeeCron at = at_sync p Of.SeeCron (see_cron_in s w) at (see_cron_now p)
  call_now p Of.SeeJobs at = at_sync p Of.SeeJobs (see_jobs_in s w) at (see_jobs_now p)
  call_now p Of.SeeActive at = at_sync p Of.SeeActive (see_active_in s w) at (see_active_now p)
  call_now p (Of.Claim plan) at = at_sync p (Of.Claim plan) (claim_in s w plan) at (claim_now plan p)
  call_now p Of.DropNext at = at_sync p Of.DropNext (drop_in s w) at (drop_now p)
  call_now p Of.MakeNext at = at_sync p Of.MakeNext (make_in s w) at (make_now p)
  call_now p Of.SetStatus at = at_sync p Of.SetStatus (status_in s w) at (status_now p)
  call_now p (Of.Finish end reasons) at =
      at_sync p (Of.Finish end reasons) (finish_in s w end) at (finish_now end reasons p)
  call_now p call at = λ ok. absurd (cc ok)

  -- For moves: whatever the clause of a step is.
  step_now : (p : Phase) (call : Call) → sync_of s w ≡ Some (in_flight k p) → Now p call (step_of s (worker w) call)
  unfolding step_of
  step_now p call at = call_now p call at

-- In a legal history an accepted call of a worker that holds the key is the next one of its sync.
pub moves : (window : ℕ) (h : List Told) (e : Told) (w : ℕ) (k : Place) (p : Phase) → IsLegal window (e ∷ h)
    → e.caller ≡ worker w → sync h w ≡ Some (in_flight k p) → is_ok e.answer ≡ true
    → Moves k p e.call (sync (e ∷ h) w)
moves window h e w k p l by at ok =
    let s : State = state_of window h in
    let now = step_now s w k p e.call (syncs_agree window h l.2 w ∙ at) in
    let told : is_ok (step_of s (worker w) e.call).answer ≡ true =
    subst (λ (c : Caller). is_ok (step_of s c e.call).answer ≡ true) by (ap is_ok (sym l.0) ∙ ok) in
    let is : sync_of (step_of s (worker w) e.call).state w ≡ sync (e ∷ h) w =
    subst (λ (c : Caller). sync_of (step_of s c e.call).state w ≡ sync (e ∷ h) w) by (syncs_agree window (e ∷ h) l w) in
    subst (Moves k p e.call) is (now told)

-- ---- the Take

-- a worker that held no key took this one, the first of the line
pub record Takes (s : State) (c : Caller) (k : Place) : Type 0 where
  pub role : c.role ≡ Worker
  pub idle : sync_of s c.number ≡ None
  pub line : first s.queue.row.line ≡ Some k

-- For takes: by the line.
first_takes : (s : State) (w : ℕ) (k : Place) (o : Option Place) → first s.queue.row.line ≡ o
    → (take_first s w o).answer ≡ Ok (Say.Key k) → first s.queue.row.line ≡ Some k
first_takes s w k (Some q) e f = let same : q ≡ k = cc f in e ∙ ap (λ (x : Place). Some x) same
first_takes s w k None e f = absurd (cc f)

-- For takes: by the sync.
idle_takes : (s : State) (w : ℕ) (k : Place) (o : Option InFlight) → sync_of s w ≡ o
    → (take_by s w o).answer ≡ Ok (Say.Key k) → Takes s (worker w) k
idle_takes s w k None e f = record { role = refl; idle = e; line = first_takes s w k (first s.queue.row.line) refl f }
idle_takes s w k (Some x) e f = absurd (cc f)

-- For takes: by the role.
role_takes : (s : State) (role : Role) (w : ℕ) (k : Place) → (by_role s role w Of.Take).answer ≡ Ok (Say.Key k)
    → Takes s (record { number = w; role = role }) k
unfolding take
role_takes s Worker w k f = idle_takes s w k (sync_of s w) refl f
role_takes s User w k f = absurd (cc f)
role_takes s Runner w k f = absurd (cc f)
role_takes s Informer w k f = absurd (cc f)

-- Who is answered a key took it.
pub takes : (s : State) (c : Caller) (k : Place) → (step_of s c Of.Take).answer ≡ Ok (Say.Key k) → Takes s c k
unfolding step_of
takes s c k f = role_takes s c.role c.number k f

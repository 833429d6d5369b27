-- What each call does to the queue: the queue's call that its deed says, on the key that its caller
-- holds.
use Rattle.std.proofs.Common.{◌≡◌, ℕ, Bool, true, false, List, refl, sym, ap, ◌∙◌}
use Rattle.std.specs.Prelude.{Option, Some, None, Result, Ok, Err, if◌then◌else◌}
use Rattle.std.specs.FinMap as map
use Rattle.cj_base.specs.declared.refusal.Refusal.{Refusal}
use Rattle.cj_base.specs.declared.refusal.Refusal.TheVariants.{NotPermitted, Stale}
use Rattle.cj_types.specs.Keys.{Place}
use Rattle.cj_types.specs.declared.cron.CronJob.{CronJob}
use Rattle.cj_types.specs.declared.cron.CronStatus.{CronStatus}
use Rattle.cj_types.specs.declared.job.Job.{Job}
use Rattle.cj_types.specs.declared.job.JobDraft.{JobDraft}
use Rattle.cj_types.specs.declared.policy.Reason.{Reason}
use Rattle.cj_types.specs.declared.event.Event.{Event}
use Rattle.cj_store.specs.Change.{map_ok, cron_added, cron_modified, cron_gone, job_added, job_modified, job_gone}
use Rattle.cj_store.specs.Crons.{cron_created, cron_updated, cron_deleted}
use Rattle.cj_store.specs.Jobs.{job_created, job_updated, job_deleted, job_ended}
use Rattle.cj_watch.specs.Log.{since}
use Rattle.cj_queue.specs.Queue.{first}
use Rattle.cj_decide.specs.Decision.{Planned}
use Rattle.cj_decide.specs.declared.start.Claim.{Claim}
use Rattle.cj_status.specs.declared.refs.JobRef.{JobRef}
use Rattle.cj_calls.specs.declared.caller.Caller.{Caller}
use Rattle.cj_calls.specs.declared.caller.Role.{Role}
use Rattle.cj_calls.specs.declared.caller.Role.TheVariants.{User, Runner, Informer, Worker}
use Rattle.cj_calls.specs.declared.call.Call.{Call}
use Rattle.cj_calls.specs.declared.call.Call.TheVariants as Of
use Rattle.cj_calls.specs.declared.end.End.{End}
use Rattle.cj_calls.specs.declared.end.End.TheVariants.{Well, Again}
use Rattle.cj_calls.specs.declared.reply.Reply.{Reply}
use Rattle.cj_state.specs.phases.Inputs.{rests_on}
use Rattle.cj_state.specs.phases.Steps.{step_at, as_drop, as_make, as_status, is_over}
use Rattle.cj_state.specs.declared.phases.sync.Work.{Work}
use Rattle.cj_state.specs.declared.phases.sync.Phase.{Phase}
use Rattle.cj_state.specs.declared.phases.sync.Phase.TheVariants.{Held, Seen, Listed, Checked, Works}
use Rattle.cj_state.specs.declared.phases.sync.InFlight.{InFlight}
use Rattle.cj_state.specs.declared.state.State.{State}
use Rattle.cj_state.specs.WorkerCalls.{Handled, refused, by_sync, sync_of, take, take_by, take_first, see_cron, see_cron_in, see_jobs, see_jobs_in, see_active, see_active_in, claim, claim_in, claim_where, claims, wrote, drop_next, drop_in, drop_where, drops_it, make_next, make_in, make_where, steps_on, event_reply, version_reply, set_status, status_in, status_where, sets_it, finish, finish_in, finish_work}
use Rattle.cj_state.specs.Step.{writes, found_cron, found_job, told_events, step_of, by_role, by_reader, by_user, by_runner, by_worker, by_informer}
use Rattle.cj_history.specs.queue.Deeds.{Deed, adds, ticks, takes, ends, fails, shuts, nothing, deed}
use Rattle.cj_history.specs.queue.Calls.{called}

-- the key of a sync
abbrev pub key_of : Option InFlight → Option Place
key_of None = None
key_of (Some s) = Some s.key

-- a take is of the first of the line, by one who holds no key; an end is by one who holds one
abbrev pub May : Deed → Option Place → List Place → Type 0
May (takes j) t line = (t ≡ None) × (first line ≡ Some j)
May (ends n) t line = (u : Place) × (t ≡ Some u)
May (fails n) t line = (u : Place) × (t ≡ Some u)
May d t line = Unit {0}

pub record Turns (x : Option InFlight) (call : Call) (s : State) (m : Handled) : Type 0 where
  pub queue : m.state.queue ≡ called (deed x call m.answer) (key_of x) s.queue
  pub may : May (deed x call m.answer) (key_of x) s.queue.row.line

-- x is the caller's sync, and s is the state before the call.
module _ {x : Option InFlight} {call : Call} {s : State} where
  -- A call that did nothing and leaves the queue as it is turns it as its deed says.
  idle : (m : Handled) → deed x call m.answer ≡ nothing → m.state.queue ≡ s.queue → Turns x call s m
  idle m e f = record {
    queue = f ∙ ap (λ d. called d (key_of x) s.queue) (sym e);
    may = by (deed x call m.answer) e;
  }
    where
      by : (d : Deed) → d ≡ nothing → May d (key_of x) s.queue.row.line
      by (adds j) g = tt
      by (ticks n) g = tt
      by (takes j) g = absurd (cc g)
      by (ends n) g = absurd (cc g)
      by (fails n) g = absurd (cc g)
      by shuts g = tt
      by nothing g = tt

-- a call that is none of the queue's
abbrev IsOther : Call → Type 0
IsOther call = (x : Option InFlight) (r : Reply) → deed x call (Ok r) ≡ nothing

-- A refused call did nothing to the queue.
no_deed : (x : Option InFlight) (call : Call) (e : Refusal) → deed x call (Err e) ≡ nothing
no_deed x call e = refl

-- A call that is none of the queue's, and leaves the queue as it is, turns it as its deed says.
other : (x : Option InFlight) (call : Call) (s : State) (m : Handled) → IsOther call → m.state.queue ≡ s.queue
    → Turns x call s m
other x call s m h e = idle m (by m.answer) e
  where
    by : (a : Result Reply Refusal) → deed x call a ≡ nothing
    by (Ok r) = h x r
    by (Err f) = no_deed x call f

-- A call that is refused turns the queue as its deed says: not at all.
no : (x : Option InFlight) (call : Call) (s : State) (e : Refusal) → Turns x call s (refused s e)
no x call s e = idle (refused s e) (no_deed x call e) refl

-- ---- those who hold no key

-- A write of the store leaves the queue as it is.
writes_queue : (s : State) (say : Event → Reply) (r : Result Event Refusal) → (writes s say r).state.queue ≡ s.queue
writes_queue s say (Ok e) = refl
writes_queue s say (Err e) = refl

-- The look-up of a CronJob leaves the queue as it is.
found_cron_queue : (s : State) (o : Option CronJob) → (found_cron s o).state.queue ≡ s.queue
found_cron_queue s None = refl
found_cron_queue s (Some c) = refl

-- The look-up of a Job leaves the queue as it is.
found_job_queue : (s : State) (o : Option Job) → (found_job s o).state.queue ≡ s.queue
found_job_queue s None = refl
found_job_queue s (Some c) = refl

-- The telling of events to a watcher leaves the queue as it is.
told_queue : (s : State) (r : Result (List Event) Refusal) → (told_events s r).state.queue ≡ s.queue
told_queue s (Ok es) = refl
told_queue s (Err e) = refl

-- A call that reads, or is refused as it doesn't, turns the queue as its deed says: not at all.
reader_turns : (x : Option InFlight) (s : State) (call : Call) → Turns x call s (by_reader s call)
reader_turns x s (Of.GetCron k) = other x (Of.GetCron k) s _ (λ y r. refl)
    (found_cron_queue s (map.get s.store.crons k))
reader_turns x s (Of.GetJob k) = other x (Of.GetJob k) s _ (λ y r. refl) (found_job_queue s (map.get s.store.jobs k))
reader_turns x s Of.ListCrons = other x Of.ListCrons s _ (λ y r. refl) refl
reader_turns x s Of.ListJobs = other x Of.ListJobs s _ (λ y r. refl) refl
reader_turns x s (Of.Watch v max) = other x (Of.Watch v max) s _ (λ y r. refl) (told_queue s (since s.watch v max))
reader_turns x s call = no x call s NotPermitted

-- A user's call turns the queue as its deed says: not at all.
user_turns : (x : Option InFlight) (s : State) (call : Call) → Turns x call s (by_user s call)
user_turns x s (Of.CreateCron d n) = other x (Of.CreateCron d n) s _ (λ y r. refl)
    (writes_queue s event_reply (map_ok cron_added (cron_created s.store d n)))
user_turns x s (Of.UpdateCron d) = other x (Of.UpdateCron d) s _ (λ y r. refl)
    (writes_queue s event_reply (map_ok cron_modified (cron_updated s.store d)))
user_turns x s (Of.DeleteCron k) = other x (Of.DeleteCron k) s _ (λ y r. refl)
    (writes_queue s version_reply (map_ok cron_gone (cron_deleted s.store k)))
user_turns x s (Of.CreateJob d n) = other x (Of.CreateJob d n) s _ (λ y r. refl)
    (writes_queue s event_reply (map_ok job_added (job_created s.store d n)))
user_turns x s (Of.UpdateJob d) = other x (Of.UpdateJob d) s _ (λ y r. refl)
    (writes_queue s event_reply (map_ok job_modified (job_updated s.store d)))
user_turns x s (Of.DeleteJob k) = other x (Of.DeleteJob k) s _ (λ y r. refl)
    (writes_queue s version_reply (map_ok job_gone (job_deleted s.store k None)))
user_turns x s call = reader_turns x s call

-- A runner's call turns the queue as its deed says: not at all.
runner_turns : (x : Option InFlight) (s : State) (call : Call) → Turns x call s (by_runner s call)
runner_turns x s (Of.EndJob k u o n) = other x (Of.EndJob k u o n) s _ (λ y r. refl)
    (writes_queue s event_reply (map_ok job_modified (job_ended s.store k u o n)))
runner_turns x s call = reader_turns x s call

-- An informer's call, an add, a tick or the shutdown among them, turns the queue as its deed says.
informer_turns : (x : Option InFlight) (s : State) (call : Call) → Turns x call s (by_informer s call)
informer_turns x s (Of.Add k) = record { queue = refl; may = tt }
informer_turns x s (Of.Tick now) = record { queue = refl; may = tt }
informer_turns x s Of.Shut = record { queue = refl; may = tt }
informer_turns x s (Of.Feed max) = other x (Of.Feed max) s _ (λ y r. refl) refl
informer_turns x s call = reader_turns x s call

-- ---- workers

-- A Take by one who holds no key turns the queue by the first key of the line, if there is one.
first_turns : (s : State) (w : ℕ) (o : Option Place) → first s.queue.row.line ≡ o
    → Turns None Of.Take s (take_first s w o)
first_turns s w (Some k) e = record { queue = refl; may = (refl, e) }
first_turns s w None e = no None Of.Take s _

-- Any worker's Take turns the queue as its deed says; that of one who holds a key is refused.
take_turns : (s : State) (w : ℕ) (x : Option InFlight) → Turns x Of.Take s (take_by s w x)
take_turns s w None = first_turns s w (first s.queue.row.line) refl
take_turns s w (Some y) = no (Some y) Of.Take s _

-- A call on the caller's sync leaves the queue as it is where it does so for any key and phase.
sync_queue : (s : State) (f : Place → Phase → Handled) (x : Option InFlight)
    → ((k : Place) (p : Phase) → (f k p).state.queue ≡ s.queue) → (by_sync s f x).state.queue ≡ s.queue
sync_queue s f None h = refl
sync_queue s f (Some y) h = h y.key y.phase

-- w is a worker, and k is the key that it holds in the state s.
module _ (s : State) (w : ℕ) (k : Place) where
  -- A SeeCron leaves the queue as it is in each phase.
  cron_queue : (p : Phase) → (see_cron_in s w k p).state.queue ≡ s.queue
  cron_queue Held = refl
  cron_queue (Seen c) = refl
  cron_queue (Listed c js) = refl
  cron_queue (Checked c js ks) = refl
  cron_queue (Works work) = refl

  -- A SeeJobs leaves the queue as it is in each phase.
  jobs_queue : (p : Phase) → (see_jobs_in s w k p).state.queue ≡ s.queue
  jobs_queue Held = refl
  jobs_queue (Seen c) = refl
  jobs_queue (Listed c js) = refl
  jobs_queue (Checked c js ks) = refl
  jobs_queue (Works work) = refl

  -- A SeeActive leaves the queue as it is in each phase.
  active_queue : (p : Phase) → (see_active_in s w k p).state.queue ≡ s.queue
  active_queue Held = refl
  active_queue (Seen c) = refl
  active_queue (Listed c js) = refl
  active_queue (Checked c js ks) = refl
  active_queue (Works work) = refl

  -- A write after which the worker comes to a phase leaves the queue as it is, made or refused.
  wrote_queue : (say : Event → Reply) (p : Event → Phase) (r : Result Event Refusal)
      → (wrote s w k say p r).state.queue ≡ s.queue
  wrote_queue say p (Ok e) = refl
  wrote_queue say p (Err e) = refl

  -- A claim leaves the queue as it is, be its plan of a CronJob or of none.
  claims_queue : (p : Planned) (c : Claim) (o : Option CronJob) → (claims s w k p c o).state.queue ≡ s.queue
  claims_queue p c None = refl
  claims_queue p c (Some cron) = wrote_queue _ _ _

  -- A Claim leaves the queue as it is, has its plan a claim or none.
  where_queue : (p : Planned) (o : Option Claim) → (claim_where s w k p o).state.queue ≡ s.queue
  where_queue p None = refl
  where_queue p (Some c) = claims_queue p c p.cron

  -- A Claim leaves the queue as it is, rests its plan on the worker's answers or not.
  rests_queue : (p : Planned) (b : Bool) → (if b then claim_where s w k p p.steps.claim
      else refused s Stale).state.queue ≡ s.queue
  rests_queue p true = where_queue p p.steps.claim
  rests_queue p false = refl

  -- A Claim leaves the queue as it is in each phase.
  claim_queue : (p : Planned) (q : Phase) → (claim_in s w p k q).state.queue ≡ s.queue
  claim_queue p Held = refl
  claim_queue p (Seen c) = refl
  claim_queue p (Listed c js) = refl
  claim_queue p (Checked c js ks) = rests_queue p (rests_on p c js ks)
  claim_queue p (Works work) = refl

  -- A write that is a step of a plan leaves the queue as it is, made or refused.
  on_queue : (y : InFlight) (say : Event → Reply) (r : Result Event Refusal) → (steps_on s w y say r).state.queue
      ≡ s.queue
  on_queue y say (Ok e) = refl
  on_queue y say (Err e) = refl

  -- A drop leaves the queue as it is, was there a Job to delete or none.
  drops_queue : (y : InFlight) (name : Place) (r : Result Event Refusal) → (drops_it s w y name r).state.queue ≡ s.queue
  drops_queue y name (Ok e) = refl
  drops_queue y name (Err e) = refl

  -- A DropNext leaves the queue as it is, be the next step a drop or not.
  drop_where_queue : (work : Work) (o : Option JobRef) → (drop_where s w k work o).state.queue ≡ s.queue
  drop_where_queue work None = refl
  drop_where_queue work (Some r) = drops_queue _ _ _

  -- A DropNext leaves the queue as it is in each phase.
  drop_queue : (p : Phase) → (drop_in s w k p).state.queue ≡ s.queue
  drop_queue Held = refl
  drop_queue (Seen c) = refl
  drop_queue (Listed c js) = refl
  drop_queue (Checked c js ks) = refl
  drop_queue (Works work) = drop_where_queue work (as_drop (step_at work.plan.steps work.place))

  -- A MakeNext leaves the queue as it is, be the next step to make a Job or not.
  make_where_queue : (work : Work) (o : Option JobDraft) → (make_where s w k work o).state.queue ≡ s.queue
  make_where_queue work None = refl
  make_where_queue work (Some d) = on_queue _ _ _

  -- A MakeNext leaves the queue as it is in each phase.
  make_queue : (p : Phase) → (make_in s w k p).state.queue ≡ s.queue
  make_queue Held = refl
  make_queue (Seen c) = refl
  make_queue (Listed c js) = refl
  make_queue (Checked c js ks) = refl
  make_queue (Works work) = make_where_queue work (as_make (step_at work.plan.steps work.place))

  -- A step that sets the status leaves the queue as it is, be its plan of a CronJob or not.
  sets_queue : (work : Work) (status : CronStatus) (o : Option CronJob) → (sets_it s w k work status o).state.queue
      ≡ s.queue
  sets_queue work status None = refl
  sets_queue work status (Some cron) = on_queue _ _ _

  -- A SetStatus leaves the queue as it is, be the next step to set the status or not.
  status_where_queue : (work : Work) (o : Option CronStatus) → (status_where s w k work o).state.queue ≡ s.queue
  status_where_queue work None = refl
  status_where_queue work (Some status) = sets_queue work status work.plan.cron

  -- A SetStatus leaves the queue as it is in each phase.
  status_queue : (p : Phase) → (status_in s w k p).state.queue ≡ s.queue
  status_queue Held = refl
  status_queue (Seen c) = refl
  status_queue (Listed c js) = refl
  status_queue (Checked c js ks) = refl
  status_queue (Works work) = status_where_queue work (as_status (step_at work.plan.steps work.place))

  -- a Finish by a sync of the key in this phase turns the queue as its deed says
  abbrev EndTurns : Phase → End → List Reason → Handled → Type 0
  EndTurns p end rs m = Turns (Some (record { key = k; phase = p })) (Of.Finish end rs) s m

  -- A Finish of a sync that ends well turns the queue as its deed says, are steps left or not.
  work_turns : (rs : List Reason) (work : Work) (b : Bool) → EndTurns (Works work) Well rs (finish_work s w k work b)
  work_turns rs work true = record { queue = refl; may = (k, refl) }
  work_turns rs work false = no _ _ s _

  -- A Finish turns the queue as its deed says in each phase, well or to be tried again.
  finish_turns : (end : End) (rs : List Reason) (p : Phase) → EndTurns p end rs (finish_in s w end k p)
  finish_turns (Again now) rs p = record { queue = refl; may = (k, refl) }
  finish_turns Well rs Held = no _ _ s _
  finish_turns Well rs (Seen c) = no _ _ s _
  finish_turns Well rs (Listed c js) = no _ _ s _
  finish_turns Well rs (Checked c js ks) = no _ _ s _
  finish_turns Well rs (Works work) = work_turns rs work (is_over (step_at work.plan.steps work.place))

-- A Finish turns the queue as its deed says, on the key of the caller's sync, or is refused.
end_turns : (s : State) (w : ℕ) (end : End) (rs : List Reason) (x : Option InFlight)
    → Turns x (Of.Finish end rs) s (by_sync s (finish_in s w end) x)
end_turns s w end rs None = no None (Of.Finish end rs) s _
end_turns s w end rs (Some y) = finish_turns s w y.key end rs y.phase

-- A worker's call turns the queue as its deed says.
worker_turns : (s : State) (w : ℕ) (call : Call) → Turns (sync_of s w) call s (by_worker s w call)
unfolding take see_cron see_jobs see_active claim drop_next make_next set_status finish
worker_turns s w Of.Take = take_turns s w (sync_of s w)
worker_turns s w Of.SeeCron = other (sync_of s w) Of.SeeCron s _ (λ y r. refl)
    (sync_queue s (see_cron_in s w) (sync_of s w) (cron_queue s w))
worker_turns s w Of.SeeJobs = other (sync_of s w) Of.SeeJobs s _ (λ y r. refl)
    (sync_queue s (see_jobs_in s w) (sync_of s w) (jobs_queue s w))
worker_turns s w Of.SeeActive = other (sync_of s w) Of.SeeActive s _ (λ y r. refl)
    (sync_queue s (see_active_in s w) (sync_of s w) (active_queue s w))
worker_turns s w (Of.Claim p) = other (sync_of s w) (Of.Claim p) s _ (λ y r. refl)
    (sync_queue s (claim_in s w p) (sync_of s w) (λ k. claim_queue s w k p))
worker_turns s w Of.DropNext = other (sync_of s w) Of.DropNext s _ (λ y r. refl)
    (sync_queue s (drop_in s w) (sync_of s w) (drop_queue s w))
worker_turns s w Of.MakeNext = other (sync_of s w) Of.MakeNext s _ (λ y r. refl)
    (sync_queue s (make_in s w) (sync_of s w) (make_queue s w))
worker_turns s w Of.SetStatus = other (sync_of s w) Of.SetStatus s _ (λ y r. refl)
    (sync_queue s (status_in s w) (sync_of s w) (status_queue s w))
worker_turns s w (Of.Finish end rs) = end_turns s w end rs (sync_of s w)
worker_turns s w call = no (sync_of s w) call s NotPermitted

-- A call of a caller of any role turns the queue as its deed says.
role_turns : (s : State) (r : Role) (w : ℕ) (call : Call) → Turns (sync_of s w) call s (by_role s r w call)
role_turns s Worker w call = worker_turns s w call
role_turns s Informer w call = informer_turns (sync_of s w) s call
role_turns s User w call = user_turns (sync_of s w) s call
role_turns s Runner w call = runner_turns (sync_of s w) s call

-- A step of the state turns the queue as the deed says, on the key that the caller's sync holds.
pub turns : (s : State) (caller : Caller) (call : Call) → Turns (sync_of s caller.number) call s (step_of s caller call)
unfolding step_of
turns s caller call = role_turns s caller.role caller.number call

-- What a call can do to the state: nothing, another sync, a write, a take, an end, adds, other
-- lists.
use Rattle.std.proofs.Common.{◌≡◌, ◌⊎◌, inl, inr, ℕ, ◌+◌, Bool, true, false, List, [], ◌∷◌, refl}
use Rattle.std.specs.Prelude.{Option, Some, None, Result, Ok, Err, if◌then◌else◌, nat_le}
use Rattle.std.specs.FinMap as map
use Rattle.cj_base.specs.declared.refusal.Refusal.{Refusal}
use Rattle.cj_base.specs.declared.refusal.Refusal.TheVariants.{Stale}
use Rattle.cj_types.specs.Keys.{Place}
use Rattle.cj_types.specs.declared.cron.CronJob.{CronJob}
use Rattle.cj_types.specs.declared.cron.CronStatus.{CronStatus}
use Rattle.cj_types.specs.declared.job.Job.{Job}
use Rattle.cj_types.specs.declared.job.JobDraft.{JobDraft}
use Rattle.cj_types.specs.declared.event.Event.{Event}
use Rattle.cj_queue.specs.Queue.{Queue, first, row_add, row_adds, row_end, taken, ended, added, added_after, added_where, ticked, closed, forgotten, finished_ok, finished_retry, delay, failures_of}
use Rattle.cj_queue.specs.Times.{ready}
use Rattle.cj_decide.specs.Decision.{Planned}
use Rattle.cj_status.specs.declared.refs.JobRef.{JobRef}
use Rattle.cj_decide.specs.declared.start.Claim.{Claim}
use Rattle.cj_calls.specs.declared.caller.Caller.{Caller}
use Rattle.cj_calls.specs.declared.caller.Role.{Role}
use Rattle.cj_calls.specs.declared.caller.Role.TheVariants.{User, Runner, Informer, Worker}
use Rattle.cj_calls.specs.declared.call.Call.{Call}
use Rattle.cj_calls.specs.declared.call.Call.TheVariants as Of
use Rattle.cj_calls.specs.declared.end.End.{End}
use Rattle.cj_calls.specs.declared.end.End.TheVariants.{Well, Again}
use Rattle.cj_calls.specs.declared.reply.Reply.{Reply}
use Rattle.cj_state.specs.phases.Inputs.{rests_on}
use Rattle.cj_state.specs.phases.Steps.{step_at, as_drop, as_make, as_status, is_over}
use Rattle.cj_state.specs.declared.phases.sync.Work.{Work}
use Rattle.cj_state.specs.declared.phases.sync.Phase.{Phase}
use Rattle.cj_state.specs.declared.phases.sync.Phase.TheVariants.{Held, Seen, Listed, Checked, Works}
use Rattle.cj_state.specs.declared.phases.sync.InFlight.{InFlight}
use Rattle.cj_state.specs.declared.state.State.{State}
use Rattle.cj_state.specs.WorkerCalls.{Handled, refused, by_sync, sync_of, with_sync, written, take, take_by, take_first, see_cron, see_cron_in, see_jobs, see_jobs_in, see_active, see_active_in, claim, claim_in, claim_where, claims, wrote, drop_next, drop_in, drop_where, drops_it, next_sync, make_next, make_in, make_where, steps_on, set_status, status_in, status_where, sets_it, finish, finish_in, finish_work, next_ms}
use Rattle.cj_store.specs.Change.{map_ok, cron_added, cron_modified, cron_gone, job_added, job_modified, job_gone}
use Rattle.cj_store.specs.Crons.{cron_created, cron_updated, cron_deleted}
use Rattle.cj_store.specs.Jobs.{job_created, job_updated, job_deleted, job_ended}
use Rattle.cj_types.specs.Events.{version_of}
use Rattle.cj_watch.specs.Log.{since}
use Rattle.cj_state.proofs.Numbers.{status_version, made_version, gone_version, created_version, updated_version, deleted_version, job_version, changed_version, ended_version}
use Rattle.cj_state.specs.Readings.{fed_up}
use Rattle.cj_state.specs.Step.{writes, found_cron, found_job, told_events, tick, shut, step_of, by_role, by_reader, by_user, by_runner, by_worker, by_informer}

-- the end of the work on a key, with an add of it or none
abbrev pub Ends : Queue → Place → Queue → Type 0
Ends q k p = (p.row ≡ row_end q.row k) ⊎ (p.row ≡ row_add (row_end q.row k) k)

pub data Shape (s : State) (w : ℕ) (s' : State) : Type 0 where
  same : s' ≡ s → Shape s w s'
  sat : (sync : InFlight) (p : Phase) → sync_of s w ≡ Some sync → s' ≡ with_sync s w sync.key p → Shape s w s'
  wrote_it : (sync : InFlight) (p : Phase) (e : Event) → sync_of s w ≡ Some sync → version_of e ≡ s.store.version + 1
      → s' ≡ with_sync (written s e) w sync.key p → Shape s w s'
  took : (k : Place) → sync_of s w ≡ None → first s.queue.row.line ≡ Some k
      → s' ≡ with_sync (record s { queue = taken s.queue }) w k Held → Shape s w s'
  left_it : (sync : InFlight) (q : Queue) → sync_of s w ≡ Some sync → Ends s.queue sync.key q
      → s' ≡ record s { queue = q; syncs = map.remove s.syncs w } → Shape s w s'
  stored : (e : Event) → version_of e ≡ s.store.version + 1 → s' ≡ written s e → Shape s w s'
  listed : (max : ℕ) → s' ≡ record s { mirror = fed_up s max } → Shape s w s'
  queued : (q : Queue) (ks : List Place) → q.row ≡ row_adds s.queue.row ks → s' ≡ record s { queue = q } → Shape s w s'

-- ---- queues

-- A delayed add leaves the row, or adds the key to it, by the shutdown and the time.
after_ends : (q : Queue) (k : Place) (at : ℕ) (b c : Bool) → q.shut ≡ b → nat_le at q.tick ≡ c
    → ((added_after q k at).row ≡ q.row) ⊎ ((added_after q k at).row ≡ row_add q.row k)
after_ends q k at true c e f = inl (rw e refl)
after_ends q k at false true e f = inr (rw (e, f) refl)
after_ends q k at false false e f = inl (rw (e, f) refl)

-- A delayed add, if there is a next time, leaves the row or adds the key to it.
pub where_ends : (q : Queue) (k : Place) (at : Option ℕ) → ((added_where q k at).row ≡ q.row)
    ⊎ ((added_where q k at).row ≡ row_add q.row k)
where_ends q k None = inl refl
where_ends q k (Some at) = after_ends q k at q.shut (nat_le at q.tick) refl refl

-- The end of a sync that went well ends the work on the key, with an add of it or none.
pub ok_ends : (q : Queue) (k : Place) (at : Option ℕ) → Ends q k (finished_ok q k at)
ok_ends q k at = where_ends (forgotten (ended q k) k) k at

-- The end of a sync that went wrong ends the work on the key, with an add of it or none.
pub retry_ends : (q : Queue) (k : Place) (now : ℕ) → Ends q k (finished_retry q k now)
retry_ends q k now = after_ends (ended q k) k (now + delay (failures_of q k)) q.shut
    (nat_le (now + delay (failures_of q k)) q.tick) refl refl

-- An Add has the shape of adds to the queue: of the key, or of nothing after the shutdown.
add_shape : (s : State) (w : ℕ) (k : Place) (b : Bool) → s.queue.shut ≡ b
    → Shape s w (record s { queue = added s.queue k })
add_shape s w k true e = queued (added s.queue k) [] (rw e refl) refl
add_shape s w k false e = queued (added s.queue k) (k ∷ []) (rw e refl) refl

-- A Tick has the shape of adds to the queue: of what is ready, or of nothing after the shutdown.
tick_shape : (s : State) (w now : ℕ) (b : Bool) → s.queue.shut ≡ b → Shape s w (record s { queue = ticked s.queue now })
tick_shape s w now true e = queued (ticked s.queue now) [] (rw e refl) refl
tick_shape s w now false e = queued (ticked s.queue now) (ready s.queue.waiting now) (rw e refl) refl

-- ---- a worker that holds no key

-- A Take by a worker without a sync has the shape of a take, or of no change.
first_shape : (s : State) (w : ℕ) (o : Option Place) → sync_of s w ≡ None → first s.queue.row.line ≡ o
    → Shape s w (take_first s w o).state
first_shape s w (Some k) n e = took k n e refl
first_shape s w None n e = same refl

-- A Take has one of the shapes, whether or not the worker has a sync.
take_shape : (s : State) (w : ℕ) (o : Option InFlight) → sync_of s w ≡ o → Shape s w (take_by s w o).state
take_shape s w None e = first_shape s w (first s.queue.row.line) e refl
take_shape s w (Some sync) e = same refl

-- ---- one that holds one

-- A call that needs a sync changes nothing without one, and has a shape if it has one with one.
sync_shape : (s : State) (w : ℕ) (f : Place → Phase → Handled) (o : Option InFlight) → sync_of s w ≡ o
    → ((sync : InFlight) → sync_of s w ≡ Some sync → Shape s w (f sync.key sync.phase).state)
    → Shape s w (by_sync s f o).state
sync_shape s w f None e h = same refl
sync_shape s w f (Some sync) e h = h sync e

module _ (s : State) (w : ℕ) (sync : InFlight) (at : sync_of s w ≡ Some sync) where
  -- A SeeCron brings the sync from Held to its next phase, and else changes nothing.
  cron_shape : (p : Phase) → Shape s w (see_cron_in s w sync.key p).state
  cron_shape Held = sat sync _ at refl
  cron_shape (Seen c) = same refl
  cron_shape (Listed c js) = same refl
  cron_shape (Checked c js ks) = same refl
  cron_shape (Works work) = same refl

  -- A SeeJobs brings the sync from Seen to its next phase, and else changes nothing.
  jobs_shape : (p : Phase) → Shape s w (see_jobs_in s w sync.key p).state
  jobs_shape Held = same refl
  jobs_shape (Seen c) = sat sync _ at refl
  jobs_shape (Listed c js) = same refl
  jobs_shape (Checked c js ks) = same refl
  jobs_shape (Works work) = same refl

  -- A SeeActive brings the sync from Listed to its next phase, and else changes nothing.
  active_shape : (p : Phase) → Shape s w (see_active_in s w sync.key p).state
  active_shape Held = same refl
  active_shape (Seen c) = same refl
  active_shape (Listed c js) = sat sync _ at refl
  active_shape (Checked c js ks) = same refl
  active_shape (Works work) = same refl

  -- For claims_shape: a write stores one event and moves the sync on, or nothing changes.
  wrote_shape : (say : Event → Reply) (p : Event → Phase) (r : Result Event Refusal)
      → ((e : Event) → r ≡ Ok e → version_of e ≡ s.store.version + 1) → Shape s w (wrote s w sync.key say p r).state
  wrote_shape say p (Ok e) n = wrote_it sync (p e) e at (n e refl) refl
  wrote_shape say p (Err e) n = same refl

  -- For claim_where_shape: a Claim of a time has a shape, whether or not the plan has a CronJob.
  claims_shape : (p : Planned) (c : Claim) (o : Option CronJob) → Shape s w (claims s w sync.key p c o).state
  claims_shape p c None = same refl
  claims_shape p c (Some cron) = wrote_shape _ _ _
      (status_version s.store sync.key cron.meta.uid cron.meta.version c.status)

  -- For rests_shape: a Claim has one of the shapes, whether of a time or of none.
  claim_where_shape : (p : Planned) (o : Option Claim) → Shape s w (claim_where s w sync.key p o).state
  claim_where_shape p None = sat sync _ at refl
  claim_where_shape p (Some c) = claims_shape p c p.cron

  -- For claim_shape: a Claim has a shape, whether or not its plan rests on what the worker saw.
  rests_shape : (p : Planned) (b : Bool) → Shape s w (if b then claim_where s w sync.key p p.steps.claim
      else refused s Stale).state
  rests_shape p true = claim_where_shape p p.steps.claim
  rests_shape p false = same refl

  -- A Claim has one of the shapes, in each phase; it changes nothing in all but Checked.
  claim_shape : (p : Planned) (q : Phase) → Shape s w (claim_in s w p sync.key q).state
  claim_shape p Held = same refl
  claim_shape p (Seen c) = same refl
  claim_shape p (Listed c js) = same refl
  claim_shape p (Checked c js ks) = rests_shape p (rests_on p c js ks)
  claim_shape p (Works work) = same refl

  -- A step's write stores one event and brings the sync one step further, or changes nothing.
  on_shape : (p : Work) (say : Event → Reply) (r : Result Event Refusal)
      → ((e : Event) → r ≡ Ok e → version_of e ≡ s.store.version + 1)
      → Shape s w (steps_on s w (next_sync sync.key p) say r).state
  on_shape p say (Ok e) n = wrote_it sync _ e at (n e refl) refl
  on_shape p say (Err e) n = same refl

  -- A drop brings the sync one step further, with an event stored if the Job was there.
  drops_shape : (p : Work) (name : Place) (r : Result Event Refusal)
      → ((e : Event) → r ≡ Ok e → version_of e ≡ s.store.version + 1)
      → Shape s w (drops_it s w (next_sync sync.key p) name r).state
  drops_shape p name (Ok e) n = wrote_it sync _ e at (n e refl) refl
  drops_shape p name (Err e) n = sat sync _ at refl

  -- For drop_shape: a DropNext has a shape, whether or not the next step is a drop.
  drop_where_shape : (work : Work) (o : Option JobRef) → Shape s w (drop_where s w sync.key work o).state
  drop_where_shape work None = same refl
  drop_where_shape work (Some r) = drops_shape work r.key _ (gone_version s.store r.key (Some r.uid))

  -- A DropNext has one of the shapes, in each phase; it changes nothing in all but Works.
  drop_shape : (p : Phase) → Shape s w (drop_in s w sync.key p).state
  drop_shape Held = same refl
  drop_shape (Seen c) = same refl
  drop_shape (Listed c js) = same refl
  drop_shape (Checked c js ks) = same refl
  drop_shape (Works work) = drop_where_shape work (as_drop (step_at work.plan.steps work.place))

  -- For make_shape: a MakeNext has a shape, whether or not the next step is a making.
  make_where_shape : (work : Work) (o : Option JobDraft) → Shape s w (make_where s w sync.key work o).state
  make_where_shape work None = same refl
  make_where_shape work (Some d) = on_shape work _ _ (made_version s.store d work.plan.at)

  -- A MakeNext has one of the shapes, in each phase; it changes nothing in all but Works.
  make_shape : (p : Phase) → Shape s w (make_in s w sync.key p).state
  make_shape Held = same refl
  make_shape (Seen c) = same refl
  make_shape (Listed c js) = same refl
  make_shape (Checked c js ks) = same refl
  make_shape (Works work) = make_where_shape work (as_make (step_at work.plan.steps work.place))

  -- For status_where_shape: a status is set by a shape, whether or not the plan has a CronJob.
  sets_shape : (work : Work) (status : CronStatus) (o : Option CronJob) →
      Shape s w (sets_it s w sync.key work status o).state
  sets_shape work status None = same refl
  sets_shape work status (Some cron) = on_shape work _ _
      (status_version s.store sync.key cron.meta.uid work.version status)

  -- For status_shape: a SetStatus has a shape, whether or not the next step sets a status.
  status_where_shape : (work : Work) (o : Option CronStatus) → Shape s w (status_where s w sync.key work o).state
  status_where_shape work None = same refl
  status_where_shape work (Some status) = sets_shape work status work.plan.cron

  -- A SetStatus has one of the shapes, in each phase; it changes nothing in all but Works.
  status_shape : (p : Phase) → Shape s w (status_in s w sync.key p).state
  status_shape Held = same refl
  status_shape (Seen c) = same refl
  status_shape (Listed c js) = same refl
  status_shape (Checked c js ks) = same refl
  status_shape (Works work) = status_where_shape work (as_status (step_at work.plan.steps work.place))

  -- For finish_shape: a Finish in the phase Works ends the sync if no step is left, or is refused.
  work_shape : (work : Work) (b : Bool) → Shape s w (finish_work s w sync.key work b).state
  work_shape work true = left_it sync _ at (ok_ends s.queue sync.key (next_ms work.plan.steps.next)) refl
  work_shape work false = same refl

  -- A Finish has one of the shapes, in each phase: it ends the sync or changes nothing.
  finish_shape : (end : End) (p : Phase) → Shape s w (finish_in s w end sync.key p).state
  finish_shape (Again now) p = left_it sync _ at (retry_ends s.queue sync.key now) refl
  finish_shape Well Held = same refl
  finish_shape Well (Seen c) = same refl
  finish_shape Well (Listed c js) = same refl
  finish_shape Well (Checked c js ks) = same refl
  finish_shape Well (Works work) = work_shape work (is_over (step_at work.plan.steps work.place))

-- Whatever call a worker makes, the call has one of the shapes.
worker_shape : (s : State) (w : ℕ) (call : Call) → Shape s w (by_worker s w call).state
unfolding take see_cron see_jobs see_active claim drop_next make_next set_status finish
worker_shape s w Of.Take = take_shape s w (sync_of s w) refl
worker_shape s w Of.SeeCron = sync_shape s w _ (sync_of s w) refl (λ sync at. cron_shape s w sync at sync.phase)
worker_shape s w Of.SeeJobs = sync_shape s w _ (sync_of s w) refl (λ sync at. jobs_shape s w sync at sync.phase)
worker_shape s w Of.SeeActive = sync_shape s w _ (sync_of s w) refl (λ sync at. active_shape s w sync at sync.phase)
worker_shape s w (Of.Claim p) = sync_shape s w _ (sync_of s w) refl (λ sync at. claim_shape s w sync at p sync.phase)
worker_shape s w Of.DropNext = sync_shape s w _ (sync_of s w) refl (λ sync at. drop_shape s w sync at sync.phase)
worker_shape s w Of.MakeNext = sync_shape s w _ (sync_of s w) refl (λ sync at. make_shape s w sync at sync.phase)
worker_shape s w Of.SetStatus = sync_shape s w _ (sync_of s w) refl (λ sync at. status_shape s w sync at sync.phase)
worker_shape s w (Of.Finish end rs) = sync_shape s w _ (sync_of s w) refl
    (λ sync at. finish_shape s w sync at end sync.phase)
worker_shape s w call = same refl

-- A write by one who holds no key stores its event, which has the next version, or changes nothing.
writes_shape : (s : State) (w : ℕ) (say : Event → Reply) (r : Result Event Refusal)
    → ((e : Event) → r ≡ Ok e → version_of e ≡ s.store.version + 1) → Shape s w (writes s say r).state
writes_shape s w say (Ok e) n = stored e (n e refl) refl
writes_shape s w say (Err e) n = same refl

-- A GetCron changes nothing, whether the CronJob is there or not.
found_cron_same : (s : State) (o : Option CronJob) → (found_cron s o).state ≡ s
found_cron_same s None = refl
found_cron_same s (Some c) = refl

-- A GetJob changes nothing, whether the Job is there or not.
found_job_same : (s : State) (o : Option Job) → (found_job s o).state ≡ s
found_job_same s None = refl
found_job_same s (Some j) = refl

-- A Watch changes nothing, whether it tells events or is refused.
told_same : (s : State) (r : Result (List Event) Refusal) → (told_events s r).state ≡ s
told_same s (Ok es) = refl
told_same s (Err e) = refl

-- A reading changes nothing, nor does the refusal of a call that is none.
pub reader_same : (s : State) (call : Call) → (by_reader s call).state ≡ s
reader_same s (Of.GetCron k) = found_cron_same s (map.get s.store.crons k)
reader_same s (Of.GetJob k) = found_job_same s (map.get s.store.jobs k)
reader_same s (Of.Watch v max) = told_same s (since s.watch v max)
reader_same s call = refl

-- Whatever call a user makes has one of the shapes: an event stored, or no change.
user_shape : (s : State) (w : ℕ) (call : Call) → Shape s w (by_user s call).state
user_shape s w (Of.CreateCron d n) = writes_shape s w _ (map_ok cron_added (cron_created s.store d n))
    (created_version s.store d n)
user_shape s w (Of.UpdateCron d) = writes_shape s w _ (map_ok cron_modified (cron_updated s.store d))
    (updated_version s.store d)
user_shape s w (Of.DeleteCron k) = writes_shape s w _ (map_ok cron_gone (cron_deleted s.store k))
    (deleted_version s.store k)
user_shape s w (Of.CreateJob d n) = writes_shape s w _ (map_ok job_added (job_created s.store d n))
    (job_version s.store d n)
user_shape s w (Of.UpdateJob d) = writes_shape s w _ (map_ok job_modified (job_updated s.store d))
    (changed_version s.store d)
user_shape s w (Of.DeleteJob k) = writes_shape s w _ (map_ok job_gone (job_deleted s.store k None))
    (gone_version s.store k None)
user_shape s w call = same (reader_same s call)

-- Whatever call a runner makes has one of the shapes: a Job's end stored, or no change.
runner_shape : (s : State) (w : ℕ) (call : Call) → Shape s w (by_runner s call).state
runner_shape s w (Of.EndJob k u o n) = writes_shape s w _ (map_ok job_modified (job_ended s.store k u o n))
    (ended_version s.store k u o n)
runner_shape s w call = same (reader_same s call)

-- Whatever call an informer makes has one of the shapes: adds, a Feed, or no change.
informer_shape : (s : State) (w : ℕ) (call : Call) → Shape s w (by_informer s call).state
informer_shape s w (Of.Add k) = add_shape s w k s.queue.shut refl
informer_shape s w (Of.Tick now) = tick_shape s w now s.queue.shut refl
informer_shape s w Of.Shut = queued (closed s.queue) [] refl refl
informer_shape s w (Of.Feed max) = listed max refl
informer_shape s w call = same (reader_same s call)

-- Whatever call a caller of whatever role makes, the call has one of the shapes.
role_shape : (s : State) (r : Role) (w : ℕ) (call : Call) → Shape s w (by_role s r w call).state
role_shape s Worker w call = worker_shape s w call
role_shape s Informer w call = informer_shape s w call
role_shape s User w call = user_shape s w call
role_shape s Runner w call = runner_shape s w call

-- In any state, whoever calls whatever, the call has one of the shapes.
pub shape : (s : State) (caller : Caller) (call : Call) → Shape s caller.number (step_of s caller call).state
unfolding step_of
shape s caller call = role_shape s caller.role caller.number call

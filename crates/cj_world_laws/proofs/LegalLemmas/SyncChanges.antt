-- What each call does to its caller's sync, by its answer.
use Rattle.std.proofs.Common.{◌≡◌, ℕ, Bool, true, false, List, refl, ap}
use Rattle.std.specs.Prelude.{Option, Some, None, Result, Ok, Err, if◌then◌else◌}
use Rattle.std.specs.FinMap as map
use Rattle.cj_base.specs.declared.refusal.Refusal.{Refusal}
use Rattle.cj_base.specs.declared.refusal.Refusal.TheVariants.{Stale, AlreadyExists}
use Rattle.cj_types.specs.Keys.{Place}
use Rattle.cj_types.specs.declared.cron.CronJob.{CronJob}
use Rattle.cj_types.specs.declared.cron.CronStatus.{CronStatus}
use Rattle.cj_types.specs.declared.job.JobDraft.{JobDraft}
use Rattle.cj_types.specs.declared.event.Event.{Event}
use Rattle.cj_types.specs.declared.policy.Reason.{Reason}
use Rattle.cj_types.specs.Events.{version_of}
use Rattle.cj_queue.specs.Queue.{first}
use Rattle.cj_store.specs.Change.{map_ok, job_added}
use Rattle.cj_store.specs.Jobs.{new_job}
use Rattle.cj_decide.specs.Decision.{Planned}
use Rattle.cj_status.specs.declared.refs.JobRef.{JobRef}
use Rattle.cj_decide.specs.declared.start.Claim.{Claim}
use Rattle.cj_calls.specs.declared.caller.Caller.{Caller}
use Rattle.cj_calls.specs.declared.caller.Role.{Role}
use Rattle.cj_calls.specs.declared.caller.Role.TheVariants.{User, Runner, Informer, Worker}
use Rattle.cj_calls.specs.declared.call.Call.{Call}
use Rattle.cj_calls.specs.declared.call.Call.TheVariants as Of
use Rattle.cj_calls.specs.declared.end.End.{End}
use Rattle.cj_calls.specs.declared.end.End.TheVariants.{Well, Again}
use Rattle.cj_calls.specs.declared.reply.Reply.{Reply}
use Rattle.cj_calls.specs.declared.reply.Reply.TheVariants as Say
use Rattle.cj_state.specs.phases.Inputs.{rests_on}
use Rattle.cj_state.specs.phases.Steps.{step_at, as_drop, as_make, as_status, is_over}
use Rattle.cj_state.specs.declared.phases.sync.Work.{Work}
use Rattle.cj_state.specs.declared.phases.sync.Phase.{Phase}
use Rattle.cj_state.specs.declared.phases.sync.Phase.TheVariants.{Held, Seen, Listed, Checked, Works}
use Rattle.cj_state.specs.declared.phases.sync.InFlight.{InFlight}
use Rattle.cj_state.specs.declared.state.State.{State}
use Rattle.cj_state.specs.WorkerCalls.{Handled, refused, by_sync, sync_of, take, take_by, take_first, see_cron, see_cron_in, see_jobs, see_jobs_in, see_active, see_active_in, claim, claim_in, claim_where, claims, wrote, works, seen_version, drop_next, drop_in, drop_where, drops_it, next_sync, make_next, make_in, make_where, steps_on, event_reply, version_reply, set_status, status_in, status_where, sets_it, finish, finish_in, finish_work}
use Rattle.cj_store.specs.Change.{cron_added, cron_modified, cron_gone, job_modified, job_gone}
use Rattle.cj_store.specs.Crons.{cron_created, cron_updated, cron_deleted}
use Rattle.cj_store.specs.Jobs.{job_created, job_updated, job_deleted, job_ended}
use Rattle.cj_state.specs.Step.{writes, step_of, by_role, by_reader, by_user, by_runner, by_worker, by_informer}
use Rattle.cj_world_laws.proofs.LegalLemmas.Shapes.{reader_same}
use Rattle.cj_world_laws.specs.legal.InFlightSyncs.{accepted, sync_after}

pub data SyncChange (s : State) (w : ℕ) (call : Call) (m : Handled) : Type 0 where
  kept : m.state.syncs ≡ s.syncs → sync_after (sync_of s w) call m.answer ≡ sync_of s w → SyncChange s w call m
  set_to : (x : InFlight) → m.state.syncs ≡ map.insert s.syncs w x → sync_after (sync_of s w) call m.answer ≡ Some x
      → SyncChange s w call m
  left_at : m.state.syncs ≡ map.remove s.syncs w → sync_after (sync_of s w) call m.answer ≡ None → SyncChange s w call m

abbrev pub in_flight : Place → Phase → InFlight
in_flight k p = record { key = k; phase = p }

-- A Take by a worker without a sync does as its answer says: a sync with the key, or none.
first_sync : (s : State) (w : ℕ) (o : Option Place) → SyncChange s w Of.Take (take_first s w o)
first_sync s w (Some k) = set_to (in_flight k Held) refl refl
first_sync s w None = kept refl refl

-- A Take does to the sync what its answer says, whether or not the worker had one.
take_sync : (s : State) (w : ℕ) (o : Option InFlight) → SyncChange s w Of.Take (take_by s w o)
take_sync s w None = first_sync s w (first s.queue.row.line)
take_sync s w (Some x) = kept refl refl

-- A call that needs a sync does to the syncs what its answer says, if it does so in each phase.
by_sync_change : (s : State) (w : ℕ) (call : Call) (f : Place → Phase → Handled) (o : Option InFlight) → sync_of s w ≡ o
    → ((k : Place) (p : Phase) → sync_of s w ≡ Some (in_flight k p) → SyncChange s w call (f k p))
    → SyncChange s w call (by_sync s f o)
by_sync_change s w call f None e h = kept refl refl
by_sync_change s w call f (Some x) e h = h x.key x.phase e

module _ (s : State) (w : ℕ) (k : Place) where
  -- A SeeCron does to the sync what its answer says, in each phase.
  cron_sync : (p : Phase) → sync_of s w ≡ Some (in_flight k p) → SyncChange s w Of.SeeCron (see_cron_in s w k p)
  cron_sync Held at = set_to (in_flight k (Seen (map.get s.store.crons k))) refl (rw at refl)
  cron_sync (Seen c) at = kept refl refl
  cron_sync (Listed c js) at = kept refl refl
  cron_sync (Checked c js ks) at = kept refl refl
  cron_sync (Works work) at = kept refl refl

  -- A SeeJobs does to the sync what its answer says, in each phase.
  jobs_sync : (p : Phase) → sync_of s w ≡ Some (in_flight k p) → SyncChange s w Of.SeeJobs (see_jobs_in s w k p)
  jobs_sync Held at = kept refl refl
  jobs_sync (Seen c) at = set_to _ refl (rw at refl)
  jobs_sync (Listed c js) at = kept refl refl
  jobs_sync (Checked c js ks) at = kept refl refl
  jobs_sync (Works work) at = kept refl refl

  -- A SeeActive does to the sync what its answer says, in each phase.
  active_sync : (p : Phase) → sync_of s w ≡ Some (in_flight k p) → SyncChange s w Of.SeeActive (see_active_in s w k p)
  active_sync Held at = kept refl refl
  active_sync (Seen c) at = kept refl refl
  active_sync (Listed c js) at = set_to _ refl (rw at refl)
  active_sync (Checked c js ks) at = kept refl refl
  active_sync (Works work) at = kept refl refl

  module _ (p : Phase) (at : sync_of s w ≡ Some (in_flight k p)) where
    -- For claims_sync: a claim's write does to the sync what its answer says, accepted or refused.
    wrote_sync : (plan : Planned) (t : ℕ) (r : Result Event Refusal)
        → SyncChange s w (Of.Claim plan) (wrote s w k (λ e. Say.Claimed (Some (t, version_of e)))
        (λ e. works plan (version_of e) 0) r)
    wrote_sync plan t (Ok e) = set_to (in_flight k (works plan (version_of e) 0)) refl (rw at refl)
    wrote_sync plan t (Err e) = kept refl refl

    -- For claim_where_sync: a Claim of a time does so, whether or not the plan has a CronJob.
    claims_sync : (plan : Planned) (c : Claim) (o : Option CronJob)
        → SyncChange s w (Of.Claim plan) (claims s w k plan c o)
    claims_sync plan c None = kept refl refl
    claims_sync plan c (Some cron) = wrote_sync plan c.time _

    -- For rests_sync: a Claim does to the sync what its answer says, whether of a time or of none.
    claim_where_sync : (plan : Planned) (o : Option Claim) → SyncChange s w (Of.Claim plan) (claim_where s w k plan o)
    claim_where_sync plan None = set_to (in_flight k (works plan (seen_version plan.cron) 0)) refl (rw at refl)
    claim_where_sync plan (Some c) = claims_sync plan c plan.cron

    -- For claim_sync: a Claim does so, whether or not its plan rests on what the worker saw.
    rests_sync : (plan : Planned) (b : Bool) → SyncChange s w (Of.Claim plan)
        (if b then claim_where s w k plan plan.steps.claim else refused s Stale)
    rests_sync plan true = claim_where_sync plan plan.steps.claim
    rests_sync plan false = kept refl refl

  -- A Claim does to the sync what its answer says, in each phase.
  claim_sync : (plan : Planned) (p : Phase) → sync_of s w ≡ Some (in_flight k p)
      → SyncChange s w (Of.Claim plan) (claim_in s w plan k p)
  claim_sync plan Held at = kept refl refl
  claim_sync plan (Seen c) at = kept refl refl
  claim_sync plan (Listed c js) at = kept refl refl
  claim_sync plan (Checked c js ks) at = rests_sync (Checked c js ks) at plan (rests_on plan c js ks)
  claim_sync plan (Works work) at = kept refl refl

  module _ (work : Work) (at : sync_of s w ≡ Some (in_flight k (Works work))) where
    -- For drop_where_sync: a drop brings the sync one step further, was the Job there or not.
    drops_sync : (name : Place) (r : Result Event Refusal)
        → SyncChange s w Of.DropNext (drops_it s w (next_sync k work) name r)
    drops_sync name (Ok e) = set_to (next_sync k work) refl (rw at refl)
    drops_sync name (Err e) = set_to (next_sync k work) refl (rw at refl)

    -- For drop_sync: a DropNext does as its answer says, whether or not the next step is a drop.
    drop_where_sync : (o : Option JobRef) → SyncChange s w Of.DropNext (drop_where s w k work o)
    drop_where_sync None = kept refl refl
    drop_where_sync (Some r) = drops_sync r.key _

    -- For make_where_sync: a making brings the sync one step further, or is refused and leaves it.
    made_sync : (draft : JobDraft) (now : ℕ) (b : Bool)
        → SyncChange s w Of.MakeNext (steps_on s w (next_sync k work) event_reply
        (map_ok job_added (if b then Err AlreadyExists else Ok (new_job s.store draft now))))
    made_sync draft now true = kept refl refl
    made_sync draft now false = set_to (next_sync k work) refl (rw at refl)

    -- For make_sync: a MakeNext does as its answer says, whether or not the next step is a making.
    make_where_sync : (o : Option JobDraft) → SyncChange s w Of.MakeNext (make_where s w k work o)
    make_where_sync None = kept refl refl
    make_where_sync (Some d) = made_sync d work.plan.at _

    -- For sets_sync: a status written brings the sync one step further; a refusal leaves it.
    set_sync : (r : Result Event Refusal) → SyncChange s w Of.SetStatus
        (steps_on s w (next_sync k work) version_reply r)
    set_sync (Ok e) = set_to (next_sync k work) refl (rw at refl)
    set_sync (Err e) = kept refl refl

    -- For status_where_sync: the same by the plan's CronJob, without which the call is refused.
    sets_sync : (status : CronStatus) (o : Option CronJob) → SyncChange s w Of.SetStatus (sets_it s w k work status o)
    sets_sync status None = kept refl refl
    sets_sync status (Some cron) = set_sync _

    -- For status_sync: a SetStatus does as its answer says, whether or not a status comes next.
    status_where_sync : (o : Option CronStatus) → SyncChange s w Of.SetStatus (status_where s w k work o)
    status_where_sync None = kept refl refl
    status_where_sync (Some status) = sets_sync status work.plan.cron

    -- For finish_sync: a Finish in the phase Works ends the sync if no step is left, or leaves it.
    work_sync : (end : End) (rs : List Reason) (b : Bool) → SyncChange s w (Of.Finish end rs) (finish_work s w k work b)
    work_sync end rs true = left_at refl refl
    work_sync end rs false = kept refl refl

  -- A DropNext does to the sync what its answer says, in each phase.
  drop_sync : (p : Phase) → sync_of s w ≡ Some (in_flight k p) → SyncChange s w Of.DropNext (drop_in s w k p)
  drop_sync Held at = kept refl refl
  drop_sync (Seen c) at = kept refl refl
  drop_sync (Listed c js) at = kept refl refl
  drop_sync (Checked c js ks) at = kept refl refl
  drop_sync (Works work) at = drop_where_sync work at (as_drop (step_at work.plan.steps work.place))

  -- A MakeNext does to the sync what its answer says, in each phase.
  make_sync : (p : Phase) → sync_of s w ≡ Some (in_flight k p) → SyncChange s w Of.MakeNext (make_in s w k p)
  make_sync Held at = kept refl refl
  make_sync (Seen c) at = kept refl refl
  make_sync (Listed c js) at = kept refl refl
  make_sync (Checked c js ks) at = kept refl refl
  make_sync (Works work) at = make_where_sync work at (as_make (step_at work.plan.steps work.place))

  -- A SetStatus does to the sync what its answer says, in each phase.
  status_sync : (p : Phase) → sync_of s w ≡ Some (in_flight k p) → SyncChange s w Of.SetStatus (status_in s w k p)
  status_sync Held at = kept refl refl
  status_sync (Seen c) at = kept refl refl
  status_sync (Listed c js) at = kept refl refl
  status_sync (Checked c js ks) at = kept refl refl
  status_sync (Works work) at = status_where_sync work at (as_status (step_at work.plan.steps work.place))

  -- A Finish does to the sync what its answer says, in each phase, by how the sync ended.
  finish_sync : (end : End) (rs : List Reason) (p : Phase) → sync_of s w ≡ Some (in_flight k p)
      → SyncChange s w (Of.Finish end rs) (finish_in s w end k p)
  finish_sync (Again now) rs p at = left_at refl refl
  finish_sync Well rs Held at = kept refl refl
  finish_sync Well rs (Seen c) at = kept refl refl
  finish_sync Well rs (Listed c js) at = kept refl refl
  finish_sync Well rs (Checked c js ks) at = kept refl refl
  finish_sync Well rs (Works work) at = work_sync work at Well rs (is_over (step_at work.plan.steps work.place))

-- Whatever call a worker makes, its sync is then what the answer says.
worker_sync : (s : State) (w : ℕ) (call : Call) → SyncChange s w call (by_worker s w call)
unfolding take see_cron see_jobs see_active claim drop_next make_next set_status finish
worker_sync s w Of.Take = take_sync s w (sync_of s w)
worker_sync s w Of.SeeCron = by_sync_change s w Of.SeeCron _ (sync_of s w) refl (cron_sync s w)
worker_sync s w Of.SeeJobs = by_sync_change s w Of.SeeJobs _ (sync_of s w) refl (jobs_sync s w)
worker_sync s w Of.SeeActive = by_sync_change s w Of.SeeActive _ (sync_of s w) refl (active_sync s w)
worker_sync s w (Of.Claim p) = by_sync_change s w (Of.Claim p) _ (sync_of s w) refl (λ k. claim_sync s w k p)
worker_sync s w Of.DropNext = by_sync_change s w Of.DropNext _ (sync_of s w) refl (drop_sync s w)
worker_sync s w Of.MakeNext = by_sync_change s w Of.MakeNext _ (sync_of s w) refl (make_sync s w)
worker_sync s w Of.SetStatus = by_sync_change s w Of.SetStatus _ (sync_of s w) refl (status_sync s w)
worker_sync s w (Of.Finish end rs) = by_sync_change s w (Of.Finish end rs) _ (sync_of s w) refl
    (λ k. finish_sync s w k end rs)
worker_sync s w call = kept refl refl

-- ---- those that hold no key: their answers play no part

-- a call whose answer says nothing of a sync
abbrev Silent : Call → Type 0
Silent call = (o : Option InFlight) (r : Reply) → accepted o call r ≡ o

-- Where a call leaves the syncs and its answer says nothing of one, it does what it says.
silent : (s : State) (w : ℕ) (call : Call) (m : Handled) → Silent call → m.state.syncs ≡ s.syncs → SyncChange s w call m
silent s w call m h e = kept e (by m.answer)
  where
    by : (a : Result Reply Refusal) → sync_after (sync_of s w) call a ≡ sync_of s w
    by (Ok r) = h (sync_of s w) r
    by (Err x) = refl

-- A write of a caller that holds no key leaves the syncs alone, accepted or refused.
writes_syncs : (s : State) (say : Event → Reply) (r : Result Event Refusal) → (writes s say r).state.syncs ≡ s.syncs
writes_syncs s say (Ok e) = refl
writes_syncs s say (Err e) = refl

-- After a reading, or the refusal of a call that is none, the sync is what the answer says.
reader_sync : (s : State) (w : ℕ) (call : Call) → SyncChange s w call (by_reader s call)
reader_sync s w (Of.GetCron k) = silent s w (Of.GetCron k) _ (λ o r. refl)
    (ap (λ (x : State). x.syncs) (reader_same s (Of.GetCron k)))
reader_sync s w (Of.GetJob k) = silent s w (Of.GetJob k) _ (λ o r. refl)
    (ap (λ (x : State). x.syncs) (reader_same s (Of.GetJob k)))
reader_sync s w Of.ListCrons = kept refl refl
reader_sync s w Of.ListJobs = kept refl refl
reader_sync s w (Of.Watch v max) = silent s w (Of.Watch v max) _ (λ o r. refl)
    (ap (λ (x : State). x.syncs) (reader_same s (Of.Watch v max)))
reader_sync s w call = kept refl refl

-- Whatever call a user makes, the sync of its number is then what the answer says.
user_sync : (s : State) (w : ℕ) (call : Call) → SyncChange s w call (by_user s call)
user_sync s w (Of.CreateCron d n) = silent s w (Of.CreateCron d n) _ (λ o r. refl)
    (writes_syncs s event_reply (map_ok cron_added (cron_created s.store d n)))
user_sync s w (Of.UpdateCron d) = silent s w (Of.UpdateCron d) _ (λ o r. refl)
    (writes_syncs s event_reply (map_ok cron_modified (cron_updated s.store d)))
user_sync s w (Of.DeleteCron k) = silent s w (Of.DeleteCron k) _ (λ o r. refl)
    (writes_syncs s version_reply (map_ok cron_gone (cron_deleted s.store k)))
user_sync s w (Of.CreateJob d n) = silent s w (Of.CreateJob d n) _ (λ o r. refl)
    (writes_syncs s event_reply (map_ok job_added (job_created s.store d n)))
user_sync s w (Of.UpdateJob d) = silent s w (Of.UpdateJob d) _ (λ o r. refl)
    (writes_syncs s event_reply (map_ok job_modified (job_updated s.store d)))
user_sync s w (Of.DeleteJob k) = silent s w (Of.DeleteJob k) _ (λ o r. refl)
    (writes_syncs s version_reply (map_ok job_gone (job_deleted s.store k None)))
user_sync s w call = reader_sync s w call

-- Whatever call a runner makes, the sync of its number is then what the answer says.
runner_sync : (s : State) (w : ℕ) (call : Call) → SyncChange s w call (by_runner s call)
runner_sync s w (Of.EndJob k u o n) = silent s w (Of.EndJob k u o n) _ (λ x r. refl)
    (writes_syncs s event_reply (map_ok job_modified (job_ended s.store k u o n)))
runner_sync s w call = reader_sync s w call

-- Whatever call an informer makes, the sync of its number is then what the answer says.
informer_sync : (s : State) (w : ℕ) (call : Call) → SyncChange s w call (by_informer s call)
informer_sync s w (Of.Add k) = kept refl refl
informer_sync s w (Of.Tick now) = kept refl refl
informer_sync s w Of.Shut = kept refl refl
informer_sync s w (Of.Feed max) = kept refl refl
informer_sync s w call = reader_sync s w call

-- Whatever the caller's role and call, the sync of its number is then what the answer says.
role_sync : (s : State) (r : Role) (w : ℕ) (call : Call) → SyncChange s w call (by_role s r w call)
role_sync s Worker w call = worker_sync s w call
role_sync s Informer w call = informer_sync s w call
role_sync s User w call = user_sync s w call
role_sync s Runner w call = runner_sync s w call

-- In any state a call does to the sync of its caller's number what its answer says.
pub sync_change : (s : State) (caller : Caller) (call : Call) → SyncChange s caller.number call (step_of s caller call)
unfolding step_of
sync_change s caller call = role_sync s caller.role caller.number call

-- Each answer is one of its call's row, or nothing was there to take.
use Rattle.std.proofs.Common.{◌≡◌, inl, inr, ℕ, Bool, true, false, List, refl, sym, subst}
use Rattle.std.specs.Prelude.{Option, Some, None, Result, Ok, Err, ◌==◌, if◌then◌else◌}
use Rattle.std.specs.FinMap as map
use Rattle.cj_base.specs.declared.refusal.Refusal.{Refusal}
use Rattle.cj_base.specs.declared.refusal.Refusal.TheVariants.{NotFound, Conflict, AlreadyExists, AlreadyFinished, NotPermitted, Expired, Stale}
use Rattle.cj_types.specs.Keys.{Place}
use Rattle.cj_types.specs.declared.cron.CronJob.{CronJob}
use Rattle.cj_types.specs.declared.cron.CronJobDraft.{CronJobDraft}
use Rattle.cj_types.specs.declared.cron.CronStatus.{CronStatus}
use Rattle.cj_types.specs.declared.policy.Outcome.{Outcome}
use Rattle.cj_types.specs.declared.job.Job.{Job}
use Rattle.cj_types.specs.declared.job.JobDraft.{JobDraft}
use Rattle.cj_types.specs.declared.event.Event.{Event}
use Rattle.cj_store.specs.Content.{Content}
use Rattle.cj_store.specs.Metadata.{version_not_allowed}
use Rattle.cj_store.specs.Change.{map_ok, cron_added, cron_modified, cron_gone, job_added, job_modified, job_gone}
use Rattle.cj_store.specs.Crons.{new_cron, updated_cron, cron_updated_from, cron_deleted_from, status_set, status_set_from, with_status}
use Rattle.cj_store.specs.Jobs.{new_job, updated_job, job_updated_from, job_deleted_from, ended_job, job_ended_from}
use Rattle.cj_decide.specs.Decision.{Planned}
use Rattle.cj_status.specs.declared.refs.JobRef.{JobRef}
use Rattle.cj_decide.specs.declared.start.Claim.{Claim}
use Rattle.cj_calls.specs.declared.caller.Caller.{Caller}
use Rattle.cj_calls.specs.declared.caller.Role.{Role}
use Rattle.cj_calls.specs.declared.caller.Role.TheVariants.{User, Runner, Informer, Worker}
use Rattle.cj_calls.specs.declared.call.Call.{Call}
use Rattle.cj_calls.specs.declared.call.Call.TheVariants as Of
use Rattle.cj_calls.specs.declared.end.End.{End}
use Rattle.cj_calls.specs.declared.end.End.TheVariants.{Well, Again}
use Rattle.cj_calls.specs.declared.reply.Reply.TheVariants as Say
use Rattle.cj_types.specs.declared.policy.Reason.{Reason}
use Rattle.cj_types.specs.Events.{version_of}
use Rattle.cj_calls.specs.Rows.{is_in_row}
use Rattle.cj_state.specs.phases.Inputs.{rests_on}
use Rattle.cj_state.specs.phases.Steps.{step_at, as_drop, as_make, as_status, is_over}
use Rattle.cj_state.specs.declared.phases.sync.Work.{Work}
use Rattle.cj_state.specs.declared.phases.sync.Phase.{Phase}
use Rattle.cj_state.specs.declared.phases.sync.Phase.TheVariants.{Held, Seen, Listed, Checked, Works}
use Rattle.cj_state.specs.declared.phases.sync.InFlight.{InFlight}
use Rattle.cj_state.specs.declared.state.State.{State}
use Rattle.cj_state.specs.WorkerCalls.{Handled, refused, by_sync, sync_of, take, take_by, take_first, see_cron, see_cron_in, see_jobs, see_jobs_in, see_active, see_active_in, claim, claim_in, claim_where, claims, wrote, works, drop_next, drop_in, drop_where, drops_it, make_next, make_in, make_where, steps_on, event_reply, version_reply, set_status, status_in, status_where, sets_it, finish, finish_in, finish_work}
use Rattle.cj_state.specs.Step.{writes, found_cron, found_job, told_events, step_of, by_role, by_reader, by_user, by_runner, by_worker, by_informer}
use Rattle.cj_world_laws.specs.legal.Answers.{Fine}

-- in every phase and without a sync
sync_fine : (s : State) (call : Call) (f : Place → Phase → Handled) (o : Option InFlight) → Fine s call
    (by_sync s f None)
    → ((k : Place) (p : Phase) → Fine s call (f k p)) → Fine s call (by_sync s f o)
sync_fine s call f None n h = n
sync_fine s call f (Some sync) n h = h sync.key sync.phase

-- The answer of a Take by a worker without a sync fits: a key, ShutDown or Empty.
first_fine : (s : State) (w : ℕ) (o : Option Place) (b : Bool) → s.queue.shut ≡ b → Fine s Of.Take (take_first s w o)
first_fine s w (Some k) b e = inr (refl, refl, refl)
first_fine s w None true e = inr (rw e refl, rw e refl, rw e refl)
first_fine s w None false e = inl (rw e refl, refl)

-- The answer of a Take fits, whether or not its worker has a sync.
take_fine : (s : State) (w : ℕ) (o : Option InFlight) → Fine s Of.Take (take_by s w o)
take_fine s w None = first_fine s w _ _ refl
take_fine s w (Some sync) = inr (refl, refl, refl)

-- In each phase the answer of a SeeCron fits: the CronJob of the key, if any, or OutOfPhase.
cron_fine : (s : State) (w : ℕ) (k : Place) (p : Phase) → Fine s Of.SeeCron (see_cron_in s w k p)
cron_fine s w k Held = inr (refl, refl, refl)
cron_fine s w k (Seen c) = inr (refl, refl, refl)
cron_fine s w k (Listed c js) = inr (refl, refl, refl)
cron_fine s w k (Checked c js ks) = inr (refl, refl, refl)
cron_fine s w k (Works work) = inr (refl, refl, refl)

-- In each phase the answer of a SeeJobs fits: the Jobs of the list, or OutOfPhase.
jobs_fine : (s : State) (w : ℕ) (k : Place) (p : Phase) → Fine s Of.SeeJobs (see_jobs_in s w k p)
jobs_fine s w k Held = inr (refl, refl, refl)
jobs_fine s w k (Seen c) = inr (refl, refl, refl)
jobs_fine s w k (Listed c js) = inr (refl, refl, refl)
jobs_fine s w k (Checked c js ks) = inr (refl, refl, refl)
jobs_fine s w k (Works work) = inr (refl, refl, refl)

-- In each phase the answer of a SeeActive fits: what the active names are now, or OutOfPhase.
active_fine : (s : State) (w : ℕ) (k : Place) (p : Phase) → Fine s Of.SeeActive (see_active_in s w k p)
active_fine s w k Held = inr (refl, refl, refl)
active_fine s w k (Seen c) = inr (refl, refl, refl)
active_fine s w k (Listed c js) = inr (refl, refl, refl)
active_fine s w k (Checked c js ks) = inr (refl, refl, refl)
active_fine s w k (Works work) = inr (refl, refl, refl)

-- the answers of a conditional write of a status
pub data Given (r : Result Event Refusal) : Type 0 where
  makes : (e : Event) → r ≡ Ok e → Given r
  lacks : r ≡ Err NotFound → Given r
  differs : (v : ℕ) → r ≡ Err (Conflict v) → Given r

-- A status written to a CronJob has one of these answers, by whether its uid and version agree.
status_case : (s : Content) (status : CronStatus) (cron : CronJob) (a b : Bool)
    → Given (map_ok cron_modified (if a then (if b then Ok (with_status s status cron)
    else Err (Conflict cron.meta.version)) else Err NotFound))
status_case s status cron true true = makes _ refl
status_case s status cron true false = differs _ refl
status_case s status cron false b = lacks refl

-- A status written to a CronJob that may be there or not has one of these answers.
status_from : (s : Content) (u v : ℕ) (status : CronStatus) (o : Option CronJob)
    → Given (map_ok cron_modified (status_set_from s u v status o))
status_from s u v status None = lacks refl
status_from s u v status (Some cron) = status_case s status cron (cron.meta.uid == u) (cron.meta.version == v)

-- A status written to the CronJob of any key of the store has one of these answers.
status_given : (s : Content) (k : Place) (u v : ℕ) (status : CronStatus)
    → Given (map_ok cron_modified (status_set s k u v status))
status_given s k u v status = status_from s u v status (map.get s.crons k)

-- Where the write of its status has one of these answers, the answer of a Claim fits.
claim_given : (s : State) (w : ℕ) (k : Place) (p : Planned) (say : Event → Option (ℕ × ℕ)) (phase : Event
    → Phase) (r : Result Event Refusal) → Given r
    → Fine s (Of.Claim p) (wrote s w k (λ e. Say.Claimed (say e)) phase r)
claim_given s w k p say phase r (makes e i) = subst
    (λ x. Fine s (Of.Claim p) (wrote s w k (λ e. Say.Claimed (say e)) phase x)) (sym i) (inr (refl, refl, refl))
claim_given s w k p say phase r (lacks i) = subst
    (λ x. Fine s (Of.Claim p) (wrote s w k (λ e. Say.Claimed (say e)) phase x)) (sym i) (inr (refl, refl, refl))
claim_given s w k p say phase r (differs v i) = subst
    (λ x. Fine s (Of.Claim p) (wrote s w k (λ e. Say.Claimed (say e)) phase x)) (sym i) (inr (refl, refl, refl))

-- The answer of a Claim of a time fits, whether its plan rests on a CronJob or on none.
claims_fine : (s : State) (w : ℕ) (k : Place) (p : Planned) (c : Claim) (o : Option CronJob)
    → Fine s (Of.Claim p) (claims s w k p c o)
claims_fine s w k p c None = inr (refl, refl, refl)
claims_fine s w k p c (Some cron) = claim_given s w k p (λ e. Some (c.time, version_of e))
    (λ e. works p (version_of e) 0) _ (status_given s.store k _ _ c.status)

-- The answer of a Claim fits, whether its plan claims a time or none.
where_fine : (s : State) (w : ℕ) (k : Place) (p : Planned) (o : Option Claim)
    → Fine s (Of.Claim p) (claim_where s w k p o)
where_fine s w k p None = inr (refl, refl, refl)
where_fine s w k p (Some c) = claims_fine s w k p c p.cron

-- The answer of a Claim fits, whether its plan rests on what the worker got or is Stale.
rests_fine : (s : State) (w : ℕ) (p : Planned) (k : Place) (b : Bool)
    → Fine s (Of.Claim p) (if b then claim_where s w k p p.steps.claim else refused s Stale)
rests_fine s w p k true = where_fine s w k p p.steps.claim
rests_fine s w p k false = inr (refl, refl, refl)

-- In each phase the answer of a Claim fits: what is claimed, or a refusal of its row.
claim_fine : (s : State) (w : ℕ) (p : Planned) (k : Place) (q : Phase) → Fine s (Of.Claim p) (claim_in s w p k q)
claim_fine s w p k Held = inr (refl, refl, refl)
claim_fine s w p k (Seen c) = inr (refl, refl, refl)
claim_fine s w p k (Listed c js) = inr (refl, refl, refl)
claim_fine s w p k (Checked c js ks) = rests_fine s w p k (rests_on p c js ks)
claim_fine s w p k (Works work) = inr (refl, refl, refl)

-- The answer of a DropNext at a drop fits, whether the Job was deleted or wasn't there.
drops_fine : (s : State) (w : ℕ) (sync : InFlight) (name : Place) (r : Result Event Refusal)
    → Fine s Of.DropNext (drops_it s w sync name r)
drops_fine s w sync name (Ok e) = inr (refl, refl, refl)
drops_fine s w sync name (Err e) = inr (refl, refl, refl)

-- The answer of a DropNext with a plan fits, whether the next step is a drop or another.
drop_where_fine : (s : State) (w : ℕ) (k : Place) (work : Work) (o : Option JobRef)
    → Fine s Of.DropNext (drop_where s w k work o)
drop_where_fine s w k work None = inr (refl, refl, refl)
drop_where_fine s w k work (Some r) = drops_fine s w _ _ _

-- In each phase the answer of a DropNext fits: what is dropped, or OutOfPhase.
drop_fine : (s : State) (w : ℕ) (k : Place) (p : Phase) → Fine s Of.DropNext (drop_in s w k p)
drop_fine s w k Held = inr (refl, refl, refl)
drop_fine s w k (Seen c) = inr (refl, refl, refl)
drop_fine s w k (Listed c js) = inr (refl, refl, refl)
drop_fine s w k (Checked c js ks) = inr (refl, refl, refl)
drop_fine s w k (Works work) = drop_where_fine s w k work (as_drop (step_at work.plan.steps work.place))

-- The answer of a MakeNext that makes a Job fits, whether the Job's name is taken or free.
made_fine : (s : State) (w : ℕ) (sync : InFlight) (draft : JobDraft) (now : ℕ) (b : Bool)
    → Fine s Of.MakeNext (steps_on s w sync event_reply
    (map_ok job_added (if b then Err AlreadyExists else Ok (new_job s.store draft now))))
made_fine s w sync draft now true = inr (refl, refl, refl)
made_fine s w sync draft now false = inr (refl, refl, refl)

-- The answer of a MakeNext with a plan fits, whether the next step makes a Job or not.
make_where_fine : (s : State) (w : ℕ) (k : Place) (work : Work) (o : Option JobDraft)
    → Fine s Of.MakeNext (make_where s w k work o)
make_where_fine s w k work None = inr (refl, refl, refl)
make_where_fine s w k work (Some d) = made_fine s w _ d work.plan.at _

-- In each phase the answer of a MakeNext fits: the new Job, or a refusal of its row.
make_fine : (s : State) (w : ℕ) (k : Place) (p : Phase) → Fine s Of.MakeNext (make_in s w k p)
make_fine s w k Held = inr (refl, refl, refl)
make_fine s w k (Seen c) = inr (refl, refl, refl)
make_fine s w k (Listed c js) = inr (refl, refl, refl)
make_fine s w k (Checked c js ks) = inr (refl, refl, refl)
make_fine s w k (Works work) = make_where_fine s w k work (as_make (step_at work.plan.steps work.place))

-- Where the write of its status has one of these answers, the answer of a SetStatus fits.
set_given : (s : State) (w : ℕ) (sync : InFlight) (r : Result Event Refusal) → Given r
    → Fine s Of.SetStatus (steps_on s w sync version_reply r)
set_given s w sync r (makes e i) = subst (λ x. Fine s Of.SetStatus (steps_on s w sync version_reply x)) (sym i)
    (inr (refl, refl, refl))
set_given s w sync r (lacks i) = subst (λ x. Fine s Of.SetStatus (steps_on s w sync version_reply x)) (sym i)
    (inr (refl, refl, refl))
set_given s w sync r (differs v i) = subst (λ x. Fine s Of.SetStatus (steps_on s w sync version_reply x)) (sym i)
    (inr (refl, refl, refl))

-- The answer of a SetStatus at its step fits, whether its plan has a CronJob or none.
sets_fine : (s : State) (w : ℕ) (k : Place) (work : Work) (status : CronStatus) (o : Option CronJob)
    → Fine s Of.SetStatus (sets_it s w k work status o)
sets_fine s w k work status None = inr (refl, refl, refl)
sets_fine s w k work status (Some cron) = set_given s w _ _ (status_given s.store k _ _ status)

-- The answer of a SetStatus with a plan fits, whether the next step sets a status or not.
status_where_fine : (s : State) (w : ℕ) (k : Place) (work : Work) (o : Option CronStatus)
    → Fine s Of.SetStatus (status_where s w k work o)
status_where_fine s w k work None = inr (refl, refl, refl)
status_where_fine s w k work (Some status) = sets_fine s w k work status work.plan.cron

-- In each phase the answer of a SetStatus fits: the new version, or a refusal of its row.
status_fine : (s : State) (w : ℕ) (k : Place) (p : Phase) → Fine s Of.SetStatus (status_in s w k p)
status_fine s w k Held = inr (refl, refl, refl)
status_fine s w k (Seen c) = inr (refl, refl, refl)
status_fine s w k (Listed c js) = inr (refl, refl, refl)
status_fine s w k (Checked c js ks) = inr (refl, refl, refl)
status_fine s w k (Works work) = status_where_fine s w k work (as_status (step_at work.plan.steps work.place))

-- The answer of a Finish with a plan fits, whether or not the plan's steps are over.
work_fine : (s : State) (w : ℕ) (k : Place) (work : Work) (end : End) (rs : List Reason) (b : Bool)
    → Fine s (Of.Finish end rs) (finish_work s w k work b)
work_fine s w k work end rs true = inr (refl, refl, refl)
work_fine s w k work end rs false = inr (refl, refl, refl)

-- In each phase the answer of a Finish fits, whether it ends Well or Again.
finish_fine : (s : State) (w : ℕ) (end : End) (rs : List Reason) (k : Place) (p : Phase)
    → Fine s (Of.Finish end rs) (finish_in s w end k p)
finish_fine s w (Again now) rs k p = inr (refl, refl, refl)
finish_fine s w Well rs k Held = inr (refl, refl, refl)
finish_fine s w Well rs k (Seen c) = inr (refl, refl, refl)
finish_fine s w Well rs k (Listed c js) = inr (refl, refl, refl)
finish_fine s w Well rs k (Checked c js ks) = inr (refl, refl, refl)
finish_fine s w Well rs k (Works work) = work_fine s w k work Well rs (is_over (step_at work.plan.steps work.place))

-- A refusal with NotPermitted fits where it is in the row of the call.
none_fine : (s : State) (call : Call) → is_in_row call (Err NotPermitted) ≡ true → Fine s call (refused s NotPermitted)
none_fine s call e = inr (refl, refl, e)

-- Whatever call a worker makes, the answer fits.
worker_fine : (s : State) (w : ℕ) (call : Call) → Fine s call (by_worker s w call)
unfolding take see_cron see_jobs see_active claim drop_next make_next set_status finish
worker_fine s w Of.Take = take_fine s w (sync_of s w)
worker_fine s w Of.SeeCron = sync_fine s Of.SeeCron _ (sync_of s w) (inr (refl, refl, refl)) (cron_fine s w)
worker_fine s w Of.SeeJobs = sync_fine s Of.SeeJobs _ (sync_of s w) (inr (refl, refl, refl)) (jobs_fine s w)
worker_fine s w Of.SeeActive = sync_fine s Of.SeeActive _ (sync_of s w) (inr (refl, refl, refl)) (active_fine s w)
worker_fine s w (Of.Claim p) = sync_fine s (Of.Claim p) _ (sync_of s w) (inr (refl, refl, refl)) (claim_fine s w p)
worker_fine s w Of.DropNext = sync_fine s Of.DropNext _ (sync_of s w) (inr (refl, refl, refl)) (drop_fine s w)
worker_fine s w Of.MakeNext = sync_fine s Of.MakeNext _ (sync_of s w) (inr (refl, refl, refl)) (make_fine s w)
worker_fine s w Of.SetStatus = sync_fine s Of.SetStatus _ (sync_of s w) (inr (refl, refl, refl)) (status_fine s w)
worker_fine s w (Of.Finish end rs) = sync_fine s (Of.Finish end rs) _ (sync_of s w) (inr (refl, refl, refl))
    (finish_fine s w end rs)
worker_fine s w (Of.CreateCron d n) = inr (refl, refl, refl)
worker_fine s w (Of.UpdateCron d) = inr (refl, refl, refl)
worker_fine s w (Of.DeleteCron k) = inr (refl, refl, refl)
worker_fine s w (Of.GetCron k) = inr (refl, refl, refl)
worker_fine s w (Of.GetJob k) = inr (refl, refl, refl)
worker_fine s w Of.ListCrons = inr (refl, refl, refl)
worker_fine s w Of.ListJobs = inr (refl, refl, refl)
worker_fine s w (Of.CreateJob d n) = inr (refl, refl, refl)
worker_fine s w (Of.UpdateJob d) = inr (refl, refl, refl)
worker_fine s w (Of.DeleteJob k) = inr (refl, refl, refl)
worker_fine s w (Of.EndJob k u o n) = inr (refl, refl, refl)
worker_fine s w (Of.Watch v m) = inr (refl, refl, refl)
worker_fine s w (Of.Add k) = inr (refl, refl, refl)
worker_fine s w (Of.Tick m) = inr (refl, refl, refl)
worker_fine s w Of.Shut = inr (refl, refl, refl)
worker_fine s w (Of.Feed m) = inr (refl, refl, refl)

-- a role outside its row
not_permitted : (s : State) (call : Call) → Fine s call (refused s NotPermitted)
not_permitted s Of.Take = inr (refl, refl, refl)
not_permitted s call = inr (refl, refl, refl)

-- ---- writes of users and runners

-- The answer of a CreateCron fits: a draft with a version, a name that is taken, or a new CronJob.
created_fine : (s : State) (d : CronJobDraft) (n : ℕ) (a b : Bool)
    → Fine s (Of.CreateCron d n) (writes s event_reply
    (map_ok cron_added (if a then Err version_not_allowed else if b then Err AlreadyExists
    else Ok (new_cron s.store d n))))
created_fine s d n true b = inr (refl, refl, refl)
created_fine s d n false true = inr (refl, refl, refl)
created_fine s d n false false = inr (refl, refl, refl)

-- The answer of an UpdateCron of a CronJob that is there fits, whether the draft is current or not.
updated_case : (s : State) (d : CronJobDraft) (cron : CronJob) (a : Bool)
    → Fine s (Of.UpdateCron d) (writes s event_reply
    (map_ok cron_modified (if a then Ok (updated_cron s.store d cron) else Err (Conflict cron.meta.version))))
updated_case s d cron true = inr (refl, refl, refl)
updated_case s d cron false = inr (refl, refl, refl)

-- The answer of an UpdateCron fits, whether the CronJob is there or not.
updated_fine : (s : State) (d : CronJobDraft) (o : Option CronJob)
    → Fine s (Of.UpdateCron d) (writes s event_reply (map_ok cron_modified (cron_updated_from s.store d o)))
updated_fine s d None = inr (refl, refl, refl)
updated_fine s d (Some cron) = updated_case s d cron _

-- The answer of a DeleteCron fits, whether the CronJob is there or not.
deleted_fine : (s : State) (k : Place) (o : Option CronJob)
    → Fine s (Of.DeleteCron k) (writes s version_reply (map_ok cron_gone (cron_deleted_from s.store o)))
deleted_fine s k None = inr (refl, refl, refl)
deleted_fine s k (Some cron) = inr (refl, refl, refl)

-- The answer of a CreateJob fits: a controller or a version in the draft, a name that is
-- taken, or a new Job.
job_fine : (s : State) (d : JobDraft) (n : ℕ) (a b c : Bool)
    → Fine s (Of.CreateJob d n) (writes s event_reply
    (map_ok job_added (if a then Err NotPermitted else if b then Err version_not_allowed
    else if c then Err AlreadyExists else Ok (new_job s.store d n))))
job_fine s d n true b c = inr (refl, refl, refl)
job_fine s d n false true c = inr (refl, refl, refl)
job_fine s d n false false true = inr (refl, refl, refl)
job_fine s d n false false false = inr (refl, refl, refl)

-- The answer of an UpdateJob of a Job that is there fits, by the draft's version and owners.
changed_case : (s : State) (d : JobDraft) (job : Job) (a b : Bool)
    → Fine s (Of.UpdateJob d) (writes s event_reply
    (map_ok job_modified (if a then (if b then Ok (updated_job s.store d job) else Err NotPermitted)
    else Err (Conflict job.meta.version))))
changed_case s d job true true = inr (refl, refl, refl)
changed_case s d job true false = inr (refl, refl, refl)
changed_case s d job false b = inr (refl, refl, refl)

-- The answer of an UpdateJob fits, whether the Job is there or not.
changed_fine : (s : State) (d : JobDraft) (o : Option Job)
    → Fine s (Of.UpdateJob d) (writes s event_reply (map_ok job_modified (job_updated_from s.store d o)))
changed_fine s d None = inr (refl, refl, refl)
changed_fine s d (Some job) = changed_case s d job _ _

-- The answer of a DeleteJob fits, whether the Job is there or not.
gone_fine : (s : State) (k : Place) (o : Option Job)
    → Fine s (Of.DeleteJob k) (writes s version_reply (map_ok job_gone (job_deleted_from s.store None o)))
gone_fine s k None = inr (refl, refl, refl)
gone_fine s k (Some job) = inr (refl, refl, refl)

-- The answer of an EndJob of a Job that is there fits, by its uid and whether it has ended.
ended_case : (s : State) (k : Place) (u : ℕ) (x : Outcome) (n : ℕ) (job : Job) (a b : Bool)
    → Fine s (Of.EndJob k u x n) (writes s event_reply
    (map_ok job_modified (if a then (if b then Err AlreadyFinished else Ok (ended_job s.store x n job))
    else Err NotFound)))
ended_case s k u x n job true true = inr (refl, refl, refl)
ended_case s k u x n job true false = inr (refl, refl, refl)
ended_case s k u x n job false b = inr (refl, refl, refl)

-- The answer of an EndJob fits, whether the Job is there or not.
ended_fine : (s : State) (k : Place) (u : ℕ) (x : Outcome) (n : ℕ) (o : Option Job)
    → Fine s (Of.EndJob k u x n) (writes s event_reply (map_ok job_modified (job_ended_from s.store u x n o)))
ended_fine s k u x n None = inr (refl, refl, refl)
ended_fine s k u x n (Some job) = ended_case s k u x n job _ _

-- ---- readings

-- The answer of a GetCron fits, whether the CronJob is there or not.
found_cron_fine : (s : State) (k : Place) (o : Option CronJob) → Fine s (Of.GetCron k) (found_cron s o)
found_cron_fine s k None = inr (refl, refl, refl)
found_cron_fine s k (Some cron) = inr (refl, refl, refl)

-- The answer of a GetJob fits, whether the Job is there or not.
found_job_fine : (s : State) (k : Place) (o : Option Job) → Fine s (Of.GetJob k) (found_job s o)
found_job_fine s k None = inr (refl, refl, refl)
found_job_fine s k (Some job) = inr (refl, refl, refl)

-- The answer of a Watch fits: events, or Expired where some of them are gone.
told_fine : (s : State) (v max oldest : ℕ) (es : List Event) (a : Bool) →
    Fine s (Of.Watch v max) (told_events s (if a then Err (Expired oldest) else Ok es))
told_fine s v max oldest es true = inr (refl, refl, refl)
told_fine s v max oldest es false = inr (refl, refl, refl)

-- The answer of a reading fits, and so does the refusal of a call that is none.
reader_fine : (s : State) (call : Call) → Fine s call (by_reader s call)
reader_fine s (Of.GetCron k) = found_cron_fine s k (map.get s.store.crons k)
reader_fine s (Of.GetJob k) = found_job_fine s k (map.get s.store.jobs k)
reader_fine s Of.ListCrons = inr (refl, refl, refl)
reader_fine s Of.ListJobs = inr (refl, refl, refl)
reader_fine s (Of.Watch v max) = told_fine s v max _ _ _
reader_fine s call = not_permitted s call

-- Whatever call a user makes, the answer fits.
user_fine : (s : State) (call : Call) → Fine s call (by_user s call)
user_fine s (Of.CreateCron d n) = created_fine s d n _ _
user_fine s (Of.UpdateCron d) = updated_fine s d (map.get s.store.crons d.key)
user_fine s (Of.DeleteCron k) = deleted_fine s k (map.get s.store.crons k)
user_fine s (Of.CreateJob d n) = job_fine s d n _ _ _
user_fine s (Of.UpdateJob d) = changed_fine s d (map.get s.store.jobs d.key)
user_fine s (Of.DeleteJob k) = gone_fine s k (map.get s.store.jobs k)
user_fine s call = reader_fine s call

-- Whatever call a runner makes, the answer fits.
runner_fine : (s : State) (call : Call) → Fine s call (by_runner s call)
runner_fine s (Of.EndJob k u x n) = ended_fine s k u x n (map.get s.store.jobs k)
runner_fine s call = reader_fine s call

-- Whatever call an informer makes, the answer fits.
informer_fine : (s : State) (call : Call) → Fine s call (by_informer s call)
informer_fine s (Of.Add k) = inr (refl, refl, refl)
informer_fine s (Of.Tick m) = inr (refl, refl, refl)
informer_fine s Of.Shut = inr (refl, refl, refl)
informer_fine s (Of.Feed m) = inr (refl, refl, refl)
informer_fine s call = reader_fine s call

-- Whatever call a caller of whatever role makes, the answer fits.
role_fine : (s : State) (r : Role) (w : ℕ) (call : Call) → Fine s call (by_role s r w call)
role_fine s Worker w call = worker_fine s w call
role_fine s Informer w call = informer_fine s call
role_fine s User w call = user_fine s call
role_fine s Runner w call = runner_fine s call

-- For answer_law: in any state, whoever calls whatever, the answer fits.
pub fine : (s : State) (caller : Caller) (call : Call) → Fine s call (step_of s caller call)
unfolding step_of
fine s caller call = role_fine s caller.role caller.number call

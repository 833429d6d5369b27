-- Empty is answered to a Take alone, where the line is empty and the queue isn't shut.
use Rattle.std.proofs.Common.{◌≡◌, ℕ, Bool, true, false, List, [], ◌∷◌, refl, sym, ap, subst}
use Rattle.std.specs.Prelude.{Option, Some, None, Result, Ok, Err, ◌==◌, if◌then◌else◌}
use Rattle.std.specs.FinMap as map
use Rattle.cj_base.specs.declared.refusal.Refusal.{Refusal}
use Rattle.cj_base.specs.declared.refusal.Refusal.TheVariants.{Empty, ShutDown, NotFound, Conflict, AlreadyExists, AlreadyFinished, NotPermitted, Expired, Stale}
use Rattle.cj_types.specs.Keys.{Place}
use Rattle.cj_types.specs.declared.cron.CronJob.{CronJob}
use Rattle.cj_types.specs.declared.cron.CronJobDraft.{CronJobDraft}
use Rattle.cj_types.specs.declared.cron.CronStatus.{CronStatus}
use Rattle.cj_types.specs.declared.policy.Outcome.{Outcome}
use Rattle.cj_types.specs.declared.job.Job.{Job}
use Rattle.cj_types.specs.declared.job.JobDraft.{JobDraft}
use Rattle.cj_types.specs.declared.event.Event.{Event}
use Rattle.cj_store.specs.Content.{Content}
use Rattle.cj_store.specs.Metadata.{version_not_allowed}
use Rattle.cj_store.specs.Change.{map_ok, cron_added, cron_modified, cron_gone, job_added, job_modified, job_gone}
use Rattle.cj_store.specs.Crons.{new_cron, updated_cron, cron_updated_from, cron_deleted_from, status_set, status_set_from, with_status}
use Rattle.cj_store.specs.Jobs.{new_job, updated_job, job_updated_from, job_deleted_from, ended_job, job_ended_from}
use Rattle.cj_queue.specs.Queue.{first}
use Rattle.cj_decide.specs.Decision.{Planned}
use Rattle.cj_status.specs.declared.refs.JobRef.{JobRef}
use Rattle.cj_decide.specs.declared.start.Claim.{Claim}
use Rattle.cj_calls.specs.declared.caller.Caller.{Caller}
use Rattle.cj_calls.specs.declared.caller.Role.{Role}
use Rattle.cj_calls.specs.declared.caller.Role.TheVariants.{User, Runner, Informer, Worker}
use Rattle.cj_calls.specs.declared.call.Call.{Call}
use Rattle.cj_calls.specs.declared.call.Call.TheVariants as Of
use Rattle.cj_calls.specs.declared.end.End.{End}
use Rattle.cj_calls.specs.declared.end.End.TheVariants.{Well, Again}
use Rattle.cj_calls.specs.declared.reply.Reply.TheVariants as Say
use Rattle.cj_types.specs.declared.policy.Reason.{Reason}
use Rattle.cj_types.specs.Events.{version_of}
use Rattle.cj_state.specs.phases.Inputs.{rests_on}
use Rattle.cj_state.specs.phases.Steps.{step_at, as_drop, as_make, as_status, is_over}
use Rattle.cj_state.specs.declared.phases.sync.Work.{Work}
use Rattle.cj_state.specs.declared.phases.sync.Phase.{Phase}
use Rattle.cj_state.specs.declared.phases.sync.Phase.TheVariants.{Held, Seen, Listed, Checked, Works}
use Rattle.cj_state.specs.declared.phases.sync.InFlight.{InFlight}
use Rattle.cj_state.specs.declared.state.State.{State}
use Rattle.cj_state.specs.WorkerCalls.{Handled, refused, by_sync, sync_of, take, take_by, take_first, see_cron, see_cron_in, see_jobs, see_jobs_in, see_active, see_active_in, claim, claim_in, claim_where, claims, wrote, works, drop_next, drop_in, drop_where, drops_it, make_next, make_in, make_where, steps_on, event_reply, version_reply, set_status, status_in, status_where, sets_it, finish, finish_in, finish_work}
use Rattle.cj_state.specs.Step.{writes, found_cron, found_job, told_events, step_of, by_role, by_reader, by_user, by_runner, by_worker, by_informer}
use Rattle.cj_world_laws.specs.legal.Answers.{is_empty}
use Rattle.cj_hub.specs.Books.{FindsNothing}

-- The answer isn't Empty.
abbrev Full : Handled → Type 0
Full m = is_empty m.answer ≡ false

-- in every phase and without a sync
sync_full : (s : State) (call : Call) (f : Place → Phase → Handled) (o : Option InFlight) → Full (by_sync s f None)
    → ((k : Place) (p : Phase) → Full (f k p)) → Full (by_sync s f o)
sync_full s call f None n h = n
sync_full s call f (Some sync) n h = h sync.key sync.phase

-- To see the CronJob isn't answered with Empty, in whatever phase the worker is.
cron_full : (s : State) (w : ℕ) (k : Place) (p : Phase) → Full (see_cron_in s w k p)
cron_full s w k Held = refl
cron_full s w k (Seen c) = refl
cron_full s w k (Listed c js) = refl
cron_full s w k (Checked c js ks) = refl
cron_full s w k (Works work) = refl

-- To see the Jobs isn't answered with Empty, in whatever phase the worker is.
jobs_full : (s : State) (w : ℕ) (k : Place) (p : Phase) → Full (see_jobs_in s w k p)
jobs_full s w k Held = refl
jobs_full s w k (Seen c) = refl
jobs_full s w k (Listed c js) = refl
jobs_full s w k (Checked c js ks) = refl
jobs_full s w k (Works work) = refl

-- To see the active Jobs isn't answered with Empty, in whatever phase the worker is.
active_full : (s : State) (w : ℕ) (k : Place) (p : Phase) → Full (see_active_in s w k p)
active_full s w k Held = refl
active_full s w k (Seen c) = refl
active_full s w k (Listed c js) = refl
active_full s w k (Checked c js ks) = refl
active_full s w k (Works work) = refl

-- the answers of a conditional write of a status
pub data Given (r : Result Event Refusal) : Type 0 where
  makes : (e : Event) → r ≡ Ok e → Given r
  lacks : r ≡ Err NotFound → Given r
  differs : (v : ℕ) → r ≡ Err (Conflict v) → Given r

-- For status_from: a write of the status of a CronJob that is there has one of the three answers.
status_case : (s : Content) (status : CronStatus) (cron : CronJob) (a b : Bool)
    → Given (map_ok cron_modified (if a then (if b then Ok (with_status s status cron)
    else Err (Conflict cron.meta.version)) else Err NotFound))
status_case s status cron true true = makes _ refl
status_case s status cron true false = differs _ refl
status_case s status cron false b = lacks refl

-- For status_given: as status_case, where a CronJob may be there or not.
status_from : (s : Content) (u v : ℕ) (status : CronStatus) (o : Option CronJob)
    → Given (map_ok cron_modified (status_set_from s u v status o))
status_from s u v status None = lacks refl
status_from s u v status (Some cron) = status_case s status cron (cron.meta.uid == u) (cron.meta.version == v)

-- A conditional write of a status at a key has one of the three answers.
status_given : (s : Content) (k : Place) (u v : ℕ) (status : CronStatus)
    → Given (map_ok cron_modified (status_set s k u v status))
status_given s k u v status = status_from s u v status (map.get s.crons k)

-- For claims_full: a claim whose write has one of the three answers isn't answered with Empty.
claim_given : (s : State) (w : ℕ) (k : Place) (p : Planned) (say : Event → Option (ℕ × ℕ)) (phase : Event
    → Phase) (r : Result Event Refusal) → Given r
    → Full (wrote s w k (λ e. Say.Claimed (say e)) phase r)
claim_given s w k p say phase r (makes e i) = subst (λ x. Full (wrote s w k (λ e. Say.Claimed (say e)) phase x)) (sym i)
    (refl)
claim_given s w k p say phase r (lacks i) = subst (λ x. Full (wrote s w k (λ e. Say.Claimed (say e)) phase x)) (sym i)
    (refl)
claim_given s w k p say phase r (differs v i) = subst (λ x. Full (wrote s w k (λ e. Say.Claimed (say e)) phase x))
    (sym i) (refl)

-- A claim of a time isn't answered with Empty, whether its plan rests on a CronJob or on none.
claims_full : (s : State) (w : ℕ) (k : Place) (p : Planned) (c : Claim) (o : Option CronJob) → Full (claims s w k p c o)
claims_full s w k p c None = refl
claims_full s w k p c (Some cron) = claim_given s w k p (λ e. Some (c.time, version_of e))
    (λ e. works p (version_of e) 0) _ (status_given s.store k _ _ c.status)

-- For rests_full: a claim isn't answered with Empty, whether its plan has a time to claim or none.
where_full : (s : State) (w : ℕ) (k : Place) (p : Planned) (o : Option Claim) → Full (claim_where s w k p o)
where_full s w k p None = refl
where_full s w k p (Some c) = claims_full s w k p c p.cron

-- For claim_full: a claim isn't answered with Empty, whether its plan is stale or not.
rests_full : (s : State) (w : ℕ) (p : Planned) (k : Place) (b : Bool)
    → Full (if b then claim_where s w k p p.steps.claim else refused s Stale)
rests_full s w p k true = where_full s w k p p.steps.claim
rests_full s w p k false = refl

-- A claim isn't answered with Empty, in whatever phase the worker is.
claim_full : (s : State) (w : ℕ) (p : Planned) (k : Place) (q : Phase) → Full (claim_in s w p k q)
claim_full s w p k Held = refl
claim_full s w p k (Seen c) = refl
claim_full s w p k (Listed c js) = refl
claim_full s w p k (Checked c js ks) = rests_full s w p k (rests_on p c js ks)
claim_full s w p k (Works work) = refl

-- For drop_where_full: to drop a Job isn't answered with Empty, whether it was there or not.
drops_full : (s : State) (w : ℕ) (sync : InFlight) (name : Place) (r : Result Event Refusal)
    → Full (drops_it s w sync name r)
drops_full s w sync name (Ok e) = refl
drops_full s w sync name (Err e) = refl

-- For drop_full: to drop isn't answered with Empty, whether the plan's step is a drop or not.
drop_where_full : (s : State) (w : ℕ) (k : Place) (work : Work) (o : Option JobRef) → Full (drop_where s w k work o)
drop_where_full s w k work None = refl
drop_where_full s w k work (Some r) = drops_full s w _ _ _

-- To drop isn't answered with Empty, in whatever phase the worker is.
drop_full : (s : State) (w : ℕ) (k : Place) (p : Phase) → Full (drop_in s w k p)
drop_full s w k Held = refl
drop_full s w k (Seen c) = refl
drop_full s w k (Listed c js) = refl
drop_full s w k (Checked c js ks) = refl
drop_full s w k (Works work) = drop_where_full s w k work (as_drop (step_at work.plan.steps work.place))

-- For make_where_full: to make a Job isn't answered with Empty, whether its key is free or not.
made_full : (s : State) (w : ℕ) (sync : InFlight) (draft : JobDraft) (now : ℕ) (b : Bool)
    → Full (steps_on s w sync event_reply (map_ok job_added (if b then Err AlreadyExists
    else Ok (new_job s.store draft now))))
made_full s w sync draft now true = refl
made_full s w sync draft now false = refl

-- For make_full: to make isn't answered with Empty, whether the plan's step is a making or not.
make_where_full : (s : State) (w : ℕ) (k : Place) (work : Work) (o : Option JobDraft) → Full (make_where s w k work o)
make_where_full s w k work None = refl
make_where_full s w k work (Some d) = made_full s w _ d work.plan.at _

-- To make isn't answered with Empty, in whatever phase the worker is.
make_full : (s : State) (w : ℕ) (k : Place) (p : Phase) → Full (make_in s w k p)
make_full s w k Held = refl
make_full s w k (Seen c) = refl
make_full s w k (Listed c js) = refl
make_full s w k (Checked c js ks) = refl
make_full s w k (Works work) = make_where_full s w k work (as_make (step_at work.plan.steps work.place))

-- For sets_full: a step whose write has one of the three answers isn't answered with Empty.
set_given : (s : State) (w : ℕ) (sync : InFlight) (r : Result Event Refusal) → Given r
    → Full (steps_on s w sync version_reply r)
set_given s w sync r (makes e i) = subst (λ x. Full (steps_on s w sync version_reply x)) (sym i) (refl)
set_given s w sync r (lacks i) = subst (λ x. Full (steps_on s w sync version_reply x)) (sym i) (refl)
set_given s w sync r (differs v i) = subst (λ x. Full (steps_on s w sync version_reply x)) (sym i) (refl)

-- To set a status isn't answered with Empty, whether the plan rests on a CronJob or on none.
sets_full : (s : State) (w : ℕ) (k : Place) (work : Work) (status : CronStatus) (o : Option CronJob)
    → Full (sets_it s w k work status o)
sets_full s w k work status None = refl
sets_full s w k work status (Some cron) = set_given s w _ _ (status_given s.store k _ _ status)

-- For status_full: to set a status isn't answered with Empty, whether the step is one or not.
status_where_full : (s : State) (w : ℕ) (k : Place) (work : Work) (o : Option CronStatus)
    → Full (status_where s w k work o)
status_where_full s w k work None = refl
status_where_full s w k work (Some status) = sets_full s w k work status work.plan.cron

-- To set a status isn't answered with Empty, in whatever phase the worker is.
status_full : (s : State) (w : ℕ) (k : Place) (p : Phase) → Full (status_in s w k p)
status_full s w k Held = refl
status_full s w k (Seen c) = refl
status_full s w k (Listed c js) = refl
status_full s w k (Checked c js ks) = refl
status_full s w k (Works work) = status_where_full s w k work (as_status (step_at work.plan.steps work.place))

-- For finish_full: to finish well isn't answered with Empty, whether the steps are over or not.
work_full : (s : State) (w : ℕ) (k : Place) (work : Work) (end : End) (rs : List Reason) (b : Bool)
    → Full (finish_work s w k work b)
work_full s w k work end rs true = refl
work_full s w k work end rs false = refl

-- To finish isn't answered with Empty, with whatever end and in whatever phase the worker is.
finish_full : (s : State) (w : ℕ) (end : End) (rs : List Reason) (k : Place) (p : Phase) → Full (finish_in s w end k p)
finish_full s w (Again now) rs k p = refl
finish_full s w Well rs k Held = refl
finish_full s w Well rs k (Seen c) = refl
finish_full s w Well rs k (Listed c js) = refl
finish_full s w Well rs k (Checked c js ks) = refl
finish_full s w Well rs k (Works work) = work_full s w k work Well rs (is_over (step_at work.plan.steps work.place))

-- a role outside its row
not_permitted : (s : State) (call : Call) → Full (refused s NotPermitted)
not_permitted s call = refl

-- ---- writes of users and runners

-- A user's creation of a CronJob isn't answered with Empty, whether it is refused or made.
created_full : (s : State) (d : CronJobDraft) (n : ℕ) (a b : Bool)
    → Full (writes s event_reply (map_ok cron_added (if a then Err version_not_allowed else if b then Err AlreadyExists
    else Ok (new_cron s.store d n))))
created_full s d n true b = refl
created_full s d n false true = refl
created_full s d n false false = refl

-- For updated_full: an update of a CronJob that is there isn't answered with Empty.
updated_case : (s : State) (d : CronJobDraft) (cron : CronJob) (a : Bool)
    → Full (writes s event_reply (map_ok cron_modified (if a then Ok (updated_cron s.store d cron)
    else Err (Conflict cron.meta.version))))
updated_case s d cron true = refl
updated_case s d cron false = refl

-- A user's update of a CronJob isn't answered with Empty, whether one is there or not.
updated_full : (s : State) (d : CronJobDraft) (o : Option CronJob)
    → Full (writes s event_reply (map_ok cron_modified (cron_updated_from s.store d o)))
updated_full s d None = refl
updated_full s d (Some cron) = updated_case s d cron _

-- A user's deletion of a CronJob isn't answered with Empty, whether one is there or not.
deleted_full : (s : State) (k : Place) (o : Option CronJob)
    → Full (writes s version_reply (map_ok cron_gone (cron_deleted_from s.store o)))
deleted_full s k None = refl
deleted_full s k (Some cron) = refl

-- A user's creation of a Job isn't answered with Empty, whether it is refused or made.
job_full : (s : State) (d : JobDraft) (n : ℕ) (a b c : Bool)
    → Full (writes s event_reply (map_ok job_added (if a then Err NotPermitted else if b then Err version_not_allowed
    else if c then Err AlreadyExists else Ok (new_job s.store d n))))
job_full s d n true b c = refl
job_full s d n false true c = refl
job_full s d n false false true = refl
job_full s d n false false false = refl

-- For changed_full: an update of a Job that is there isn't answered with Empty.
changed_case : (s : State) (d : JobDraft) (job : Job) (a b : Bool)
    → Full (writes s event_reply (map_ok job_modified
    (if a then (if b then Ok (updated_job s.store d job) else Err NotPermitted)
    else Err (Conflict job.meta.version))))
changed_case s d job true true = refl
changed_case s d job true false = refl
changed_case s d job false b = refl

-- A user's update of a Job isn't answered with Empty, whether one is there or not.
changed_full : (s : State) (d : JobDraft) (o : Option Job)
    → Full (writes s event_reply (map_ok job_modified (job_updated_from s.store d o)))
changed_full s d None = refl
changed_full s d (Some job) = changed_case s d job _ _

-- A user's deletion of a Job isn't answered with Empty, whether one is there or not.
gone_full : (s : State) (k : Place) (o : Option Job)
    → Full (writes s version_reply (map_ok job_gone (job_deleted_from s.store None o)))
gone_full s k None = refl
gone_full s k (Some job) = refl

-- For ended_full: a runner's end of a Job that is there isn't answered with Empty.
ended_case : (s : State) (k : Place) (u : ℕ) (x : Outcome) (n : ℕ) (job : Job) (a b : Bool)
    → Full (writes s event_reply (map_ok job_modified
    (if a then (if b then Err AlreadyFinished else Ok (ended_job s.store x n job)) else Err NotFound)))
ended_case s k u x n job true true = refl
ended_case s k u x n job true false = refl
ended_case s k u x n job false b = refl

-- A runner's end of a Job isn't answered with Empty, whether one is there or not.
ended_full : (s : State) (k : Place) (u : ℕ) (x : Outcome) (n : ℕ) (o : Option Job)
    → Full (writes s event_reply (map_ok job_modified (job_ended_from s.store u x n o)))
ended_full s k u x n None = refl
ended_full s k u x n (Some job) = ended_case s k u x n job _ _

-- ---- readings

-- To get a CronJob isn't answered with Empty, whether one is there or not.
found_cron_full : (s : State) (k : Place) (o : Option CronJob) → Full (found_cron s o)
found_cron_full s k None = refl
found_cron_full s k (Some cron) = refl

-- To get a Job isn't answered with Empty, whether one is there or not.
found_job_full : (s : State) (k : Place) (o : Option Job) → Full (found_job s o)
found_job_full s k None = refl
found_job_full s k (Some job) = refl

-- To watch isn't answered with Empty, whether the events are kept or gone.
told_full : (s : State) (v max oldest : ℕ) (es : List Event) (a : Bool) →
    Full (told_events s (if a then Err (Expired oldest) else Ok es))
told_full s v max oldest es true = refl
told_full s v max oldest es false = refl

-- No reading is answered with Empty, nor is a call that the role may not make.
reader_full : (s : State) (call : Call) → Full (by_reader s call)
reader_full s (Of.GetCron k) = found_cron_full s k (map.get s.store.crons k)
reader_full s (Of.GetJob k) = found_job_full s k (map.get s.store.jobs k)
reader_full s Of.ListCrons = refl
reader_full s Of.ListJobs = refl
reader_full s (Of.Watch v max) = told_full s v max _ _ _
reader_full s call = not_permitted s call

-- No call of a user is answered with Empty.
user_full : (s : State) (call : Call) → Full (by_user s call)
user_full s (Of.CreateCron d n) = created_full s d n _ _
user_full s (Of.UpdateCron d) = updated_full s d (map.get s.store.crons d.key)
user_full s (Of.DeleteCron k) = deleted_full s k (map.get s.store.crons k)
user_full s (Of.CreateJob d n) = job_full s d n _ _ _
user_full s (Of.UpdateJob d) = changed_full s d (map.get s.store.jobs d.key)
user_full s (Of.DeleteJob k) = gone_full s k (map.get s.store.jobs k)
user_full s call = reader_full s call

-- No call of a runner is answered with Empty.
runner_full : (s : State) (call : Call) → Full (by_runner s call)
runner_full s (Of.EndJob k u x n) = ended_full s k u x n (map.get s.store.jobs k)
runner_full s call = reader_full s call

-- No call of an informer is answered with Empty.
informer_full : (s : State) (call : Call) → Full (by_informer s call)
informer_full s (Of.Add k) = refl
informer_full s (Of.Tick m) = refl
informer_full s Of.Shut = refl
informer_full s (Of.Feed m) = refl
informer_full s call = reader_full s call

-- ---- all calls

-- Where the answer is Empty, the call is a Take that found nothing.
abbrev Finds : State → Call → Handled → Type 0
Finds s call m = is_empty m.answer ≡ true → FindsNothing s call

-- Finds holds of a call whose answer isn't Empty, as it says nothing of it.
full_finds : (s : State) (call : Call) (m : Handled) → Full m → Finds s call m
full_finds s call m f e = absurd (cc (f, e))

-- For take_finds: a worker without a key is answered with Empty only where it found nothing.
first_finds : (s : State) (w : ℕ) (line : List Place) → s.queue.row.line ≡ line → (b : Bool) → s.queue.shut ≡ b
    → Finds s Of.Take (take_first s w (first line))
first_finds s w (k ∷ line) l b e f = absurd (cc f)
first_finds s w [] l true e f = absurd (cc (ap (λ x. is_empty (Err (if x then ShutDown else Empty))) e, f))
first_finds s w [] l false e f = record { call_is = refl; line = l; open_still = e }

-- A Take is answered with Empty only where it found nothing, whether the worker holds a key or not.
take_finds : (s : State) (w : ℕ) (o : Option InFlight) → Finds s Of.Take (take_by s w o)
take_finds s w None f = first_finds s w s.queue.row.line refl s.queue.shut refl f
take_finds s w (Some sync) f = absurd (cc f)

-- A call of a worker that is answered with Empty is a Take that found nothing.
worker_finds : (s : State) (w : ℕ) (call : Call) → Finds s call (by_worker s w call)
unfolding take see_cron see_jobs see_active claim drop_next make_next set_status finish
worker_finds s w Of.Take f = take_finds s w (sync_of s w) f
worker_finds s w Of.SeeCron f = full_finds s Of.SeeCron (see_cron s w)
    (sync_full s Of.SeeCron (see_cron_in s w) (sync_of s w) refl (cron_full s w)) f
worker_finds s w Of.SeeJobs f = full_finds s Of.SeeJobs (see_jobs s w)
    (sync_full s Of.SeeJobs (see_jobs_in s w) (sync_of s w) refl (jobs_full s w)) f
worker_finds s w Of.SeeActive f = full_finds s Of.SeeActive (see_active s w)
    (sync_full s Of.SeeActive (see_active_in s w) (sync_of s w) refl (active_full s w)) f
worker_finds s w (Of.Claim p) f = full_finds s (Of.Claim p) (claim s w p)
    (sync_full s (Of.Claim p) (claim_in s w p) (sync_of s w) refl (claim_full s w p)) f
worker_finds s w Of.DropNext f = full_finds s Of.DropNext (drop_next s w)
    (sync_full s Of.DropNext (drop_in s w) (sync_of s w) refl (drop_full s w)) f
worker_finds s w Of.MakeNext f = full_finds s Of.MakeNext (make_next s w)
    (sync_full s Of.MakeNext (make_in s w) (sync_of s w) refl (make_full s w)) f
worker_finds s w Of.SetStatus f = full_finds s Of.SetStatus (set_status s w)
    (sync_full s Of.SetStatus (status_in s w) (sync_of s w) refl (status_full s w)) f
worker_finds s w (Of.Finish end rs) f = full_finds s (Of.Finish end rs) (finish s w end)
    (sync_full s (Of.Finish end rs) (finish_in s w end) (sync_of s w) refl (finish_full s w end rs)) f
worker_finds s w call f = absurd (cc f)

-- A call of any role that is answered with Empty is a Take that found nothing.
role_finds : (s : State) (r : Role) (w : ℕ) (call : Call) → Finds s call (by_role s r w call)
role_finds s Worker w call f = worker_finds s w call f
role_finds s Informer w call f = full_finds s call (by_informer s call) (informer_full s call) f
role_finds s User w call f = full_finds s call (by_user s call) (user_full s call) f
role_finds s Runner w call f = full_finds s call (by_runner s call) (runner_full s call) f

-- For unentered: what is answered with Empty is a Take at an empty line of a queue not yet shut.
pub finds : (s : State) (caller : Caller) (call : Call) → (step_of s caller call).answer ≡ Err Empty
    → FindsNothing s call
unfolding step_of
finds s caller call e = role_finds s caller.role caller.number call (ap is_empty e)

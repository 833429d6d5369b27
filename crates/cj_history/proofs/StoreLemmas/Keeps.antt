-- What each call does to the store, to what the watch keeps, and to the mirror: the write that its
-- entry says.
use Rattle.std.proofs.Common.{◌≡◌, ℕ, Bool, true, false, List, refl, sym, ap, ◌∙◌}
use Rattle.std.specs.Prelude.{Option, Some, None, option_map, is_some, ◌==◌, Result, Ok, Err, if◌then◌else◌}
use Rattle.std.specs.FinMap as map
use Rattle.cj_base.specs.declared.refusal.Refusal.{Refusal}
use Rattle.cj_base.specs.declared.refusal.Refusal.TheVariants.{NotPermitted, NotFound, Conflict, AlreadyExists, AlreadyFinished, Stale}
use Rattle.cj_types.specs.Keys.{Place}
use Rattle.cj_types.specs.Current.{is_current}
use Rattle.cj_types.specs.declared.cron.CronJob.{CronJob}
use Rattle.cj_types.specs.declared.cron.CronJobDraft.{CronJobDraft}
use Rattle.cj_types.specs.declared.cron.CronStatus.{CronStatus}
use Rattle.cj_types.specs.declared.job.Job.{Job}
use Rattle.cj_types.specs.declared.job.JobDraft.{JobDraft}
use Rattle.cj_types.specs.declared.policy.Outcome.{Outcome}
use Rattle.cj_types.specs.declared.policy.Reason.{Reason}
use Rattle.cj_types.specs.declared.event.Event.{Event}
use Rattle.cj_types.specs.Events.{version_of}
use Rattle.cj_store.specs.Content.{Content}
use Rattle.cj_store.specs.Equal.{same_owners}
use Rattle.cj_store.specs.Metadata.{version_not_allowed}
use Rattle.cj_store.specs.Change.{after, map_ok, cron_added, cron_modified, cron_gone, job_added, job_modified, job_gone}
use Rattle.cj_store.specs.Crons.{new_cron, updated_cron, cron_updated_from, cron_deleted_from, status_set_from, with_status, last_cron}
use Rattle.cj_store.specs.Jobs.{new_job, updated_job, job_updated_from, job_deleted_from, is_asked, last_job, ended_job, job_ended_from}
use Rattle.cj_watch.specs.Log.{Log, pushed, since}
use Rattle.cj_watch.specs.mirror.Lagging.{Mirror}
use Rattle.cj_queue.specs.Queue.{first}
use Rattle.cj_decide.specs.Decision.{Planned}
use Rattle.cj_decide.specs.declared.start.Claim.{Claim}
use Rattle.cj_calls.specs.declared.caller.Caller.{Caller}
use Rattle.cj_calls.specs.declared.caller.Role.{Role}
use Rattle.cj_calls.specs.declared.caller.Role.TheVariants.{User, Runner, Informer, Worker}
use Rattle.cj_calls.specs.declared.call.Call.{Call}
use Rattle.cj_calls.specs.declared.call.Call.TheVariants as Of
use Rattle.cj_calls.specs.declared.end.End.{End}
use Rattle.cj_calls.specs.declared.end.End.TheVariants.{Well, Again}
use Rattle.cj_calls.specs.declared.reply.Reply.{Reply}
use Rattle.cj_calls.specs.declared.reply.Reply.TheVariants as Say
use Rattle.cj_state.specs.phases.Inputs.{rests_on}
use Rattle.cj_state.specs.phases.Steps.{Step, drops, makes, sets, step_at, as_drop, as_make, as_status, is_over}
use Rattle.cj_state.specs.declared.phases.sync.Work.{Work}
use Rattle.cj_state.specs.declared.phases.sync.Phase.{Phase}
use Rattle.cj_state.specs.declared.phases.sync.Phase.TheVariants.{Held, Seen, Listed, Checked, Works}
use Rattle.cj_state.specs.declared.phases.sync.InFlight.{InFlight}
use Rattle.cj_state.specs.declared.state.State.{State}
use Rattle.cj_state.specs.Readings.{fed_up}
use Rattle.cj_state.specs.WorkerCalls.{Handled, refused, by_sync, sync_of, take, take_by, take_first, see_cron, see_cron_in, see_jobs, see_jobs_in, see_active, see_active_in, claim, claim_in, claim_where, claims, wrote, works, drop_next, drop_in, drop_where, drops_it, next_sync, make_next, make_in, make_where, steps_on, event_reply, version_reply, set_status, status_in, status_where, sets_it, finish, finish_in, finish_work}
use Rattle.cj_state.specs.Step.{writes, found_cron, found_job, told_events, step_of, by_role, by_reader, by_user, by_runner, by_worker, by_informer}
use Rattle.cj_history.specs.store.Written.{current_cron, current_job, cron_updated, status_set, cron_deleted, job_created, job_updated, job_ended, job_deleted}
use Rattle.cj_history.specs.store.Writes.{claimed, stepped, entry_written}
use Rattle.cj_history.specs.store.Store.{IsStore}
use Rattle.cj_history.proofs.StoreLemmas.Alike.{new_cron_is, new_job_is, updated_cron_is, status_is, last_cron_is, updated_job_is, ended_job_is, last_job_is}

abbrev pub stored : Option Event → Content → Content
stored None s = s
stored (Some w) s = after s w

abbrev pub logged : Option Event → Log → Log
logged None l = l
logged (Some w) l = pushed l w

-- only an accepted Feed changes the mirror
abbrev pub fed_by : State → Call → Result Reply Refusal → Mirror
fed_by s (Of.Feed max) (Ok r) = fed_up s max
fed_by s call answer = s.mirror

pub record Keeps (ws : List Event) (x : Option InFlight) (call : Call) (s : State) (m : Handled) : Type 0 where
  pub store : m.state.store ≡ stored (entry_written ws x call m.answer) s.store
  pub watch : m.state.watch ≡ logged (entry_written ws x call m.answer) s.watch
  pub mirror : m.state.mirror ≡ fed_by s call m.answer

-- ws are the writes before the call, x is its caller's sync, and s is the state before it.
module _ {ws : List Event} {x : Option InFlight} {call : Call} {s : State} where
  -- nothing is written
  nothing_is : (m : Handled) → entry_written ws x call m.answer ≡ None → m.state.store ≡ s.store
      → m.state.watch ≡ s.watch
      → m.state.mirror ≡ fed_by s call m.answer → Keeps ws x call s m
  nothing_is m e f g h = record {
    store = f ∙ ap (λ o. stored o s.store) (sym e);
    watch = g ∙ ap (λ o. logged o s.watch) (sym e);
    mirror = h;
  }

  -- this is written
  one_is : (w : Event) (m : Handled) → entry_written ws x call m.answer ≡ Some w → m.state.store ≡ after s.store w
      → m.state.watch ≡ pushed s.watch w → m.state.mirror ≡ fed_by s call m.answer → Keeps ws x call s m
  one_is w m e f g h = record {
    store = f ∙ ap (λ o. stored o s.store) (sym e);
    watch = g ∙ ap (λ o. logged o s.watch) (sym e);
    mirror = h;
  }

  -- a refusal
  no : (e : Refusal) → Keeps ws x call s (refused s e)
  no e = nothing_is (refused s e) refl refl refl (still call)
    where
      still : (c : Call) → s.mirror ≡ fed_by s c (Err e)
      still (Of.Feed max) = refl
      still c = refl

-- ---- users and runners

-- The store of the state s has what the writes ws left; x is the caller's sync.
module _ (ws : List Event) (x : Option InFlight) (s : State) (is : IsStore ws s.store) where
  -- the call does to the store, the watch and the mirror what its entry says
  abbrev Fine : Call → Handled → Type 0
  Fine call m = Keeps ws x call s m

  -- A CreateCron does as its entry says, be a version given (a), the name taken (b) or not.
  create_cron_case : (d : CronJobDraft) (now : ℕ) (a b : Bool)
      → Fine (Of.CreateCron d now) (writes s event_reply
      (map_ok cron_added (if a then Err version_not_allowed else if b then Err AlreadyExists
      else Ok (new_cron s.store d now))))
  create_cron_case d now true b = no version_not_allowed
  create_cron_case d now false true = no AlreadyExists
  create_cron_case d now false false = one_is (cron_added (new_cron s.store d now)) _
      (ap (λ w. Some w) (new_cron_is ws s.store is d now)) refl refl refl

  -- A CreateJob that passed its first tests does as its entry says, be the name taken or free.
  made_case : (say : Event → Reply) (d : JobDraft) (now : ℕ) (b : Bool) →
      Fine (Of.CreateJob d now) (writes s say (map_ok job_added (if b then Err AlreadyExists
      else Ok (new_job s.store d now))))
  made_case say d now true = no AlreadyExists
  made_case say d now false = one_is (job_added (new_job s.store d now)) _
      (ap (λ w. Some w) (new_job_is ws s.store is d now)) refl refl refl

  -- A CreateJob does as its entry says, by its controller (a), its version (b), its name (c).
  create_job_case : (d : JobDraft) (now : ℕ) (a b c : Bool)
      → Fine (Of.CreateJob d now) (writes s event_reply
      (map_ok job_added (if a then Err NotPermitted else if b then Err version_not_allowed
      else if c then Err AlreadyExists else Ok (new_job s.store d now))))
  create_job_case d now true b c = no NotPermitted
  create_job_case d now false true c = no version_not_allowed
  create_job_case d now false false c = made_case event_reply d now c

  -- An UpdateCron of a CronJob does as its entry says, be the draft current or not.
  update_cron_case : (d : CronJobDraft) (c : CronJob) (b : Bool) → current_cron ws d.key ≡ Some c
      → Fine (Of.UpdateCron d) (writes s event_reply
      (map_ok cron_modified (if b then Ok (updated_cron s.store d c) else Err (Conflict c.meta.version))))
  update_cron_case d c true e = one_is (cron_modified (updated_cron s.store d c)) _
      (ap (option_map (cron_updated ws d)) e ∙ ap (λ w. Some w) (updated_cron_is ws s.store is d c)) refl refl refl
  update_cron_case d c false e = no (Conflict c.meta.version)

  -- An UpdateCron does as its entry says, whether a CronJob stands at the key or none.
  update_cron : (d : CronJobDraft) (o : Option CronJob) → current_cron ws d.key ≡ o
      → Fine (Of.UpdateCron d) (writes s event_reply (map_ok cron_modified (cron_updated_from s.store d o)))
  update_cron d None e = no NotFound
  update_cron d (Some c) e = update_cron_case d c (is_current d.meta c.meta) e

  -- A DeleteCron does as its entry says, whether a CronJob stands at the key or none.
  delete_cron : (k : Place) (o : Option CronJob) → current_cron ws k ≡ o
      → Fine (Of.DeleteCron k) (writes s version_reply (map_ok cron_gone (cron_deleted_from s.store o)))
  delete_cron k None e = no NotFound
  delete_cron k (Some c) e = one_is (cron_gone (last_cron s.store c)) _ (ap (option_map (cron_deleted ws)) e
      ∙ ap (λ w. Some w) (last_cron_is ws s.store is c)) refl refl refl

  -- An UpdateJob of a Job does as its entry says, be it current (a), of the same owners (b) or not.
  update_job_case : (d : JobDraft) (j : Job) (a b : Bool) → current_job ws d.key ≡ Some j
      → Fine (Of.UpdateJob d) (writes s event_reply
      (map_ok job_modified (if a then (if b then Ok (updated_job s.store d j) else Err NotPermitted)
      else Err (Conflict j.meta.version))))
  update_job_case d j true true e = one_is (job_modified (updated_job s.store d j)) _
      (ap (option_map (job_updated ws d)) e ∙ ap (λ w. Some w) (updated_job_is ws s.store is d j)) refl refl refl
  update_job_case d j true false e = no NotPermitted
  update_job_case d j false b e = no (Conflict j.meta.version)

  -- An UpdateJob does as its entry says, whether a Job stands at the key or none.
  update_job : (d : JobDraft) (o : Option Job) → current_job ws d.key ≡ o
      → Fine (Of.UpdateJob d) (writes s event_reply (map_ok job_modified (job_updated_from s.store d o)))
  update_job d None e = no NotFound
  update_job d (Some j) e = update_job_case d j (is_current d.meta j.meta) (same_owners d.owners j.owners) e

  -- A DeleteJob does as its entry says, whether a Job stands at the key or none.
  delete_job : (k : Place) (o : Option Job) → current_job ws k ≡ o
      → Fine (Of.DeleteJob k) (writes s version_reply (map_ok job_gone (job_deleted_from s.store None o)))
  delete_job k None e = no NotFound
  delete_job k (Some j) e = one_is (job_gone (last_job s.store j)) _ (ap (option_map (job_deleted ws)) e
      ∙ ap (λ w. Some w) (last_job_is ws s.store is j)) refl refl refl

  -- An EndJob of a Job does as its entry says, by its uid (a) and whether it has ended (b).
  end_job_case : (k : Place) (u : ℕ) (outcome : Outcome) (now : ℕ) (j : Job) (a b : Bool) → current_job ws k ≡ Some j
      → Fine (Of.EndJob k u outcome now) (writes s event_reply
      (map_ok job_modified (if a then (if b then Err AlreadyFinished else Ok (ended_job s.store outcome now j))
      else Err NotFound)))
  end_job_case k u outcome now j true true e = no AlreadyFinished
  end_job_case k u outcome now j true false e = one_is (job_modified (ended_job s.store outcome now j)) _
      (ap (option_map (job_ended ws outcome now)) e ∙ ap (λ w. Some w) (ended_job_is ws s.store is outcome now j)) refl
      refl refl
  end_job_case k u outcome now j false b e = no NotFound

  -- An EndJob does as its entry says, whether a Job stands at the key or none.
  end_job : (k : Place) (u : ℕ) (outcome : Outcome) (now : ℕ) (o : Option Job) → current_job ws k ≡ o
      → Fine (Of.EndJob k u outcome now) (writes s event_reply
      (map_ok job_modified (job_ended_from s.store u outcome now o)))
  end_job k u outcome now None e = no NotFound
  end_job k u outcome now (Some j) e = end_job_case k u outcome now j (j.meta.uid == u) (is_some j.outcome) e

  -- ---- readings

  -- A GetCron changes nothing, whether it finds a CronJob or none.
  found_cron_is : (k : Place) (o : Option CronJob) → Fine (Of.GetCron k) (found_cron s o)
  found_cron_is k None = no NotFound
  found_cron_is k (Some c) = nothing_is _ refl refl refl refl

  -- A GetJob changes nothing, whether it finds a Job or none.
  found_job_is : (k : Place) (o : Option Job) → Fine (Of.GetJob k) (found_job s o)
  found_job_is k None = no NotFound
  found_job_is k (Some j) = nothing_is _ refl refl refl refl

  -- A Watch changes nothing, whether it is told events or refused.
  told_is : (v max : ℕ) (r : Result (List Event) Refusal) → Fine (Of.Watch v max) (told_events s r)
  told_is v max (Ok es) = nothing_is _ refl refl refl refl
  told_is v max (Err e) = no e

  -- A reading changes nothing, and neither does a call that is no reading and not permitted.
  reader_is : (call : Call) → Fine call (by_reader s call)
  reader_is (Of.GetCron k) = found_cron_is k (map.get s.store.crons k)
  reader_is (Of.GetJob k) = found_job_is k (map.get s.store.jobs k)
  reader_is Of.ListCrons = nothing_is _ refl refl refl refl
  reader_is Of.ListJobs = nothing_is _ refl refl refl refl
  reader_is (Of.Watch v max) = told_is v max (since s.watch v max)
  reader_is call = no NotPermitted

  -- A user's call does as its entry says.
  user_is : (call : Call) → Fine call (by_user s call)
  user_is (Of.CreateCron d n) = create_cron_case d n _ _
  user_is (Of.UpdateCron d) = update_cron d (map.get s.store.crons d.key) (sym (is.crons d.key))
  user_is (Of.DeleteCron k) = delete_cron k (map.get s.store.crons k) (sym (is.crons k))
  user_is (Of.CreateJob d n) = create_job_case d n _ _ _
  user_is (Of.UpdateJob d) = update_job d (map.get s.store.jobs d.key) (sym (is.jobs d.key))
  user_is (Of.DeleteJob k) = delete_job k (map.get s.store.jobs k) (sym (is.jobs k))
  user_is call = reader_is call

  -- A runner's call does as its entry says: of its calls only an EndJob writes.
  runner_is : (call : Call) → Fine call (by_runner s call)
  runner_is (Of.EndJob k u o n) = end_job k u o n (map.get s.store.jobs k) (sym (is.jobs k))
  runner_is call = reader_is call

  -- An informer's call does as its entry says: it writes nothing, and a Feed feeds the mirror.
  informer_is : (call : Call) → Fine call (by_informer s call)
  informer_is (Of.Add k) = nothing_is _ refl refl refl refl
  informer_is (Of.Tick now) = nothing_is _ refl refl refl refl
  informer_is Of.Shut = nothing_is _ refl refl refl refl
  informer_is (Of.Feed max) = nothing_is _ refl refl refl refl
  informer_is call = reader_is call

-- ---- workers

-- The store of the state s has what the writes ws left; w is a worker.
module _ (ws : List Event) (s : State) (w : ℕ) (is : IsStore ws s.store) where
  -- A Take without a sync writes nothing, whether the line has a first key or none.
  take_first_is : (x : Option InFlight) (o : Option Place) → Keeps ws x Of.Take s (take_first s w o)
  take_first_is x (Some k) = nothing_is _ refl refl refl refl
  take_first_is x None = no _

  -- A Take writes nothing, whether the worker has a sync or none.
  take_is : (x : Option InFlight) → Keeps ws x Of.Take s (take_by s w x)
  take_is None = take_first_is None (first s.queue.row.line)
  take_is (Some y) = no _

  -- If f does as the entry says at each key and phase, so does a call by a sync or by none.
  sync_is : (call : Call) (f : Place → Phase → Handled) (x : Option InFlight)
      → ((k : Place) (p : Phase) → Keeps ws (Some (record { key = k; phase = p })) call s (f k p))
      → Keeps ws x call s (by_sync s f x)
  sync_is call f None h = no _
  sync_is call f (Some y) h = h y.key y.phase

  -- k is the key that the worker holds.
  module _ (k : Place) where
    -- by a sync of the key in this phase the call does what its entry says
    abbrev At : Phase → Call → Handled → Type 0
    At p call m = Keeps ws (Some (record { key = k; phase = p })) call s m

    -- A SeeCron writes nothing in any phase.
    cron_is : (p : Phase) → At p Of.SeeCron (see_cron_in s w k p)
    cron_is Held = nothing_is _ refl refl refl refl
    cron_is (Seen c) = no _
    cron_is (Listed c js) = no _
    cron_is (Checked c js ks) = no _
    cron_is (Works work) = no _

    -- A SeeJobs writes nothing in any phase.
    jobs_is : (p : Phase) → At p Of.SeeJobs (see_jobs_in s w k p)
    jobs_is Held = no _
    jobs_is (Seen c) = nothing_is _ refl refl refl refl
    jobs_is (Listed c js) = no _
    jobs_is (Checked c js ks) = no _
    jobs_is (Works work) = no _

    -- A SeeActive writes nothing in any phase.
    active_is : (p : Phase) → At p Of.SeeActive (see_active_in s w k p)
    active_is Held = no _
    active_is (Seen c) = no _
    active_is (Listed c js) = nothing_is _ refl refl refl refl
    active_is (Checked c js ks) = no _
    active_is (Works work) = no _

    -- a claim
    -- Where a CronJob stands, a claim does as its entry says, by its uid (a) and version (b).
    claim_case : (p : Phase) (plan : Planned) (c : Claim) (n : ℕ) (cron : CronJob) (a b : Bool)
        → plan.steps.claim ≡ Some c → current_cron ws k ≡ Some cron
        → At p (Of.Claim plan) (wrote s w k (λ e. Say.Claimed (Some (c.time, version_of e)))
        (λ e. works plan (version_of e) 0)
        (map_ok cron_modified (if a then (if b then Ok (with_status s.store c.status cron) else Err (Conflict n))
        else Err NotFound)))
    claim_case p plan c n cron true true e f =
        one_is (cron_modified (with_status s.store c.status cron)) _
        (ap (claimed ws (Some (record { key = k; phase = p }))) e ∙ ap (option_map (status_set ws c.status)) f
        ∙ ap (λ x. Some x) (status_is ws s.store is c.status cron)) refl refl refl
    claim_case p plan c n cron true false e f = no _
    claim_case p plan c n cron false b e f = no _

    -- A claim does as its entry says, whether a CronJob stands at the key or none.
    claim_from : (p : Phase) (plan : Planned) (c : Claim) (u v : ℕ) (o : Option CronJob) → plan.steps.claim ≡ Some c
        → current_cron ws k ≡ o
        → At p (Of.Claim plan) (wrote s w k (λ e. Say.Claimed (Some (c.time, version_of e)))
        (λ e. works plan (version_of e) 0) (map_ok cron_modified (status_set_from s.store u v c.status o)))
    claim_from p plan c u v None e f = no _
    claim_from p plan c u v (Some cron) e f = claim_case p plan c cron.meta.version cron (cron.meta.uid == u)
        (cron.meta.version == v) e f

    -- A claim does as its entry says, whether its plan is of a CronJob or of none.
    claims_is : (p : Phase) (plan : Planned) (c : Claim) (o : Option CronJob) → plan.steps.claim ≡ Some c
        → At p (Of.Claim plan) (claims s w k plan c o)
    claims_is p plan c None e = no _
    claims_is p plan c (Some cron) e = claim_from p plan c cron.meta.uid cron.meta.version (map.get s.store.crons k) e
        (sym (is.crons k))

    -- A Claim does as its entry says, whether its plan has a claim or none.
    claim_where_is : (p : Phase) (plan : Planned) (o : Option Claim) → plan.steps.claim ≡ o
        → At p (Of.Claim plan) (claim_where s w k plan o)
    claim_where_is p plan None e = nothing_is _ refl refl refl refl
    claim_where_is p plan (Some c) e = claims_is p plan c plan.cron e

    -- A Claim does as its entry says, whether its plan rests on the worker's answers or not.
    rests_is : (p : Phase) (plan : Planned) (b : Bool)
        → At p (Of.Claim plan) (if b then claim_where s w k plan plan.steps.claim else refused s Stale)
    rests_is p plan true = claim_where_is p plan plan.steps.claim refl
    rests_is p plan false = no _

    -- A Claim does as its entry says in each phase.
    claim_is : (plan : Planned) (p : Phase) → At p (Of.Claim plan) (claim_in s w plan k p)
    claim_is plan Held = no _
    claim_is plan (Seen c) = no _
    claim_is plan (Listed c js) = no _
    claim_is plan (Checked c js ks) = rests_is (Checked c js ks) plan (rests_on plan c js ks)
    claim_is plan (Works work) = no _

    -- a step of a plan
    module _ (work : Work) where
      -- by a sync of the key at this work the call does what its entry says
      abbrev On : Call → Handled → Type 0
      On call m = At (Works work) call m

      -- A drop of a Job that stands does as its entry says, be it the Job that is meant or not.
      drop_case : (name : Place) (u : Option ℕ) (j : Job) (b : Bool)
          → stepped ws k work.plan (step_at work.plan.steps work.place) ≡ Some (job_deleted ws j)
          → On Of.DropNext (drops_it s w (next_sync k work) name
          (map_ok job_gone (if b then Ok (last_job s.store j) else Err NotFound)))
      drop_case name u j true e = one_is (job_gone (last_job s.store j)) _
          (e ∙ ap (λ x. Some x) (last_job_is ws s.store is j)) refl refl refl
      drop_case name u j false e = nothing_is _ refl refl refl refl

      -- A drop does as its entry says, whether a Job stands at the name or none.
      drop_from : (name : Place) (u : Option ℕ) (o : Option Job)
          → stepped ws k work.plan (step_at work.plan.steps work.place) ≡ option_map (job_deleted ws) o
          → On Of.DropNext (drops_it s w (next_sync k work) name (map_ok job_gone (job_deleted_from s.store u o)))
      drop_from name u None e = nothing_is _ refl refl refl refl
      drop_from name u (Some j) e = drop_case name u j (is_asked u j.meta.uid) e

      -- A DropNext does as its entry says, whatever the next step is.
      drop_step : (o : Option Step) → step_at work.plan.steps work.place ≡ o
          → On Of.DropNext (drop_where s w k work (as_drop o))
      drop_step None e = no _
      drop_step (Some (drops r)) e =
          drop_from r.key (Some r.uid) (map.get s.store.jobs r.key) (ap (stepped ws k work.plan) e
          ∙ ap (option_map (job_deleted ws)) (sym (is.jobs r.key)))
      drop_step (Some (makes d)) e = no _
      drop_step (Some (sets status)) e = no _

      -- A step that makes a Job does as its entry says, be the name taken or free.
      make_case : (d : JobDraft) (b : Bool) → stepped ws k work.plan (step_at work.plan.steps work.place)
          ≡ Some (job_created ws d work.plan.at)
          → On Of.MakeNext (steps_on s w (next_sync k work) event_reply
          (map_ok job_added (if b then Err AlreadyExists else Ok (new_job s.store d work.plan.at))))
      make_case d true e = no _
      make_case d false e = one_is (job_added (new_job s.store d work.plan.at)) _
          (e ∙ ap (λ x. Some x) (new_job_is ws s.store is d work.plan.at)) refl refl refl

      -- A MakeNext does as its entry says, whatever the next step is.
      make_step : (o : Option Step) → step_at work.plan.steps work.place ≡ o
          → On Of.MakeNext (make_where s w k work (as_make o))
      make_step None e = no _
      make_step (Some (drops r)) e = no _
      make_step (Some (makes d)) e = make_case d _ (ap (stepped ws k work.plan) e)
      make_step (Some (sets status)) e = no _

      -- A step that sets a CronJob's status does as its entry says, by uid (a) and version (b).
      set_case : (status : CronStatus) (n : ℕ) (cron : CronJob) (a b : Bool)
          → stepped ws k work.plan (step_at work.plan.steps work.place) ≡ Some (status_set ws status cron)
          → On Of.SetStatus (steps_on s w (next_sync k work) version_reply
          (map_ok cron_modified (if a then (if b then Ok (with_status s.store status cron) else Err (Conflict n))
          else Err NotFound)))
      set_case status n cron true true e = one_is (cron_modified (with_status s.store status cron)) _
          (e ∙ ap (λ x. Some x) (status_is ws s.store is status cron)) refl refl refl
      set_case status n cron true false e = no _
      set_case status n cron false b e = no _

      -- A step that sets the status does as its entry says, if a CronJob stands there or none.
      set_from : (status : CronStatus) (u v : ℕ) (o : Option CronJob)
          → stepped ws k work.plan (step_at work.plan.steps work.place) ≡ option_map (status_set ws status) o
          → On Of.SetStatus (steps_on s w (next_sync k work) version_reply
          (map_ok cron_modified (status_set_from s.store u v status o)))
      set_from status u v None e = no _
      set_from status u v (Some cron) e = set_case status cron.meta.version cron (cron.meta.uid == u)
          (cron.meta.version == v) e

      -- A step that sets the status does as its entry says, if its plan is of a CronJob or none.
      sets_is : (status : CronStatus) (o : Option CronJob) → step_at work.plan.steps work.place ≡ Some (sets status)
          → On Of.SetStatus (sets_it s w k work status o)
      sets_is status None e = no _
      sets_is status (Some cron) e = set_from status cron.meta.uid work.version (map.get s.store.crons k)
          (ap (stepped ws k work.plan) e ∙ ap (option_map (status_set ws status)) (sym (is.crons k)))

      -- A SetStatus does as its entry says, whatever the next step is.
      set_step : (o : Option Step) → step_at work.plan.steps work.place ≡ o
          → On Of.SetStatus (status_where s w k work (as_status o))
      set_step None e = no _
      set_step (Some (drops r)) e = no _
      set_step (Some (makes d)) e = no _
      set_step (Some (sets status)) e = sets_is status work.plan.cron e

      -- A Finish in phase Works writes nothing, whether the steps are over or not.
      over_is : (end : End) (rs : List Reason) (b : Bool) → On (Of.Finish end rs) (finish_work s w k work b)
      over_is end rs true = nothing_is _ refl refl refl refl
      over_is end rs false = no _

    -- A DropNext does as its entry says in each phase.
    drop_is : (p : Phase) → At p Of.DropNext (drop_in s w k p)
    drop_is Held = no _
    drop_is (Seen c) = no _
    drop_is (Listed c js) = no _
    drop_is (Checked c js ks) = no _
    drop_is (Works work) = drop_step work (step_at work.plan.steps work.place) refl

    -- A MakeNext does as its entry says in each phase.
    make_is : (p : Phase) → At p Of.MakeNext (make_in s w k p)
    make_is Held = no _
    make_is (Seen c) = no _
    make_is (Listed c js) = no _
    make_is (Checked c js ks) = no _
    make_is (Works work) = make_step work (step_at work.plan.steps work.place) refl

    -- A SetStatus does as its entry says in each phase.
    status_set_is : (p : Phase) → At p Of.SetStatus (status_in s w k p)
    status_set_is Held = no _
    status_set_is (Seen c) = no _
    status_set_is (Listed c js) = no _
    status_set_is (Checked c js ks) = no _
    status_set_is (Works work) = set_step work (step_at work.plan.steps work.place) refl

    -- A Finish writes nothing in any phase, whether the sync ended well or is to come again.
    finish_is : (end : End) (rs : List Reason) (p : Phase) → At p (Of.Finish end rs) (finish_in s w end k p)
    finish_is (Again now) rs p = nothing_is _ refl refl refl refl
    finish_is Well rs Held = no _
    finish_is Well rs (Seen c) = no _
    finish_is Well rs (Listed c js) = no _
    finish_is Well rs (Checked c js ks) = no _
    finish_is Well rs (Works work) = over_is work Well rs (is_over (step_at work.plan.steps work.place))

  -- A worker's call does as its entry says.
  worker_is : (call : Call) → Keeps ws (sync_of s w) call s (by_worker s w call)
  unfolding take see_cron see_jobs see_active claim drop_next make_next set_status finish
  worker_is Of.Take = take_is (sync_of s w)
  worker_is Of.SeeCron = sync_is Of.SeeCron _ (sync_of s w) cron_is
  worker_is Of.SeeJobs = sync_is Of.SeeJobs _ (sync_of s w) jobs_is
  worker_is Of.SeeActive = sync_is Of.SeeActive _ (sync_of s w) active_is
  worker_is (Of.Claim p) = sync_is (Of.Claim p) _ (sync_of s w) (λ k. claim_is k p)
  worker_is Of.DropNext = sync_is Of.DropNext _ (sync_of s w) drop_is
  worker_is Of.MakeNext = sync_is Of.MakeNext _ (sync_of s w) make_is
  worker_is Of.SetStatus = sync_is Of.SetStatus _ (sync_of s w) status_set_is
  worker_is (Of.Finish end rs) = sync_is (Of.Finish end rs) _ (sync_of s w) (λ k. finish_is k end rs)
  worker_is call = no NotPermitted

-- A call of any role changes the store, the watch and the mirror as its entry says.
role_is : (ws : List Event) (s : State) (r : Role) (w : ℕ) (call : Call) → IsStore ws s.store
    → Keeps ws (sync_of s w) call s (by_role s r w call)
role_is ws s Worker w call is = worker_is ws s w is call
role_is ws s Informer w call is = informer_is ws (sync_of s w) s is call
role_is ws s User w call is = user_is ws (sync_of s w) s is call
role_is ws s Runner w call is = runner_is ws (sync_of s w) s is call

-- A step of the state changes the store and the watch by its entry's write, the mirror by a Feed.
pub keeps : (ws : List Event) (s : State) (caller : Caller) (call : Call) → IsStore ws s.store
    → Keeps ws (sync_of s caller.number) call s (step_of s caller call)
unfolding step_of
keeps ws s caller call is = role_is ws s caller.role caller.number call is

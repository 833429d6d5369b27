-- Each answer on the store is the one that the writes and the caller's sync give.
use Rattle.std.proofs.Common.{◌≡◌, ℕ, Bool, true, false, List, [], ◌∷◌, map as map_list, reverse, refl, sym, ap, subst, ◌∙◌}
use Rattle.std.specs.Prelude.{Option, Some, None, Result, Ok, Err, if◌then◌else◌}
use Rattle.std.specs.FinMap as map
use Rattle.cj_base.specs.declared.refusal.Refusal.{Refusal}
use Rattle.cj_base.specs.declared.refusal.Refusal.TheVariants.{Stale}
use Rattle.cj_types.specs.Keys.{Place, place}
use Rattle.cj_types.specs.Uids.{uid_text}
use Rattle.cj_types.specs.Events.{version_of}
use Rattle.cj_types.specs.declared.cron.CronJob.{CronJob}
use Rattle.cj_types.specs.declared.cron.CronStatus.{CronStatus}
use Rattle.cj_types.specs.declared.job.Job.{Job}
use Rattle.cj_types.specs.declared.event.Event.{Event}
use Rattle.cj_types.specs.declared.event.Event.TheVariants.{Added, Modified, Deleted}
use Rattle.cj_types.specs.declared.event.Object.TheVariants as Kind
use Rattle.cj_queue.specs.Parts.{key_eq}
use Rattle.cj_queue.proofs.Sets.{eq_true}
use Rattle.cj_table.specs.jobs.Owners.{is_job_of}
use Rattle.cj_watch.specs.mirror.Lagging.{Mirror}
use Rattle.cj_watch.specs.mirror.Laws.{next_fed}
use Rattle.cj_store.specs.Change.{map_ok, cron_modified, job_added, job_gone}
use Rattle.cj_store.specs.Crons.{status_set as sets_status}
use Rattle.cj_store.specs.Jobs.{job_made, job_deleted as deletes_job}
use Rattle.cj_watch.specs.Log.{since}
use Rattle.cj_watch.specs.Laws.{answer_in}
use Rattle.cj_decide.specs.Decision.{Planned}
use Rattle.cj_decide.specs.declared.start.Claim.{Claim}
use Rattle.cj_calls.specs.declared.caller.Caller.{Caller}
use Rattle.cj_calls.specs.declared.caller.Role.{Role}
use Rattle.cj_calls.specs.declared.caller.Role.TheVariants.{User, Runner, Informer, Worker}
use Rattle.cj_calls.specs.declared.call.Call.{Call}
use Rattle.cj_calls.specs.declared.call.Call.TheVariants as Of
use Rattle.cj_calls.specs.declared.reply.Reply.{Reply}
use Rattle.cj_calls.specs.declared.reply.Reply.TheVariants as Say
use Rattle.cj_calls.specs.Rows.{Told}
use Rattle.cj_state.specs.phases.Inputs.{rests_on}
use Rattle.cj_state.specs.phases.Steps.{Step, drops, makes, sets, step_at, as_drop, as_make, as_status}
use Rattle.cj_state.specs.declared.phases.sync.Work.{Work}
use Rattle.cj_state.specs.declared.phases.sync.Phase.{Phase}
use Rattle.cj_state.specs.declared.phases.sync.Phase.TheVariants.{Held, Seen, Listed, Checked, Works}
use Rattle.cj_state.specs.declared.phases.sync.InFlight.{InFlight}
use Rattle.cj_state.specs.declared.state.State.{State}
use Rattle.cj_state.specs.Readings.{if_mine, active_job, active_of, listed_of, fed_up}
use Rattle.cj_state.specs.WorkerCalls.{Handled, refused, by_sync, sync_of, see_cron, see_cron_in, see_jobs, see_jobs_in, see_active, see_active_in, claim, claim_in, claim_where, claims, wrote, works, drop_next, drop_in, drop_where, drops_it, next_sync, make_next, make_in, make_where, steps_on, event_reply, version_reply, set_status as set_status_next, status_in, status_where, sets_it}
use Rattle.cj_state.specs.Step.{writes as writes_it, found_cron, found_job, told_events, step_of, by_role, by_reader, by_user, by_runner, by_worker, by_informer}
use Rattle.cj_state.specs.Legal.{IsLegal, state_of}
use Rattle.cj_world_laws.proofs.LegalLemmas.HeldSyncs.{syncs_agree}
use Rattle.cj_history.specs.store.Written.{version, cron_left, job_left, current_cron, current_job}
use Rattle.cj_history.specs.store.Lists.{IsListing}
use Rattle.cj_history.specs.store.Mirrors.{fed, earliest, IsMirror}
use Rattle.cj_history.specs.store.Writes.{writes}
use Rattle.cj_history.specs.store.Answers.{Answer, Says, AnswerLaw, cron_found, job_found, active_now, actives_now, on_see_cron, on_see_active, on_claiming, on_plan, on_claim, SeesJobs, OnSeeJobs, dropped, on_drop_step, on_drop, on_make_step, on_make, on_setting, on_set, for_sync}
use Rattle.cj_history.specs.store.Store.{IsStore}
use Rattle.cj_history.proofs.StoreLemmas.Planned.{create_cron_same, update_cron_same, status_same, delete_cron_same, make_same, create_job_same, update_job_same, delete_job_same, end_same}
use Rattle.cj_history.proofs.StoreLemmas.Stores.{store_agrees}
use Rattle.cj_history.proofs.StoreLemmas.Numbered.{numbers_law}
use Rattle.cj_history.proofs.StoreLemmas.Followed.{Follows, followed, learnt, events_agree, mirror_agrees}
use Rattle.cj_history.proofs.StoreLemmas.Lists.{passed_listing, all_listing}

-- A call that writes is answered by what it wrote, or with its refusal.
writes_answer : (s : State) (say : Event → Reply) (r : Result Event Refusal) → (writes_it s say r).answer ≡ map_ok say r
writes_answer s say (Ok w) = refl
writes_answer s say (Err e) = refl

-- A GetCron is answered the CronJob that was found, or NotFound.
found_cron_answer : (s : State) (o : Option CronJob) → (found_cron s o).answer ≡ cron_found o
found_cron_answer s None = refl
found_cron_answer s (Some c) = refl

-- A GetJob is answered the Job that was found, or NotFound.
found_job_answer : (s : State) (o : Option Job) → (found_job s o).answer ≡ job_found o
found_job_answer s None = refl
found_job_answer s (Some j) = refl

-- A Watch is answered the events that it is told, or the refusal.
told_answer : (s : State) (r : Result (List Event) Refusal) → (told_events s r).answer ≡ map_ok (λ es. Say.Events es) r
told_answer s (Ok es) = refl
told_answer s (Err e) = refl

-- each object stands at its own key
abbrev IsKeyed : {X : Type 0} → (X → Place) → Place → Option X → Type 0
IsKeyed {X} key k o = (x : X) → o ≡ Some x → key x ≡ k

-- With an object put at its own key, what stands at a key still has that key.
put_keyed : {X : Type 0} (key : X → Place) (x : X) (k : Place) (b : Bool) (was : Option X) → key_eq (key x) k ≡ b
    → IsKeyed key k was → IsKeyed key k (if b then Some x else was)
put_keyed key x k true was t h y e = (let i : x ≡ y = cc in ap key (sym i)) ∙ eq_true (key x) k t
put_keyed key x k false was t h y e = h y e

-- With an object taken away, what stands at a key still has that key.
removal_keyed : {X : Type 0} (key : X → Place) (k : Place) (b : Bool) (was : Option X) → IsKeyed key k was
    → IsKeyed key k (if b then None else was)
removal_keyed key k true was h y e = absurd (cc e)
removal_keyed key k false was h y e = h y e

-- The CronJob that a write leaves at a key has that key, if the one before had it.
crons_keyed : (w : Event) (k : Place) (was : Option CronJob) → IsKeyed (λ (c : CronJob). c.key) k was
    → IsKeyed (λ (c : CronJob). c.key) k (cron_left w k was)
crons_keyed (Added (Kind.Cron x)) k was h = put_keyed (λ (c : CronJob). c.key) x k (key_eq x.key k) was refl h
crons_keyed (Modified (Kind.Cron x)) k was h = put_keyed (λ (c : CronJob). c.key) x k (key_eq x.key k) was refl h
crons_keyed (Deleted (Kind.Cron x)) k was h = removal_keyed (λ (c : CronJob). c.key) k (key_eq x.key k) was h
crons_keyed (Added (Kind.Job j)) k was h = h
crons_keyed (Modified (Kind.Job j)) k was h = h
crons_keyed (Deleted (Kind.Job j)) k was h = h

-- After any writes the current CronJob of a key has that key.
pub cron_keyed : (ws : List Event) (k : Place) → IsKeyed (λ (c : CronJob). c.key) k (current_cron ws k)
cron_keyed [] k c e = absurd (cc e)
cron_keyed (w ∷ ws) k c e = crons_keyed w k (current_cron ws k) (cron_keyed ws k) c e

-- The Job that a write leaves at a key has that key, if the one before had it.
jobs_keyed : (w : Event) (k : Place) (was : Option Job) → IsKeyed (λ (j : Job). j.key) k was
    → IsKeyed (λ (j : Job). j.key) k (job_left w k was)
jobs_keyed (Added (Kind.Job x)) k was h = put_keyed (λ (j : Job). j.key) x k (key_eq x.key k) was refl h
jobs_keyed (Modified (Kind.Job x)) k was h = put_keyed (λ (j : Job). j.key) x k (key_eq x.key k) was refl h
jobs_keyed (Deleted (Kind.Job x)) k was h = removal_keyed (λ (j : Job). j.key) k (key_eq x.key k) was h
jobs_keyed (Added (Kind.Cron c)) k was h = h
jobs_keyed (Modified (Kind.Cron c)) k was h = h
jobs_keyed (Deleted (Kind.Cron c)) k was h = h

-- After any writes the current Job of a key has that key.
pub job_keyed : (ws : List Event) (k : Place) → IsKeyed (λ (j : Job). j.key) k (current_job ws k)
job_keyed [] k j e = absurd (cc e)
job_keyed (w ∷ ws) k j e = jobs_keyed w k (current_job ws k) (job_keyed ws k) j e

-- what is known of the state after these writes, of which its listing knows `n`
pub record Knows (window n : ℕ) (ws : List Event) (s : State) : Type 0 where
  pub store : IsStore ws s.store
  pub events : (v max : ℕ) → since s.watch v max ≡ answer_in window (reverse ws) v max
  pub mirror : IsMirror n ws s.mirror
  pub feeds : (max : ℕ) → (fed_up s max).fed ≡ next_fed window (version ws) n max

-- The writes ws, of which the listing knows n, say what the state s has; o is the caller's sync.
module _ (window n : ℕ) (ws : List Event) (o : Option InFlight) (s : State) (f : Knows window n ws s) where
  -- A GetCron is answered the CronJob that the writes left at the key, or NotFound.
  get_cron_says : (k : Place) → (by_reader s (Of.GetCron k)).answer ≡ cron_found (current_cron ws k)
  get_cron_says k = found_cron_answer s (map.get s.store.crons k) ∙ ap cron_found (f.store.crons k)

  -- A GetJob is answered the Job that the writes left at the key, or NotFound.
  get_job_says : (k : Place) → (by_reader s (Of.GetJob k)).answer ≡ job_found (current_job ws k)
  get_job_says k = found_job_answer s (map.get s.store.jobs k) ∙ ap job_found (f.store.jobs k)

  -- A Watch is answered the writes after its version, or with its refusal.
  watch_says : (v max : ℕ) → (by_reader s (Of.Watch v max)).answer ≡ map_ok (λ es. Say.Events es)
      (answer_in window (reverse ws) v max)
  watch_says v max = told_answer s (since s.watch v max) ∙ ap (map_ok (λ (es : List Event). Say.Events es))
      (f.events v max)

  -- A ListCrons is answered the CronJobs that stand, in the order of keys, and the version.
  list_crons_says : (cs : List CronJob) × ((by_reader s Of.ListCrons).answer ≡ Ok (Say.Crons cs (version ws)))
      × IsListing (λ c. c.key) (current_cron ws) cs
  list_crons_says = (
    map.values s.store.crons,
    ap (λ v. Ok (Say.Crons (map.values s.store.crons) v)) f.store.version,
    all_listing (λ (c : CronJob). c.key) s.store.crons (current_cron ws) f.store.crons (cron_keyed ws),
  )

  -- A ListJobs is answered the Jobs that stand, in the order of keys, and the version.
  list_jobs_says : (js : List Job) × ((by_reader s Of.ListJobs).answer ≡ Ok (Say.Jobs js (version ws)))
      × IsListing (λ j. j.key) (current_job ws) js
  list_jobs_says = (
    map.values s.store.jobs,
    ap (λ v. Ok (Say.Jobs (map.values s.store.jobs) v)) f.store.version,
    all_listing (λ (j : Job). j.key) s.store.jobs (current_job ws) f.store.jobs (job_keyed ws),
  )

  -- A user's call is answered as the writes say.
  user_says : (call : Call) → Says window n ws o User call (by_user s call).answer
  user_says (Of.CreateCron d now) = writes_answer s event_reply _ ∙ ap (map_ok event_reply)
      (create_cron_same ws s.store f.store d now)
  user_says (Of.UpdateCron d) = writes_answer s event_reply _ ∙ ap (map_ok event_reply)
      (update_cron_same ws s.store f.store d)
  user_says (Of.DeleteCron k) = writes_answer s version_reply _ ∙ ap (map_ok version_reply)
      (delete_cron_same ws s.store f.store k)
  user_says (Of.CreateJob d now) = writes_answer s event_reply _ ∙ ap (map_ok event_reply)
      (create_job_same ws s.store f.store d now)
  user_says (Of.UpdateJob d) = writes_answer s event_reply _ ∙ ap (map_ok event_reply)
      (update_job_same ws s.store f.store d)
  user_says (Of.DeleteJob k) = writes_answer s version_reply _ ∙ ap (map_ok version_reply)
      (delete_job_same ws s.store f.store k None)
  user_says (Of.GetCron k) = get_cron_says k
  user_says (Of.GetJob k) = get_job_says k
  user_says Of.ListCrons = list_crons_says
  user_says Of.ListJobs = list_jobs_says
  user_says (Of.Watch v max) = watch_says v max
  user_says call = refl

  -- A runner's call is answered as the writes say.
  runner_says : (call : Call) → Says window n ws o Runner call (by_runner s call).answer
  runner_says (Of.EndJob k u outcome now) = writes_answer s event_reply _
      ∙ ap (map_ok event_reply) (end_same ws s.store f.store k u outcome now)
  runner_says (Of.GetCron k) = get_cron_says k
  runner_says (Of.GetJob k) = get_job_says k
  runner_says Of.ListCrons = list_crons_says
  runner_says Of.ListJobs = list_jobs_says
  runner_says (Of.Watch v max) = watch_says v max
  runner_says call = refl

  -- An informer's call is answered as the writes say, a Feed by what the listing knows of them.
  informer_says : (call : Call) → Says window n ws o Informer call (by_informer s call).answer
  informer_says (Of.Feed max) = ap (λ v. Ok (Say.Version v)) (f.feeds max)
  informer_says (Of.Add k) = tt
  informer_says (Of.Tick now) = tt
  informer_says Of.Shut = tt
  informer_says (Of.GetCron k) = get_cron_says k
  informer_says (Of.GetJob k) = get_job_says k
  informer_says Of.ListCrons = list_crons_says
  informer_says Of.ListJobs = list_jobs_says
  informer_says (Of.Watch v max) = watch_says v max
  informer_says call = refl

-- ---- workers

-- The store of the state s has what the writes ws left; w is a worker.
module _ (ws : List Event) (s : State) (w : ℕ) (is : IsStore ws s.store) where
  -- If f answers as g at each key and phase, a call by a sync or by none is answered as g says.
  sync_says : (f : Place → Phase → Handled) (g : Place → Phase → Answer) (o : Option InFlight)
      → ((k : Place) (p : Phase) → (f k p).answer ≡ g k p) → (by_sync s f o).answer ≡ for_sync g o
  sync_says f g None h = refl
  sync_says f g (Some y) h = h y.key y.phase

  -- The active Jobs of some names are the same by the store as by the writes.
  actives_same : (u ns : List ℕ) (names : List (List ℕ)) → map_list (active_job s.store u ns) names
      ≡ map_list (active_now ws u ns) names
  actives_same u ns [] = refl
  actives_same u ns (n ∷ names) =
      ap (λ (o : Option Job). if_mine u o ∷ map_list (active_job s.store u ns) names) (is.jobs (place ns n))
      ∙ ap (λ (os : List (Option Job)). active_now ws u ns n ∷ os) (actives_same u ns names)

  -- The active Jobs of a CronJob, or of none, are the same by the store as by the writes.
  active_same : (c : Option CronJob) → active_of s.store c ≡ actives_now ws c
  active_same None = refl
  active_same (Some c) = actives_same (uid_text c.meta.uid) c.key.namespace c.status.active

  -- k is the key that the worker holds.
  module _ (k : Place) where
    -- A SeeCron in phase Held is answered the key's CronJob by the writes, else OutOfPhase.
    cron_says : (p : Phase) → (see_cron_in s w k p).answer ≡ on_see_cron ws k p
    cron_says Held = ap (λ (o : Option CronJob). Ok (Say.SeenCron o)) (is.crons k)
    cron_says (Seen c) = refl
    cron_says (Listed c js) = refl
    cron_says (Checked c js ks) = refl
    cron_says (Works work) = refl

    -- A SeeActive in phase Listed is answered the active Jobs by the writes, else OutOfPhase.
    active_says : (p : Phase) → (see_active_in s w k p).answer ≡ on_see_active ws k p
    active_says Held = refl
    active_says (Seen c) = refl
    active_says (Listed c js) = ap (λ (js : List (Option Job)). Ok (Say.SeenActive js)) (active_same c)
    active_says (Checked c js ks) = refl
    active_says (Works work) = refl

    -- A write after which the worker comes to a phase is answered by its event or refusal.
    wrote_answer : (say : Event → Reply) (p : Event → Phase) (r : Result Event Refusal)
        → (wrote s w k say p r).answer ≡ map_ok say r
    wrote_answer say p (Ok e) = refl
    wrote_answer say p (Err e) = refl

    -- A claim is answered as the writes say of its CronJob; where its plan has none it is Stale.
    claiming_says : (p : Planned) (c : Claim) (o : Option CronJob) → (claims s w k p c o).answer ≡ on_claiming ws k c o
    claiming_says p c None = refl
    claiming_says p c (Some cron) =
        wrote_answer (λ e. Say.Claimed (Some (c.time, version_of e))) (λ e. works p (version_of e) 0)
        (map_ok cron_modified (sets_status s.store k cron.meta.uid cron.meta.version c.status))
        ∙ ap (map_ok (λ (e : Event). Say.Claimed (Some (c.time, version_of e))))
        (status_same ws s.store is k cron.meta.uid cron.meta.version c.status)

    -- A Claim is answered as the writes say, whether its plan has a claim or none.
    plan_says : (p : Planned) (o : Option Claim) → (claim_where s w k p o).answer ≡ on_plan ws k p o
    plan_says p None = refl
    plan_says p (Some c) = claiming_says p c p.cron

    -- A Claim is answered as the writes say if its plan rests on the worker's answers, else Stale.
    rests_says : (p : Planned) (b : Bool) → (if b then claim_where s w k p p.steps.claim else refused s Stale).answer
        ≡ (if b then on_plan ws k p p.steps.claim else Err Stale)
    rests_says p true = plan_says p p.steps.claim
    rests_says p false = refl

    -- A Claim in phase Checked is answered as the writes say, else OutOfPhase.
    claim_says : (p : Planned) (q : Phase) → (claim_in s w p k q).answer ≡ on_claim ws k p q
    claim_says p Held = refl
    claim_says p (Seen c) = refl
    claim_says p (Listed c js) = refl
    claim_says p (Checked c js ks) = rests_says p (rests_on p c js ks)
    claim_says p (Works work) = refl

    -- A write that is a step of a plan is answered by its event or refusal.
    on_answer : (y : InFlight) (say : Event → Reply) (r : Result Event Refusal)
        → (steps_on s w y say r).answer ≡ map_ok say r
    on_answer y say (Ok e) = refl
    on_answer y say (Err e) = refl

    -- A drop is answered what it deleted, or that there was nothing to delete.
    drops_answer : (y : InFlight) (name : Place) (r : Result Event Refusal) → (drops_it s w y name r).answer
        ≡ dropped name r
    drops_answer y name (Ok e) = refl
    drops_answer y name (Err e) = refl

    -- A DropNext is answered as the writes say if the next step is a drop, else OutOfPhase.
    drop_step_says : (work : Work) (o : Option Step) → (drop_where s w k work (as_drop o)).answer ≡ on_drop_step ws o
    drop_step_says work None = refl
    drop_step_says work (Some (drops r)) =
        drops_answer (next_sync k work) r.key (map_ok job_gone (deletes_job s.store r.key (Some r.uid)))
        ∙ ap (dropped r.key) (delete_job_same ws s.store is r.key (Some r.uid))
    drop_step_says work (Some (makes d)) = refl
    drop_step_says work (Some (sets status)) = refl

    -- A DropNext in phase Works is answered as the writes say, else OutOfPhase.
    drop_says : (p : Phase) → (drop_in s w k p).answer ≡ on_drop ws k p
    drop_says Held = refl
    drop_says (Seen c) = refl
    drop_says (Listed c js) = refl
    drop_says (Checked c js ks) = refl
    drop_says (Works work) = drop_step_says work (step_at work.plan.steps work.place)

    -- A MakeNext is answered as the writes say if the next step makes a Job, else OutOfPhase.
    make_step_says : (work : Work) (o : Option Step) → (make_where s w k work (as_make o)).answer
        ≡ on_make_step ws work.plan o
    make_step_says work None = refl
    make_step_says work (Some (drops r)) = refl
    make_step_says work (Some (makes d)) =
        on_answer (next_sync k work) event_reply (map_ok job_added (job_made s.store d work.plan.at))
        ∙ ap (map_ok event_reply) (make_same ws s.store is d work.plan.at)
    make_step_says work (Some (sets status)) = refl

    -- A MakeNext in phase Works is answered as the writes say, else OutOfPhase.
    make_says : (p : Phase) → (make_in s w k p).answer ≡ on_make ws k p
    make_says Held = refl
    make_says (Seen c) = refl
    make_says (Listed c js) = refl
    make_says (Checked c js ks) = refl
    make_says (Works work) = make_step_says work (step_at work.plan.steps work.place)

    -- A step that sets the status is answered as the writes say, be its plan of a CronJob or not.
    setting_says : (work : Work) (status : CronStatus) (o : Option CronJob)
        → (sets_it s w k work status o).answer ≡ on_setting ws k work (Some (sets status)) o
    setting_says work status None = refl
    setting_says work status (Some cron) =
        on_answer (next_sync k work) version_reply
        (map_ok cron_modified (sets_status s.store k cron.meta.uid work.version status))
        ∙ ap (map_ok version_reply) (status_same ws s.store is k cron.meta.uid work.version status)

    -- A SetStatus is answered as the writes say if the next step sets one, else OutOfPhase.
    set_step_says : (work : Work) (o : Option Step) → (status_where s w k work (as_status o)).answer
        ≡ on_setting ws k work o work.plan.cron
    set_step_says work None = refl
    set_step_says work (Some (drops r)) = refl
    set_step_says work (Some (makes d)) = refl
    set_step_says work (Some (sets status)) = setting_says work status work.plan.cron

    -- A SetStatus in phase Works is answered as the writes say, else OutOfPhase.
    set_says : (p : Phase) → (status_in s w k p).answer ≡ on_set ws k p
    set_says Held = refl
    set_says (Seen c) = refl
    set_says (Listed c js) = refl
    set_says (Checked c js ks) = refl
    set_says (Works work) = set_step_says work (step_at work.plan.steps work.place)

-- the Jobs of the key in the listing
module _ (n : ℕ) (ws : List Event) (s : State) (w : ℕ) (lists : IsMirror n ws s.mirror) where
  -- A SeeJobs in phase Seen is answered the listing's Jobs of the key, in others OutOfPhase.
  jobs_says : (k : Place) (p : Phase) → SeesJobs n ws k p (see_jobs_in s w k p).answer
  jobs_says k Held = refl
  jobs_says k (Seen c) = (
    listed_of s k,
    refl,
    passed_listing (λ (j : Job). j.key) (is_job_of k) s.mirror.jobs
        (current_job (earliest n ws)) lists.jobs (job_keyed (earliest n ws)),
  )
  jobs_says k (Listed c js) = refl
  jobs_says k (Checked c js ks) = refl
  jobs_says k (Works work) = refl

  -- A SeeJobs by a sync is answered as the sync's key and phase say, by none OutOfPhase.
  sync_lists : (o : Option InFlight) → OnSeeJobs n ws o (by_sync s (see_jobs_in s w) o).answer
  sync_lists None = refl
  sync_lists (Some y) = jobs_says y.key y.phase

-- A worker's call is answered as the writes, the listing and its sync say.
worker_says : (window n : ℕ) (ws : List Event) (s : State) (w : ℕ) → Knows window n ws s → (call : Call)
    → Says window n ws (sync_of s w) Worker call (by_worker s w call).answer
unfolding see_cron see_jobs see_active claim drop_next make_next set_status_next
worker_says window n ws s w f Of.SeeCron = sync_says ws s w f.store (see_cron_in s w) (on_see_cron ws) (sync_of s w)
    (cron_says ws s w f.store)
worker_says window n ws s w f Of.SeeJobs = sync_lists n ws s w f.mirror (sync_of s w)
worker_says window n ws s w f Of.SeeActive = sync_says ws s w f.store (see_active_in s w) (on_see_active ws)
    (sync_of s w) (active_says ws s w f.store)
worker_says window n ws s w f (Of.Claim p) = sync_says ws s w f.store (claim_in s w p) (λ k. on_claim ws k p)
    (sync_of s w) (λ k. claim_says ws s w f.store k p)
worker_says window n ws s w f Of.DropNext = sync_says ws s w f.store (drop_in s w) (on_drop ws) (sync_of s w)
    (drop_says ws s w f.store)
worker_says window n ws s w f Of.MakeNext = sync_says ws s w f.store (make_in s w) (on_make ws) (sync_of s w)
    (make_says ws s w f.store)
worker_says window n ws s w f Of.SetStatus = sync_says ws s w f.store (status_in s w) (on_set ws) (sync_of s w)
    (set_says ws s w f.store)
worker_says window n ws s w f Of.Take = tt
worker_says window n ws s w f (Of.Finish end rs) = tt
worker_says window n ws s w f call = refl

-- Whatever the caller's role, its call is answered as the writes and its sync say.
role_says : (window n : ℕ) (ws : List Event) (s : State) (role : Role) (w : ℕ) (call : Call) → Knows window n ws s
    → Says window n ws (sync_of s w) role call (by_role s role w call).answer
role_says window n ws s Worker w call f = worker_says window n ws s w f call
role_says window n ws s Informer w call f = informer_says window n ws (sync_of s w) s f call
role_says window n ws s User w call f = user_says window n ws (sync_of s w) s f call
role_says window n ws s Runner w call f = runner_says window n ws (sync_of s w) s f call

-- A step of a state that is known by the writes answers as they and the caller's sync say.
step_says : (window n : ℕ) (ws : List Event) (s : State) (caller : Caller) (call : Call) → Knows window n ws s
    → Says window n ws (sync_of s caller.number) caller.role call (step_of s caller call).answer
unfolding step_of
step_says window n ws s caller call f = role_says window n ws s caller.role caller.number call f

-- After a legal history the state's store, watch and mirror are known by the history's writes.
pub known : (window : ℕ) (h : List Told) → IsLegal window h → Knows window (fed window h) (writes h) (state_of window h)
known window h l =
    let is : IsStore (writes h) (state_of window h).store = store_agrees window h l in
    let f : Follows window (writes h) (fed window h) (state_of window h) = followed window h l in
    record {
      store = is;
      events = events_agree window h l;
      mirror = mirror_agrees window h l;
      feeds = λ max. ap (λ (m : Mirror). m.fed) (learnt window (writes h) (fed window h) (state_of window h) max
          (numbers_law h) is f);
    }

-- For answer_law: after a legal history a call is answered as its writes and the caller's sync say.
pub answers_agree : AnswerLaw
answers_agree window h caller call l =
    subst (λ (o : Option InFlight). Says window (fed window h) (writes h) o caller.role call
    (step_of (state_of window h) caller call).answer) (syncs_agree window h l caller.number)
    (step_says window (fed window h) (writes h) (state_of window h) caller call (known window h l))

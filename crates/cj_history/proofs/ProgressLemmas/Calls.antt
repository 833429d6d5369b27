-- What each call of a sync answers and leaves, where its worker has come so far.
use Rattle.std.proofs.Common.{◌≡◌, ◌≢◌, ℕ, ◌+◌, ◌==◌, Bool, true, false, List, Option, Some, None, is_some, refl, sym, ap, ◌∙◌, arith}
use Rattle.std.specs.Prelude.{Result, Ok, Err, if◌then◌else◌}
use Rattle.std.proofs.lemmas.Bool.Decides.{nat_tests}
use Rattle.std.specs.FinMap as map
use Rattle.cj_base.specs.declared.refusal.Refusal.{Refusal}
use Rattle.cj_base.specs.declared.refusal.Refusal.TheVariants.{NotFound, AlreadyExists, Conflict, Stale}
use Rattle.cj_types.specs.Keys.{Place}
use Rattle.cj_types.specs.declared.cron.CronJob.{CronJob}
use Rattle.cj_types.specs.declared.cron.CronStatus.{CronStatus}
use Rattle.cj_types.specs.declared.job.Job.{Job}
use Rattle.cj_types.specs.declared.job.JobDraft.{JobDraft}
use Rattle.cj_types.specs.declared.policy.Reason.{Reason}
use Rattle.cj_types.specs.declared.event.Event.{Event}
use Rattle.cj_types.specs.Events.{version_of}
use Rattle.cj_store.specs.Content.{Content}
use Rattle.cj_store.specs.Change.{after, map_ok, cron_modified, job_added, job_gone}
use Rattle.cj_store.specs.Crons.{with_status, status_set, status_set_from}
use Rattle.cj_store.specs.Jobs.{new_job, job_deleted, job_deleted_from, last_job}
use Rattle.cj_queue.specs.Queue.{first, taken, finished_ok}
use Rattle.cj_status.specs.declared.refs.JobRef.{JobRef}
use Rattle.cj_decide.specs.Decision.{Planned}
use Rattle.cj_decide.specs.declared.start.Claim.{Claim}
use Rattle.cj_calls.specs.declared.call.Call.TheVariants as Of
use Rattle.cj_calls.specs.declared.end.End.TheVariants.{Well}
use Rattle.cj_calls.specs.declared.reply.Reply.TheVariants as Say
use Rattle.cj_state.specs.phases.Inputs.{rests_on}
use Rattle.cj_state.specs.phases.Steps.{Step, drops, makes, sets, step_at, as_drop, as_make, as_status, is_over}
use Rattle.cj_state.specs.declared.phases.sync.Work.{Work}
use Rattle.cj_state.specs.declared.phases.sync.Phase.{Phase}
use Rattle.cj_state.specs.declared.phases.sync.Phase.TheVariants.{Held, Seen, Listed, Checked, Works}
use Rattle.cj_state.specs.declared.phases.sync.InFlight.{InFlight}
use Rattle.cj_state.specs.declared.state.State.{State}
use Rattle.cj_state.specs.Readings.{listed_of, active_of}
use Rattle.cj_state.specs.WorkerCalls.{Handled, handled, refused, sync_of, with_sync, written, by_sync, take, take_by, take_first, see_cron, see_cron_in, see_jobs, see_jobs_in, see_active, see_active_in, wrote, works, seen_version, claims, claim_where, claim_in, claim, next_sync, sits, steps_on, drops_it, drop_where, drop_in, drop_next, event_reply, make_where, make_in, make_next, version_reply, sets_it, status_where, status_in, set_status, leaves, next_ms, finish_work, finish_in, finish}
use Rattle.cj_state.specs.Step.{step_of}
use Rattle.cj_world_laws.specs.once.Once.{is_ok}
use Rattle.cj_world_laws.proofs.OnceLemmas.Maps.{sync_here}
use Rattle.cj_history.specs.progress.Undisturbed.{worker}

-- ---- tests

-- Equal numbers are equal by the test.
same_true : (a b : ℕ) → a ≡ b → (a == b) ≡ true
same_true a b e = grind (arith, nat_tests, e)

-- Numbers that are equal by the test are equal.
true_same : (a b : ℕ) → (a == b) ≡ true → a ≡ b
true_same a b e = grind (arith, nat_tests, e)

-- ---- the calls

-- the sync of a worker that holds the key, in a phase
abbrev pub in_flight : Place → Phase → InFlight
in_flight k p = record { key = k; phase = p }

-- s is the state before the call, w the worker, and k the key.
module _ (s : State) (w : ℕ) (k : Place) where
  -- A Take by one who holds no key is answered the first of the line.
  pub take_is : sync_of s w ≡ None → first s.queue.row.line ≡ Some k
      → step_of s (worker w) Of.Take ≡ handled (Ok (Say.Key k))
      (with_sync (record s { queue = taken s.queue }) w k Held)
  unfolding step_of take
  take_is e f = ap (λ (o : Option InFlight). take_by s w o) e ∙ ap (λ (o : Option Place). take_first s w o) f

  -- A SeeCron by one who just took its key is answered the CronJob there.
  pub see_cron_is : sync_of s w ≡ Some (in_flight k Held)
      → step_of s (worker w) Of.SeeCron
      ≡ handled (Ok (Say.SeenCron (map.get s.store.crons k))) (with_sync s w k (Seen (map.get s.store.crons k)))
  unfolding step_of see_cron
  see_cron_is e = ap (λ (o : Option InFlight). by_sync s (see_cron_in s w) o) e

  -- A SeeJobs after it is answered the listing.
  pub see_jobs_is : (c : Option CronJob) → sync_of s w ≡ Some (in_flight k (Seen c))
      → step_of s (worker w) Of.SeeJobs ≡ handled (Ok (Say.SeenJobs (listed_of s k)))
      (with_sync s w k (Listed c (listed_of s k)))
  unfolding step_of see_jobs
  see_jobs_is c e = ap (λ (o : Option InFlight). by_sync s (see_jobs_in s w) o) e

  -- A SeeActive after that is answered the live read.
  pub see_active_is : (c : Option CronJob) (js : List Job) → sync_of s w ≡ Some (in_flight k (Listed c js))
      → step_of s (worker w) Of.SeeActive
      ≡ handled (Ok (Say.SeenActive (active_of s.store c))) (with_sync s w k (Checked c js (active_of s.store c)))
  unfolding step_of see_active
  see_active_is c js e = ap (λ (o : Option InFlight). by_sync s (see_active_in s w) o) e

  -- A status is set on the CronJob with the uid and the version that are named.
  pub set_ok : (u v : ℕ) (st : CronStatus) (c : CronJob) → map.get s.store.crons k ≡ Some c → c.meta.uid ≡ u
      → c.meta.version ≡ v
      → map_ok cron_modified (status_set s.store k u v st) ≡ Ok (cron_modified (with_status s.store st c))
  set_ok u v st c at e f =
      ap (λ (o : Option CronJob). map_ok cron_modified (status_set_from s.store u v st o)) at
      ∙ ap (λ b. map_ok cron_modified (if b then
      (if c.meta.version == v then Ok (with_status s.store st c) else Err (Conflict c.meta.version)) else Err NotFound))
      (same_true c.meta.uid u e)
      ∙ ap (λ b. map_ok cron_modified (if b then Ok (with_status s.store st c) else Err (Conflict c.meta.version)))
      (same_true c.meta.version v f)

  -- A Claim of a time, by a plan that rests on the three answers, sets the claim's status.
  pub claim_is : (p : Planned) (c : Option CronJob) (js : List Job) (ks : List (Option Job)) (cron : CronJob)
      (y : Claim)
      → sync_of s w ≡ Some (in_flight k (Checked c js ks)) → rests_on p c js ks ≡ true → p.steps.claim ≡ Some y
      → p.cron ≡ Some cron → map.get s.store.crons k ≡ Some cron
      → step_of s (worker w) (Of.Claim p) ≡ handled (Ok (Say.Claimed (Some (y.time, s.store.version + 1))))
      (with_sync (written s (cron_modified (with_status s.store y.status cron))) w k (works p (s.store.version + 1) 0))
  unfolding step_of claim
  claim_is p c js ks cron y e r i j at =
      ap (λ (o : Option InFlight). by_sync s (claim_in s w p) o) e
      ∙ ap (λ b. if b then claim_where s w k p p.steps.claim else refused s Stale) r
      ∙ ap (λ (o : Option Claim). claim_where s w k p o) i
      ∙ ap (λ (o : Option CronJob). claims s w k p y o) j
      ∙ ap (λ (x : Result Event Refusal). wrote s w k (λ e. Say.Claimed (Some (y.time, version_of e)))
      (λ e. works p (version_of e) 0) x) (set_ok cron.meta.uid cron.meta.version y.status cron at refl refl)

  -- A Claim of none, by such a plan, changes nothing.
  pub claim_none_is : (p : Planned) (c : Option CronJob) (js : List Job) (ks : List (Option Job))
      → sync_of s w ≡ Some (in_flight k (Checked c js ks)) → rests_on p c js ks ≡ true → p.steps.claim ≡ None
      → step_of s (worker w) (Of.Claim p)
      ≡ handled (Ok (Say.Claimed None)) (with_sync s w k (works p (seen_version p.cron) 0))
  unfolding step_of claim
  claim_none_is p c js ks e r i =
      ap (λ (o : Option InFlight). by_sync s (claim_in s w p) o) e
      ∙ ap (λ b. if b then claim_where s w k p p.steps.claim else refused s Stale) r
      ∙ ap (λ (o : Option Claim). claim_where s w k p o) i

  -- A DropNext where the next step is a drop deletes the Job, if it is there with its uid.
  pub drop_is : (work : Work) (r : JobRef) → sync_of s w ≡ Some (in_flight k (Works work))
      → step_at work.plan.steps work.place ≡ Some (drops r)
      → step_of s (worker w) Of.DropNext
      ≡ drops_it s w (next_sync k work) r.key (map_ok job_gone (job_deleted s.store r.key (Some r.uid)))
  unfolding step_of drop_next
  drop_is work r e f = ap (λ (o : Option InFlight). by_sync s (drop_in s w) o) e
      ∙ ap (λ (o : Option Step). drop_where s w k work (as_drop o)) f

  -- A MakeNext where the next step is a making makes the Job, if its name is free.
  pub make_is : (work : Work) (d : JobDraft) → sync_of s w ≡ Some (in_flight k (Works work))
      → step_at work.plan.steps work.place ≡ Some (makes d) → map.get s.store.jobs d.key ≡ None
      → step_of s (worker w) Of.MakeNext ≡ handled (Ok (Say.Job (new_job s.store d work.plan.at)))
      (sits (written s (job_added (new_job s.store d work.plan.at))) w (next_sync k work))
  unfolding step_of make_next
  make_is work d e f free =
      ap (λ (o : Option InFlight). by_sync s (make_in s w) o) e
      ∙ ap (λ (o : Option Step). make_where s w k work (as_make o)) f
      ∙ ap (λ (o : Option Job). steps_on s w (next_sync k work) event_reply
      (map_ok job_added (if is_some o then Err AlreadyExists else Ok (new_job s.store d work.plan.at)))) free

  -- A SetStatus where the next step is a status sets it on the CronJob of the version that is
  -- known.
  pub status_is : (work : Work) (st : CronStatus) (cron c : CronJob) → sync_of s w ≡ Some (in_flight k (Works work))
      → step_at work.plan.steps work.place ≡ Some (sets st) → work.plan.cron ≡ Some cron
      → map.get s.store.crons k ≡ Some c → c.meta.uid ≡ cron.meta.uid → c.meta.version ≡ work.version
      → step_of s (worker w) Of.SetStatus ≡ handled (Ok (Say.Version (s.store.version + 1)))
      (sits (written s (cron_modified (with_status s.store st c))) w (next_sync k work))
  unfolding step_of set_status
  status_is work st cron c e f i at u v =
      ap (λ (o : Option InFlight). by_sync s (status_in s w) o) e
      ∙ ap (λ (o : Option Step). status_where s w k work (as_status o)) f
      ∙ ap (λ (o : Option CronJob). sets_it s w k work st o) i
      ∙ ap (λ (x : Result Event Refusal). steps_on s w (next_sync k work) version_reply x)
      (set_ok cron.meta.uid work.version st c at u v)

  -- A Finish where no step is left ends the sync well.
  pub finish_is : (work : Work) (reasons : List Reason) → sync_of s w ≡ Some (in_flight k (Works work))
      → step_at work.plan.steps work.place ≡ None
      → step_of s (worker w) (Of.Finish Well reasons)
      ≡ leaves s w (finished_ok s.queue k (next_ms work.plan.steps.next))
  unfolding step_of finish
  finish_is work reasons e f = ap (λ (o : Option InFlight). by_sync s (finish_in s w Well) o) e
      ∙ ap (λ (o : Option Step). finish_work s w k work (is_over o)) f

-- ---- what a drop leaves

-- the Job was not there with its uid, or is gone
pub data Dropped (s : Content) (r : JobRef) (t : Content) : Type 0 where
  absent : t ≡ s → ((j : Job) → map.get s.jobs r.key ≡ Some j → j.meta.uid ≢ r.uid) → Dropped s r t
  found : (j : Job) → map.get s.jobs r.key ≡ Some j → j.meta.uid ≡ r.uid → t ≡ after s (job_gone (last_job s j))
      → Dropped s r t

pub record DropMade (s : State) (w : ℕ) (sync : InFlight) (r : JobRef) (m : Handled) : Type 0 where
  pub accepted : is_ok m.answer ≡ true
  pub sync_is : sync_of m.state w ≡ Some sync
  pub store : Dropped s.store r m.state.store

-- A drop is accepted, whether or not the Job is there.
pub drop_made : (s : State) (w : ℕ) (sync : InFlight) (r : JobRef)
    → DropMade s w sync r (drops_it s w sync r.key (map_ok job_gone (job_deleted s.store r.key (Some r.uid))))
drop_made s w sync r = by (map.get s.store.jobs r.key) refl
  where
    here : (j : Job) → map.get s.store.jobs r.key ≡ Some j → (b : Bool) → (j.meta.uid == r.uid) ≡ b
        → DropMade s w sync r (drops_it s w sync r.key
        (map_ok job_gone (if b then Ok (last_job s.store j) else Err NotFound)))
    here j e true t = record {
      accepted = refl;
      sync_is = sync_here s.syncs w sync;
      store = found j e (true_same j.meta.uid r.uid t) refl;
    }
    here j e false t = record {
      accepted = refl;
      sync_is = sync_here s.syncs w sync;
      store = absent refl (λ i f g. let same : j ≡ i = cc (sym e ∙ f) in
          absurd (cc (sym t ∙ same_true j.meta.uid r.uid (ap (λ (x : Job). x.meta.uid) same ∙ g))));
    }

    by : (o : Option Job) → map.get s.store.jobs r.key ≡ o
        → DropMade s w sync r (drops_it s w sync r.key (map_ok job_gone (job_deleted_from s.store (Some r.uid) o)))
    by None e = record {
      accepted = refl;
      sync_is = sync_here s.syncs w sync;
      store = absent refl (λ i f g. absurd (cc (sym e ∙ f)));
    }
    by (Some j) e = here j e (j.meta.uid == r.uid) refl

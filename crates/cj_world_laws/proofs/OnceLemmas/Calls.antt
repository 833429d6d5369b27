-- Each call but Claim and MakeNext keeps the facts.
use Rattle.std.proofs.Common.{◌≡◌, inl, inr, ℕ, ◌+◌, ◌≤◌, Bool, true, false, List, [], ◌∷◌, map as map_list, Option, None, Some, refl, ap, sym, subst, ◌∙◌, arith}
use Rattle.std.specs.Prelude.{IfSome, Result, Ok, Err, if◌then◌else◌}
use Rattle.std.specs.FinMap as map
use Rattle.cj_base.specs.declared.refusal.Refusal.{Refusal}
use Rattle.cj_base.specs.declared.refusal.Refusal.TheVariants.{NotPermitted, OutOfPhase, NotFound}
use Rattle.cj_types.specs.Keys.{Place}
use Rattle.cj_types.specs.Uids.{last_uid, uid_text}
use Rattle.cj_types.specs.declared.cron.CronJob.{CronJob}
use Rattle.cj_types.specs.declared.job.Job.{Job}
use Rattle.cj_types.specs.declared.event.Event.{Event}
use Rattle.cj_watch.specs.Log.{since}
use Rattle.cj_store.specs.Content.{Content}
use Rattle.cj_store.specs.Change.{after}
use Rattle.cj_queue.specs.Queue.{Queue, first, take_in, row_end, added, ticked, closed, finished_ok, finished_retry}
use Rattle.cj_status.specs.Mine.{is_mine}
use Rattle.cj_calls.specs.declared.end.End.{End}
use Rattle.cj_calls.specs.declared.end.End.TheVariants.{Well, Again}
use Rattle.cj_calls.specs.declared.call.Call.{Call}
use Rattle.cj_calls.specs.declared.call.Call.TheVariants as Of
use Rattle.cj_calls.specs.declared.reply.Reply.{Reply}
use Rattle.cj_calls.specs.declared.reply.Reply.TheVariants as Say
use Rattle.cj_state.specs.phases.Steps.{step_at, is_over}
use Rattle.cj_state.specs.declared.phases.sync.Work.{Work}
use Rattle.cj_state.specs.declared.phases.sync.InFlight.{InFlight}
use Rattle.cj_state.specs.declared.phases.sync.Phase.{Phase}
use Rattle.cj_state.specs.declared.phases.sync.Phase.TheVariants.{Held, Seen, Listed, Checked, Works}
use Rattle.cj_state.specs.declared.state.State.{State}
use Rattle.cj_state.specs.Readings.{listed_of, if_mine, active_job, active_of}
use Rattle.cj_state.specs.WorkerCalls.{Handled, handled, sync_of, with_sync, by_sync, take_first, take_by, take, see_cron_in, see_cron, see_jobs_in, see_jobs, see_active_in, see_active, leaves, next_ms, finish_work, finish_in, finish}
use Rattle.cj_state.specs.Step.{writes, found_cron, found_job, told_events, by_reader, by_user, by_runner, by_informer}
use Rattle.cj_decide.specs.laws.Fits.{IsAt, IsHere, IsFoundIn, runs}
use Rattle.cj_world_laws.specs.once.Once.{Claimed}
use Rattle.cj_world_laws.proofs.OnceLemmas.Lists.{runs_mine}
use Rattle.cj_world_laws.proofs.OnceLemmas.Facts.{Homes, SeenFact, CheckedFact, SyncFact, IsLine, Inv}
use Rattle.cj_world_laws.proofs.OnceLemmas.Writes.{Grown, grows_same, create_grows, update_grows, delete_grows, create_job_grows, update_job_grows, delete_job_grows, end_job_grows}
use Rattle.cj_world_laws.proofs.OnceLemmas.Rows.{Lined, lined_same, lined_added, lined_ticked, lined_ok, lined_retry}
use Rattle.cj_world_laws.proofs.OnceLemmas.Frames.{Claims, sync, all_grown, row_changed, sync_changed, taken_by, ended_by}

pub record Now (s : State) (ms : List Claimed) (cl : Claims) (home : Homes) : Type 0 where
  pub inv : Inv home s.store s.queue.row s.syncs ms cl

-- a call that claims nothing and makes nothing
abbrev pub Plain : State → List Claimed → Claims → Handled → Type 0
Plain s ms cl r = (home : Homes) × Inv home r.state.store r.state.queue.row r.state.syncs ms cl
    × (r.state.store.uids ≤ s.store.uids + 1)

module _ {s : State} {ms : List Claimed} {cl : Claims} {home : Homes} where
  -- An answer that changes nothing keeps the facts.
  pub stays : Now s ms cl home → (a : Result Reply Refusal) → Plain s ms cl (handled a s)
  stays f a = (home, f.inv, omega arith)

  -- ---- users, runner, informer

  -- A write keeps the facts, if its event lets the store grow, and so does its refusal.
  write_plain : Now s ms cl home → (say : Event → Reply) (res : Result Event Refusal)
      → ((e : Event) → res ≡ Ok e → Grown home s.store e) → Plain s ms cl (writes s say res)
  write_plain f say (Ok e) g =
      let h = g e refl in (h.0, all_grown home h.0 s.store (after s.store e) s.queue.row s.syncs ms cl f.inv h.1, h.2)
  write_plain f say (Err e) g = stays f (Err e)

  -- A GetCron keeps the facts, whether the CronJob is there or not.
  found_cron_plain : Now s ms cl home → (o : Option CronJob) → Plain s ms cl (found_cron s o)
  found_cron_plain f None = stays f (Err NotFound)
  found_cron_plain f (Some c) = stays f (Ok (Say.Cron c))

  -- A GetJob keeps the facts, whether the Job is there or not.
  found_job_plain : Now s ms cl home → (o : Option Job) → Plain s ms cl (found_job s o)
  found_job_plain f None = stays f (Err NotFound)
  found_job_plain f (Some c) = stays f (Ok (Say.Job c))

  -- A Watch keeps the facts, whether it tells events or is refused.
  told_plain : Now s ms cl home → (r : Result (List Event) Refusal) → Plain s ms cl (told_events s r)
  told_plain f (Ok es) = stays f (Ok Say.Done)
  told_plain f (Err e) = stays f (Err e)

  -- A reading keeps the facts, and so does the refusal of a call that is none.
  reader_plain : Now s ms cl home → (call : Call) → Plain s ms cl (by_reader s call)
  reader_plain f (Of.GetCron k) = found_cron_plain f (map.get s.store.crons k)
  reader_plain f (Of.GetJob k) = found_job_plain f (map.get s.store.jobs k)
  reader_plain f Of.ListCrons = stays f (Ok Say.Done)
  reader_plain f Of.ListJobs = stays f (Ok Say.Done)
  reader_plain f (Of.Watch v max) = told_plain f (since s.watch v max)
  reader_plain f call = stays f (Err NotPermitted)

  -- Whatever call a user makes, it keeps the facts, while there is a uid left to give out.
  pub user_plain : Now s ms cl home → s.store.uids + 1 ≤ last_uid → (call : Call) → Plain s ms cl (by_user s call)
  user_plain f b (Of.CreateCron d n) = write_plain f _ _ (create_grows f.inv.store b d n)
  user_plain f b (Of.UpdateCron d) = write_plain f _ _ (update_grows f.inv.store b d)
  user_plain f b (Of.DeleteCron k) = write_plain f _ _ (delete_grows f.inv.store b k)
  user_plain f b (Of.CreateJob d n) = write_plain f _ _ (create_job_grows f.inv.store b d n)
  user_plain f b (Of.UpdateJob d) = write_plain f _ _ (update_job_grows f.inv.store b d)
  user_plain f b (Of.DeleteJob k) = write_plain f _ _ (delete_job_grows f.inv.store b k None)
  user_plain f b call = reader_plain f call

  -- Whatever call a runner makes, it keeps the facts, while there is a uid left to give out.
  pub runner_plain : Now s ms cl home → s.store.uids + 1 ≤ last_uid → (call : Call) → Plain s ms cl (by_runner s call)
  runner_plain f b (Of.EndJob k u o n) = write_plain f _ _ (end_job_grows f.inv.store b k u o n)
  runner_plain f b call = reader_plain f call

  -- A call of the queue alone keeps the facts, if the line's facts and what is worked on stay.
  row_plain : Now s ms cl home → (q : Queue) → Lined s.queue.row q.row →
      Plain s ms cl (handled (Ok Say.Done) (record s { queue = q }))
  row_plain f q l = (home, row_changed home s.store s.queue.row q.row s.syncs ms cl f.inv l, omega arith)

  -- Whatever call an informer makes, it keeps the facts.
  pub informer_plain : Now s ms cl home → (call : Call) → Plain s ms cl (by_informer s call)
  informer_plain f (Of.Add k) = row_plain f (added s.queue k) (lined_added s.queue k)
  informer_plain f (Of.Tick now) = row_plain f (ticked s.queue now) (lined_ticked s.queue now)
  informer_plain f Of.Shut = row_plain f (closed s.queue) (lined_same s.queue.row)
  informer_plain f call = reader_plain f call

  -- ---- Take, Finish

  -- For take_at: who has no sync gets the first key of the line or is refused; the facts stay.
  take_line : Now s ms cl home → (w : ℕ) → sync_of s w ≡ None → (l : List Place) → s.queue.row.line ≡ l
      → Plain s ms cl (take_first s w (first l))
  take_line f w none [] e = stays f (Err OutOfPhase)
  take_line f w none (k ∷ ks) e = (
    home,
    subst (λ (l : List Place). Inv home s.store (take_in s.queue.row l) (map.insert s.syncs w (sync k Held)) ms cl)
        (sym e)
        (taken_by home s.store s.queue.row s.syncs ms cl w k ks f.inv (subst (IsLine s.queue.row) e f.inv.line) none),
    omega arith,
  )

  -- For take_plain: a Take keeps the facts, whether or not the worker has a sync.
  take_at : Now s ms cl home → (w : ℕ) (o : Option InFlight) → sync_of s w ≡ o → Plain s ms cl (take_by s w o)
  take_at f w None e = take_line f w e s.queue.row.line refl
  take_at f w (Some x) e = stays f (Err OutOfPhase)

  -- A Take keeps the facts.
  pub take_plain : Now s ms cl home → (w : ℕ) → Plain s ms cl (take s w)
  unfolding take
  take_plain f w = take_at f w (sync_of s w) refl

  -- a call of a worker that holds a key
  pub by_sync_plain : Now s ms cl home → (w : ℕ) (g : Place → Phase → Handled)
      → ((x : InFlight) → sync_of s w ≡ Some x → (p : Phase) → x.phase ≡ p → Plain s ms cl (g x.key p)) →
      (o : Option InFlight)
      → sync_of s w ≡ o → Plain s ms cl (by_sync s g o)
  by_sync_plain f w g h None e = stays f (Err OutOfPhase)
  by_sync_plain f w g h (Some x) e = h x e x.phase refl

  -- A worker that leaves its sync, with the work on its key ended in the row, keeps the facts.
  leaves_plain : Now s ms cl home → (w : ℕ) (x : InFlight) → sync_of s w ≡ Some x → (q : Queue)
      → Lined (row_end s.queue.row x.key) q.row → Plain s ms cl (leaves s w q)
  leaves_plain f w x at q l = (home, ended_by home s.store s.queue.row q.row s.syncs ms cl w x f.inv at l, omega arith)

  -- For finish_at: a Finish in the phase Works keeps the facts, whether or not all steps are done.
  finish_work_plain : Now s ms cl home → (w : ℕ) (x : InFlight) → sync_of s w ≡ Some x → (work : Work) (b : Bool)
      → Plain s ms cl (finish_work s w x.key work b)
  finish_work_plain f w x at work true = leaves_plain f w x at
      (finished_ok s.queue x.key (next_ms work.plan.steps.next)) (lined_ok s.queue x.key (next_ms work.plan.steps.next))
  finish_work_plain f w x at work false = stays f (Err OutOfPhase)

  -- For finish_plain: a Finish by a worker with a sync keeps the facts, in each phase.
  finish_at : Now s ms cl home → (w : ℕ) (end : End) (x : InFlight) → sync_of s w ≡ Some x → (p : Phase)
      → Plain s ms cl (finish_in s w end x.key p)
  finish_at f w (Again now) x at p = leaves_plain f w x at (finished_retry s.queue x.key now)
      (lined_retry s.queue x.key now)
  finish_at f w Well x at (Works work) = finish_work_plain f w x at work (is_over (step_at work.plan.steps work.place))
  finish_at f w Well x at p = stays f (Err OutOfPhase)

  -- A Finish keeps the facts, whether the sync went well or is to be tried again.
  pub finish_plain : Now s ms cl home → (w : ℕ) (end : End) → Plain s ms cl (finish s w end)
  unfolding finish
  finish_plain f w end = by_sync_plain f w (finish_in s w end) (λ x at p e. finish_at f w end x at p) (sync_of s w) refl

  -- ---- the three readings

  -- A worker that comes to another phase keeps the facts, if those of the new phase hold.
  pub phased : Now s ms cl home → s.store.uids + 1 ≤ last_uid → (w : ℕ) (x : InFlight) → sync_of s w ≡ Some x →
      (p : Phase)
      → SyncFact home s.store ms (cl w) x.key p → Plain s ms cl (handled (Ok Say.Done) (with_sync s w x.key p))
  phased f b w x at p fact = (
    home,
    sync_changed None home home s.store s.store s.queue.row s.syncs ms cl cl w x p f.inv
        at (grows_same f.inv.store (omega arith)) (inl refl) (λ v n. refl) fact,
    omega arith,
  )

  -- The facts of a phase hold of each worker whose sync has this phase.
  pub fact_of : Now s ms cl home → (w : ℕ) (x : InFlight) → sync_of s w ≡ Some x → (p : Phase) → x.phase ≡ p
      → SyncFact home s.store ms (cl w) x.key p
  fact_of f w x at p e = subst (λ (z : Phase). SyncFact home s.store ms (cl w) x.key z) e (f.inv.facts w x at)

  -- Of the CronJob that stands at a key, if any, the facts of a CronJob seen hold.
  seen_now : Now s ms cl home → (k : Place) (o : Option CronJob) → map.get s.store.crons k ≡ o
      → IfSome o (SeenFact home s.store k)
  seen_now f k None e = tt
  seen_now f k (Some c) e = let g = f.inv.store.crons k c e in record { key = g.key; home_is = g.home_is; uid = g.uid; version = g.version; same = λ d at v. cc (sym at ∙ e); named = g.named }

  -- For see_cron_plain: who holds a key sees the CronJob, others are refused; facts stay.
  see_cron_at : Now s ms cl home → s.store.uids + 1 ≤ last_uid → (w : ℕ) (x : InFlight) → sync_of s w ≡ Some x →
      (p : Phase)
      → x.phase ≡ p → Plain s ms cl (see_cron_in s w x.key p)
  see_cron_at f b w x at Held e = phased f b w x at (Seen (map.get s.store.crons x.key))
      (seen_now f x.key (map.get s.store.crons x.key) refl)
  see_cron_at f b w x at p e = stays f (Err OutOfPhase)

  -- A SeeCron keeps the facts.
  pub see_cron_plain : Now s ms cl home → s.store.uids + 1 ≤ last_uid → (w : ℕ) → Plain s ms cl (see_cron s w)
  unfolding see_cron
  see_cron_plain f b w = by_sync_plain f w (see_cron_in s w) (see_cron_at f b w) (sync_of s w) refl

  -- For see_jobs_plain: who saw the CronJob sees the Jobs, others are refused; facts stay.
  see_jobs_at : Now s ms cl home → s.store.uids + 1 ≤ last_uid → (w : ℕ) (x : InFlight) → sync_of s w ≡ Some x →
      (p : Phase)
      → x.phase ≡ p → Plain s ms cl (see_jobs_in s w x.key p)
  see_jobs_at f b w x at (Seen c) e = phased f b w x at (Listed c (listed_of s x.key)) (fact_of f w x at (Seen c) e)
  see_jobs_at f b w x at p e = stays f (Err OutOfPhase)

  -- A SeeJobs keeps the facts.
  pub see_jobs_plain : Now s ms cl home → s.store.uids + 1 ≤ last_uid → (w : ℕ) → Plain s ms cl (see_jobs s w)
  unfolding see_jobs
  see_jobs_plain f b w = by_sync_plain f w (see_jobs_in s w) (see_jobs_at f b w) (sync_of s w) refl

-- the live read finds each unfinished Job that is named
mine_if : (uid : List ℕ) (j : Job) → is_mine uid j ≡ true → if_mine uid (Some j) ≡ Some j
mine_if uid j e = by (is_mine uid j) e
  where
    by : (b : Bool) → b ≡ true → (if b then Some j else None) ≡ Some j
    by true e = refl
    by false e = absurd (cc e)

-- one name: its Job, another's, or none
found_more : (u : ℕ) (ns name : List ℕ) (names : List (List ℕ)) (o : Option Job) (fs : List
    (Option Job)) (q : Place) (i : ℕ) → IsFoundIn u ns names fs q i → IsFoundIn u ns (name ∷ names) (o ∷ fs) q i
found_more u ns name names None fs q i h = h
found_more u ns name names (Some j) fs q i h = inr h

-- Where the live read found the unfinished Job of the first name, it is found among the names.
found_here : (u : ℕ) (ns name : List ℕ) (names : List (List ℕ)) (o : Option Job) (fs : List
    (Option Job)) (q : Place) (j : Job) → o ≡ Some j → IsHere u ns name j q j.meta.uid
    → IsFoundIn u ns (name ∷ names) (o ∷ fs) q j.meta.uid
found_here u ns name names o fs q j e h = subst (λ (z : Option Job). IsFoundIn u ns (name ∷ names)
    (z ∷ fs) q j.meta.uid) (sym e) (inl h)

-- The live read finds each unfinished Job of an owner that has one of the names.
found_all : (s : Content) (u : ℕ) (ns : List ℕ) (names : List (List ℕ)) (q : Place) (j : Job)
    → map.get s.jobs q ≡ Some j → j.key ≡ q → runs u j ≡ true → IsAt ns names q
    → IsFoundIn u ns names (map_list (active_job s (uid_text u) ns) names) q j.meta.uid
found_all s u ns [] q j at k a h = absurd h
found_all s u ns (n ∷ names) q j at k a (inl e) =
    found_here u ns n names (active_job s (uid_text u) ns n) (map_list (active_job s (uid_text u) ns) names) q j
    (ap (λ r. if_mine (uid_text u) (map.get s.jobs r)) e ∙ ap (if_mine (uid_text u)) at
    ∙ mine_if (uid_text u) j (runs_mine u j a))
    (record { named = e; key = k; uid = refl; runs = a })
found_all s u ns (n ∷ names) q j at k a (inr h) = found_more u ns n names (active_job s (uid_text u) ns n)
    (map_list (active_job s (uid_text u) ns) names) q j.meta.uid (found_all s u ns names q j at k a h)

module _ {s : State} {ms : List Claimed} {cl : Claims} {home : Homes} where
  -- Of a CronJob seen and what the live read finds of its names, the facts of a checked one hold.
  checked_now : Now s ms cl home → (k : Place) (o : Option CronJob) → IfSome o (SeenFact home s.store k)
      → IfSome o (CheckedFact home s.store k (active_of s.store o))
  checked_now f k None g = tt
  checked_now f k (Some c) g = record {
    seen = g;
    found = λ q j at a. found_all s.store c.meta.uid c.key.namespace c.status.active q j at (f.inv.store.keys q j at) a
        (subst (λ (n : Place). IsAt n.namespace c.status.active q) (sym g.key) (g.named q j at a));
  }

  -- For see_active_plain: who saw the Jobs reads live, others are refused; facts stay.
  see_active_at : Now s ms cl home → s.store.uids + 1 ≤ last_uid → (w : ℕ) (x : InFlight) → sync_of s w ≡ Some x
      → (p : Phase) → x.phase ≡ p → Plain s ms cl (see_active_in s w x.key p)
  see_active_at f b w x at (Listed c js) e = phased f b w x at (Checked c js (active_of s.store c))
      (checked_now f x.key c (fact_of f w x at (Listed c js) e))
  see_active_at f b w x at p e = stays f (Err OutOfPhase)

  -- A SeeActive keeps the facts.
  pub see_active_plain : Now s ms cl home → s.store.uids + 1 ≤ last_uid → (w : ℕ) → Plain s ms cl (see_active s w)
  unfolding see_active
  see_active_plain f b w = by_sync_plain f w (see_active_in s w) (see_active_at f b w) (sync_of s w) refl

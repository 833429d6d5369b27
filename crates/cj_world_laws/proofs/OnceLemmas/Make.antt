-- MakeNext keeps the facts, and what it makes rests on a claim.
use Rattle.std.proofs.Common.{◌≡◌, ◌≢◌, ◌⊎◌, inl, inr, ℕ, ◌+◌, ◌<◌, ◌≤◌, true, List, ◌∷◌, Option, None, Some, refl, ap, sym, subst, ◌∙◌, arith}
use Rattle.std.specs.Prelude.{Result, Ok, Err}
use Rattle.std.specs.FinMap as map
use Rattle.std.specs.List.{AllByRecursion}
use Rattle.cj_queue.specs.Queue.{has}
use Rattle.cj_base.specs.declared.refusal.Refusal.{Refusal}
use Rattle.cj_base.specs.declared.refusal.Refusal.TheVariants.{OutOfPhase}
use Rattle.cj_types.specs.Keys.{Place}
use Rattle.cj_types.specs.Uids.{last_uid, uid_text}
use Rattle.cj_types.specs.Owners.{controller_of}
use Rattle.cj_types.specs.declared.owners.OwnerRef.{OwnerRef}
use Rattle.cj_types.specs.declared.cron.CronJob.{CronJob}
use Rattle.cj_types.specs.declared.cron.CronStatus.{CronStatus}
use Rattle.cj_types.specs.declared.job.Job.{Job}
use Rattle.cj_types.specs.declared.job.JobDraft.{JobDraft}
use Rattle.cj_types.specs.declared.event.Event.{Event}
use Rattle.cj_store.specs.Content.{Content}
use Rattle.cj_store.specs.Change.{after, map_ok, job_added}
use Rattle.cj_store.specs.Jobs.{job_made, new_job}
use Rattle.cj_state.specs.phases.Steps.{Step, drops, makes, sets, step_at, left, as_make}
use Rattle.cj_state.specs.declared.phases.sync.Work.{Work}
use Rattle.cj_state.specs.declared.phases.sync.InFlight.{InFlight}
use Rattle.cj_state.specs.declared.phases.sync.Phase.{Phase}
use Rattle.cj_state.specs.declared.phases.sync.Phase.TheVariants.{Held, Seen, Listed, Checked, Works}
use Rattle.cj_state.specs.declared.state.State.{State}
use Rattle.cj_state.specs.WorkerCalls.{Handled, refused, sync_of, by_sync, next_sync, steps_on, event_reply, make_where, make_in, make_next}
use Rattle.cj_decide.specs.laws.Fits.{IsAt, runs, upto, is_strict}
use Rattle.cj_world_laws.specs.once.Once.{Claimed, is_ok, with_made}
use Rattle.cj_world_laws.proofs.OnceLemmas.Maps.{put_at, sync_put}
use Rattle.cj_world_laws.proofs.OnceLemmas.Lists.{none_made, Rest, runs_owned, weaker}
use Rattle.cj_world_laws.proofs.OnceLemmas.Facts.{Homes, CronFact, IsOwned, StoreFact, SeenFact, CheckedFact, MakeFact, StatusFact, SyncFact, Inv}
use Rattle.cj_world_laws.proofs.OnceLemmas.Grows.{if_kept}
use Rattle.cj_world_laws.proofs.OnceLemmas.Writes.{mapped, made_is}
use Rattle.cj_world_laws.proofs.OnceLemmas.Frames.{Claims}
use Rattle.cj_world_laws.proofs.OnceLemmas.Calls.{Now}
use Rattle.cj_world_laws.proofs.OnceLemmas.Steps.{LeftFact, work_fact}

-- a Job that is made for a claim
pub record Making (home : Homes) (s : Content) (k : Place) (m : Claimed) (j : Job) : Type 0 where
  pub home_is : home m.owner ≡ k
  pub uid : m.owner ≤ s.uids
  pub owner : OwnerRef
  pub controller : controller_of j.owners ≡ Some owner
  pub text : owner.uid ≡ uid_text m.owner
  pub room : s.uids + 1 ≤ last_uid

module _ {home : Homes} {s : Content} {k : Place} {m : Claimed} {j : Job} where
  -- the unfinished Jobs of an owner: the one that was made, and the others
  rest_made : Making home s k m j → (u : ℕ) (P : Place → ℕ → Type 0) → u ≤ s.uids → (m.owner ≡ u → P j.key j.meta.uid)
      → Rest u P s.jobs → Rest u P (after s (job_added j)).jobs
  rest_made g u P b here f q i at a = by (put_at s.jobs j.key q j i at)
    where
      by : ((q ≡ j.key) × (j ≡ i)) ⊎ ((q ≢ j.key) × (map.get s.jobs q ≡ Some i)) → P q i.meta.uid
      by (inl e) =
          let r = g.room in let l = g.uid in
          let same : u ≡ m.owner = runs_owned u m.owner j g.owner g.controller g.text (ap (runs u) e.1 ∙ a)
          (omega arith) (omega arith) in
          subst (λ (n : Place). P n i.meta.uid) (sym e.0)
          (subst (λ (z : Job). P j.key z.meta.uid) e.1 (here (sym same)))
      by (inr e) = f q i e.1 a

  -- What holds of all unfinished Jobs of an owner still does when a Job of another owner is made.
  rest_other : Making home s k m j → (u : ℕ) (P : Place → ℕ → Type 0) → u ≤ s.uids → m.owner ≢ u → Rest u P s.jobs
      → Rest u P (after s (job_added j)).jobs
  rest_other g u P b n f = rest_made g u P b (λ e. absurd (n e)) f

  -- uids of different homes
  apart : Making home s k m j → (u : ℕ) (i : Place) → home u ≡ i → i ≢ k → m.owner ≢ u
  apart g u i h n e = n (sym h ∙ ap home (sym e) ∙ g.home_is)

  -- The facts of a CronJob seen at another key stay when a Job is made.
  seen_other : Making home s k m j → (i : Place) (c : CronJob) → i ≢ k → SeenFact home s i c
      → SeenFact home (after s (job_added j)) i c
  seen_other g i c n f = record {
    key = f.key;
    home_is = f.home_is;
    uid = let a = f.uid in omega arith;
    version = let a = f.version in omega arith;
    same = f.same;
    named = rest_other g c.meta.uid _ f.uid (apart g c.meta.uid i f.home_is n) f.named;
  }

  -- The facts of what was found of the names at another key stay when a Job is made.
  checked_other : Making home s k m j → (i : Place) (fs : List (Option Job)) (c : CronJob) → i ≢ k
      → CheckedFact home s i fs c → CheckedFact home (after s (job_added j)) i fs c
  checked_other g i fs c n f = record {
    seen = seen_other g i c n f.seen;
    found = rest_other g c.meta.uid _ f.seen.uid (apart g c.meta.uid i f.seen.home_is n) f.found;
  }

  -- The facts of a status to be written stay, if it names the Job made in case its CronJob owns it.
  status_made : Making home s k m j → (i : Place) (rs : List Step) (u v : ℕ) (f : CronStatus)
      → (m.owner ≡ u → IsAt i.namespace f.active j.key) → StatusFact home s i rs u v f
      → StatusFact home (after s (job_added j)) i rs u v f
  status_made g i rs u v f here h = record {
    home_is = h.home_is;
    uid = let a = h.uid in omega arith;
    version = let a = h.version in omega arith;
    last = h.last;
    spoken = rest_made g u _ h.uid (λ e. inl (here e)) h.spoken;
  }

  -- The facts of a Job to be made at another key stay when this Job is made.
  make_other : Making home s k m j → (ms : List Claimed) (cl : Option Claimed) (i : Place) (rs : List
      Step) (d : JobDraft) → i ≢ k → MakeFact home s ms cl i rs d
      → MakeFact home (after s (job_added j)) (m ∷ ms) cl i rs d
  make_other g ms cl i rs d n f =
      let other : m.owner ≢ f.m.owner = apart g f.m.owner i f.home_is n in
      record {
        m = f.m;
        claimed = f.claimed;
        home_is = f.home_is;
        uid = let a = f.uid in omega arith;
        above = (λ e. absurd (other e), f.above);
        last = f.last;
        named = f.named;
        alone = λ h. rest_other g f.m.owner _ f.uid other (f.alone h);
        owner = f.owner;
        controller = f.controller;
        text = f.text;
      }

  -- The facts of a sync with another key stay, in each phase, when a Job is made.
  sync_other : Making home s k m j → (ms : List Claimed) (cl : Option Claimed) (i : Place) (p : Phase) → i ≢ k
      → SyncFact home s ms cl i p → SyncFact home (after s (job_added j)) (m ∷ ms) cl i p
  sync_other g ms cl i Held n f = tt
  sync_other g ms cl i (Seen c) n f = if_kept (SeenFact home s i) (SeenFact home (after s (job_added j)) i)
      (λ d. seen_other g i d n) c f
  sync_other g ms cl i (Listed c js) n f = if_kept (SeenFact home s i) (SeenFact home (after s (job_added j)) i)
      (λ d. seen_other g i d n) c f
  sync_other g ms cl i (Checked c js fs) n f = if_kept (CheckedFact home s i fs)
      (CheckedFact home (after s (job_added j)) i fs) (λ d. checked_other g i fs d n) c f
  sync_other g ms cl i (Works work) n f = record {
    ordered = f.ordered;
    make = λ d h. make_other g ms cl i (left work.plan.steps work.place) d n (f.make d h);
    status = λ c x e h. let y = f.status c x e h in status_made g i (left work.plan.steps work.place) c.meta.uid
        work.version x (λ o. absurd (apart g c.meta.uid i y.home_is n o)) y;
    names = f.names;
  }

  -- a CronJob of the made Job's owner names it
  cron_made : Making home s k m j → (ms : List Claimed)
      → ((c : CronJob) → map.get s.crons k ≡ Some c → c.meta.uid ≡ m.owner → m.time < upto c.status.last_schedule_time)
      → ((c : CronJob) → map.get s.crons k ≡ Some c → c.meta.uid ≡ m.owner → IsAt k.namespace c.status.active j.key)
      → (i : Place) (c : CronJob) → map.get s.crons i ≡ Some c → CronFact home s ms i c
      → CronFact home (after s (job_added j)) (m ∷ ms) i c
  cron_made g ms last named i c at f =
      let here : m.owner ≡ c.meta.uid → i ≡ k = λ e. sym f.home_is ∙ ap home (sym e) ∙ g.home_is in
      record {
        key = f.key;
        home_is = f.home_is;
        uid = let a = f.uid in omega arith;
        version = let a = f.version in omega arith;
        made = (λ e. last c (ap (map.get s.crons) (sym (here e)) ∙ at) (sym e), f.made);
        named = rest_made g c.meta.uid _ f.uid (λ e. subst (λ (n : Place). IsAt n.namespace c.status.active j.key)
            (sym (here e)) (named c (ap (map.get s.crons) (sym (here e)) ∙ at) (sym e))) f.named;
      }

  -- The store's facts stay when a Job is made that its CronJob names, of a time not after its last.
  store_made : Making home s k m j → (ms : List Claimed)
      → ((c : CronJob) → map.get s.crons k ≡ Some c → c.meta.uid ≡ m.owner → m.time < upto c.status.last_schedule_time)
      → ((c : CronJob) → map.get s.crons k ≡ Some c → c.meta.uid ≡ m.owner → IsAt k.namespace c.status.active j.key)
      → StoreFact home s ms → StoreFact home (after s (job_added j)) (m ∷ ms)
  store_made g ms last named f = record {
    crons = λ i c at. cron_made g ms last named i c at (f.crons i c at);
    keys = λ q i at. key q i (put_at s.jobs j.key q j i at);
    owned = λ q i o at e. owned q i o e (put_at s.jobs j.key q j i at);
    made = (let l = g.uid in omega arith, weaker _ _ (λ x h. omega arith) ms f.made);
  }
    where
      key : (q : Place) (i : Job) → ((q ≡ j.key) × (j ≡ i)) ⊎ ((q ≢ j.key) × (map.get s.jobs q ≡ Some i)) → i.key ≡ q
      key q i (inl e) = ap (λ (z : Job). z.key) (sym e.1) ∙ sym e.0
      key q i (inr e) = f.keys q i e.1

      owned : (q : Place) (i : Job) (o : OwnerRef) → controller_of i.owners ≡ Some o
          → ((q ≡ j.key) × (j ≡ i)) ⊎ ((q ≢ j.key) × (map.get s.jobs q ≡ Some i)) → IsOwned (after s (job_added j)) o
      owned q i o e (inl h) =
          let same : g.owner ≡ o = cc (sym g.controller ∙ ap (λ (z : Job). controller_of z.owners) h.1 ∙ e) in
          record {
            owner = m.owner;
            known = (let l = g.uid in omega arith);
            text = ap (λ (z : OwnerRef). z.uid) (sym same) ∙ g.text;
          }
      owned q i o e (inr h) = let is = f.owned q i o h.1 e in record
          { owner = is.owner; known = (let l = is.known in omega arith); text = is.text }

-- A next step that makes a draft is the making of this draft.
make_is : (o : Option Step) (d : JobDraft) → as_make o ≡ Some d → o ≡ Some (makes d)
make_is None d e = absurd (cc e)
make_is (Some (drops x)) d e = absurd (cc e)
make_is (Some (makes x)) d e = let h : x ≡ d = cc e in ap (λ z. Some (makes z)) h
make_is (Some (sets x)) d e = absurd (cc e)

abbrev pub MakeKept : State → List Claimed → Claims → ℕ → Handled → Type 0
MakeKept s ms cl w r = (home : Homes) × Inv home r.state.store r.state.queue.row r.state.syncs
    (with_made (is_ok r.answer) (cl w) ms) cl × (r.state.store.uids ≤ s.store.uids + 1)

-- what is made rests on a claim of a later time, and is alone
pub record Rests (s : State) (ms : List Claimed) (claim : Option Claimed) : Type 0 where
  pub m : Claimed
  pub claimed : claim ≡ Some m
  pub above : AllByRecursion (λ x. x.owner ≡ m.owner → x.time < m.time) ms
  pub alone : is_strict m.policy ≡ true → Rest m.owner (λ q i. ⊥) s.store.jobs

-- the plan that is left
is_said : {A B : Type 0} → A ⊎ ⊥ → A ⊎ B
is_said (inl h) = inl h
is_said (inr h) = absurd h

-- After the making the facts of the plan hold of the steps that are left.
left_made : (home : Homes) (s : Content) (ms : List Claimed) (cl : Option
    Claimed) (k : Place) (work : Work) (d : JobDraft) (m : Claimed) (j : Job) (rs : List Step) → j.key ≡ d.key
    → Making home s k m j → LeftFact home s ms cl k work (makes d ∷ rs) →
    LeftFact home (after s (job_added j)) (m ∷ ms) cl k work rs
left_made home s ms cl k work d m j rs key g fact = record {
  ordered = fact.ordered.1;
  make = λ y i. absurd (none_made rs y fact.ordered.0 i);
  status = λ c f e i.
      let h = fact.status c f e (inr i) in
      status_made g k rs c.meta.uid work.version f
      (λ o. subst (IsAt k.namespace f.active) (sym key) (fact.names d f (inl refl) (inr i)))
      (record {
        home_is = h.home_is;
        uid = h.uid;
        version = h.version;
        last = h.last;
        spoken = λ q z at a. is_said (h.spoken q z at a);
      });
  names = λ y f i n. absurd (none_made rs y fact.ordered.0 i);
}

module _ {s : State} {ms : List Claimed} {cl : Claims} {home : Homes} where
  -- A MakeNext that is refused makes nothing and keeps the facts.
  make_refused : Now s ms cl home → (w : ℕ) (e : Refusal) → MakeKept s ms cl w (refused s e)
  make_refused f w e = (home, f.inv, omega arith)

  -- For make_result: with the Job made and its worker one step further, all facts hold.
  make_syncs : Now s ms cl home → (w : ℕ) (x : InFlight) → sync_of s w ≡ Some x
      → (work : Work) (d : JobDraft) (g : MakeFact home s.store ms (cl w) x.key
      (makes d ∷ left work.plan.steps (work.place + 1)) d) (j : Job) → j.key ≡ d.key → Making home s.store x.key g.m j
      → LeftFact home s.store ms (cl w) x.key work (makes d ∷ left work.plan.steps (work.place + 1))
      → Inv home (after s.store (job_added j)) s.queue.row (map.insert s.syncs w (next_sync x.key work)) (g.m ∷ ms) cl
  make_syncs f w x at work d g j key mk fact = record {
    store = store_made mk ms g.last (λ c e u. subst (IsAt x.key.namespace c.status.active) (sym key) (g.named c e u))
        f.inv.store;
    line = f.inv.line;
    held = λ v y is. held_at v y (sync_put s.syncs w v (next_sync x.key work) y is);
    apart = λ v u a b i n e. apart_at v u a b e (sync_put s.syncs w v (next_sync x.key work) a i)
        (sync_put s.syncs w u (next_sync x.key work) b n);
    facts = λ v y is. fact_at v y (sync_put s.syncs w v (next_sync x.key work) y is);
  }
    where
      held_at : (v : ℕ) (y : InFlight) → ((v ≡ w) × (next_sync x.key work ≡ y)) ⊎
          ((v ≢ w) × (map.get s.syncs v ≡ Some y))
          → has s.queue.row.processing y.key ≡ true
      held_at v y (inl e) = ap (λ (z : InFlight). has s.queue.row.processing z.key) (sym e.1) ∙ f.inv.held w x at
      held_at v y (inr e) = f.inv.held v y e.1

      apart_at : (v u : ℕ) (a b : InFlight) → a.key ≡ b.key → ((v ≡ w) × (next_sync x.key work ≡ a))
          ⊎ ((v ≢ w) × (map.get s.syncs v ≡ Some a)) → ((u ≡ w) × (next_sync x.key work ≡ b))
          ⊎ ((u ≢ w) × (map.get s.syncs u ≡ Some b)) → v ≡ u
      apart_at v u a b e (inl i) (inl n) = i.0 ∙ sym n.0
      apart_at v u a b e (inl i) (inr n) = i.0 ∙ f.inv.apart w u x b at n.1 (ap (λ (z : InFlight). z.key) i.1 ∙ e)
      apart_at v u a b e (inr i) (inl n) = f.inv.apart v w a x i.1 at (e ∙ sym (ap (λ (z : InFlight). z.key) n.1))
          ∙ sym n.0
      apart_at v u a b e (inr i) (inr n) = f.inv.apart v u a b i.1 n.1 e

      fact_at : (v : ℕ) (y : InFlight) → ((v ≡ w) × (next_sync x.key work ≡ y)) ⊎
          ((v ≢ w) × (map.get s.syncs v ≡ Some y))
          → SyncFact home (after s.store (job_added j)) (g.m ∷ ms) (cl v) y.key y.phase
      fact_at v y (inl e) = subst (λ (n : ℕ). SyncFact home (after s.store (job_added j)) (g.m ∷ ms)
          (cl n) y.key y.phase) (sym e.0)
          (subst (λ (z : InFlight). SyncFact home (after s.store (job_added j)) (g.m ∷ ms) (cl w) z.key z.phase) e.1
          (left_made home s.store ms (cl w) x.key work d g.m j (left work.plan.steps (work.place + 1)) key mk fact))
      fact_at v y (inr e) = sync_other mk ms (cl v) y.key y.phase (λ k. e.0 (f.inv.apart v w y x e.1 at k))
          (f.inv.facts v y e.1)

  -- For make_at: a making keeps the facts, whether the store takes the Job or refuses it.
  make_result : Now s ms cl home → s.store.uids + 1 ≤ last_uid → (w : ℕ) (x : InFlight) → sync_of s w ≡ Some x
      → (work : Work) (d : JobDraft) → LeftFact home s.store ms (cl w) x.key work
      (makes d ∷ left work.plan.steps (work.place + 1))
      → (res : Result Event Refusal) → map_ok job_added (job_made s.store d work.plan.at) ≡ res
      → MakeKept s ms cl w (steps_on s w (next_sync x.key work) event_reply res)
  make_result f b w x at work d fact (Err e) r = make_refused f w e
  make_result f b w x at work d fact (Ok e) r =
      let a = mapped job_added (job_made s.store d work.plan.at) e r in
      let n = made_is s.store d work.plan.at a.0 a.1 in
      let g = fact.make d (inl refl) in
      subst (λ (c : Event). MakeKept s ms cl w (steps_on s w (next_sync x.key work) event_reply (Ok c)))
      (ap job_added n.1 ∙ a.2) (
        home,
        subst (λ (o : Option Claimed). Inv home (after s.store (job_added (new_job s.store d work.plan.at))) s.queue.row
            (map.insert s.syncs w (next_sync x.key work)) (with_made true o ms) cl) (sym g.claimed)
            (make_syncs f w x at work d g (new_job s.store d work.plan.at) refl
            (record {
              home_is = g.home_is;
              uid = g.uid;
              owner = g.owner;
              controller = g.controller;
              text = g.text;
              room = b;
            }) fact),
        omega arith,
      )

  -- For make_phase: the next step makes a Job, or the call is refused; the facts stay.
  make_at : Now s ms cl home → s.store.uids + 1 ≤ last_uid → (w : ℕ) (x : InFlight) → sync_of s w ≡ Some x →
      (work : Work)
      → x.phase ≡ Works work → (o : Option JobDraft) → as_make (step_at work.plan.steps work.place) ≡ o
      → MakeKept s ms cl w (make_where s w x.key work o)
  make_at f b w x at work e None is = make_refused f w OutOfPhase
  make_at f b w x at work e (Some d) is = make_result f b w x at work d
      (work_fact f w x at work e (makes d) (make_is (step_at work.plan.steps work.place) d is))
      (map_ok job_added (job_made s.store d work.plan.at)) refl

  -- For make_sync: a MakeNext by a worker with a sync keeps the facts, in each phase.
  make_phase : Now s ms cl home → s.store.uids + 1 ≤ last_uid → (w : ℕ) (x : InFlight) → sync_of s w ≡ Some x →
      (p : Phase)
      → x.phase ≡ p → MakeKept s ms cl w (make_in s w x.key p)
  make_phase f b w x at (Works work) e = make_at f b w x at work e (as_make (step_at work.plan.steps work.place)) refl
  make_phase f b w x at p e = make_refused f w OutOfPhase

  -- For make_kept: a MakeNext keeps the facts, whether or not the worker has a sync.
  make_sync : Now s ms cl home → s.store.uids + 1 ≤ last_uid → (w : ℕ) (o : Option InFlight) → sync_of s w ≡ o
      → MakeKept s ms cl w (by_sync s (make_in s w) o)
  make_sync f b w None e = make_refused f w OutOfPhase
  make_sync f b w (Some x) e = make_phase f b w x e x.phase refl

  -- A MakeNext keeps the facts, with the claim of the Job that it makes, if any, put to those made.
  pub make_kept : Now s ms cl home → s.store.uids + 1 ≤ last_uid → (w : ℕ) → MakeKept s ms cl w (make_next s w)
  unfolding make_next
  make_kept f b w = make_sync f b w (sync_of s w) refl

  -- ---- an accepted making

  -- For rests_phase: a making that is accepted has a draft as its next step, and rests on a claim.
  rests_at : Now s ms cl home → (w : ℕ) (x : InFlight) → sync_of s w ≡ Some x → (work : Work) → x.phase ≡ Works work
      → (o : Option JobDraft) → as_make (step_at work.plan.steps work.place) ≡ o
      → is_ok (make_where s w x.key work o).answer ≡ true → Rests s ms (cl w)
  rests_at f w x at work e None is ok = absurd (cc ok)
  rests_at f w x at work e (Some d) is ok =
      let fact = work_fact f w x at work e (makes d) (make_is (step_at work.plan.steps work.place) d is) in
      let g = fact.make d (inl refl) in
      record { m = g.m; claimed = g.claimed; above = g.above; alone = g.alone }

  -- For rests_sync: a making that is accepted is in the phase Works, and rests on a claim.
  rests_phase : Now s ms cl home → (w : ℕ) (x : InFlight) → sync_of s w ≡ Some x → (p : Phase) → x.phase ≡ p
      → is_ok (make_in s w x.key p).answer ≡ true → Rests s ms (cl w)
  rests_phase f w x at (Works work) e ok = rests_at f w x at work e (as_make (step_at work.plan.steps work.place)) refl
      ok
  rests_phase f w x at p e ok = absurd (cc ok)

  -- For make_rests: a making that is accepted is by a worker with a sync, and rests on a claim.
  rests_sync : Now s ms cl home → (w : ℕ) (o : Option InFlight) → sync_of s w ≡ o
      → is_ok (by_sync s (make_in s w) o).answer ≡ true → Rests s ms (cl w)
  rests_sync f w None e ok = absurd (cc ok)
  rests_sync f w (Some x) e ok = rests_phase f w x e x.phase refl ok

  -- An accepted MakeNext rests on a claim after all made for its owner, and alone if strict.
  pub make_rests : Now s ms cl home → (w : ℕ) → is_ok (make_next s w).answer ≡ true → Rests s ms (cl w)
  unfolding make_next
  make_rests f w ok = rests_sync f w (sync_of s w) refl ok

-- DropNext, SetStatus and Claim keep the facts.
use Rattle.std.proofs.Common.{◌≡◌, ◌≢◌, ◌⊎◌, inl, inr, ℕ, ◌+◌, ◌≤◌, ◌==◌, Bool, true, false, cond, ◌&&◌, List, [], ◌∷◌, Option, None, Some, refl, ap, sym, subst, ◌∙◌, arith}
use Rattle.std.specs.Prelude.{IfSome, Result, Ok, Err, if◌then◌else◌}
use Rattle.std.proofs.lemmas.Bool.Decides.{nat_tests}
use Rattle.std.specs.FinMap as map
use Rattle.cj_base.specs.declared.refusal.Refusal.{Refusal}
use Rattle.cj_base.specs.declared.refusal.Refusal.TheVariants.{OutOfPhase, Stale}
use Rattle.cj_types.specs.Keys.{Place}
use Rattle.cj_types.specs.Uids.{last_uid}
use Rattle.cj_types.specs.declared.cron.CronJob.{CronJob}
use Rattle.cj_types.specs.declared.cron.CronStatus.{CronStatus}
use Rattle.cj_types.specs.declared.job.Job.{Job}
use Rattle.cj_types.specs.declared.event.Event.{Event}
use Rattle.cj_store.specs.Content.{Content}
use Rattle.cj_store.specs.Change.{after, map_ok, cron_modified, job_gone}
use Rattle.cj_store.specs.Crons.{with_status, status_set}
use Rattle.cj_store.specs.Jobs.{job_deleted}
use Rattle.cj_store.proofs.Codes.{is_same-equal}
use Rattle.cj_types.specs.Events.{version_of}
use Rattle.cj_decide.specs.Decision.{Planned}
use Rattle.cj_status.specs.declared.refs.JobRef.{JobRef}
use Rattle.cj_decide.specs.declared.start.Claim.{Claim}
use Rattle.cj_calls.specs.declared.reply.Reply.{Reply}
use Rattle.cj_calls.specs.declared.reply.Reply.TheVariants as Say
use Rattle.cj_state.specs.phases.Inputs.{rests_on, same_cron, same_jobs, same_active}
use Rattle.cj_state.specs.phases.Steps.{Step, drops, makes, sets, step_at, left, all_steps, as_drop, as_status}
use Rattle.cj_state.proofs.PhasesLemmas.Places.{steps_left}
use Rattle.cj_state.specs.declared.phases.sync.Work.{Work}
use Rattle.cj_state.specs.declared.phases.sync.InFlight.{InFlight}
use Rattle.cj_state.specs.declared.phases.sync.Phase.{Phase}
use Rattle.cj_state.specs.declared.phases.sync.Phase.TheVariants.{Checked, Works}
use Rattle.cj_state.specs.declared.state.State.{State}
use Rattle.cj_state.specs.WorkerCalls.{Handled, refused, sync_of, by_sync, works, seen_version, wrote, claims, claim_where, claim_in, claim, further, next_sync, steps_on, drops_it, drop_where, drop_in, drop_next, sets_it, status_where, status_in, set_status, version_reply}
use Rattle.cj_decide.specs.laws.Fits.{IsAt, IsAmong, IsFound, upto, Starts, Waits, FitsWith, FitsFor, Fits, Keeps}
use Rattle.cj_world_laws.specs.once.Once.{Claimed, claimed_under, claimed_of, claim_answered}
use Rattle.cj_world_laws.proofs.OnceLemmas.Maps.{removal_at, put_at}
use Rattle.cj_world_laws.proofs.OnceLemmas.Lists.{Before, Rest, before_all, in_all_makes, in_all_sets, all_ordered, both_true, weaker}
use Rattle.cj_world_laws.proofs.OnceLemmas.Facts.{Homes, Named, StoreFact, CheckedFact, StatusFact, PlanFact, SyncFact, Inv}
use Rattle.cj_world_laws.proofs.OnceLemmas.Grows.{Grows, plan_kept, last_of}
use Rattle.cj_world_laws.proofs.OnceLemmas.Writes.{mapped, set_is, not_deleted, deleted_key, grows_same, grows_put, grows_removal_job}
use Rattle.cj_world_laws.proofs.OnceLemmas.Frames.{Claims, sync_changed, same_claims}
use Rattle.cj_world_laws.proofs.OnceLemmas.Calls.{Now, Plain, stays, by_sync_plain, fact_of}

-- ---- DropNext

abbrev Gone : Content → Place → ℕ → Type 0
Gone t k u = (q : Place) (j : Job) → map.get t.jobs q ≡ Some j → k ≡ q → u ≡ j.meta.uid → ⊥

-- A Job that is dropped before anything else, and not by the first drop, is by a later one.
not_first : (r : JobRef) (rs : List Step) (q : Place) (i : ℕ) → (r.key ≡ q → r.uid ≡ i → ⊥) → Before (drops r ∷ rs) q i
    → Before rs q i
not_first r rs q i n (inl e) = absurd (n e.0 e.1)
not_first r rs q i n (inr h) = h

-- Where one of two facts holds, so does the first, or what follows from the second.
is_more : {A B C : Type 0} → (B → C) → A ⊎ B → A ⊎ C
is_more f (inl a) = inl a
is_more f (inr b) = inr (f b)

-- a drop was made, or there was nothing to drop: the rest is left
dropped_fact : (home : Homes) (t : Content) (ms : List Claimed) (cl : Option Claimed) (k : Place) (cron : Option
    CronJob) (v : ℕ) (r : JobRef) (rs : List Step) → Gone t r.key r.uid → PlanFact home t ms cl k cron v (drops r ∷ rs)
    → PlanFact home t ms cl k cron v rs
dropped_fact home t ms cl k cron v r rs n f = record {
  ordered = f.ordered;
  make = λ d i. let h = f.make d (inr i) in record {
    m = h.m;
    claimed = h.claimed;
    home_is = h.home_is;
    uid = h.uid;
    above = h.above;
    last = h.last;
    named = h.named;
    alone = λ st q j at a. not_first r rs q j.meta.uid (n q j at) (h.alone st q j at a);
    owner = h.owner;
    controller = h.controller;
    text = h.text;
  };
  status = λ c x e i. let h = f.status c x e (inr i) in record {
    home_is = h.home_is;
    uid = h.uid;
    version = h.version;
    last = h.last;
    spoken = λ q j at a. is_more (not_first r rs q j.meta.uid (n q j at)) (h.spoken q j at a);
  };
  names = λ d x i j. f.names d x (inr i) (inr j);
}

-- A next step that drops a Job is the drop of this Job.
drop_is : (o : Option Step) (r : JobRef) → as_drop o ≡ Some r → o ≡ Some (drops r)
drop_is None r e = absurd (cc e)
drop_is (Some (drops x)) r e = let h : x ≡ r = cc e in ap (λ z. Some (drops z)) h
drop_is (Some (makes d)) r e = absurd (cc e)
drop_is (Some (sets x)) r e = absurd (cc e)

-- A next step that sets a status is the setting of this status.
status_is : (o : Option Step) (f : CronStatus) → as_status o ≡ Some f → o ≡ Some (sets f)
status_is None f e = absurd (cc e)
status_is (Some (drops x)) f e = absurd (cc e)
status_is (Some (makes d)) f e = absurd (cc e)
status_is (Some (sets x)) f e = let h : x ≡ f = cc e in ap (λ z. Some (sets z)) h

abbrev pub LeftFact : Homes → Content → List Claimed → Option Claimed → Place → Work → List Step → Type 0
LeftFact home s ms cl k work rs = PlanFact home s ms cl k work.plan.cron work.version rs

module _ {s : State} {ms : List Claimed} {cl : Claims} {home : Homes} where
  -- Of a worker that has a next step, the plan's facts hold of this step and those behind it.
  pub work_fact : Now s ms cl home → (w : ℕ) (x : InFlight) → sync_of s w ≡ Some x → (work : Work) → x.phase
      ≡ Works work
      → (y : Step) → step_at work.plan.steps work.place ≡ Some y
      → LeftFact home s.store ms (cl w) x.key work (y ∷ left work.plan.steps (work.place + 1))
  work_fact f w x at work e y is = subst (LeftFact home s.store ms (cl w) x.key work)
      (steps_left work.plan.steps work.place y is) (fact_of f w x at (Works work) e)

  -- the store may grow, and what is left is the plan's
  stepped : Now s ms cl home → (own : Option Place) (t : Content) (w : ℕ) (x : InFlight) → sync_of s w ≡ Some x
      → (work : Work) → Grows own home home s.store t → (own ≡ None) ⊎ (own ≡ Some x.key)
      → LeftFact home t ms (cl w) x.key work (left work.plan.steps (work.place + 1))
      → Inv home t s.queue.row (map.insert s.syncs w (next_sync x.key work)) ms cl
  stepped f own t w x at work g mine fact = sync_changed own home home s.store t s.queue.row s.syncs ms cl cl w x
      (further work) f.inv at g mine (λ v n. refl) fact

  -- For drop_at: a drop keeps the facts, whether the Job is deleted or no such Job is there.
  drop_result : Now s ms cl home → s.store.uids + 1 ≤ last_uid → (w : ℕ) (x : InFlight) → sync_of s w ≡ Some x
      → (work : Work) (r : JobRef) → LeftFact home s.store ms (cl w) x.key work
      (drops r ∷ left work.plan.steps (work.place + 1))
      → (res : Result Event Refusal) → map_ok job_gone (job_deleted s.store r.key (Some r.uid)) ≡ res
      → Plain s ms cl (drops_it s w (next_sync x.key work) r.key res)
  drop_result f b w x at work r fact (Ok e) is =
      let a = mapped job_gone (job_deleted s.store r.key (Some r.uid)) e is in
      let g : Grows None home home s.store (after s.store (job_gone a.0)) =
      grows_removal_job a.0 f.inv.store (omega arith) in
      let key : a.0.key ≡ r.key = deleted_key f.inv.store r.key (Some r.uid) a.0 a.1 in
      subst (λ (c : Event). Plain s ms cl (drops_it s w (next_sync x.key work) r.key (Ok c))) a.2 (
        home,
        stepped f None (after s.store (job_gone a.0)) w x at work g (inl refl)
            (dropped_fact home (after s.store (job_gone a.0)) ms (cl w) x.key work.plan.cron work.version r
            (left work.plan.steps (work.place + 1))
            (λ q j is k u. (removal_at s.store.jobs a.0.key q j is).0 (sym (key ∙ k)))
            (plan_kept g ms (cl w) x.key (λ e. absurd (cc e)) work.plan.cron work.version
            (drops r ∷ left work.plan.steps (work.place + 1)) fact)),
        omega arith,
      )
  drop_result f b w x at work r fact (Err e) is = (
    home,
    stepped f None s.store w x at work (grows_same f.inv.store (omega arith)) (inl refl)
        (dropped_fact home s.store ms (cl w) x.key work.plan.cron work.version r (left work.plan.steps (work.place + 1))
        (λ q j i k u. not_deleted s.store r.uid (map.get s.store.jobs r.key) e is j (ap (map.get s.store.jobs) k ∙ i)
        (sym u))
        fact),
    omega arith,
  )

  -- For drop_phase: the next step drops a Job, or the call is refused; the facts stay.
  drop_at : Now s ms cl home → s.store.uids + 1 ≤ last_uid → (w : ℕ) (x : InFlight) → sync_of s w ≡ Some x →
      (work : Work)
      → x.phase ≡ Works work → (o : Option JobRef) → as_drop (step_at work.plan.steps work.place) ≡ o
      → Plain s ms cl (drop_where s w x.key work o)
  drop_at f b w x at work e None is = stays f (Err OutOfPhase)
  drop_at f b w x at work e (Some r) is = drop_result f b w x at work r
      (work_fact f w x at work e (drops r) (drop_is (step_at work.plan.steps work.place) r is))
      (map_ok job_gone (job_deleted s.store r.key (Some r.uid))) refl

  -- For drop_plain: a DropNext by a worker with a sync keeps the facts, in each phase.
  drop_phase : Now s ms cl home → s.store.uids + 1 ≤ last_uid → (w : ℕ) (x : InFlight) → sync_of s w ≡ Some x →
      (p : Phase)
      → x.phase ≡ p → Plain s ms cl (drop_in s w x.key p)
  drop_phase f b w x at (Works work) e = drop_at f b w x at work e (as_drop (step_at work.plan.steps work.place)) refl
  drop_phase f b w x at p e = stays f (Err OutOfPhase)

  -- A DropNext keeps the facts.
  pub drop_plain : Now s ms cl home → s.store.uids + 1 ≤ last_uid → (w : ℕ) → Plain s ms cl (drop_next s w)
  unfolding drop_next
  drop_plain f b w = by_sync_plain f w (drop_in s w) (drop_phase f b w) (sync_of s w) refl

-- ---- SetStatus

-- nothing is left after the status
nothing_left : (home : Homes) (t : Content) (ms : List Claimed) (cl : Option Claimed) (k : Place) (cron : Option
    CronJob) (v : ℕ) (rs : List Step) → rs ≡ [] → PlanFact home t ms cl k cron v rs
nothing_left home t ms cl k cron v rs e = subst (PlanFact home t ms cl k cron v) (sym e)
    (record { ordered = tt; make = λ d i. absurd i; status = λ c x h i. absurd i; names = λ d x i j. absurd i })

-- Where one of two facts holds and the second can't, the first holds.
the_rest : {A : Type 0} → A ⊎ ⊥ → A
the_rest (inl a) = a
the_rest (inr b) = absurd b

module _ {s : State} {ms : List Claimed} {cl : Claims} {home : Homes} where
  -- For status_cron: the setting of a status keeps the facts, whether it is written or refused.
  status_result : Now s ms cl home → s.store.uids + 1 ≤ last_uid → (w : ℕ) (x : InFlight) → sync_of s w ≡ Some x
      → (work : Work) (f : CronStatus) (c : CronJob) → work.plan.cron ≡ Some c
      → LeftFact home s.store ms (cl w) x.key work (sets f ∷ left work.plan.steps (work.place + 1))
      → (res : Result Event Refusal) → map_ok cron_modified (status_set s.store x.key c.meta.uid work.version f) ≡ res
      → Plain s ms cl (steps_on s w (next_sync x.key work) version_reply res)
  status_result i b w x at work f c is fact (Ok e) r =
      let a = mapped cron_modified (status_set s.store x.key c.meta.uid work.version f) e r in
      let z = set_is s.store c.meta.uid work.version f (map.get s.store.crons x.key) a.0 a.1 in
      let st : StatusFact home s.store x.key (sets f ∷ left work.plan.steps (work.place + 1)) c.meta.uid work.version
      f = fact.status c f is (inl refl) in
      let named : Named x.key z.old.meta.uid f.active s.store.jobs = subst
      (λ (u : ℕ). Named x.key u f.active s.store.jobs) (sym z.uid) (λ q j h t. the_rest (st.spoken q j h t)) in
      subst (λ (d : Event). Plain s ms cl (steps_on s w (next_sync x.key work) version_reply (Ok d)))
      (ap cron_modified z.is ∙ a.2) (
        home,
        stepped i (Some x.key) (after s.store (cron_modified (with_status s.store f z.old))) w x at work
            (grows_put (Some x.key) x.key z.old (with_status s.store f z.old) i.inv.store
            (omega arith) z.there refl refl refl (st.last z.old z.there z.version) (inr refl) named)
            (inr refl)
            (nothing_left home _ ms (cl w) x.key work.plan.cron work.version
            (left work.plan.steps (work.place + 1)) fact.ordered),
        omega arith,
      )
  status_result i b w x at work f c is fact (Err e) r = stays i (Err OutOfPhase)

  -- For status_at: a status of the plan's CronJob is set, or refused without one; the facts stay.
  status_cron : Now s ms cl home → s.store.uids + 1 ≤ last_uid → (w : ℕ) (x : InFlight) → sync_of s w ≡ Some x
      → (work : Work) (f : CronStatus) → LeftFact home s.store ms (cl w) x.key work
      (sets f ∷ left work.plan.steps (work.place + 1)) → (o : Option CronJob) → work.plan.cron ≡ o
      → Plain s ms cl (sets_it s w x.key work f o)
  status_cron i b w x at work f fact None e = stays i (Err OutOfPhase)
  status_cron i b w x at work f fact (Some c) e = status_result i b w x at work f c e fact
      (map_ok cron_modified (status_set s.store x.key c.meta.uid work.version f)) refl

  -- For status_phase: the next step sets a status, or the call is refused; the facts stay.
  status_at : Now s ms cl home → s.store.uids + 1 ≤ last_uid → (w : ℕ) (x : InFlight) → sync_of s w ≡ Some x →
      (work : Work)
      → x.phase ≡ Works work → (o : Option CronStatus) → as_status (step_at work.plan.steps work.place) ≡ o
      → Plain s ms cl (status_where s w x.key work o)
  status_at i b w x at work e None is = stays i (Err OutOfPhase)
  status_at i b w x at work e (Some f) is = status_cron i b w x at work f
      (work_fact i w x at work e (sets f) (status_is (step_at work.plan.steps work.place) f is)) work.plan.cron refl

  -- For status_plain: a SetStatus by a worker with a sync keeps the facts, in each phase.
  status_phase : Now s ms cl home → s.store.uids + 1 ≤ last_uid → (w : ℕ) (x : InFlight) → sync_of s w ≡ Some x
      → (p : Phase) → x.phase ≡ p → Plain s ms cl (status_in s w x.key p)
  status_phase f b w x at (Works work) e = status_at f b w x at work e (as_status (step_at work.plan.steps work.place))
      refl
  status_phase f b w x at p e = stays f (Err OutOfPhase)

  -- A SetStatus keeps the facts.
  pub status_plain : Now s ms cl home → s.store.uids + 1 ≤ last_uid → (w : ℕ) → Plain s ms cl (set_status s w)
  unfolding set_status
  status_plain f b w = by_sync_plain f w (status_in s w) (status_phase f b w) (sync_of s w) refl

-- ---- Claim

-- A plan that passes the test of a claim has the CronJob and the live read that its worker got.
pub inputs : (p : Planned) (c : Option CronJob) (js : List Job) (ks : List (Option Job)) → rests_on p c js ks ≡ true
    → (p.cron ≡ c) × (p.active ≡ ks)
unfolding rests_on
inputs p c js ks h =
    let a = both_true (same_cron p.cron c && same_jobs p.jobs js) (same_active p.active ks) h in
    let b = both_true (same_cron p.cron c) (same_jobs p.jobs js) a.0 in
    (is_same-equal _ p.cron c b.0, is_same-equal _ p.active ks a.1)

-- what was found unfinished is named in a status, or dropped
spoken_of : (s : Content) (p : Planned) (c : CronJob) (k : Place) (f : CronStatus) → c.key ≡ k
    → Rest c.meta.uid (IsFound c p.active) s.jobs → p.steps.status ≡ Some f → Keeps p c
    → Rest c.meta.uid (λ q i. IsAt k.namespace f.active q ⊎ Before (all_steps p.steps) q i) s.jobs
spoken_of s p c k f e all is keeps q j at a = by (keeps f is q j.meta.uid (all q j at a))
  where
    by : IsAt c.key.namespace f.active q ⊎ IsAmong p.steps.drop_first q j.meta.uid
        → IsAt k.namespace f.active q ⊎ Before (all_steps p.steps) q j.meta.uid
    by (inl h) = inl (subst (λ (n : Place). IsAt n.namespace f.active q) e h)
    by (inr h) = inr (before_all p.steps.drop_first _ q j.meta.uid h)

-- Two values that one option has are the same.
some_is : {X : Type 0} (a b : X) (o : Option X) → o ≡ Some a → o ≡ Some b → a ≡ b
some_is a b o e f = cc (sym e ∙ f)

-- what a plan leaves to do that claims nothing
wait_fact : (home : Homes) (s : Content) (ms : List Claimed) (cl : Option
    Claimed) (k : Place) (p : Planned) (c : CronJob) → p.cron ≡ Some c → CheckedFact home s k p.active c → Waits p c
    → Keeps p c → PlanFact home s ms cl k p.cron c.meta.version (all_steps p.steps)
wait_fact home s ms cl k p c is g st keeps = record {
  ordered = all_ordered p.steps;
  make = λ d i. absurd (cc (sym st.makes ∙ in_all_makes p.steps d i));
  status = λ x f e i.
      let same : c ≡ x = some_is c x p.cron is e in
      subst (λ (z : CronJob). StatusFact home s k (all_steps p.steps) z.meta.uid c.meta.version f) same (record {
        home_is = g.seen.home_is;
        uid = g.seen.uid;
        version = g.seen.version;
        last = λ d at v. subst (λ (z : CronJob). last_of z ≤ upto f.last_schedule_time) (sym (g.seen.same d at v))
            (st.final f (in_all_sets p.steps f i));
        spoken = spoken_of s p c k f g.seen.key g.found (in_all_sets p.steps f i) keeps;
      });
  names = λ d f i j. absurd (cc (sym st.makes ∙ in_all_makes p.steps d i));
}

-- The CronJob at the key of a written status is the old one with this status.
written_is : (s : Content) (f : CronStatus) (d z : CronJob) (k : Place) → d.key ≡ k
    → map.get (after s (cron_modified (with_status s f d))).crons k ≡ Some z → with_status s f d ≡ z
written_is s f d z k e at = by (put_at s.crons d.key k (with_status s f d) z at)
  where
    by : ((k ≡ d.key) × (with_status s f d ≡ z)) ⊎ ((k ≢ d.key) × (map.get s.crons k ≡ Some z)) → with_status s f d ≡ z
    by (inl h) = h.1
    by (inr h) = absurd (h.0 (sym e))

-- and one that starts a Job
start_fact : (home : Homes) (s : Content) (ms : List
    Claimed) (k : Place) (p : Planned) (c : CronJob) (y : Claim) (d : CronJob) → StoreFact home s ms → p.cron ≡ Some c
    → CheckedFact home s k p.active c → Starts p c y → Keeps p c → map.get s.crons k ≡ Some d → d ≡ c
    → PlanFact home (after s (cron_modified (with_status s y.status d))) ms (claimed_of s y.time p.cron) k p.cron
    (s.version + 1) (all_steps p.steps)
start_fact home s ms k p c y d f is g st keeps at same = record {
  ordered = all_ordered p.steps;
  make = λ x i. let m = st.makes x (in_all_makes p.steps x i) in record {
    m = record { owner = c.meta.uid; time = y.time; policy = c.spec.policy };
    claimed = ap (claimed_of s y.time) is ∙ ap (claimed_under c.meta.uid y.time) (ap (map.get s.crons) g.seen.key ∙ at)
        ∙ ap (λ (z : CronJob). Some (record { owner = c.meta.uid; time = y.time; policy = z.spec.policy })) same;
    home_is = g.seen.home_is;
    uid = g.seen.uid;
    above = weaker _ _ (λ z h e. let a = h (e ∙ ap (λ (x : CronJob). x.meta.uid) (sym same)) in let l
        = ap last_of same in let b = st.later in omega arith) ms (f.crons k d at).made;
    last = λ z e u. let h = ap last_of (written z e) in let l = ap upto st.says in omega arith;
    named = λ z e u. subst (λ (n : List (List ℕ)). IsAt k.namespace n x.key)
        (ap (λ (q : CronJob). q.status.active) (written z e))
        (subst (λ (n : Place). IsAt n.namespace y.status.active x.key) g.seen.key m.named);
    alone = λ strict q j e a. before_all p.steps.drop_first _ q j.meta.uid
        (st.drops strict q j.meta.uid (g.found q j e a));
    owner = m.owner;
    controller = m.controller;
    text = m.uid;
  };
  status = λ x f e i.
      let mine : c ≡ x = some_is c x p.cron is e in
      subst (λ (z : CronJob). StatusFact home (after s (cron_modified (with_status s y.status d))) k
      (all_steps p.steps) z.meta.uid (s.version + 1) f) mine (record {
        home_is = g.seen.home_is;
        uid = g.seen.uid;
        version = omega arith;
        last = λ z e v. let h = ap last_of (written z e) in let l = st.final f (in_all_sets p.steps f i) in omega arith;
        spoken = spoken_of s p c k f g.seen.key g.found (in_all_sets p.steps f i) keeps;
      });
  names = λ x f i j. subst (λ (n : Place). IsAt n.namespace f.active x.key) g.seen.key
      ((st.makes x (in_all_makes p.steps x i)).final f (in_all_sets p.steps f j));
}
  where
    written : (z : CronJob) → map.get (after s (cron_modified (with_status s y.status d))).crons k ≡ Some z
        → with_status s y.status d ≡ z
    written z e = written_is s y.status d z k ((f.crons k d at).key) e

-- and that of no CronJob
none_fact : (home : Homes) (s : Content) (ms : List Claimed) (cl : Option Claimed) (k : Place) (p : Planned) (v : ℕ)
    → p.cron ≡ None → p.steps.make ≡ None → PlanFact home s ms cl k p.cron v (all_steps p.steps)
none_fact home s ms cl k p v is none = record {
  ordered = all_ordered p.steps;
  make = λ d i. absurd (cc (sym none ∙ in_all_makes p.steps d i));
  status = λ x f e i. absurd (cc (sym is ∙ e));
  names = λ d f i j. absurd (cc (sym none ∙ in_all_makes p.steps d i));
}

-- A number is equal to itself by the test.
self_true : (w : ℕ) → (w == w) ≡ true
self_true w = grind (arith, nat_tests)

-- A choice between a value and the same value is that value.
pub same_branches : {A : Type 0} (b : Bool) (a : A) → a ≡ cond b a a
same_branches true a = refl
same_branches false a = refl

abbrev pub ClaimsAfter : State → Planned → Result Reply Refusal → Claims → ℕ → Claims
ClaimsAfter s p a cl w v = cond (v == w) (claim_answered s.store p a (cl v)) (cl v)

abbrev pub ClaimKept : State → List Claimed → Claims → ℕ → Planned → Handled → Type 0
ClaimKept s ms cl w p r = (home : Homes) × Inv home r.state.store r.state.queue.row r.state.syncs ms
    (ClaimsAfter s p r.answer cl w) × (r.state.store.uids ≤ s.store.uids + 1)

-- The answer to a claim leaves what other workers last claimed.
other_claims : (s : State) (p : Planned) (a : Result Reply Refusal) (cl : Claims) (w v : ℕ) → v ≢ w
    → cl v ≡ ClaimsAfter s p a cl w v
other_claims s p a cl w v n = by (v == w) refl
  where
    by : (b : Bool) → (v == w) ≡ b → cl v ≡ cond b (claim_answered s.store p a (cl v)) (cl v)
    by true e = absurd (n (grind (arith, nat_tests, e)))
    by false e = refl

-- The answer to a claim says what its worker last claimed.
own_claim : (s : State) (p : Planned) (a : Result Reply Refusal) (cl : Claims) (w : ℕ)
    → claim_answered s.store p a (cl w) ≡ ClaimsAfter s p a cl w w
own_claim s p a cl w = sym (ap (λ b. cond b (claim_answered s.store p a (cl w)) (cl w)) (self_true w))

module _ {s : State} {ms : List Claimed} {cl : Claims} {home : Homes} where
  -- A Claim that is refused keeps the facts, and what its worker last claimed.
  claim_refused : Now s ms cl home → (w : ℕ) (p : Planned) (e : Refusal) → ClaimKept s ms cl w p (refused s e)
  claim_refused f w p e = (
    home,
    same_claims home s.store s.queue.row s.syncs ms cl (ClaimsAfter s p (Err e) cl w)
        (λ v. same_branches (v == w) (cl v)) f.inv,
    omega arith,
  )

  -- For claim_go: a Claim of no time keeps the facts, if those of the plan's steps hold.
  claim_waits : Now s ms cl home → s.store.uids + 1 ≤ last_uid → (w : ℕ) (x : InFlight) → sync_of s w ≡ Some x
      → (p : Planned) → PlanFact home s.store ms None x.key p.cron (seen_version p.cron) (all_steps p.steps)
      → ClaimKept s ms cl w p (claim_where s w x.key p None)
  claim_waits f b w x at p fact = (
    home,
    sync_changed None home home s.store s.store s.queue.row s.syncs ms cl
        (ClaimsAfter s p (Ok (Say.Claimed None)) cl w) w x (works p (seen_version p.cron) 0) f.inv at
        (grows_same f.inv.store (omega arith)) (inl refl) (other_claims s p (Ok (Say.Claimed None)) cl w)
        (subst (λ (o : Option Claimed). SyncFact home s.store ms o x.key (works p (seen_version p.cron) 0))
        (own_claim s p (Ok (Say.Claimed None)) cl w) fact),
    omega arith,
  )

  -- For claim_go: a Claim of a time keeps the facts, whether its status is written or refused.
  claim_result : Now s ms cl home → s.store.uids + 1 ≤ last_uid → (w : ℕ) (x : InFlight) → sync_of s w ≡ Some x
      → (p : Planned) (c : CronJob) (y : Claim) → p.cron ≡ Some c → CheckedFact home s.store x.key p.active c
      → Starts p c y → Keeps p c
      → (res : Result Event Refusal) → map_ok cron_modified
      (status_set s.store x.key c.meta.uid c.meta.version y.status) ≡ res
      → ClaimKept s ms cl w p (wrote s w x.key (λ e. Say.Claimed (Some (y.time, version_of e)))
      (λ e. works p (version_of e) 0) res)
  claim_result f b w x at p c y is g st keeps (Err e) r = claim_refused f w p e
  claim_result f b w x at p c y is g st keeps (Ok e) r =
      let a = mapped cron_modified (status_set s.store x.key c.meta.uid c.meta.version y.status) e r in
      let z = set_is s.store c.meta.uid c.meta.version y.status (map.get s.store.crons x.key) a.0 a.1 in
      let same : z.old ≡ c = g.seen.same z.old z.there z.version in
      let named : Named x.key z.old.meta.uid y.status.active s.store.jobs =
      subst (λ (u : ℕ). Named x.key u y.status.active s.store.jobs) (sym z.uid) (more g st) in
      let later : last_of z.old ≤ upto y.status.last_schedule_time =
      (let l = ap last_of same in let m = st.later in let n = ap upto st.says in omega arith) in
      let answer : Result Reply Refusal = Ok (Say.Claimed (Some (y.time, s.store.version + 1))) in
      subst (λ (d : Event). ClaimKept s ms cl w p
      (wrote s w x.key (λ e. Say.Claimed (Some (y.time, version_of e))) (λ e. works p (version_of e) 0) (Ok d)))
      (ap cron_modified z.is ∙ a.2) (
        home,
        sync_changed (Some x.key) home home s.store (after s.store (cron_modified (with_status s.store y.status z.old)))
            s.queue.row s.syncs ms cl (ClaimsAfter s p answer cl w) w x (works p (s.store.version + 1) 0) f.inv at
            (grows_put (Some x.key) x.key z.old (with_status s.store y.status z.old) f.inv.store
            (omega arith) z.there refl refl refl later (inr refl) named)
            (inr refl) (other_claims s p answer cl w)
            (subst (λ (o : Option Claimed). SyncFact home
            (after s.store (cron_modified (with_status s.store y.status z.old))) ms o x.key
            (works p (s.store.version + 1) 0)) (own_claim s p answer cl w)
            (start_fact home s.store ms x.key p c y z.old f.inv.store is g st keeps z.there same)),
        omega arith,
      )
    where
      more : CheckedFact home s.store x.key p.active c → Starts p c y
          → Named x.key c.meta.uid y.status.active s.store.jobs
      more g st q j h t = subst (λ (n : Place). IsAt n.namespace y.status.active q) g.seen.key
          (st.more q (subst (λ (n : Place). IsAt n.namespace c.status.active q) (sym g.seen.key)
          (g.seen.named q j h t)))

  -- For claim_phase: a Claim that passed the test keeps the facts, whether of a time or of none.
  claim_go : Now s ms cl home → s.store.uids + 1 ≤ last_uid → (w : ℕ) (x : InFlight) → sync_of s w ≡ Some x
      → (p : Planned) (o : Option CronJob) → p.cron ≡ o → FitsFor p o
      → IfSome o (CheckedFact home s.store x.key p.active)
      → (y : Option Claim) → p.steps.claim ≡ y → ClaimKept s ms cl w p (claim_where s w x.key p y)
  claim_go f b w x at p None is fits g None e = claim_waits f b w x at p
      (none_fact home s.store ms None x.key p (seen_version p.cron) is fits.makes)
  claim_go f b w x at p None is fits g (Some y) e =
      subst (λ (o : Option CronJob). ClaimKept s ms cl w p (claims s w x.key p y o)) (sym is)
      (claim_refused f w p Stale)
  claim_go f b w x at p (Some c) is fits g None e =
      claim_waits f b w x at p (subst (λ (v : ℕ). PlanFact home s.store ms None x.key p.cron v (all_steps p.steps))
      (ap seen_version (sym is)) (wait_fact home s.store ms None x.key p c is g
      (subst (FitsWith p c) e fits.0) fits.1))
  claim_go f b w x at p (Some c) is fits g (Some y) e =
      subst (λ (o : Option CronJob). ClaimKept s ms cl w p (claims s w x.key p y o)) (sym is)
      (claim_result f b w x at p c y is g (subst (FitsWith p c) e fits.0) fits.1
      (map_ok cron_modified (status_set s.store x.key c.meta.uid c.meta.version y.status)) refl)

  -- For claim_sync: a Claim by a worker with a sync keeps the facts, in each phase.
  claim_phase : Now s ms cl home → s.store.uids + 1 ≤ last_uid → (w : ℕ) (p : Planned) → Fits p → (x : InFlight)
      → sync_of s w ≡ Some x → (ph : Phase) → x.phase ≡ ph → ClaimKept s ms cl w p (claim_in s w p x.key ph)
  claim_phase f b w p fits x at (Checked c js ks) e = by (rests_on p c js ks) refl
    where
      by : (t : Bool) → rests_on p c js ks ≡ t →
          ClaimKept s ms cl w p (if t then claim_where s w x.key p p.steps.claim else refused s Stale)
      by false t = claim_refused f w p Stale
      by true t =
          let i = inputs p c js ks t in
          let fact : IfSome c (CheckedFact home s.store x.key ks) = fact_of f w x at (Checked c js ks) e in
          let mine : IfSome p.cron (CheckedFact home s.store x.key p.active) =
          subst (λ (o : Option CronJob). IfSome o (CheckedFact home s.store x.key p.active)) (sym i.0)
          (subst (λ (z : List (Option Job)). IfSome c (CheckedFact home s.store x.key z)) (sym i.1) fact) in
          claim_go f b w x at p p.cron refl fits mine p.steps.claim refl
  claim_phase f b w p fits x at ph e = claim_refused f w p OutOfPhase

  -- For claim_kept: a Claim keeps the facts, whether or not the worker has a sync.
  claim_sync : Now s ms cl home → s.store.uids + 1 ≤ last_uid → (w : ℕ) (p : Planned) → Fits p → (o : Option InFlight)
      → sync_of s w ≡ o → ClaimKept s ms cl w p (by_sync s (claim_in s w p) o)
  claim_sync f b w p fits None e = claim_refused f w p OutOfPhase
  claim_sync f b w p fits (Some x) e = claim_phase f b w p fits x e x.phase refl

  -- A Claim by a plan such as the laws ask for keeps the facts, with its claim as the last one.
  pub claim_kept : Now s ms cl home → s.store.uids + 1 ≤ last_uid → (w : ℕ) (p : Planned) → Fits p
      → ClaimKept s ms cl w p (claim s w p)
  unfolding claim
  claim_kept f b w p fits = claim_sync f b w p fits (sync_of s w) refl

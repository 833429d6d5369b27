-- What every call but MakeNext does to the store, and that it keeps each fact.
use Rattle.std.proofs.Common.{◌≡◌, ◌≢◌, ◌⊎◌, inl, inr, ℕ, ◌<◌, ◌≤◌, true, List, Option, None, Some, refl, ap, sym, subst, ◌∙◌, arith}
use Rattle.std.specs.Prelude.{IfSome}
use Rattle.std.specs.FinMap as map
use Rattle.cj_types.specs.Keys.{Place}
use Rattle.cj_types.specs.Uids.{last_uid}
use Rattle.cj_types.specs.Owners.{controller_of}
use Rattle.cj_types.specs.Objects.{is_unfinished}
use Rattle.cj_types.specs.declared.owners.OwnerRef.{OwnerRef}
use Rattle.cj_types.specs.declared.cron.CronJob.{CronJob}
use Rattle.cj_types.specs.declared.cron.CronStatus.{CronStatus}
use Rattle.cj_types.specs.declared.job.Job.{Job}
use Rattle.cj_types.specs.declared.job.JobDraft.{JobDraft}
use Rattle.cj_store.specs.Content.{Content}
use Rattle.cj_state.specs.phases.Steps.{Step, left}
use Rattle.cj_state.specs.declared.phases.sync.Phase.{Phase}
use Rattle.cj_state.specs.declared.phases.sync.Phase.TheVariants.{Held, Seen, Listed, Checked, Works}
use Rattle.cj_decide.specs.laws.Fits.{IsAt, runs, upto}
use Rattle.cj_world_laws.specs.once.Once.{Claimed}
use Rattle.cj_world_laws.proofs.OnceLemmas.Lists.{Rest, weaker, runs_was, runs_free, runs_owned}
use Rattle.cj_world_laws.proofs.OnceLemmas.Facts.{Homes, Named, CronFact, IsOwned, StoreFact, SeenFact, CheckedFact, MakeFact, StatusFact, PlanFact, SyncFact}

abbrev pub last_of : CronJob → ℕ
last_of c = upto c.status.last_schedule_time

-- a CronJob that stood before, of a time that is not later; only at the caller's own key its active
-- names may differ
pub record IsOlder (own : Option Place) (s t : Content) (k : Place) (d c : CronJob) : Type 0 where
  pub was : map.get s.crons k ≡ Some c
  pub key : d.key ≡ c.key
  pub uid : c.meta.uid ≡ d.meta.uid
  pub last : last_of c ≤ last_of d
  pub version : (d ≡ c) ⊎ ((s.version < d.meta.version) × (d.meta.version ≤ t.version))
  pub active : (d.status.active ≡ c.status.active) ⊎ (own ≡ Some k)
  pub named : Named k d.meta.uid d.status.active s.jobs

-- a CronJob that is new
pub record IsFresh (home' : Homes) (s t : Content) (k : Place) (d : CronJob) : Type 0 where
  pub key : d.key ≡ k
  pub home_is : home' d.meta.uid ≡ k
  pub uid : s.uids < d.meta.uid
  pub below : d.meta.uid ≤ t.uids
  pub version : s.version < d.meta.version
  pub top : d.meta.version ≤ t.version

-- a Job that stood before, of the same uid and owners, and finished if it was
pub record WasJob (s : Content) (q : Place) (j i : Job) : Type 0 where
  pub was : map.get s.jobs q ≡ Some i
  pub key : j.key ≡ i.key
  pub uid : j.meta.uid ≡ i.meta.uid
  pub owners : j.owners ≡ i.owners
  pub finished : is_unfinished j ≡ true → is_unfinished i ≡ true

-- a Job without a controller
pub record IsFree (q : Place) (j : Job) : Type 0 where
  pub key : j.key ≡ q
  pub owners : controller_of j.owners ≡ None

abbrev pub Cronic : Option Place → Homes → Content → Content → Place → CronJob → Type 0
Cronic own home' s t k d = ((c : CronJob) × IsOlder own s t k d c) ⊎ IsFresh home' s t k d

abbrev pub Jobbed : Content → Place → Job → Type 0
Jobbed s q j = ((i : Job) × WasJob s q j i) ⊎ IsFree q j

pub record Grows (own : Option Place) (home home' : Homes) (s t : Content) : Type 0 where
  pub uids : s.uids ≤ t.uids
  pub bound : t.uids ≤ last_uid
  pub version : s.version ≤ t.version
  pub homes : (u : ℕ) → u ≤ s.uids → home' u ≡ home u
  pub crons : (k : Place) (d : CronJob) → map.get t.crons k ≡ Some d → Cronic own home' s t k d
  pub jobs : (q : Place) (j : Job) → map.get t.jobs q ≡ Some j → Jobbed s q j

-- a fact of what may be there
pub if_kept : {A : Type 0} (P Q : A → Type 0) → ((a : A) → P a → Q a) → (o : Option A) → IfSome o P → IfSome o Q
if_kept P Q f None h = h
if_kept P Q f (Some a) h = f a h

module _ {s : Content} where
  -- the unfinished Jobs of an owner
  rest_at : (u : ℕ) (P : Place → ℕ → Type 0) → Rest u P s.jobs → (q : Place) (j : Job) → Jobbed s q j → runs u j ≡ true
      → P q j.meta.uid
  rest_at u P f q j (inl w) a = subst (P q) (sym w.1.uid) (f q w.0 w.1.was (runs_was u j w.0 w.1.owners w.1.finished a))
  rest_at u P f q j (inr o) a = absurd (runs_free u j o.owners a)

module _ {own : Option Place} {home' : Homes} {s t : Content} where
  -- A time not later than the last one of a known uid's CronJob is so after the store grew.
  last_at : (k : Place) (u m : ℕ) (d : CronJob) → u ≤ s.uids
      → ((c : CronJob) → map.get s.crons k ≡ Some c → c.meta.uid ≡ u → m < last_of c) → Cronic own home' s t k d
      → d.meta.uid ≡ u → m < last_of d
  last_at k u m d b f (inl o) e = let h = f o.0 o.1.was (o.1.uid ∙ e) in let l = o.1.last in omega arith
  last_at k u m d b f (inr n) e = let l = n.uid in absurd (omega arith)

  -- what is to be made stays named, where the key is another's
  named_at : (k q : Place) (u : ℕ) (d : CronJob) → u ≤ s.uids → own ≢ Some k
      → ((c : CronJob) → map.get s.crons k ≡ Some c → c.meta.uid ≡ u → IsAt k.namespace c.status.active q)
      → Cronic own home' s t k d → d.meta.uid ≡ u → IsAt k.namespace d.status.active q
  named_at k q u d b apart f (inl o) e = by_active o.1.active
    where
      by_active : (d.status.active ≡ o.0.status.active) ⊎ (own ≡ Some k) → IsAt k.namespace d.status.active q
      by_active (inl same) = subst (λ (ns : List (List ℕ)). IsAt k.namespace ns q) (sym same)
          (f o.0 o.1.was (o.1.uid ∙ e))
      by_active (inr h) = absurd (apart h)
  named_at k q u d b apart f (inr n) e = let l = n.uid in absurd (omega arith)

module _ {own : Option Place} {home home' : Homes} {s t : Content} where
  -- What holds of all unfinished Jobs of an owner still holds of them when the store has grown.
  pub rest_kept : Grows own home home' s t → (u : ℕ) (P : Place → ℕ → Type 0) → Rest u P s.jobs → Rest u P t.jobs
  rest_kept g u P f q j at a = rest_at u P f q j (g.jobs q j at) a

  -- For seen_kept: a CronJob that stands at the key with the version seen is the one seen.
  seen_at : (k : Place) (c d : CronJob) → SeenFact home s k c → Cronic own home' s t k d
      → d.meta.version ≡ c.meta.version → d ≡ c
  seen_at k c d f (inl o) e = older o.0 o.1 o.1.version
    where
      older : (b : CronJob) → IsOlder own s t k d b
          → (d ≡ b) ⊎ ((s.version < d.meta.version) × (d.meta.version ≤ t.version)) → d ≡ c
      older b o (inl same) = same ∙ f.same b o.was (ap (λ (x : CronJob). x.meta.version) (sym same) ∙ e)
      older b o (inr v) = let h = f.version in let x = v.0 in absurd (omega (arith, h, x))
  seen_at k c d f (inr n) e = let h = f.version in absurd (omega (arith, h, n.version))

  -- The facts of a CronJob seen still hold when the store has grown.
  pub seen_kept : Grows own home home' s t → (k : Place) (c : CronJob) → SeenFact home s k c → SeenFact home' t k c
  seen_kept g k c f = record {
    key = f.key;
    home_is = g.homes c.meta.uid f.uid ∙ f.home_is;
    uid = let a = f.uid in let b = g.uids in omega arith;
    version = let a = f.version in let b = g.version in omega arith;
    same = λ d at e. seen_at k c d f (g.crons k d at) e;
    named = rest_kept g c.meta.uid _ f.named;
  }

  -- The facts of what was found of a CronJob's names still hold when the store has grown.
  pub checked_kept : Grows own home home' s t → (k : Place) (fs : List (Option Job)) (c : CronJob)
      → CheckedFact home s k fs c → CheckedFact home' t k fs c
  checked_kept g k fs c f = record { seen = seen_kept g k c f.seen; found = rest_kept g c.meta.uid _ f.found }

  -- The facts of a Job to be made still hold when the store has grown by a call not of its own key.
  pub make_kept : Grows own home home' s t → (ms : List Claimed) (cl : Option Claimed) (k : Place) → own ≢ Some k
      → (rs : List Step) (d : JobDraft) → MakeFact home s ms cl k rs d → MakeFact home' t ms cl k rs d
  make_kept g ms cl k apart rs d f = record {
    m = f.m;
    claimed = f.claimed;
    home_is = g.homes f.m.owner f.uid ∙ f.home_is;
    uid = let a = f.uid in let b = g.uids in omega arith;
    above = f.above;
    last = λ c at e. last_at k f.m.owner f.m.time c f.uid f.last (g.crons k c at) e;
    named = λ c at e. named_at k d.key f.m.owner c f.uid apart f.named (g.crons k c at) e;
    alone = λ h. rest_kept g f.m.owner _ (f.alone h);
    owner = f.owner;
    controller = f.controller;
    text = f.text;
  }

  -- For status_kept: a CronJob of the status's version has no later last time than the status.
  status_at : (k : Place) (rs : List Step) (u v : ℕ) (x : CronStatus) (d : CronJob) → StatusFact home s k rs u v x
      → Cronic own home' s t k d → d.meta.version ≡ v → last_of d ≤ upto x.last_schedule_time
  status_at k rs u v x d f (inl o) e = older o.0 o.1 o.1.version
    where
      older : (b : CronJob) → IsOlder own s t k d b
          → (d ≡ b) ⊎ ((s.version < d.meta.version) × (d.meta.version ≤ t.version))
          → last_of d ≤ upto x.last_schedule_time
      older b o (inl same) = subst (λ (c : CronJob). last_of c ≤ upto x.last_schedule_time) (sym same)
          (f.last b o.was (ap (λ (c : CronJob). c.meta.version) (sym same) ∙ e))
      older b o (inr w) = let h = f.version in let y = w.0 in absurd (omega (arith, h, y))
  status_at k rs u v x d f (inr n) e = let h = f.version in absurd (omega (arith, h, n.version))

  -- The facts of a status to be written still hold when the store has grown.
  pub status_kept : Grows own home home' s t → (k : Place) (rs : List Step) (u v : ℕ) (x : CronStatus)
      → StatusFact home s k rs u v x → StatusFact home' t k rs u v x
  status_kept g k rs u v x f = record {
    home_is = g.homes u f.uid ∙ f.home_is;
    uid = let a = f.uid in let b = g.uids in omega arith;
    version = let a = f.version in let b = g.version in omega arith;
    last = λ d at e. status_at k rs u v x d f (g.crons k d at) e;
    spoken = rest_kept g u _ f.spoken;
  }

  -- The facts of a plan's steps left still hold when the store has grown by a call not of its key.
  pub plan_kept : Grows own home home' s t → (ms : List Claimed) (cl : Option Claimed) (k : Place) → own ≢ Some k
      → (cron : Option CronJob) (v : ℕ) (rs : List Step) → PlanFact home s ms cl k cron v rs
      → PlanFact home' t ms cl k cron v rs
  plan_kept g ms cl k apart cron v rs f = record {
    ordered = f.ordered;
    make = λ d i. make_kept g ms cl k apart rs d (f.make d i);
    status = λ c x e i. status_kept g k rs c.meta.uid v x (f.status c x e i);
    names = f.names;
  }

  -- The facts of a sync hold in each phase when the store has grown by a call not of its key.
  pub sync_kept : Grows own home home' s t → (ms : List Claimed) (cl : Option Claimed) (k : Place) → own ≢ Some k
      → (p : Phase) → SyncFact home s ms cl k p → SyncFact home' t ms cl k p
  sync_kept g ms cl k n Held f = tt
  sync_kept g ms cl k n (Seen c) f = if_kept (SeenFact home s k) (SeenFact home' t k) (seen_kept g k) c f
  sync_kept g ms cl k n (Listed c js) f = if_kept (SeenFact home s k) (SeenFact home' t k) (seen_kept g k) c f
  sync_kept g ms cl k n (Checked c js fs) f = if_kept (CheckedFact home s k fs) (CheckedFact home' t k fs)
      (checked_kept g k fs) c f
  sync_kept g ms cl k n (Works work) f = plan_kept g ms cl k n work.plan.cron work.version
      (left work.plan.steps work.place) f

  -- the store's facts
  cron_at : Grows own home home' s t → (ms : List Claimed) → StoreFact home s ms → (k : Place) (d : CronJob)
      → Cronic own home' s t k d → CronFact home' t ms k d
  cron_at g ms f k d (inl o) =
      let b = o.0 in let c = f.crons k b o.1.was in
      record {
        key = o.1.key ∙ c.key;
        home_is = ap home' (sym o.1.uid) ∙ g.homes b.meta.uid c.uid ∙ c.home_is;
        uid = let x = c.uid in let y = g.uids in let z = o.1.uid in omega arith;
        version = top o.1.version;
        made = weaker _ _ (λ x h e. let y = h (e ∙ sym o.1.uid) in let z = o.1.last in omega arith) ms c.made;
        named = rest_kept g d.meta.uid _ o.1.named;
      }
    where
      top : (d ≡ o.0) ⊎ ((s.version < d.meta.version) × (d.meta.version ≤ t.version)) → d.meta.version ≤ t.version
      top (inl same) = let x = (f.crons k o.0 o.1.was).version in let y = g.version in let z
          = ap (λ (x : CronJob). x.meta.version) same in omega arith
      top (inr v) = v.1
  cron_at g ms f k d (inr n) = record {
    key = n.key;
    home_is = n.home_is;
    uid = n.below;
    version = n.top;
    made = weaker _ _ (λ x h e. let l = n.uid in absurd (omega arith)) ms f.made;
    named = λ q j at a. fresh q j (controller_of j.owners) refl (g.jobs q j at) a;
  }
    where
      fresh : (q : Place) (j : Job) (o : Option OwnerRef) → controller_of j.owners ≡ o → Jobbed s q j
          → runs d.meta.uid j ≡ true → IsAt k.namespace d.status.active q
      fresh q j None e b a = absurd (runs_free d.meta.uid j e a)
      fresh q j (Some o) e (inr b) a = absurd (runs_free d.meta.uid j b.owners a)
      fresh q j (Some o) e (inl b) a =
          let is = f.owned q b.0 o b.1.was (ap controller_of (sym b.1.owners) ∙ e) in
          let l = is.known in let x = n.uid in let y = n.below in let z = g.bound in let w = g.uids in
          let same : d.meta.uid ≡ is.owner = runs_owned d.meta.uid is.owner j o e is.text a (omega arith) (omega arith)
          in
          absurd (omega arith)

  -- For store_kept: the controller of a Job is still a CronJob that was created.
  owned_kept : Grows own home home' s t → (ms : List Claimed) → StoreFact home s ms
      → (q : Place) (j : Job) (o : OwnerRef) → Jobbed s q j → controller_of j.owners ≡ Some o → IsOwned t o
  owned_kept g ms f q j o (inl b) e =
      let is = f.owned q b.0 o b.1.was (ap controller_of (sym b.1.owners) ∙ e) in
      record { owner = is.owner; known = let x = is.known in let y = g.uids in omega arith; text = is.text }
  owned_kept g ms f q j o (inr b) e = absurd (cc (sym b.owners ∙ e))

  -- The facts of the store still hold when it has grown.
  pub store_kept : Grows own home home' s t → (ms : List Claimed) → StoreFact home s ms → StoreFact home' t ms
  store_kept g ms f = record {
    crons = λ k d at. cron_at g ms f k d (g.crons k d at);
    keys = λ q j at. same_key q j (g.jobs q j at);
    owned = λ q j o at e. owned_kept g ms f q j o (g.jobs q j at) e;
    made = weaker _ _ (λ x h. let l = g.uids in omega arith) ms f.made;
  }
    where
      same_key : (q : Place) (j : Job) → Jobbed s q j → j.key ≡ q
      same_key q j (inl b) = b.1.key ∙ f.keys q b.0 b.1.was
      same_key q j (inr b) = b.key

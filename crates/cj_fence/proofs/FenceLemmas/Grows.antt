-- What any entry does to the facts, and that it keeps them.
use Rattle.std.proofs.Common.{◌≡◌, ◌⊎◌, inl, inr, ℕ, ◌≤◌, Bool, true, false, not, ◌&&◌, ◌||◌, List, [], ◌∷◌, Option, Some, None, refl, sym, ap, subst, ◌∙◌}
use Rattle.cj_fence.specs.declared.refs.Ref.{Ref}
use Rattle.cj_fence.specs.declared.objects.Cron.{Cron}
use Rattle.cj_fence.specs.declared.objects.Job.{Job}
use Rattle.cj_fence.specs.declared.answer.Stamp.{Stamp}
use Rattle.cj_fence.specs.declared.sync.At.{At}
use Rattle.cj_fence.specs.declared.sync.Held.{Held}
use Rattle.cj_fence.specs.declared.sync.Sync.{Sync}
use Rattle.cj_fence.specs.declared.sync.Sync.TheVariants.{Fresh, Looking, Ready, Holding, Starting, Tidying, Gone, Over}
use Rattle.cj_fence.specs.Objects.{waits, runs}
use Rattle.cj_fence.specs.History.{Told, GaveUid, GaveVersion, IsFresh, Claimed, claim_of, started}
use Rattle.cj_fence.proofs.FenceLemmas.Basics.{first_true, second_true, IsIn, is_false, both_true, not_true}
use Rattle.cj_fence.proofs.FenceLemmas.Facts.{IsEarlier, IfOrder, job_at, cron_at, OldJob, OldCron, ref, OfJob, IsDead, Dead, Settled, Leaving, Owned, IsOwn, KeepsOwn, Keeps, IsClaimedFor, AtBase, AtFact, HeldFact, DropFact, held_first, IfHeld, GarbageFact, FinishedFact, Readies, Tidies, SyncFact, Inv}

-- a Job that stood before, or one with the new uid, which has a name
abbrev pub JobStep : List ℕ → List Told → Stamp → List ℕ → Job → Type 0
JobStep me h t n j =
    ((i : Job) × (job_at h n ≡ Some i) × Keeps me i j × ((j ≡ i) ⊎ (j.version ≡ t.version)))
    ⊎ ((j.uid ≡ t.uid) × (j.version ≡ t.version) × (n ≡ [] → ⊥))

-- a Job that is started at this entry
pub record IsStarting (h : List Told) (r : Ref) : Type 0 where
  pub job : Job
  pub stands : job_at h r.name ≡ Some job
  pub uid : job.uid ≡ r.uid
  pub waits_yet : waits job ≡ true

-- from one history to the next one, by an entry with this stamp
pub record Grows (me : List ℕ) (h g : List Told) (t : Stamp) : Type 0 where
  pub fresh : IsFresh h t
  pub new_uid : GaveUid g t.uid
  pub new_version : GaveVersion g t.version
  pub gave_uid : (u : List ℕ) → GaveUid h u → GaveUid g u
  pub gave_version : (v : List ℕ) → GaveVersion h v → GaveVersion g v
  pub old_cron : (n : List ℕ) (c : Cron) → OldCron h n c → OldCron g n c
  pub old_job : (n : List ℕ) (j : Job) → OldJob h n j → OldJob g n j
  pub was_cron : (n : List ℕ) (c : Cron) → OldCron g n c → (cron_at g n ≡ Some c) ⊎ OldCron h n c
  pub was_job : (n : List ℕ) (j : Job) → OldJob g n j → (job_at g n ≡ Some j) ⊎ OldJob h n j
  pub jobs : (n : List ℕ) (j : Job) → job_at g n ≡ Some j → JobStep me h t n j
  pub held : (n : List ℕ) (j : Job) → job_at g n ≡ Some j → j.held ≡ true → started g (ref n j.uid) ≡ true
      → started h (ref n j.uid) ≡ true
  pub starts : (r : Ref) → started g r ≡ true → (started h r ≡ true) ⊎ IsStarting h r
  pub claims : (r : Ref) (k : Claimed) → claim_of h r ≡ Some k → claim_of g r ≡ Some k
  pub older : (n : List ℕ) (c : Cron) (r : Ref) (k : Claimed) → c.uid ≡ me → OldCron h n c → claim_of g r ≡ Some k
      → k.owner ≡ c.uid → k.time ≤ c.last → claim_of h r ≡ Some k

-- A Job that waits isn't being deleted.
pub not_deleting : (j : Job) → waits j ≡ true → j.deleting ≡ true → ⊥
not_deleting j w d =
    let b = both_true (j.held && not j.finished) (not j.deleting) w in
    absurd (cc (not_true j.deleting b.1, d))

-- A Job that waits is held.
pub is_held : (j : Job) → waits j ≡ true → j.held ≡ true
is_held j w =
    let b = both_true (j.held && not j.finished) (not j.deleting) w in
    (both_true j.held (not j.finished) b.0).0

-- A Job that waits hasn't finished.
pub not_finished : (j : Job) → waits j ≡ true → j.finished ≡ true → ⊥
not_finished j w d =
    let b = both_true (j.held && not j.finished) (not j.deleting) w in
    let c = both_true j.held (not j.finished) b.0 in
    absurd (cc (not_true j.finished c.1, d))

-- A Job that is held, not finished and not being deleted waits.
pub waits_is : (j : Job) → j.held ≡ true → j.finished ≡ false → j.deleting ≡ false → waits j ≡ true
waits_is j a b c =
    ap (λ (z : Bool). z && not j.finished && not j.deleting) a
    ∙ ap (λ (z : Bool). true && not z && not j.deleting) b ∙ ap (λ (z : Bool). true && true && not z) c

-- A Job that runs isn't held, hasn't finished, and isn't being deleted.
pub runs_parts : (j : Job) → runs j ≡ true → (j.held ≡ false) × (j.finished ≡ false) × (j.deleting ≡ false)
runs_parts j w =
    let b = both_true (not j.held && not j.finished) (not j.deleting) w in
    let c = both_true (not j.held) (not j.finished) b.0 in
    (not_true j.held c.0, not_true j.finished c.1, not_true j.deleting b.1)

-- A Job that didn't wait doesn't wait later.
pub waits_not : (i j : Job) → KeepsOwn i j → waits i ≡ false → waits j ≡ false
waits_not i j k n = is_false (waits j) (λ w. absurd (cc (
  n,
  waits_is i (k.held (is_held j w))
      (is_false i.finished (λ f. not_finished j w (k.finished f)))
      (is_false i.deleting (λ d. not_deleting j w (k.deleting d))),
)))

-- A Job that was leaving still is.
pub leaving_kept : (i j : Job) → KeepsOwn i j → (i.finished || i.deleting) ≡ true → (j.finished || j.deleting) ≡ true
leaving_kept i j k l = by_part i.finished refl l
  where
    by_part : (b : Bool) → i.finished ≡ b → (b || i.deleting) ≡ true → (j.finished || j.deleting) ≡ true
    by_part true e g = first_true j.finished j.deleting (k.finished e)
    by_part false e g = second_true j.finished j.deleting (k.deleting g)

-- A dead Job doesn't wait.
pub dead_settled : (h : List Told) (r : Ref) → Dead h r → Settled h r
dead_settled h r d j at u = is_false (waits j) (λ w. by_dead w (d j at u))
  where
    by_dead : waits j ≡ true → IsDead h r j → ⊥
    by_dead w (inl f) = not_finished j w f
    by_dead w (inr m) = not_deleting j w m.0

module _ {me : List ℕ} {h g : List Told} {t : Stamp} where
  -- For of_job: a Job that stands now was there before.
  was_there : Grows me h g t → (r : Ref) → IsOwn me h r → (P Q : Job → Type 0) → ((i j : Job)
      → job_at h r.name ≡ Some i → KeepsOwn i j → P i → Q j) → OfJob h r P → (j : Job) → j.uid ≡ r.uid
      → JobStep me h t r.name j → Q j
  was_there w r own P Q f a j u (inl s) =
      let v = sym s.2.uid ∙ u in f s.0 j s.1 (s.2.own (own.stands s.0 s.1 v)) (a s.0 s.1 v)
  was_there w r own P Q f a j u (inr new) = absurd (w.fresh.uid (subst (GaveUid h) (sym u ∙ new.0) own.gave))

  -- What holds of the Job of a reference, if it is of the CronJob, and is kept while it stands, holds after the entry.
  pub of_job : Grows me h g t → (r : Ref) → IsOwn me h r → (P Q : Job → Type 0)
      → ((i j : Job) → job_at h r.name ≡ Some i
      → KeepsOwn i j → P i → Q j) → OfJob h r P → OfJob g r Q
  of_job w r own P Q f a j at u = was_there w r own P Q f a j u (w.jobs r.name j at)

  -- What can't be started stays so.
  pub settled_kept : Grows me h g t → (r : Ref) → IsOwn me h r → Settled h r → Settled g r
  settled_kept w r own a = of_job w r own (λ j. waits j ≡ false) (λ j. waits j ≡ false)
      (λ i j at k n. waits_not i j k n) a

  -- What is leaving stays so.
  pub leaving : Grows me h g t → (r : Ref) → IsOwn me h r → Leaving h r → Leaving g r
  leaving w r own a = of_job w r own (λ j. (j.finished || j.deleting) ≡ true)
      (λ j. (j.finished || j.deleting) ≡ true) (λ i j at k l. leaving_kept i j k l) a

  -- A Job that is being deleted, and wasn't started, isn't started.
  pub unstarted : Grows me h g t → (r : Ref) (i : Job) → job_at h r.name ≡ Some i → i.deleting ≡ true
      → started h r ≡ false → started g r ≡ false
  unstarted w r i at d n = is_false (started g r) (λ s. by_start (w.starts r s))
    where
      by_start : (started h r ≡ true) ⊎ IsStarting h r → ⊥
      by_start (inl s) = absurd (cc (n, s))
      by_start (inr s) =
          let e : i ≡ s.job = cc (sym at ∙ s.stands) in
          not_deleting s.job s.waits_yet (subst (λ (z : Job). z.deleting ≡ true) e d)

  -- For dead_kept: by what it died of.
  dies : Grows me h g t → (r : Ref) (i j : Job) → job_at h r.name ≡ Some i → KeepsOwn i j → IsDead h r i → IsDead g r j
  dies w r i j at k (inl f) = inl (k.finished f)
  dies w r i j at k (inr m) = inr (k.deleting m.0, unstarted w r i at m.0 m.1)

  -- What is dead stays so.
  pub dead_kept : Grows me h g t → (r : Ref) → IsOwn me h r → Dead h r → Dead g r
  dead_kept w r own a = of_job w r own (IsDead h r) (IsDead g r) (dies w r) a

-- Whatever stands stood at some moment.
pub job_is_old : (h : List Told) (n : List ℕ) (j : Job) → job_at h n ≡ Some j → OldJob h n j
job_is_old [] n j e = absurd (cc e)
job_is_old (e ∷ h) n j at = inl at

-- A CronJob that stands stood at some moment.
pub cron_is_old : (h : List Told) (n : List ℕ) (c : Cron) → cron_at h n ≡ Some c → OldCron h n c
cron_is_old [] n c e = absurd (cc e)
cron_is_old (e ∷ h) n c at = inl at

module _ {me : List ℕ} {h : List Told} where
  -- A Job of the CronJob stays one.
  pub owned_own : Inv me h → (r : Ref) → Owned h me r → IsOwn me h r
  owned_own f r a = record {
    gave = subst (GaveUid h) a.uid (f.jobs r.name a.job a.was).gave;
    stands = λ j at u. let k = ((f.jobs r.name a.job a.was).now j at (u ∙ sym a.uid)).own a.owner in
        k.alike.owner ∙ a.owner;
  }

  -- Such a Job had the CronJob as controller at any moment.
  pub old_owner : Inv me h → (r : Ref) → Owned h me r → (j : Job) → OldJob h r.name j → j.uid ≡ r.uid → j.owner ≡ me
  old_owner f r b j old u =
      let k = (f.jobs r.name b.job b.was).alike j old (u ∙ sym b.uid) b.owner in
      sym k.owner ∙ b.owner

  -- Of whom a Job was is one alone, where one is the CronJob.
  pub owned_one : Inv me h → (r : Ref) (w : List ℕ) → Owned h w r → Owned h me r → w ≡ me
  owned_one f r w a b =
      sym a.owner ∙ old_owner f r b a.job a.was a.uid

  -- The Job of a claim was of its controller.
  pub claim_owned : Inv me h → (r : Ref) (k : Claimed) → claim_of h r ≡ Some k → Owned h k.owner r
  claim_owned f r k is = let c = f.claims r k is in record { job = c.job; was = c.was; uid = c.uid; owner = c.owner }

  -- The Job of a claim for the CronJob was of it.
  pub claim_mine : Inv me h → (r : Ref) (k : Claimed) → claim_of h r ≡ Some k → k.owner ≡ me → Owned h me r
  claim_mine f r k is o = subst (λ (z : List ℕ). Owned h z r) o (claim_owned f r k is)

  -- It stays so.
  pub claimed_own : Inv me h → (r : Ref) (k : Claimed) → claim_of h r ≡ Some k → k.owner ≡ me → IsOwn me h r
  claimed_own f r k is o = owned_own f r (claim_mine f r k is o)

module _ {me : List ℕ} {h g : List Told} {t : Stamp} where
  -- A claim for a CronJob stays one.
  pub for_kept : Grows me h g t → (c : Cron) (r : Ref) → IsClaimedFor h c r → IsClaimedFor g c r
  for_kept w c r a = record { claim = a.claim; is = w.claims r a.claim a.is; owner = a.owner; time = a.time }

  -- Whose a Job was stays so.
  pub owned_kept : Grows me h g t → (r : Ref) (o : List ℕ) → Owned h o r → Owned g o r
  owned_kept w r o a = record { job = a.job; was = w.old_job r.name a.job a.was; uid = a.uid; owner = a.owner }

  -- Of whom a Job was, of a uid that was given before, was known before.
  pub owned_before : Grows me h g t → (r : Ref) → GaveUid h r.uid → Owned g me r → Owned h me r
  owned_before w r gave a = by_age (w.was_job r.name a.job a.was)
    where
      by_step : JobStep me h t r.name a.job → Owned h me r
      by_step (inl s) = record {
        job = s.0;
        was = job_is_old h r.name s.0 s.1;
        uid = sym s.2.uid ∙ a.uid;
        owner = s.2.back a.owner;
      }
      by_step (inr new) = absurd (w.fresh.uid (subst (GaveUid h) (sym a.uid ∙ new.0) gave))

      by_age : (job_at g r.name ≡ Some a.job) ⊎ OldJob h r.name a.job → Owned h me r
      by_age (inl at) = by_step (w.jobs r.name a.job at)
      by_age (inr old) = record { job = a.job; was = old; uid = a.uid; owner = a.owner }

  -- What a sync of any CronJob knows stays so.
  pub base_kept : Grows me h g t → (at : At) → AtBase h at → AtBase g at
  base_kept w at a = record {
    cron = w.old_cron at.name at.cron a.cron;
    owned = λ r i. owned_kept w r at.cron.uid (a.owned r i);
  }

  -- For at_kept: in which list a Job is.
  still_known : Inv me h → Grows me h g t → (at : At) (rest : List Ref) (r : Ref) (k : Claimed)
      → claim_of h r ≡ Some k → k.owner ≡ me
      → IsIn r rest ⊎ (IsIn r at.alive ⊎ Dead h r) → IsIn r rest ⊎ (IsIn r at.alive ⊎ Dead g r)
  still_known f w at rest r k is o (inl a) = inl a
  still_known f w at rest r k is o (inr (inl a)) = inr (inl a)
  still_known f w at rest r k is o (inr (inr d)) = inr (inr (dead_kept w r (claimed_own f r k is o) d))

  -- What a sync knows of its CronJob stays so.
  pub at_kept : Inv me h → Grows me h g t → (at : At) (rest : List Ref) → AtBase h at → at.cron.uid ≡ me
      → AtFact h at rest → AtFact g at rest
  at_kept f w at rest b m a = record {
    known = λ r k is o l. let was = w.older at.name at.cron r k m b.cron is o l in
        still_known f w at rest r k was (o ∙ m) (a.known r k was o l);
    settled = λ r i. let c = a.alive r i in
        settled_kept w r (claimed_own f r c.claim c.is (c.owner ∙ m)) (a.settled r i);
    alive = λ r i. for_kept w at.cron r (a.alive r i);
    claimed = λ r i. for_kept w at.cron r (a.claimed r i);
  }

  -- A Job that was found stays found.
  pub held_kept : Grows me h g t → (o : List ℕ) (x : Held) → HeldFact h o x → HeldFact g o x
  held_kept w o x a = record {
    was = w.old_job x.job.name x.found a.was;
    uid = a.uid;
    held = a.held;
    owner = a.owner;
  }

  -- Claims for earlier times stay so.
  pub earlier_kept : Grows me h g t → (r q : Ref) → IsEarlier h r q → IsEarlier g r q
  earlier_kept w r q a = record {
    first = a.first;
    is_first = w.claims r a.first a.is_first;
    second = a.second;
    is_second = w.claims q a.second a.is_second;
    owner = a.owner;
    less = a.less;
  }

  -- For order_kept: by what is known of a Job to be read.
  rest_kept : Grows me h g t → (r q : Ref) → (r ≡ q) ⊎ IsEarlier h r q → (r ≡ q) ⊎ IsEarlier g r q
  rest_kept w r q (inl e) = inl e
  rest_kept w r q (inr a) = inr (earlier_kept w r q a)

  -- All else that may run stays of earlier times.
  order_kept : Grows me h g t → (held : Option Held) (alive rs : List Ref) → IfOrder h held alive rs
      → IfOrder g held alive rs
  order_kept w None alive rs a = a
  order_kept w (Some x) alive rs a = record {
    of_alive = λ r i. earlier_kept w r x.job (a.of_alive r i);
    of_rest = λ r i. rest_kept w r x.job (a.of_rest r i);
  }

  if_held_kept : Grows me h g t → (o : List ℕ) (held : Option Held) → IfHeld h o held → IfHeld g o held
  if_held_kept w o None a = a
  if_held_kept w o (Some x) a = held_kept w o x a

  -- For drops_kept: by what is known of a Job.
  still_drops : Inv me h → Grows me h g t → (x : Held) (ds : List Ref) (r : Ref) (k : Claimed) → claim_of h r ≡ Some k
      → k.owner ≡ me → (r ≡ x.job) ⊎ (IsIn r ds ⊎ Leaving h r) → (r ≡ x.job) ⊎ (IsIn r ds ⊎ Leaving g r)
  still_drops f w x ds r k is o (inl a) = inl a
  still_drops f w x ds r k is o (inr (inl a)) = inr (inl a)
  still_drops f w x ds r k is o (inr (inr d)) = inr (inr (leaving w r (claimed_own f r k is o) d))

  -- What is to be deleted before a start stays so.
  pub drops_kept : Inv me h → Grows me h g t → (at : At) (x : Held) (ds : List Ref) → AtBase h at → at.cron.uid ≡ me
      → DropFact h at x ds → DropFact g at x ds
  drops_kept f w at x ds b m a r k is o l =
      let was = w.older at.name at.cron r k m b.cron is o l in still_drops f w x ds r k was (o ∙ m) (a r k was o l)

  garbage_kept : Grows me h g t → (c : Cron) (r : Ref) → GarbageFact h c r → GarbageFact g c r
  garbage_kept w c r a = record {
    job = a.job;
    was = w.old_job r.name a.job a.was;
    uid = a.uid;
    owner = a.owner;
    time = a.time;
    absent = a.absent;
  }

  finished_kept : Grows me h g t → (c : Cron) (r : Ref) → FinishedFact h c r → FinishedFact g c r
  finished_kept w c r a = record {
    job = a.job;
    was = w.old_job r.name a.job a.was;
    uid = a.uid;
    owner = a.owner;
    finished = a.finished;
  }

  -- Garbage and finished Jobs stay so.
  pub tidy_kept : Inv me h → Grows me h g t → (at : At) (gs fs : List Ref) → Tidies me h at gs fs
      → Tidies me g at gs fs
  tidy_kept f w at gs fs a = record {
    base = base_kept w at a.base;
    its = λ m. at_kept f w at [] a.base m (a.its m);
    garbage = λ r i. garbage_kept w at.cron r (a.garbage r i);
    finished = λ r i. finished_kept w at.cron r (a.finished r i);
  }

  -- What a sync knows that may claim stays so.
  pub ready_kept : Inv me h → Grows me h g t → (at : At) → Readies me h at → Readies me g at
  ready_kept f w at a = record { base = base_kept w at a.base; its = λ m. at_kept f w at [] a.base m (a.its m) }

  -- What a sync knows stays so while it calls nothing.
  pub sync_kept : Inv me h → Grows me h g t → (s : Sync) → SyncFact me h s → SyncFact me g s
  sync_kept f w Fresh a = a
  sync_kept f w (Looking at rs held) a = record {
    base = base_kept w at a.base;
    held_fact = if_held_kept w at.cron.uid held a.held_fact;
    its = λ m. let l = a.its m in record {
      at_fact = at_kept f w at (held_first held rs) a.base m l.at_fact;
      order = order_kept w held at.alive rs l.order;
    };
  }
  sync_kept f w (Ready at) a = ready_kept f w at a
  sync_kept f w (Holding at x) a = record {
    base = base_kept w at a.base;
    its = λ m. at_kept f w at [] a.base m (a.its m);
    held_fact = held_kept w at.cron.uid x a.held_fact;
    for_fact = a.for_fact;
    alone = a.alone;
  }
  sync_kept f w (Starting at x ds) a = record {
    base = base_kept w at a.base;
    its = λ m. let l = a.its m in record {
      at_fact = at_kept f w at (x.job ∷ []) a.base m l.at_fact;
      drops = λ p. drops_kept f w at x ds a.base m (l.drops p);
      earlier = λ r i. earlier_kept w r x.job (l.earlier r i);
    };
    held_fact = held_kept w at.cron.uid x a.held_fact;
    among = a.among;
    replaces = a.replaces;
  }
  sync_kept f w (Tidying at gs fs) a = tidy_kept f w at gs fs a
  sync_kept f w Gone a = a
  sync_kept f w Over a = a

-- The facts of Jobs, CronJobs and claims are kept by every entry.
use Rattle.std.proofs.Common.{◌≡◌, ◌⊎◌, inl, inr, ℕ, ◌<◌, ◌≤◌, true, false, List, [], Some, refl, sym, ap, subst, ◌∙◌, arith}
use Rattle.cj_fence.specs.declared.refs.Ref.{Ref}
use Rattle.cj_fence.specs.declared.objects.Cron.{Cron}
use Rattle.cj_fence.specs.declared.objects.Job.{Job}
use Rattle.cj_fence.specs.declared.answer.Stamp.{Stamp}
use Rattle.cj_fence.specs.Protocol.{seen_of}
use Rattle.cj_fence.specs.History.{Told, GaveUid, GaveVersion, Claimed, claim_of, started, own}
use Rattle.cj_fence.proofs.FenceLemmas.Basics.{IsIn, is_false}
use Rattle.cj_fence.proofs.FenceLemmas.Facts.{job_at, cron_at, OldJob, OldCron, ref, Dead, Owned, Alike, Keeps, JobFact, IsClaimedFor, CronFact, StatusFact, NowFact, Passed, ClaimFact, OrderlyFact, SyncFact, Inv}
use Rattle.cj_fence.proofs.FenceLemmas.Grows.{JobStep, IsStarting, Grows, not_deleting, settled_kept, dead_kept, job_is_old, cron_is_old, claimed_own, for_kept}

-- a uid that is new, or that of the CronJob that stood there, of a time that isn't later where it is the CronJob
abbrev pub FromUid : List ℕ → List Told → Stamp → List ℕ → Cron → Type 0
FromUid me h t n c = (c.uid ≡ t.uid)
    ⊎ ((d : Cron) × (cron_at h n ≡ Some d) × (c.uid ≡ d.uid) × (c.uid ≡ me → d.last ≤ c.last))

-- what holds of the status of the CronJob that is new or written
pub record NewStatus (g : List Told) (c : Cron) : Type 0 where
  pub named : (r : Ref) (m : Claimed) → claim_of g r ≡ Some m → m.owner ≡ c.uid → m.time ≤ c.last
      → IsIn r c.active ⊎ Dead g r
  pub claimed : (r : Ref) → IsIn r c.active → IsClaimedFor g c r
  pub claims : (r : Ref) (m : Claimed) → claim_of g r ≡ Some m → m.owner ≡ c.uid → m.time ≤ c.last

-- a CronJob that is new or written at an entry, under this name
pub record NewCron (me : List ℕ) (h g : List Told) (t : Stamp) (k n : List ℕ) (c : Cron) : Type 0 where
  pub name : n ≡ k
  pub version : c.version ≡ t.version
  pub uid : FromUid me h t n c
  pub its : c.uid ≡ me → NewStatus g c

-- a CronJob that stood before, for which nothing is claimed now, where it is the CronJob
pub record SameCron (me : List ℕ) (h g : List Told) (n : List ℕ) (c : Cron) : Type 0 where
  pub was : cron_at h n ≡ Some c
  pub claims : c.uid ≡ me → (r : Ref) (m : Claimed) → claim_of g r ≡ Some m → m.owner ≡ c.uid → claim_of h r ≡ Some m

abbrev pub CronStep : List ℕ → List Told → List Told → Stamp → List ℕ → List ℕ → Cron → Type 0
CronStep me h g t k n c = SameCron me h g n c ⊎ NewCron me h g t k n c

-- a claim that is accepted at an entry, for this Job
pub record NewClaim (me : List ℕ) (h g : List Told) (it r : Ref) (k : Claimed) : Type 0 where
  pub is : r ≡ it
  pub fact : ClaimFact g r k
  pub above : k.owner ≡ me → (x : Ref) (d : Claimed) → claim_of h x ≡ Some d → d.owner ≡ k.owner
      → (d.time < k.time) × Passed g k.policy x

abbrev pub ClaimStep : List ℕ → List Told → List Told → Ref → Ref → Claimed → Type 0
ClaimStep me h g it r k = (claim_of h r ≡ Some k) ⊎ NewClaim me h g it r k

-- ---- Jobs

-- A Job is alike to itself.
alike_self : (j : Job) → Alike j j
alike_self j = record { owner = refl; time = refl; policy = refl }

-- A Job that stays is what it was.
pub keeps_self : (me : List ℕ) (j : Job) → Keeps me j j
keeps_self me j = record {
  uid = refl;
  own = λ o. record { alike = alike_self j; held = λ e. e; finished = λ e. e; deleting = λ e. e };
  back = λ o. o;
}

-- Two Jobs that stand under one name are one.
one_job : (h : List Told) (n : List ℕ) (i j : Job) → job_at h n ≡ Some i → job_at h n ≡ Some j → i ≡ j
one_job h n i j a b = cc (sym a ∙ b)

-- Two CronJobs that stand under one name are one.
one_cron : (h : List Told) (n : List ℕ) (c d : Cron) → cron_at h n ≡ Some c → cron_at h n ≡ Some d → c ≡ d
one_cron h n c d a b = cc (sym a ∙ b)

-- Jobs that are alike to one are alike.
alike_then : (a b c : Job) → Alike a b → Alike b c → Alike a c
alike_then a b c x y = record {
  owner = y.owner ∙ x.owner;
  time = y.time ∙ x.time;
  policy = y.policy ∙ x.policy;
}

-- A Job is alike to one that is alike to it.
alike_back : (a b : Job) → Alike a b → Alike b a
alike_back a b x = record { owner = sym x.owner; time = sym x.time; policy = sym x.policy }

-- What becomes of a Job over two entries.
keeps_then : (me : List ℕ) (a b c : Job) → Keeps me a b → Keeps me b c → Keeps me a c
keeps_then me a b c x y = record {
  uid = y.uid ∙ x.uid;
  own = λ o. let p = x.own o in let q = y.own (p.alike.owner ∙ o) in record {
    alike = alike_then a b c p.alike q.alike;
    held = λ e. p.held (q.held e);
    finished = λ e. q.finished (p.finished e);
    deleting = λ e. q.deleting (p.deleting e);
  };
  back = λ o. x.back (y.back o);
}

module _ {me : List ℕ} {h g : List Told} {t : Stamp} where
  -- A Job with the new uid wasn't started.
  new_unstarted : Inv me h → Grows me h g t → (n u : List ℕ) → u ≡ t.uid → started g (ref n u) ≡ true → ⊥
  new_unstarted f w n u e s = by_start (w.starts (ref n u) s)
    where
      by_start : (started h (ref n u) ≡ true) ⊎ IsStarting h (ref n u) → ⊥
      by_start (inl s) = w.fresh.uid (subst (GaveUid h) e (f.gave (ref n u) s))
      by_start (inr s) = w.fresh.uid (subst (GaveUid h) (s.uid ∙ e)
          (f.jobs n s.job (job_is_old h n s.job s.stands)).gave)

  -- For old_job: what a Job of an earlier moment is by now.
  old_now : Inv me h → Grows me h g t → (n : List ℕ) (j : Job) → JobFact me h n j → (i : Job) → i.uid ≡ j.uid
      → JobStep me h t n i → Keeps me j i
  old_now f w n j a i u (inl s) = keeps_then me j s.0 i (a.now s.0 s.1 (sym s.2.uid ∙ u)) s.2
  old_now f w n j a i u (inr e) = absurd (w.fresh.uid (subst (GaveUid h) (sym u ∙ e.0) a.gave))

  -- For old_job: it is alike to a Job of any moment.
  old_alike : Inv me h → Grows me h g t → (n : List ℕ) (j : Job) → JobFact me h n j → (i : Job) → i.uid ≡ j.uid
      → j.owner ≡ me → (job_at g n ≡ Some i) ⊎ OldJob h n i → Alike i j
  old_alike f w n j a i u o (inl at) = alike_back j i ((old_now f w n j a i u (w.jobs n i at)).own o).alike
  old_alike f w n j a i u o (inr old) = a.alike i old u o

  -- For old_job: a Job that was doomed isn't started.
  old_doomed : Inv me h → Grows me h g t → (n : List ℕ) (j : Job) → JobFact me h n j → j.owner ≡ me → j.held ≡ true
      → j.deleting ≡ true → started g (ref n j.uid) ≡ false
  old_doomed f w n j a o held del = is_false (started g (ref n j.uid)) (λ s. by_start (w.starts (ref n j.uid) s))
    where
      by_start : (started h (ref n j.uid) ≡ true) ⊎ IsStarting h (ref n j.uid) → ⊥
      by_start (inl s) = absurd (cc (s, a.doomed o held del))
      by_start (inr s) = not_deleting s.job s.waits_yet (((a.now s.job s.stands s.uid).own o).deleting del)

  -- For old_job: a Job of its version is it.
  old_version : Inv me h → Grows me h g t → (n : List ℕ) (j : Job) → JobFact me h n j → (i : Job)
      → i.version ≡ j.version
      → (job_at g n ≡ Some i) ⊎ OldJob h n i → i ≡ j
  old_version f w n j a i v (inr old) = a.same i old v
  old_version f w n j a i v (inl at) = by_step (w.jobs n i at)
    where
      not_new : i.version ≡ t.version → ⊥
      not_new e = w.fresh.version (subst (GaveVersion h) (sym v ∙ e) a.gave_version)

      by_same : (k : Job) → job_at h n ≡ Some k → (i ≡ k) ⊎ (i.version ≡ t.version) → i ≡ j
      by_same k is (inl e) = e ∙ a.same k (job_is_old h n k is) (ap (λ (z : Job). z.version) (sym e) ∙ v)
      by_same k is (inr e) = absurd (not_new e)

      by_step : JobStep me h t n i → i ≡ j
      by_step (inl s) = by_same s.0 s.1 s.3
      by_step (inr e) = absurd (not_new e.1)

  -- The facts of a Job of an earlier moment are kept.
  old_job : Inv me h → Grows me h g t → (n : List ℕ) (j : Job) → JobFact me h n j → JobFact me g n j
  old_job f w n j a = record {
    named = a.named;
    gave = w.gave_uid j.uid a.gave;
    gave_version = w.gave_version j.version a.gave_version;
    same = λ i old v. old_version f w n j a i v (w.was_job n i old);
    now = λ i at u. old_now f w n j a i u (w.jobs n i at);
    alike = λ i old u o. old_alike f w n j a i u o (w.was_job n i old);
    doomed = old_doomed f w n j a;
  }

  -- For new_job: a Job with the new uid is alike to each with this uid.
  new_alike : Inv me h → Grows me h g t → (n : List ℕ) (j : Job) → job_at g n ≡ Some j → j.uid ≡ t.uid → (i : Job)
      → i.uid ≡ j.uid → (job_at g n ≡ Some i) ⊎ OldJob h n i → Alike i j
  new_alike f w n j at e i u (inl now) = subst (λ (z : Job). Alike z j) (one_job g n j i at now) (alike_self j)
  new_alike f w n j at e i u (inr old) = absurd (w.fresh.uid (subst (GaveUid h) (u ∙ e) (f.jobs n i old).gave))

  -- For new_job: a Job of the new version is it.
  new_version : Inv me h → Grows me h g t → (n : List ℕ) (j : Job) → job_at g n ≡ Some j → j.version ≡ t.version
      → (i : Job)
      → i.version ≡ j.version → (job_at g n ≡ Some i) ⊎ OldJob h n i → i ≡ j
  new_version f w n j at e i v (inl now) = one_job g n i j now at
  new_version f w n j at e i v (inr old) =
      absurd (w.fresh.version (subst (GaveVersion h) (v ∙ e) (f.jobs n i old).gave_version))

  -- The facts of a Job with the new uid.
  new_job : Inv me h → Grows me h g t → (n : List ℕ) (j : Job) → job_at g n ≡ Some j → j.uid ≡ t.uid
      → j.version ≡ t.version → (n ≡ [] → ⊥) → JobFact me g n j
  new_job f w n j at e v m = record {
    named = m;
    gave = subst (GaveUid g) (sym e) w.new_uid;
    gave_version = subst (GaveVersion g) (sym v) w.new_version;
    same = λ i old q. new_version f w n j at v i q (w.was_job n i old);
    now = λ i now u. subst (Keeps me j) (one_job g n j i at now) (keeps_self me j);
    alike = λ i old u o. new_alike f w n j at e i u (w.was_job n i old);
    doomed = λ o held del. is_false (started g (ref n j.uid)) (new_unstarted f w n j.uid e);
  }

  -- For held_now: a held Job wasn't started before.
  held_before : Inv me h → Grows me h g t → (n : List ℕ) (j : Job) → j.owner ≡ me → j.held ≡ true
      → started h (ref n j.uid) ≡ true → JobStep me h t n j → ⊥
  held_before f w n j o e s (inl k) =
      let was = k.2.back o in
      let x = f.held n k.0 k.1 was ((k.2.own was).held e) in
      absurd (cc (ap (λ (u : List ℕ). started h (ref n u)) k.2.uid ∙ x, s))
  held_before f w n j o e s (inr u) = w.fresh.uid (subst (GaveUid h) u.0 (f.gave (ref n j.uid) s))

  -- A Job of the CronJob that is held wasn't started.
  pub held_now : Inv me h → Grows me h g t → (n : List ℕ) (j : Job) → job_at g n ≡ Some j → j.owner ≡ me
      → j.held ≡ true → started g (ref n j.uid) ≡ false
  held_now f w n j at o e =
      is_false (started g (ref n j.uid)) (λ s. held_before f w n j o e (w.held n j at e s) (w.jobs n j at))

  -- For now_job: of a Job that stood before.
  kept_job : Inv me h → Grows me h g t → (n : List ℕ) (j : Job) → job_at g n ≡ Some j → (k : Job) → Keeps me k j
      → JobFact me g n k
      → (j ≡ k) ⊎ (j.version ≡ t.version) → JobFact me g n j
  kept_job f w n j at k s b (inl same) = subst (JobFact me g n) (sym same) b
  kept_job f w n j at k s b (inr v) = record {
    named = b.named;
    gave = subst (GaveUid g) (sym s.uid) b.gave;
    gave_version = subst (GaveVersion g) (sym v) w.new_version;
    same = λ i old q. new_version f w n j at v i q (w.was_job n i old);
    now = λ i now u. subst (Keeps me j) (one_job g n j i at now) (keeps_self me j);
    alike = λ i old u o. let was = s.back o in
        alike_then i k j (b.alike i old (u ∙ s.uid) was) (s.own was).alike;
    doomed = λ o held del. held_now f w n j at o held;
  }

  -- For job_fact: of a Job that stands.
  now_job : Inv me h → Grows me h g t → (n : List ℕ) (j : Job) → job_at g n ≡ Some j → JobStep me h t n j
      → JobFact me g n j
  now_job f w n j at (inr e) = new_job f w n j at e.0 e.1 e.2
  now_job f w n j at (inl k) =
      kept_job f w n j at k.0 k.2 (old_job f w n k.0 (f.jobs n k.0 (job_is_old h n k.0 k.1))) k.3

  by_age : Inv me h → Grows me h g t → (n : List ℕ) (j : Job) → (job_at g n ≡ Some j) ⊎ OldJob h n j → JobFact me g n j
  by_age f w n j (inl at) = now_job f w n j at (w.jobs n j at)
  by_age f w n j (inr old) = old_job f w n j (f.jobs n j old)

  -- The facts of every Job hold after the entry.
  pub job_fact : Inv me h → Grows me h g t → (n : List ℕ) (j : Job) → OldJob g n j → JobFact me g n j
  job_fact f w n j old = by_age f w n j (w.was_job n j old)

-- ---- CronJobs

module _ {me : List ℕ} {h g : List Told} {t : Stamp} where
  -- For old_status: where a claimed Job is.
  pub still_named : Inv me h → Grows me h g t → (c : Cron) (r : Ref) (m : Claimed) → claim_of h r ≡ Some m
      → m.owner ≡ me
      → IsIn r c.active ⊎ Dead h r → IsIn r c.active ⊎ Dead g r
  still_named f w c r m is o (inl i) = inl i
  still_named f w c r m is o (inr d) = inr (dead_kept w r (claimed_own f r m is o) d)

  -- For new_cron: its uid was given by now.
  new_gave : Inv me h → Grows me h g t → (n : List ℕ) (c : Cron) → FromUid me h t n c → GaveUid g c.uid
  new_gave f w n c (inl u) = subst (GaveUid g) (sym u) w.new_uid
  new_gave f w n c (inr b) = subst (GaveUid g) (sym b.2)
      (w.gave_uid b.0.uid (f.crons n b.0 (cron_is_old h n b.0 b.1)).gave_uid)

  -- For new_cron: an older one with its uid has its name.
  older_home : Inv me h → Grows me h g t → (n : List ℕ) (c : Cron) → FromUid me h t n c → (m : List ℕ) (d : Cron)
      → OldCron h m d → d.uid ≡ c.uid → m ≡ n
  older_home f w n c (inl u) m d old e =
      absurd (w.fresh.uid (subst (GaveUid h) (e ∙ u) (f.crons m d old).gave_uid))
  older_home f w n c (inr b) m d old e = (f.crons n b.0 (cron_is_old h n b.0 b.1)).home m d old (e ∙ b.2)

  older_last : Inv me h → Grows me h g t → (n : List ℕ) (c : Cron) → c.uid ≡ me → FromUid me h t n c → (d : Cron)
      → OldCron h n d → d.uid ≡ c.uid → d.last ≤ c.last
  older_last f w n c o (inl u) d old e =
      absurd (w.fresh.uid (subst (GaveUid h) (e ∙ u) (f.crons n d old).gave_uid))
  older_last f w n c o (inr b) d old e =
      let l = (f.now n b.0 b.1 (sym b.2 ∙ o)).last d old (e ∙ b.2) in let m = b.3 o in omega arith

  -- The facts of a status of an earlier moment are kept.
  old_status : Inv me h → Grows me h g t → (n : List ℕ) (c : Cron) → OldCron h n c → c.uid ≡ me → StatusFact g c
  old_status f w n c old m =
      let a = f.status n c old m in
      record {
        named = λ r d is o l. let was = w.older n c r d m old is o l in
            still_named f w c r d was (o ∙ m) (a.named r d was o l);
        claimed = λ r i. for_kept w c r (a.claimed r i);
      }

-- what each CronJob that stands is after the entry
abbrev pub CronSteps : List ℕ → List Told → List Told → Stamp → List ℕ → Type 0
CronSteps me h g t k = (n : List ℕ) (c : Cron) → cron_at g n ≡ Some c → CronStep me h g t k n c

-- a CronJob of an earlier moment, or a new one
abbrev pub Aged : List ℕ → List Told → List Told → Stamp → List ℕ → List ℕ → Cron → Type 0
Aged me h g t k n c = OldCron h n c ⊎ ((cron_at g n ≡ Some c) × NewCron me h g t k n c)

module _ {me : List ℕ} {h g : List Told} {t : Stamp} {k : List ℕ} where
  -- For cron_fact: a CronJob of any moment is one of an earlier moment, or new.
  cron_age : CronSteps me h g t k → (n : List ℕ) (c : Cron)
      → (cron_at g n ≡ Some c) ⊎ OldCron h n c → Aged me h g t k n c
  cron_age s n c (inr old) = inl old
  cron_age s n c (inl at) = by_step (s n c at)
    where
      by_step : CronStep me h g t k n c → Aged me h g t k n c
      by_step (inl same) = inl (cron_is_old h n c same.was)
      by_step (inr new) = inr (at, new)

  -- For home: a new CronJob with a uid that was given has it from its name's CronJob.
  new_home : Inv me h → Grows me h g t → (n : List ℕ) (c : Cron) → CronFact h n c → (m : List ℕ) (d : Cron)
      → NewCron me h g t k m d → d.uid ≡ c.uid → m ≡ n
  new_home f w n c a m d new e = by_uid new.uid
    where
      by_uid : FromUid me h t m d → m ≡ n
      by_uid (inl u) = absurd (w.fresh.uid (subst (GaveUid h) (sym e ∙ u) a.gave_uid))
      by_uid (inr b) = a.home m b.0 (cron_is_old h m b.0 b.1) (sym b.2 ∙ e)

  old_home : Inv me h → Grows me h g t → (n : List ℕ) (c : Cron) → CronFact h n c → (m : List ℕ) (d : Cron)
      → Aged me h g t k m d → d.uid ≡ c.uid → m ≡ n
  old_home f w n c a m d (inl old) e = a.home m d old e
  old_home f w n c a m d (inr new) e = new_home f w n c a m d new.1 e

  old_same : Inv me h → Grows me h g t → (n : List ℕ) (c : Cron) → CronFact h n c → (d : Cron)
      → Aged me h g t k n d → d.version ≡ c.version → d ≡ c
  old_same f w n c a d (inl old) e = a.same d old e
  old_same f w n c a d (inr new) e =
      absurd (w.fresh.version (subst (GaveVersion h) (sym e ∙ new.1.version) a.gave_version))

  -- The facts of a CronJob of an earlier moment are kept.
  old_cron : Inv me h → Grows me h g t → CronSteps me h g t k → (n : List ℕ) (c : Cron) → OldCron h n c → CronFact g n c
  old_cron f w s n c old =
      let a = f.crons n c old in
      record {
        gave_uid = w.gave_uid c.uid a.gave_uid;
        gave_version = w.gave_version c.version a.gave_version;
        home = λ m d o e. old_home f w n c a m d (cron_age s m d (w.was_cron m d o)) e;
        same = λ d o e. old_same f w n c a d (cron_age s n d (w.was_cron n d o)) e;
      }

  any_home : Inv me h → Grows me h g t → (n : List ℕ) (c : Cron) → NewCron me h g t k n c → (m : List ℕ) (d : Cron)
      → Aged me h g t k m d → d.uid ≡ c.uid → m ≡ n
  any_home f w n c new m d (inl old) e = older_home f w n c new.uid m d old e
  any_home f w n c new m d (inr also) e = also.1.name ∙ sym new.name

  any_same : Inv me h → Grows me h g t → (n : List ℕ) (c : Cron) → cron_at g n ≡ Some c → NewCron me h g t k n c
      → (d : Cron) → Aged me h g t k n d → d.version ≡ c.version → d ≡ c
  any_same f w n c at new d (inl old) e =
      absurd (w.fresh.version (subst (GaveVersion h) (e ∙ new.version) (f.crons n d old).gave_version))
  any_same f w n c at new d (inr also) e = one_cron g n d c also.0 at

  -- The facts of a new CronJob.
  new_cron : Inv me h → Grows me h g t → CronSteps me h g t k
      → (n : List ℕ) (c : Cron) → cron_at g n ≡ Some c → NewCron me h g t k n c → CronFact g n c
  new_cron f w s n c at new = record {
    gave_uid = new_gave f w n c new.uid;
    gave_version = subst (GaveVersion g) (sym new.version) w.new_version;
    home = λ m d o e. any_home f w n c new m d (cron_age s m d (w.was_cron m d o)) e;
    same = λ d o e. any_same f w n c at new d (cron_age s n d (w.was_cron n d o)) e;
  }

  cron_of_age : Inv me h → Grows me h g t → CronSteps me h g t k
      → (n : List ℕ) (c : Cron) → Aged me h g t k n c → CronFact g n c
  cron_of_age f w s n c (inl old) = old_cron f w s n c old
  cron_of_age f w s n c (inr new) = new_cron f w s n c new.0 new.1

  -- The facts of every CronJob hold after the entry.
  pub cron_fact : Inv me h → Grows me h g t → CronSteps me h g t k → (n : List ℕ) (c : Cron) → OldCron g n c
      → CronFact g n c
  cron_fact f w s n c old = cron_of_age f w s n c (cron_age s n c (w.was_cron n c old))

  status_of_age : Inv me h → Grows me h g t → (n : List ℕ) (c : Cron) → c.uid ≡ me → Aged me h g t k n c
      → StatusFact g c
  status_of_age f w n c m (inl old) = old_status f w n c old m
  status_of_age f w n c m (inr new) = let a = new.1.its m in record { named = a.named; claimed = a.claimed }

  -- The facts of every status of the CronJob hold after the entry.
  pub status_fact : Inv me h → Grows me h g t → CronSteps me h g t k → (n : List ℕ) (c : Cron) → OldCron g n c
      → c.uid ≡ me
      → StatusFact g c
  status_fact f w s n c old m = status_of_age f w n c m (cron_age s n c (w.was_cron n c old))

  -- For now_fact: no CronJob of this uid had a later time.
  same_last : Inv me h → (n : List ℕ) (c : Cron) → c.uid ≡ me → cron_at g n ≡ Some c → cron_at h n ≡ Some c → (d : Cron)
      → Aged me h g t k n d → d.uid ≡ c.uid → d.last ≤ c.last
  same_last f n c m at was d (inl old) e = (f.now n c was m).last d old e
  same_last f n c m at was d (inr new) e =
      let i : d ≡ c = one_cron g n d c new.0 at in subst (λ (z : Cron). d.last ≤ z.last) i (omega arith)

  new_last : Inv me h → Grows me h g t → (n : List ℕ) (c : Cron) → c.uid ≡ me → cron_at g n ≡ Some c
      → NewCron me h g t k n c → (d : Cron) → Aged me h g t k n d → d.uid ≡ c.uid → d.last ≤ c.last
  new_last f w n c m at new d (inl old) e = older_last f w n c m new.uid d old e
  new_last f w n c m at new d (inr also) e =
      let i : d ≡ c = one_cron g n d c also.0 at in subst (λ (z : Cron). d.last ≤ z.last) i (omega arith)

  now_by_step : Inv me h → Grows me h g t → CronSteps me h g t k
      → (n : List ℕ) (c : Cron) → c.uid ≡ me → cron_at g n ≡ Some c → CronStep me h g t k n c → NowFact g n c
  now_by_step f w s n c m at (inl same) = record {
    last = λ d old e. same_last f n c m at same.was d (cron_age s n d (w.was_cron n d old)) e;
    claims = λ r b is o. (f.now n c same.was m).claims r b (same.claims m r b is o) o;
  }
  now_by_step f w s n c m at (inr new) = record {
    last = λ d old e. new_last f w n c m at new d (cron_age s n d (w.was_cron n d old)) e;
    claims = (new.its m).claims;
  }

  -- The facts of the CronJob hold after the entry, where it stands.
  pub now_fact : Inv me h → Grows me h g t → CronSteps me h g t k
      → (n : List ℕ) (c : Cron) → cron_at g n ≡ Some c → c.uid ≡ me → NowFact g n c
  now_fact f w s n c at m = now_by_step f w s n c m at (s n c at)

-- ---- claims

module _ {me : List ℕ} {h g : List Told} {t : Stamp} where
  -- For old_order: an earlier claim stays passed.
  passed_kept : Inv me h → Grows me h g t → (k : Claimed) → (x : Ref) (d : Claimed)
      → claim_of h x ≡ Some d → d.owner ≡ me → Passed h k.policy x → Passed g k.policy x
  passed_kept f w k x d is o p = record {
    settled = settled_kept w x (claimed_own f x d is o) p.settled;
    dead = λ e. dead_kept w x (claimed_own f x d is o) (p.dead e);
  }

  -- The facts of an earlier claim are kept.
  old_claim : Inv me h → Grows me h g t → (r : Ref) (k : Claimed) → claim_of h r ≡ Some k → ClaimFact g r k
  old_claim f w r k is =
      let a = f.claims r k is in
      record {
        job = a.job;
        was = w.old_job r.name a.job a.was;
        uid = a.uid;
        owner = a.owner;
        time = a.time;
        policy = a.policy;
        gave = w.gave_uid k.owner a.gave;
      }

module _ {me : List ℕ} {h g : List Told} {it : Ref} where
  new_unique : (r : Ref) (k : Claimed) → NewClaim me h g it r k → k.owner ≡ me → (x : Ref) (d : Claimed)
      → ClaimStep me h g it x d → d.owner ≡ k.owner → d.time ≡ k.time → x ≡ r
  new_unique r k a m x d (inl was) o e = let l = (a.above m x d was o).0 in absurd (omega arith)
  new_unique r k a m x d (inr new) o e = new.is ∙ sym a.is

  new_passed : (r : Ref) (k : Claimed) → claim_of g r ≡ Some k → NewClaim me h g it r k → k.owner ≡ me
      → (x : Ref) (d : Claimed) → claim_of g x ≡ Some d → ClaimStep me h g it x d → d.owner ≡ k.owner
      → d.time < k.time → Passed g k.policy x
  new_passed r k is a m x d now (inl was) o e = (a.above m x d was o).1
  new_passed r k is a m x d now (inr new) o e =
      let i : x ≡ r = new.is ∙ sym a.is in
      let b : claim_of g r ≡ Some d = subst (λ (z : Ref). claim_of g z ≡ Some d) i now in
      let same : d ≡ k = cc (sym b ∙ is) in
      let l : d.time ≡ k.time = ap (λ (z : Claimed). z.time) same in
      absurd (omega arith)

module _ {me : List ℕ} {h g : List Told} {t : Stamp} {it : Ref} where
  claim_by_step : Inv me h → Grows me h g t → (r : Ref) (k : Claimed) → ClaimStep me h g it r k → ClaimFact g r k
  claim_by_step f w r k (inl was) = old_claim f w r k was
  claim_by_step f w r k (inr new) = new.fact

  -- The facts of every claim hold after the entry.
  pub claim_fact : Inv me h → Grows me h g t
      → ((r : Ref) (k : Claimed) → claim_of g r ≡ Some k → ClaimStep me h g it r k)
      → (r : Ref) (k : Claimed) → claim_of g r ≡ Some k → ClaimFact g r k
  claim_fact f w s r k is = claim_by_step f w r k (s r k is)

  old_unique : Inv me h → Grows me h g t → (r : Ref) (k : Claimed) → claim_of h r ≡ Some k → k.owner ≡ me
      → (x : Ref) (d : Claimed) → ClaimStep me h g it x d → d.owner ≡ k.owner → d.time ≡ k.time → x ≡ r
  old_unique f w r k is m x d (inl was) o e = (f.orderly r k is m).unique x d was o e
  old_unique f w r k is m x d (inr new) o e =
      let l = (new.above (o ∙ m) r k is (sym o)).0 in absurd (omega arith)

  old_passed : Inv me h → Grows me h g t → (r : Ref) (k : Claimed) → claim_of h r ≡ Some k → k.owner ≡ me
      → (x : Ref) (d : Claimed) → ClaimStep me h g it x d → d.owner ≡ k.owner → d.time < k.time
      → Passed g k.policy x
  old_passed f w r k is m x d (inl was) o e =
      passed_kept f w k x d was (o ∙ m) ((f.orderly r k is m).passed x d was o e)
  old_passed f w r k is m x d (inr new) o e =
      let l = (new.above (o ∙ m) r k is (sym o)).0 in absurd (omega arith)

  order_by_step : Inv me h → Grows me h g t
      → ((r : Ref) (k : Claimed) → claim_of g r ≡ Some k → ClaimStep me h g it r k)
      → (r : Ref) (k : Claimed) → claim_of g r ≡ Some k → k.owner ≡ me → ClaimStep me h g it r k → OrderlyFact g r k
  order_by_step f w s r k is m (inl was) = record {
    unique = λ x d now o e. old_unique f w r k was m x d (s x d now) o e;
    passed = λ x d now o e. old_passed f w r k was m x d (s x d now) o e;
  }
  order_by_step f w s r k is m (inr new) = record {
    unique = λ x d now o e. new_unique r k new m x d (s x d now) o e;
    passed = λ x d now o e. new_passed r k is new m x d now (s x d now) o e;
  }

  -- The facts of every claim for the CronJob hold after the entry.
  pub orderly_fact : Inv me h → Grows me h g t
      → ((r : Ref) (k : Claimed) → claim_of g r ≡ Some k → ClaimStep me h g it r k)
      → (r : Ref) (k : Claimed) → claim_of g r ≡ Some k → k.owner ≡ me → OrderlyFact g r k
  orderly_fact f w s r k is m = order_by_step f w s r k is m (s r k is)

-- what an entry has to bring along for all facts to hold after it
pub record Change (me : List ℕ) (h g : List Told) (t : Stamp) : Type 0 where
  pub grows : Grows me h g t
  pub name : List ℕ
  pub crons : CronSteps me h g t name
  pub it : Ref
  pub claims : (r : Ref) (k : Claimed) → claim_of g r ≡ Some k → ClaimStep me h g it r k
  pub starts : (r : Ref) → started g r ≡ true → Owned g me r → (k : Claimed) × (claim_of g r ≡ Some k)
  pub syncs : (y : ℕ) → SyncFact me g (seen_of (own y g))

-- The uid of what was started, or is started now, was given.
pub gave_of : {me : List ℕ} {h : List Told} → Inv me h → (r : Ref) → (started h r ≡ true) ⊎ IsStarting h r
    → GaveUid h r.uid
gave_of f r (inl e) = f.gave r e
gave_of {me} {h} f r (inr e) =
    subst (GaveUid h) e.uid (f.jobs r.name e.job (job_is_old h r.name e.job e.stands)).gave

-- All facts hold after the entry.
pub inv_kept : (me : List ℕ) (h g : List Told) (t : Stamp) → Inv me h → Change me h g t → Inv me g
inv_kept me h g t f c = record {
  jobs = job_fact f c.grows;
  held = held_now f c.grows;
  crons = cron_fact f c.grows c.crons;
  status = status_fact f c.grows c.crons;
  now = now_fact f c.grows c.crons;
  claims = claim_fact f c.grows c.claims;
  orderly = orderly_fact f c.grows c.claims;
  gave = λ r e. c.grows.gave_uid r.uid (gave_of f r (c.grows.starts r e));
  started = c.starts;
  syncs = c.syncs;
}

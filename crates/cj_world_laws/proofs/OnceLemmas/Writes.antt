-- What each write of the store leaves, and that the store grows by it.
use Rattle.std.proofs.Common.{◌≡◌, ◌≢◌, ◌⊎◌, inl, inr, ℕ, ◌+◌, ◌≤◌, ◌==◌, Bool, true, false, cond, List, Option, None, Some, is_some, refl, ap, sym, subst, ◌∙◌, arith}
use Rattle.std.specs.Prelude.{Result, Ok, Err, if◌then◌else◌}
use Rattle.std.proofs.lemmas.Bool.Decides.{nat_tests}
use Rattle.std.specs.FinMap as map
use Rattle.cj_base.specs.declared.refusal.Refusal.{Refusal}
use Rattle.cj_base.specs.declared.refusal.Refusal.TheVariants.{NotFound, AlreadyExists, Conflict, NotPermitted, AlreadyFinished}
use Rattle.cj_types.specs.Keys.{Place}
use Rattle.cj_types.specs.Uids.{last_uid}
use Rattle.cj_types.specs.Owners.{controller_of}
use Rattle.cj_types.specs.Objects.{is_unfinished}
use Rattle.cj_types.specs.Current.{is_current}
use Rattle.cj_types.specs.declared.cron.CronJob.{CronJob}
use Rattle.cj_types.specs.declared.cron.CronJobDraft.{CronJobDraft}
use Rattle.cj_types.specs.declared.cron.CronStatus.{CronStatus}
use Rattle.cj_types.specs.declared.job.Job.{Job}
use Rattle.cj_types.specs.declared.job.JobDraft.{JobDraft}
use Rattle.cj_types.specs.declared.policy.Outcome.{Outcome}
use Rattle.cj_types.specs.declared.event.Event.{Event}
use Rattle.cj_store.specs.Content.{Content}
use Rattle.cj_store.specs.Metadata.{version_not_allowed}
use Rattle.cj_store.specs.Equal.{same_owners}
use Rattle.cj_store.specs.Change.{after, map_ok, cron_added, cron_modified, cron_gone, job_added, job_modified, job_gone}
use Rattle.cj_store.specs.Crons.{new_cron, cron_created, updated_cron, cron_updated_from, cron_updated, with_status, status_set_from, last_cron, cron_deleted_from, cron_deleted}
use Rattle.cj_store.specs.Jobs.{new_job, job_made, job_created, updated_job, job_updated_from, job_updated, is_asked, last_job, job_deleted_from, job_deleted, ended_job, job_ended_from, job_ended}
use Rattle.cj_world_laws.specs.once.Once.{Claimed}
use Rattle.cj_world_laws.proofs.OnceLemmas.Maps.{put_at, removal_at}
use Rattle.cj_world_laws.proofs.OnceLemmas.Facts.{Homes, Named, StoreFact}
use Rattle.cj_world_laws.proofs.OnceLemmas.Grows.{last_of, Cronic, Jobbed, Grows}

-- ---- answers

-- An event that a write gives is that of the object in its answer.
pub mapped : {X : Type 0} (f : X → Event) (r : Result X Refusal) (e : Event) → map_ok f r ≡ Ok e
    → (x : X) × (r ≡ Ok x) × (f x ≡ e)
mapped f (Ok x) e h = (x, refl, cc)
mapped f (Err y) e h = absurd (cc h)

-- An accepted answer that would be refused unless a test is true says that it is true.
ok_if : {X : Type 0} (b : Bool) (r : Result X Refusal) (y : Refusal) (x : X) → (if b then r else Err y) ≡ Ok x
    → (b ≡ true) × (r ≡ Ok x)
ok_if true r y x h = (refl, h)
ok_if false r y x h = absurd (cc h)

-- An accepted answer that would be refused if a test is true says that it is false.
ok_else : {X : Type 0} (b : Bool) (r : Result X Refusal) (y : Refusal) (x : X) → (if b then Err y else r) ≡ Ok x
    → (b ≡ false) × (r ≡ Ok x)
ok_else true r y x h = absurd (cc h)
ok_else false r y x h = (refl, h)

-- An option that isn't some value is None.
none_is : {X : Type 0} (o : Option X) → is_some o ≡ false → o ≡ None
none_is None e = refl
none_is (Some x) e = absurd (cc e)

-- Accepted answers that are equal have equal values.
ok_is : {X : Type 0} (a b : X) → ◌≡◌ {A = Result X Refusal} (Ok a) (Ok b) → a ≡ b
ok_is a b h = cc

-- A CronJob that was created is that of the draft, and its key was free.
pub created_is : (s : Content) (draft : CronJobDraft) (now : ℕ) (x : CronJob) → cron_created s draft now ≡ Ok x
    → (map.get s.crons draft.key ≡ None) × (new_cron s draft now ≡ x)
created_is s draft now x h =
    let a = ok_else (is_some draft.meta.version) _ version_not_allowed x h in
    let b = ok_else (is_some (map.get s.crons draft.key)) (Ok (new_cron s draft now)) AlreadyExists x a.1 in
    (none_is (map.get s.crons draft.key) b.0, ok_is _ _ b.1)

pub record IsFrom (o : Option CronJob) (f : CronJob → CronJob) (x : CronJob) : Type 0 where
  pub old : CronJob
  pub there : o ≡ Some old
  pub is : f old ≡ x

-- A CronJob that was updated was there, and is the old one with the draft's values.
pub updated_is : (s : Content) (draft : CronJobDraft) (o : Option CronJob) (x : CronJob)
    → cron_updated_from s draft o ≡ Ok x → IsFrom o (updated_cron s draft) x
updated_is s draft None x h = absurd (cc h)
updated_is s draft (Some c) x h = record {
  old = c;
  there = refl;
  is = ok_is _ _
      (ok_if (is_current draft.meta c.meta) (Ok (updated_cron s draft c)) (Conflict c.meta.version) x h).1;
}

-- The answer of a CronJob's deletion is the one that was there, with the deletion's version.
pub deleted_is : (s : Content) (o : Option CronJob) (x : CronJob) → cron_deleted_from s o ≡ Ok x
    → IsFrom o (last_cron s) x
deleted_is s None x h = absurd (cc h)
deleted_is s (Some c) x h = record { old = c; there = refl; is = ok_is _ _ h }

pub record IsSet (s : Content) (u v : ℕ) (status : CronStatus) (o : Option CronJob) (x : CronJob) : Type 0 where
  pub old : CronJob
  pub there : o ≡ Some old
  pub is : with_status s status old ≡ x
  pub uid : old.meta.uid ≡ u
  pub version : old.meta.version ≡ v

-- A CronJob whose status was set was there, with the uid and the version that are asked for.
pub set_is : (s : Content) (u v : ℕ) (status : CronStatus) (o : Option CronJob) (x : CronJob)
    → status_set_from s u v status o ≡ Ok x → IsSet s u v status o x
set_is s u v status None x h = absurd (cc h)
set_is s u v status (Some c) x h =
    let a = ok_if (c.meta.uid == u) _ NotFound x h in
    let b = ok_if (c.meta.version == v) (Ok (with_status s status c)) (Conflict c.meta.version) x a.1 in
    let p = a.0 in let q = b.0 in
    record {
      old = c;
      there = refl;
      is = ok_is _ _ b.1;
      uid = grind (arith, nat_tests, p);
      version = grind (arith, nat_tests, q);
    }

-- A Job that a controller made is that of the draft, and its key was free.
pub made_is : (s : Content) (draft : JobDraft) (now : ℕ) (x : Job) → job_made s draft now ≡ Ok x
    → (map.get s.jobs draft.key ≡ None) × (new_job s draft now ≡ x)
made_is s draft now x h =
    let b = ok_else (is_some (map.get s.jobs draft.key)) (Ok (new_job s draft now)) AlreadyExists x h in
    (none_is (map.get s.jobs draft.key) b.0, ok_is _ _ b.1)

-- A Job that a user created has no controller, and is made as a controller's is.
job_created_is : (s : Content) (draft : JobDraft) (now : ℕ) (x : Job) → job_created s draft now ≡ Ok x
    → (controller_of draft.owners ≡ None) × (job_made s draft now ≡ Ok x)
job_created_is s draft now x h =
    let a = ok_else (is_some (controller_of draft.owners)) _ NotPermitted x h in
    let b = ok_else (is_some draft.meta.version) (job_made s draft now) version_not_allowed x a.1 in
    (none_is (controller_of draft.owners) a.0, b.1)

pub record IsJobFrom (o : Option Job) (f : Job → Job) (x : Job) : Type 0 where
  pub old : Job
  pub there : o ≡ Some old
  pub is : f old ≡ x

-- A Job that was updated was there, and is the old one with the draft's values.
job_updated_is : (s : Content) (draft : JobDraft) (o : Option Job) (x : Job) → job_updated_from s draft o ≡ Ok x
    → IsJobFrom o (updated_job s draft) x
job_updated_is s draft None x h = absurd (cc h)
job_updated_is s draft (Some c) x h =
    let a = ok_if (is_current draft.meta c.meta) _ (Conflict c.meta.version) x h in
    record {
      old = c;
      there = refl;
      is = ok_is _ _
          (ok_if (same_owners draft.owners c.owners) (Ok (updated_job s draft c)) NotPermitted x a.1).1;
    }

-- The answer of a Job's deletion is the one that was there, with the deletion's version.
job_deleted_is : (s : Content) (u : Option ℕ) (o : Option Job) (x : Job) → job_deleted_from s u o ≡ Ok x
    → IsJobFrom o (last_job s) x
job_deleted_is s u None x h = absurd (cc h)
job_deleted_is s u (Some c) x h = record {
  old = c;
  there = refl;
  is = ok_is _ _
      (ok_if (is_asked u c.meta.uid) (Ok (last_job s c)) NotFound x h).1;
}

-- A Job that was ended was there, and is the old one with its outcome.
job_ended_is : (s : Content) (u : ℕ) (out : Outcome) (now : ℕ) (o : Option Job) (x : Job)
    → job_ended_from s u out now o ≡ Ok x → IsJobFrom o (ended_job s out now) x
job_ended_is s u out now None x h = absurd (cc h)
job_ended_is s u out now (Some c) x h =
    let a = ok_if (c.meta.uid == u) _ NotFound x h in
    record {
      old = c;
      there = refl;
      is = ok_is _ _
          (ok_else (is_some c.outcome) (Ok (ended_job s out now c)) AlreadyFinished x a.1).1;
    }

-- Where a test chooses between an answer and a refusal and it is refused, the test fails.
err_if : {X : Type 0} (b : Bool) (x : X) (y e : Refusal)
    → ◌≡◌ {A = Result X Refusal} (if b then Ok x else Err y) (Err e) → b ≡ false
err_if true x y e h = absurd (cc h)
err_if false x y e h = refl

-- Where a deletion by uid is refused, the Job of the key, if any, has another uid.
pub not_deleted : (s : Content) (u : ℕ) (o : Option Job) (e : Refusal) → map_ok job_gone (job_deleted_from s (Some u) o)
    ≡ Err e → (j : Job) → o ≡ Some j → j.meta.uid ≡ u → ⊥
not_deleted s u None e h j is same = absurd (cc is)
not_deleted s u (Some i) e h j is same = by (i.meta.uid == u) refl h
  where
    by : (b : Bool) → (i.meta.uid == u) ≡ b → map_ok job_gone (if b then Ok (last_job s i) else Err NotFound) ≡ Err e
        → ⊥
    by true t h = absurd (cc h)
    by false t h = let x : i ≡ j = cc in let y : i.meta.uid ≡ j.meta.uid
        = ap (λ (z : Job). z.meta.uid) x in absurd (grind (arith, nat_tests, t, y, same))

-- the home of the uid that comes next
abbrev with_home : Homes → Content → Place → Homes
with_home home s k u = cond (u == s.uids + 1) k (home u)

-- A uid that was given out before keeps its home.
old_home : (home : Homes) (s : Content) (k : Place) (u : ℕ) → u ≤ s.uids → with_home home s k u ≡ home u
old_home home s k u h = by (u == s.uids + 1) refl
  where
    by : (b : Bool) → (u == s.uids + 1) ≡ b → cond b k (home u) ≡ home u
    by true e = absurd (grind (arith, nat_tests, e, h))
    by false e = refl

-- The uid that comes next has the new key as its home.
next_home : (home : Homes) (s : Content) (k : Place) (u : ℕ) → u ≡ s.uids + 1 → with_home home s k u ≡ k
next_home home s k u h = by (u == s.uids + 1) refl
  where
    by : (b : Bool) → (u == s.uids + 1) ≡ b → cond b k (home u) ≡ k
    by true e = refl
    by false e = absurd (grind (arith, nat_tests, e, h))

abbrev pub Grown : Homes → Content → Event → Type 0
Grown home s e = (home' : Homes) × Grows None home home' s (after s e) × ((after s e).uids ≤ s.uids + 1)

-- ---- what stays

module _ {home : Homes} {s : Content} {ms : List Claimed} where
  -- A CronJob that stood before and stands unchanged is among those that a growth may leave.
  cron_same : (own : Option Place) (home' : Homes) (t : Content) → StoreFact home s ms → (k : Place) (d : CronJob)
      → map.get s.crons k ≡ Some d → Cronic own home' s t k d
  cron_same own home' t f k d at = inl (
    d,
    record {
      was = at;
      key = refl;
      uid = refl;
      last = omega arith;
      version = inl refl;
      active = inl refl;
      named = (f.crons k d at).named;
    },
  )

  -- A Job that stood before and stands unchanged is among those that a growth may leave.
  job_same : StoreFact home s ms → (q : Place) (j : Job) → map.get s.jobs q ≡ Some j → Jobbed s q j
  job_same f q j at = inl (j, record { was = at; key = refl; uid = refl; owners = refl; finished = λ h. h })

  -- To leave the store as it is counts as a growth.
  pub grows_same : StoreFact home s ms → s.uids ≤ last_uid → Grows None home home s s
  grows_same f b = record {
    uids = omega arith;
    bound = b;
    version = omega arith;
    homes = λ u h. refl;
    crons = λ k d at. cron_same None home s f k d at;
    jobs = λ q j at. job_same f q j at;
  }

  -- a CronJob is written
  pub grows_put : (own : Option Place) (k : Place) (c d : CronJob) → StoreFact home s ms → s.uids ≤ last_uid
      → map.get s.crons k ≡ Some c → d.key ≡ c.key → c.meta.uid ≡ d.meta.uid → d.meta.version ≡ s.version + 1
      → last_of c ≤ last_of d
      → (d.status.active ≡ c.status.active) ⊎ (own ≡ Some k) → Named k d.meta.uid d.status.active s.jobs
      → Grows own home home s (after s (cron_modified d))
  grows_put own k c d f b at key uid v last active named = record {
    uids = omega arith;
    bound = b;
    version = omega arith;
    homes = λ u h. refl;
    crons = λ i x is. by i x (put_at s.crons d.key i d x is);
    jobs = λ q j is. job_same f q j is;
  }
    where
      here : d.key ≡ k
      here = key ∙ (f.crons k c at).key

      mine : Cronic own home s (after s (cron_modified d)) k d
      mine = inl (
        c,
        record {
          was = at;
          key = key;
          uid = uid;
          last = last;
          version = inr (omega arith, omega arith);
          active = active;
          named = named;
        },
      )

      by : (i : Place) (x : CronJob) → ((i ≡ d.key) × (d ≡ x)) ⊎ ((i ≢ d.key) × (map.get s.crons i ≡ Some x))
          → Cronic own home s (after s (cron_modified d)) i x
      by i x (inl e) = subst (λ (z : CronJob). Cronic own home s (after s (cron_modified d)) i z) e.1
          (subst (λ (n : Place). Cronic own home s (after s (cron_modified d)) n d) (sym (e.0 ∙ here)) mine)
      by i x (inr e) = cron_same own home (after s (cron_modified d)) f i x e.1

  -- The deletion of a CronJob counts as a growth of the store.
  grows_removal : (d : CronJob) → StoreFact home s ms → s.uids ≤ last_uid
      → Grows None home home s (after s (cron_gone d))
  grows_removal d f b = record {
    uids = omega arith;
    bound = b;
    version = omega arith;
    homes = λ u h. refl;
    crons = λ i x is. cron_same None home (after s (cron_gone d)) f i x (removal_at s.crons d.key i x is).1;
    jobs = λ q j is. job_same f q j is;
  }

  -- a Job is written
  grows_put_job : (q : Place) (i j : Job) → StoreFact home s ms → s.uids ≤ last_uid → map.get s.jobs q ≡ Some i
      → j.key ≡ i.key → j.meta.uid ≡ i.meta.uid → j.owners ≡ i.owners
      → (is_unfinished j ≡ true → is_unfinished i ≡ true)
      → Grows None home home s (after s (job_modified j))
  grows_put_job q i j f b at key uid owners finished = record {
    uids = omega arith;
    bound = b;
    version = omega arith;
    homes = λ u h. refl;
    crons = λ k d is. cron_same None home (after s (job_modified j)) f k d is;
    jobs = λ p x is. by p x (put_at s.jobs j.key p j x is);
  }
    where
      here : j.key ≡ q
      here = key ∙ f.keys q i at

      mine : Jobbed s q j
      mine = inl (i, record { was = at; key = key; uid = uid; owners = owners; finished = finished })

      by : (p : Place) (x : Job) → ((p ≡ j.key) × (j ≡ x)) ⊎ ((p ≢ j.key) × (map.get s.jobs p ≡ Some x)) → Jobbed s p x
      by p x (inl e) = subst (Jobbed s p) e.1 (subst (λ (n : Place). Jobbed s n j) (sym (e.0 ∙ here)) mine)
      by p x (inr e) = job_same f p x e.1

  -- The deletion of a Job counts as a growth of the store.
  pub grows_removal_job : (j : Job) → StoreFact home s ms → s.uids ≤ last_uid
      → Grows None home home s (after s (job_gone j))
  grows_removal_job j f b = record {
    uids = omega arith;
    bound = b;
    version = omega arith;
    homes = λ u h. refl;
    crons = λ k d is. cron_same None home (after s (job_gone j)) f k d is;
    jobs = λ p x is. job_same f p x (removal_at s.jobs j.key p x is).1;
  }

  -- The creation of a Job without a controller is a growth of the store.
  grows_add_job : (j : Job) → StoreFact home s ms → s.uids + 1 ≤ last_uid → controller_of j.owners ≡ None
      → Grows None home home s (after s (job_added j))
  grows_add_job j f b free = record {
    uids = omega arith;
    bound = b;
    version = omega arith;
    homes = λ u h. refl;
    crons = λ k d is. cron_same None home (after s (job_added j)) f k d is;
    jobs = λ p x is. by p x (put_at s.jobs j.key p j x is);
  }
    where
      by : (p : Place) (x : Job) → ((p ≡ j.key) × (j ≡ x)) ⊎ ((p ≢ j.key) × (map.get s.jobs p ≡ Some x)) → Jobbed s p x
      by p x (inl e) = inr (record {
        key = ap (λ (z : Job). z.key) (sym e.1)
            ∙ sym e.0;
        owners = ap (λ (z : Job). controller_of z.owners) (sym e.1) ∙ free;
      })
      by p x (inr e) = job_same f p x e.1

  -- The creation of a CronJob with the next uid is a growth, with its key as the uid's home.
  grows_add : (d : CronJob) → StoreFact home s ms → s.uids + 1 ≤ last_uid → d.meta.uid ≡ s.uids + 1
      → d.meta.version ≡ s.version + 1 → Grows None home (with_home home s d.key) s (after s (cron_added d))
  grows_add d f b u v = record {
    uids = omega arith;
    bound = b;
    version = omega arith;
    homes = λ u h. old_home home s d.key u h;
    crons = λ i x is. by i x (put_at s.crons d.key i d x is);
    jobs = λ q j is. job_same f q j is;
  }
    where
      mine : Cronic None (with_home home s d.key) s (after s (cron_added d)) d.key d
      mine = inr (record {
        key = refl;
        home_is = next_home home s d.key d.meta.uid u;
        uid = omega arith;
        below = omega arith;
        version = omega arith;
        top = omega arith;
      })

      by : (i : Place) (x : CronJob) → ((i ≡ d.key) × (d ≡ x)) ⊎ ((i ≢ d.key) × (map.get s.crons i ≡ Some x))
          → Cronic None (with_home home s d.key) s (after s (cron_added d)) i x
      by i x (inl e) = subst (λ (z : CronJob). Cronic None (with_home home s d.key) s (after s (cron_added d)) i z) e.1
          (subst (λ (n : Place). Cronic None (with_home home s d.key) s (after s (cron_added d)) n d) (sym e.0) mine)
      by i x (inr e) = cron_same None (with_home home s d.key) (after s (cron_added d)) f i x e.1

  -- ---- the calls of users and the runner

  -- A CreateCron that is accepted lets the store grow, by one uid at most.
  pub create_grows : StoreFact home s ms → s.uids + 1 ≤ last_uid → (draft : CronJobDraft) (now : ℕ) (e : Event)
      → map_ok cron_added (cron_created s draft now) ≡ Ok e → Grown home s e
  create_grows f b draft now e h =
      let a = mapped cron_added (cron_created s draft now) e h in
      let c = created_is s draft now a.0 a.1 in
      subst (Grown home s) a.2 (subst (λ (x : CronJob). Grown home s (cron_added x)) c.1
      (with_home home s (new_cron s draft now).key, grows_add (new_cron s draft now) f b refl refl, omega arith))

  -- An UpdateCron that is accepted lets the store grow, by one uid at most.
  pub update_grows : StoreFact home s ms → s.uids + 1 ≤ last_uid → (draft : CronJobDraft) (e : Event)
      → map_ok cron_modified (cron_updated s draft) ≡ Ok e → Grown home s e
  update_grows f b draft e h =
      let a = mapped cron_modified (cron_updated s draft) e h in
      let c = updated_is s draft (map.get s.crons draft.key) a.0 a.1 in
      subst (Grown home s) a.2 (subst (λ (x : CronJob). Grown home s (cron_modified x)) c.is (
        home,
        grows_put None draft.key c.old (updated_cron s draft c.old) f (omega arith) c.there refl refl refl
            (omega arith) (inl refl) (f.crons draft.key c.old c.there).named,
        omega arith,
      ))

  -- A DeleteCron that is accepted lets the store grow, by one uid at most.
  pub delete_grows : StoreFact home s ms → s.uids + 1 ≤ last_uid → (k : Place) (e : Event)
      → map_ok cron_gone (cron_deleted s k) ≡ Ok e → Grown home s e
  delete_grows f b k e h =
      let a = mapped cron_gone (cron_deleted s k) e h in
      subst (Grown home s) a.2 (home, grows_removal a.0 f (omega arith), omega arith)

  -- A CreateJob that is accepted lets the store grow, by one uid at most.
  pub create_job_grows : StoreFact home s ms → s.uids + 1 ≤ last_uid → (draft : JobDraft) (now : ℕ) (e : Event)
      → map_ok job_added (job_created s draft now) ≡ Ok e → Grown home s e
  create_job_grows f b draft now e h =
      let a = mapped job_added (job_created s draft now) e h in
      let c = job_created_is s draft now a.0 a.1 in
      let d = made_is s draft now a.0 c.1 in
      subst (Grown home s) a.2 (subst (λ (x : Job). Grown home s (job_added x)) d.1
      (home, grows_add_job (new_job s draft now) f b c.0, omega arith))

  -- An UpdateJob that is accepted lets the store grow, by one uid at most.
  pub update_job_grows : StoreFact home s ms → s.uids + 1 ≤ last_uid → (draft : JobDraft) (e : Event)
      → map_ok job_modified (job_updated s draft) ≡ Ok e → Grown home s e
  update_job_grows f b draft e h =
      let a = mapped job_modified (job_updated s draft) e h in
      let c = job_updated_is s draft (map.get s.jobs draft.key) a.0 a.1 in
      subst (Grown home s) a.2 (subst (λ (x : Job). Grown home s (job_modified x)) c.is (
        home,
        grows_put_job draft.key c.old (updated_job s draft c.old) f (omega arith) c.there refl refl refl (λ h. h),
        omega arith,
      ))

  -- A deletion of a Job that is accepted, by uid or not, lets the store grow, by one uid at most.
  pub delete_job_grows : StoreFact home s ms → s.uids + 1 ≤ last_uid → (k : Place) (u : Option ℕ) (e : Event)
      → map_ok job_gone (job_deleted s k u) ≡ Ok e → Grown home s e
  delete_job_grows f b k u e h =
      let a = mapped job_gone (job_deleted s k u) e h in
      subst (Grown home s) a.2 (home, grows_removal_job a.0 f (omega arith), omega arith)

  -- An EndJob that is accepted lets the store grow, by one uid at most.
  pub end_job_grows : StoreFact home s ms → s.uids + 1 ≤ last_uid
      → (k : Place) (u : ℕ) (out : Outcome) (now : ℕ) (e : Event) → map_ok job_modified (job_ended s k u out now) ≡ Ok e
      → Grown home s e
  end_job_grows f b k u out now e h =
      let a = mapped job_modified (job_ended s k u out now) e h in
      let c = job_ended_is s u out now (map.get s.jobs k) a.0 a.1 in
      subst (Grown home s) a.2 (subst (λ (x : Job). Grown home s (job_modified x)) c.is (
        home,
        grows_put_job k c.old (ended_job s out now c.old) f (omega arith) c.there refl refl refl
            (λ h. absurd (cc h)),
        omega arith,
      ))

  -- a deletion is of the key
  pub deleted_key : StoreFact home s ms → (k : Place) (u : Option ℕ) (x : Job) → job_deleted s k u ≡ Ok x → x.key ≡ k
  deleted_key f k u x h =
      let c = job_deleted_is s u (map.get s.jobs k) x h in
      ap (λ (z : Job). z.key) (sym c.is) ∙ f.keys k c.old c.there

-- No sync's call takes a Job away that runs, but under Replace for a later one.
use Rattle.std.proofs.Common.{◌≡◌, ◌⊎◌, inl, inr, ℕ, Bool, true, false, List, [], ◌∷◌, Option, Some, None, refl, sym, ap, subst, ◌∙◌, arith}
use Rattle.std.specs.Prelude.{if◌then◌else◌}
use Rattle.cj_fence.specs.declared.table.Row.{Row}
use Rattle.cj_fence.specs.declared.refs.Ref.{Ref}
use Rattle.cj_fence.specs.declared.objects.Job.{Job}
use Rattle.cj_fence.specs.declared.call.Call.{Call}
use Rattle.cj_fence.specs.declared.call.Call.TheVariants as Of
use Rattle.cj_fence.specs.declared.answer.Answer.{Answer}
use Rattle.cj_fence.specs.declared.answer.Answer.TheVariants as Is
use Rattle.cj_fence.specs.declared.answer.Stamp.{Stamp}
use Rattle.cj_fence.specs.declared.sync.At.{At}
use Rattle.cj_fence.specs.declared.sync.Held.{Held}
use Rattle.cj_fence.specs.declared.sync.Sync.{Sync}
use Rattle.cj_fence.specs.declared.sync.Sync.TheVariants.{Fresh, Looking, Ready, Holding, Starting, Tidying, Gone, Over}
use Rattle.cj_fence.specs.Texts.{is_same}
use Rattle.cj_fence.specs.Tables.{find}
use Rattle.cj_fence.specs.Objects.{is_ref, has_ref, look}
use Rattle.cj_fence.specs.Server.{refuses, puts_job, released, start, delete, expire_where, served}
use Rattle.cj_fence.specs.Protocol.{seen_of, MayExpire, May}
use Rattle.cj_fence.specs.History.{Deed, Asked, Wrote, Told, state_of, Claimed, claim_of, runs_in, own}
use Rattle.cj_fence.specs.Lost.{IsRunning, IsReplaced, SparesRunning, IsSpared, RunningStays}
use Rattle.cj_fence.proofs.FenceLemmas.Basics.{is_in, one_true, same_true, ref_true, look_found, look_is}
use Rattle.cj_fence.proofs.FenceLemmas.Facts.{job_at, IsDead, Dead, Owned, Commits, SyncFact, Inv}
use Rattle.cj_fence.proofs.FenceLemmas.Grows.{job_is_old, runs_parts, claim_mine}
use Rattle.cj_fence.proofs.FenceLemmas.Moves.{next}
use Rattle.cj_fence.proofs.FenceLemmas.Entries.{claim_policy}
use Rattle.cj_fence.proofs.FenceLemmas.Lost.{Spares, stays, garbage_dead, garbage_mine, finished_mine, drop_mine}
use Rattle.cj_fence.proofs.FenceLemmas.Whole.{MayDo, always_by}

-- a Job that runs
pub record Runs (h : List Told) (r : Ref) : Type 0 where
  pub job : Job
  pub stands : job_at h r.name ≡ Some job
  pub uid : job.uid ≡ r.uid
  pub held : job.held ≡ false
  pub finished : job.finished ≡ false
  pub deleting : job.deleting ≡ false
  pub runs : runs_in (Some job) ≡ true

-- A Job that runs stands.
running_is : (h : List Told) (r : Ref) → IsRunning h r → Runs h r
running_is h r w = by_look (look (state_of h).jobs r) refl w
  where
    by_look : (o : Option Job) → look (state_of h).jobs r ≡ o → runs_in o ≡ true → Runs h r
    by_look None e a = absurd (cc a)
    by_look (Some j) e a =
        let f = look_found (state_of h).jobs r j e in
        let p = runs_parts j a in
        record {
          job = j;
          stands = f.0;
          uid = f.1;
          held = p.0;
          finished = p.1;
          deleting = p.2;
          runs = a;
        }

-- A Job that stands under its name and runs, runs.
is_running : (jobs : List (Row Job)) (r : Ref) (j : Job) → find r.name jobs ≡ Some j → j.uid ≡ r.uid
    → runs_in (Some j) ≡ true → runs_in (look jobs r) ≡ true
is_running jobs r j at u w = ap (λ (o : Option Job). runs_in o) (look_is jobs r j at u) ∙ w

-- A Job that is dead doesn't run.
dead_not : (h : List Told) (r : Ref) → Runs h r → Dead h r → ⊥
dead_not h r w d = by_dead (d w.job w.stands w.uid)
  where
    by_dead : IsDead h r w.job → ⊥
    by_dead (inl e) = absurd (cc (e, w.finished))
    by_dead (inr e) = absurd (cc (e.0, w.deleting))

-- what becomes of a claimed Job that runs
abbrev pub Fares : List Told → Stamp → ℕ → Call → Bool → Answer → Ref → Claimed → Type 0
Fares h t y call reached a r k =
    IsRunning (next h t (Asked y call reached a)) r ⊎ ((call ≡ Of.Delete r) × IsReplaced h k)

-- A call that isn't about it leaves it.
left_alone : (h : List Told) (t : Stamp) (y : ℕ) (call : Call) (a : Answer) (r : Ref) (k : Claimed) → Runs h r
    → Spares call r → Fares h t y call true a r k
left_alone h t y call a r k w s = inl (is_running (served (state_of h) t call).cluster.jobs r w.job
    (stays h t call r w.job s w.stands w.uid) w.uid w.runs)

-- A start of a Job that runs is refused.
start_refused : (h : List Told) (t : Stamp) (r : Ref) → Runs h r → (o : Option Job) → look (state_of h).jobs r ≡ o
    → find r.name (start (state_of h) t r o).cluster.jobs ≡ job_at h r.name
start_refused h t r w None e = refl
start_refused h t r w (Some j) e = by_hold j.held refl
  where
    same : j ≡ w.job
    same =
        let f = look_found (state_of h).jobs r j e in
        cc (sym f.0 ∙ w.stands)

    by_hold : (b : Bool) → j.held ≡ b
        → find r.name (if b then puts_job (state_of h) (Is.Written t.version) r.name (released t j) else refuses
        (state_of h)).cluster.jobs
        ≡ job_at h r.name
    by_hold true b = absurd (cc (sym b ∙ ap (λ (z : Job). z.held) same, w.held))
    by_hold false b = refl

-- What becomes of a Job that runs, by a start.
by_start : (h : List Told) (t : Stamp) (y : ℕ) (x : Ref) (a : Answer) (r : Ref) (k : Claimed) → Runs h r → (b : Bool)
    → is_ref x r ≡ b → Fares h t y (Of.Start x) true a r k
by_start h t y x a r k w true e =
    let same : r ≡ x = sym (ref_true x r e) in
    let here : Runs h x = subst (Runs h) same w in
    let stays_so : find x.name (start (state_of h) t x (look (state_of h).jobs x)).cluster.jobs ≡ Some here.job =
    start_refused h t x here (look (state_of h).jobs x) refl ∙ here.stands in
    inl (subst (λ (z : Ref). runs_in (look (start (state_of h) t x (look (state_of h).jobs x)).cluster.jobs z) ≡ true)
    (sym same)
    (is_running (start (state_of h) t x (look (state_of h).jobs x)).cluster.jobs x here.job stays_so here.uid
    here.runs))
by_start h t y x a r k w false e = left_alone h t y (Of.Start x) a r k w e

-- ---- deletions

-- A Job that is to be deleted before a start was claimed earlier, and the start is under Replace.
replaced_by : {me : List ℕ} {h : List Told} → Inv me h → (at : At) (x : Held) (d : Ref) (ds : List Ref)
    → Commits me h at x (d ∷ ds) → at.cron.uid ≡ me → (k : Claimed) → claim_of h d ≡ Some k → IsReplaced h k
replaced_by f at x d ds a q k is =
    let b = (a.its q).earlier d (inl refl) in
    let same : b.first ≡ k = cc (sym b.is_first ∙ is) in
    let time : b.first.time ≡ k.time = ap (λ (z : Claimed). z.time) same in
    record {
      by = x.job;
      claim = b.second;
      is = b.is_second;
      owner = sym b.owner ∙ ap (λ (z : Claimed). z.owner) same;
      later = let l = b.less in omega arith;
      policy = sym (claim_policy f at.cron.uid x a.held_fact q b.second b.is_second) ∙ a.replaces d (inl refl);
    }

-- A Job claimed for the CronJob that runs is deleted by its uid only for a later one.
deleted_for : {me : List ℕ} {h : List Told} → Inv me h → (s : Sync) → SyncFact me h s → (r : Ref)
    → May s (Of.Delete r) → (k : Claimed) → claim_of h r ≡ Some k → k.owner ≡ me → Runs h r → IsReplaced h k
deleted_for f Fresh a r m k is o w = absurd m
deleted_for f (Looking at [] held) a r m k is o w = absurd m
deleted_for f (Looking at (x ∷ rs) held) a r m k is o w = absurd m
deleted_for f (Ready at) a r m k is o w = absurd m
deleted_for f (Holding at x) a r m k is o w = absurd m
deleted_for f (Starting at x []) a r m k is o w = absurd m
deleted_for {me} {h} f (Starting at x (d ∷ ds)) a r m k is o w =
    let q = drop_mine f at x d ds a (subst (Owned h me) m (claim_mine f r k is o)) in
    replaced_by f at x d ds a q k (subst (λ (z : Ref). claim_of h z ≡ Some k) m is)
deleted_for {me} {h} f (Tidying at gs fs) a r m k is o w = by_part (one_true (has_ref gs r) (has_ref fs r) m)
  where
    by_part : (has_ref gs r ≡ true) ⊎ (has_ref fs r ≡ true) → IsReplaced h k
    by_part (inl e) =
        let b = a.garbage r (is_in gs r e) in
        let q = garbage_mine f at.cron r b (claim_mine f r k is o) in
        absurd (dead_not h r w (garbage_dead f at.name at.cron a.base.cron q r b k is))
    by_part (inr e) =
        let b = a.finished r (is_in fs r e) in
        let q = finished_mine f at.cron r b (claim_mine f r k is o) in
        let c = (((f.jobs r.name b.job b.was).now w.job w.stands (w.uid ∙ sym b.uid)).own (b.owner ∙ q)).finished
        b.finished in
        absurd (cc (c, w.finished))
deleted_for f Gone a r m k is o w = absurd m
deleted_for f Over a r m k is o w = absurd m

-- What becomes of a claimed Job that runs, by a DELETE by uid.
by_delete : {me : List ℕ} (h : List Told) (t : Stamp) (y : ℕ) (x : Ref) (a : Answer) (r : Ref) (k : Claimed) → Inv me h
    → May (seen_of (own y h)) (Of.Delete x) → claim_of h r ≡ Some k → k.owner ≡ me → Runs h r → (b : Bool)
    → is_ref x r ≡ b → Fares h t y (Of.Delete x) true a r k
by_delete h t y x a r k f m is o w true e =
    let same = ref_true x r e in
    let may = subst (λ (z : Ref). May (seen_of (own y h)) (Of.Delete z)) same m in
    inr (ap (λ (z : Ref). Of.Delete z) same, deleted_for f (seen_of (own y h)) (f.syncs y) r may k is o w)
by_delete h t y x a r k f m is o w false e = left_alone h t y (Of.Delete x) a r k w e

-- A DELETE on the version at which a Job was held is refused once it runs.
expire_refused : {me : List ℕ} {h : List Told} → Inv me h → (t : Stamp) (x : Held) (at : At) (ds : List Ref)
    → Commits me h at x ds
    → Runs h x.job → (v : List ℕ) → v ≡ x.found.version → (o : Option Job) → look (state_of h).jobs x.job ≡ o
    → find x.job.name (expire_where (state_of h) t x.job v o).cluster.jobs ≡ job_at h x.job.name
expire_refused f t x at ds a w v m None e = refl
expire_refused {me} {h} f t x at ds a w v m (Some j) e = by_test (is_same j.version v) refl
  where
    found : (job_at h x.job.name ≡ Some j) × (j.uid ≡ x.job.uid)
    found = look_found (state_of h).jobs x.job j e

    same : j ≡ w.job
    same = cc (sym found.0 ∙ w.stands)

    by_test : (b : Bool) → is_same j.version v ≡ b
        → find x.job.name (if b then delete (state_of h) t x.job j else refuses (state_of h)).cluster.jobs
        ≡ job_at h x.job.name
    by_test true b =
        let one : j ≡ x.found = (f.jobs x.job.name x.found a.held_fact.was).same j
        (job_is_old h x.job.name j found.0) (same_true j.version v b ∙ m) in
        let held : j.held ≡ true = ap (λ (z : Job). z.held) one ∙ a.held_fact.held in
        absurd (cc (sym held ∙ ap (λ (z : Job). z.held) same, w.held))
    by_test false b = refl

-- A sync that deletes a Job for its deadline leaves it if it runs.
expired_by : {me : List ℕ} (h : List Told) (t : Stamp) (y : ℕ) (a : Answer) → Inv me h
    → (at : At) (x : Held) (ds : List Ref)
    → Commits me h at x ds → (r : Ref) (v : List ℕ) (now : ℕ) → MayExpire at x r v now → (k : Claimed) → Runs h r
    → Fares h t y (Of.Expire r v now) true a r k
expired_by h t y a f at x ds l r v now m k w =
    let here : Runs h x.job = subst (Runs h) m.job w in
    let jobs = (expire_where (state_of h) t x.job v (look (state_of h).jobs x.job)).cluster.jobs in
    let so : find x.job.name jobs ≡ Some here.job =
    expire_refused f t x at ds l here v m.version (look (state_of h).jobs x.job) refl ∙ here.stands in
    let b : runs_in (look jobs x.job) ≡ true = is_running jobs x.job here.job so here.uid here.runs in
    inl (subst (λ (z : Ref). runs_in (look (expire_where (state_of h) t z v (look (state_of h).jobs z)).cluster.jobs z)
    ≡ true)
    (sym m.job) b)

-- In no state does such a DELETE take a Job away that runs.
expired : {me : List ℕ} (h : List Told) (t : Stamp) (y : ℕ) (a : Answer) → Inv me h → (s : Sync) → SyncFact me h s
    → (r : Ref) (v : List ℕ)
    (now : ℕ) → May s (Of.Expire r v now) → (k : Claimed) → Runs h r → Fares h t y (Of.Expire r v now) true a r k
expired h t y a f Fresh l r v now m k w = absurd m
expired h t y a f (Looking at [] held) l r v now m k w = absurd m
expired h t y a f (Looking at (x ∷ rs) held) l r v now m k w = absurd m
expired h t y a f (Ready at) l r v now m k w = absurd m
expired h t y a f (Holding at x) l r v now m k w = absurd m
expired h t y a f (Starting at x []) l r v now m k w = expired_by h t y a f at x [] l r v now m k w
expired h t y a f (Starting at x (d ∷ ds)) l r v now m k w = expired_by h t y a f at x (d ∷ ds) l r v now m k w
expired h t y a f (Tidying at gs fs) l r v now m k w = absurd m
expired h t y a f Gone l r v now m k w = absurd m
expired h t y a f Over l r v now m k w = absurd m

-- What becomes of a Job that runs, by a DELETE by uid and version.
by_expire : {me : List ℕ} (h : List Told) (t : Stamp) (y : ℕ) (x : Ref) (v : List ℕ) (now : ℕ) (a : Answer) (r : Ref)
    (k : Claimed)
    → Inv me h → May (seen_of (own y h)) (Of.Expire x v now) → Runs h r → (b : Bool) → is_ref x r ≡ b
    → Fares h t y (Of.Expire x v now) true a r k
by_expire h t y x v now a r k f m w true e =
    let same = ref_true x r e in
    let b = expired h t y a f (seen_of (own y h)) (f.syncs y) x v now m k (subst (Runs h) (sym same) w) in
    subst (λ (z : Ref). Fares h t y (Of.Expire x v now) true a z k) same b
by_expire h t y x v now a r k f m w false e = left_alone h t y (Of.Expire x v now) a r k w e

-- ---- any call

-- What becomes of a claimed Job that runs, by any call of a sync.
fares : {me : List ℕ} (h : List Told) (t : Stamp) (y : ℕ) (call : Call) (reached : Bool) (a : Answer) → Inv me h
    → May (seen_of (own y h)) call → (r : Ref) (k : Claimed) → claim_of h r ≡ Some k → k.owner ≡ me → IsRunning h r
    → Fares h t y call reached a r k
fares h t y call false a f m r k is o w = inl w
fares h t y (Of.GetCron n) true a f m r k is o w = left_alone h t y (Of.GetCron n) a r k (running_is h r w) tt
fares h t y (Of.CacheCron n) true a f m r k is o w = left_alone h t y (Of.CacheCron n) a r k (running_is h r w) tt
fares h t y (Of.GetJob n) true a f m r k is o w = left_alone h t y (Of.GetJob n) a r k (running_is h r w) tt
fares h t y (Of.CacheJob n) true a f m r k is o w = left_alone h t y (Of.CacheJob n) a r k (running_is h r w) tt
fares h t y Of.ListJobs true a f m r k is o w = left_alone h t y Of.ListJobs a r k (running_is h r w) tt
fares h t y (Of.Create n j) true a f m r k is o w = left_alone h t y (Of.Create n j) a r k (running_is h r w) tt
fares h t y (Of.Claim c) true a f m r k is o w = left_alone h t y (Of.Claim c) a r k (running_is h r w) tt
fares h t y (Of.Tidy c) true a f m r k is o w = left_alone h t y (Of.Tidy c) a r k (running_is h r w) tt
fares h t y (Of.Start x) true a f m r k is o w = by_start h t y x a r k (running_is h r w) (is_ref x r) refl
fares h t y (Of.Delete x) true a f m r k is o w = by_delete h t y x a r k f m is o (running_is h r w) (is_ref x r) refl
fares h t y (Of.Expire x v now) true a f m r k is o w =
    by_expire h t y x v now a r k f m (running_is h r w) (is_ref x r) refl

-- No entry of a sync takes a Job away that runs, but under Replace for a later one.
spared_by : {me : List ℕ} (h : List Told) (t : Stamp) (d : Deed) → Inv me h → MayDo h d
    → SparesRunning me (record { stamp = t; deed = d }) h d
spared_by h t (Asked y call reached a) f m = λ r k is o w. fares h t y call reached a f m r k is o w
spared_by h t (Wrote x) f m = tt

-- No sync's call takes a Job away that runs, but under Replace for a later one.
pub running_stays : RunningStays
running_stays u = always_by u (IsSpared u) (λ e h f m. spared_by h e.stamp e.deed f m)

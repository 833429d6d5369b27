-- No sync's call loses what was claimed.
use Rattle.std.proofs.Common.{◌≡◌, ◌≢◌, ◌⊎◌, inl, inr, ℕ, Bool, true, false, not, ◌&&◌, List, [], ◌∷◌, Option, Some, None, refl, sym, ap, subst, ◌∙◌, arith}
use Rattle.std.specs.Prelude.{if◌then◌else◌}
use Rattle.cj_fence.specs.declared.table.Row.{Row}
use Rattle.cj_fence.specs.declared.refs.Ref.{Ref}
use Rattle.cj_fence.specs.declared.objects.Cron.{Cron}
use Rattle.cj_fence.specs.declared.objects.Job.{Job}
use Rattle.cj_fence.specs.declared.cluster.Served.{Served}
use Rattle.cj_fence.specs.declared.call.Call.{Call}
use Rattle.cj_fence.specs.declared.call.Call.TheVariants as Of
use Rattle.cj_fence.specs.declared.answer.Answer.{Answer}
use Rattle.cj_fence.specs.declared.answer.Answer.TheVariants as Is
use Rattle.cj_fence.specs.declared.answer.Stamp.{Stamp}
use Rattle.cj_fence.specs.declared.sync.At.{At}
use Rattle.cj_fence.specs.declared.sync.Held.{Held}
use Rattle.cj_fence.specs.declared.sync.Sync.{Sync}
use Rattle.cj_fence.specs.declared.sync.Sync.TheVariants.{Fresh, Looking, Ready, Holding, Starting, Tidying, Gone, Over}
use Rattle.cj_fence.specs.Texts.{is_same}
use Rattle.cj_fence.specs.Tables.{find, without, put}
use Rattle.cj_fence.specs.Objects.{is_ref, has_ref, look, waits, runs}
use Rattle.cj_fence.specs.Server.{says, refuses, puts_job, made, create, released, start, marked, mark, delete, delete_where, expire_where, served}
use Rattle.cj_fence.specs.Protocol.{seen_of, IsLate, MayExpire, May}
use Rattle.cj_fence.specs.History.{Deed, Asked, Wrote, Told, state_of, Claimed, claim_of, waits_in, runs_in, starts, own}
use Rattle.cj_fence.specs.Lost.{IsWaiting, IsExpiry, KeepsClaimed, IsKept, NothingIsLost}
use Rattle.cj_fence.proofs.FenceLemmas.Basics.{IsIn, same_true, is_false, one_true, ref_true, ref_self, ref_parts, look_found, look_is, put_self, is_in}
use Rattle.cj_fence.proofs.FenceLemmas.Facts.{job_at, OldCron, Dead, Settled, Owned, Commits, GarbageFact, FinishedFact, SyncFact, Inv}
use Rattle.cj_fence.proofs.FenceLemmas.Grows.{IsStarting, is_held, not_finished, not_deleting, dead_settled, old_owner, owned_one, claim_mine}
use Rattle.cj_fence.proofs.FenceLemmas.Moves.{next, stays_claim, stays_tidy, waiting_is}
use Rattle.cj_fence.proofs.FenceLemmas.Entries.{held_owned}
use Rattle.cj_fence.proofs.FenceLemmas.Whole.{MayDo, always_by}

module _ {X : Type 0} where
  -- Without a name, what stands at another name stays.
  pub without_other : (k q : List ℕ) (rs : List (Row X)) → k ≢ q → find q (without k rs) ≡ find q rs
  without_other k q [] n = refl
  without_other k q (r ∷ rs) n = by_name (without_other k q rs n) (is_same r.name k) refl (is_same r.name q) refl
    where
      by_name : find q (without k rs) ≡ find q rs → (a : Bool) → is_same r.name k ≡ a → (b : Bool)
          → is_same r.name q ≡ b
          → find q (if a then without k rs else r ∷ without k rs) ≡ (if b then Some r.object else find q rs)
      by_name f true a true b = absurd (n (sym (same_true r.name k a) ∙ same_true r.name q b))
      by_name f true a false b = f
      by_name f false a true b = ap (λ (z : Bool). if z then Some r.object else find q (without k rs)) b
      by_name f false a false b = ap (λ (z : Bool). if z then Some r.object else find q (without k rs)) b ∙ f

  -- After a put, what stands at another name stays.
  pub put_other : (k q : List ℕ) (x : X) (rs : List (Row X)) → k ≢ q → find q (put k x rs) ≡ find q rs
  unfolding put
  put_other k q x rs n =
      ap (λ (z : Bool). if z then Some x else find q (without k rs)) (is_false (is_same k q) (λ e. n (same_true k q e)))
      ∙ without_other k q rs n

-- ---- calls that leave a Job alone

-- a call that isn't about this Job
abbrev pub Spares : Call → Ref → Type 0
Spares (Of.Start x) r = is_ref x r ≡ false
Spares (Of.Delete x) r = is_ref x r ≡ false
Spares (Of.Expire x v now) r = is_ref x r ≡ false
Spares call r = Unit {0}

-- A Job of another reference stands under another name.
elsewhere : (h : List Told) (x r : Ref) (i j : Job) → look (state_of h).jobs x ≡ Some i → job_at h r.name ≡ Some j
    → j.uid ≡ r.uid → is_ref x r ≡ false → x.name ≢ r.name
elsewhere h x r i j e at u n same =
    let f = look_found (state_of h).jobs x i e in
    let here : job_at h r.name ≡ Some i = subst (λ (z : List ℕ). job_at h z ≡ Some i) same f.0 in
    let one : i ≡ j = cc (sym here ∙ at) in
    let uid : x.uid ≡ r.uid = sym f.1 ∙ ap (λ (z : Job). z.uid) one ∙ u in
    let both : x ≡ r = ref_parts x r same uid in
    absurd (cc (sym n ∙ subst (λ (z : Ref). is_ref z r ≡ true) (sym both) (ref_self r)))

-- Of two outcomes that leave a Job, the one that a test picks does.
stays_if : (n : List ℕ) (j : Job) (b : Bool) (x y : Served) → find n x.cluster.jobs ≡ Some j
    → find n y.cluster.jobs ≡ Some j → find n (if b then x else y).cluster.jobs ≡ Some j
stays_if n j true x y f g = f
stays_if n j false x y f g = g

-- A POST leaves each Job that stands.
stays_create : (h : List Told) (t : Stamp) (n : List ℕ) (x : Job) (m : List ℕ) (j : Job) (o : Option Job)
    → job_at h n ≡ o
    → job_at h m ≡ Some j → find m (create (state_of h) t n x o).cluster.jobs ≡ Some j
stays_create h t [] x m j o e at = at
stays_create h t (c ∷ n) x m j None e at =
    put_other (c ∷ n) m (made t x) (state_of h).jobs (λ s. absurd
    (cc (sym e ∙ subst (λ (z : List ℕ). job_at h z ≡ Some j) (sym s) at)))
    ∙ at
stays_create h t (c ∷ n) x m j (Some old) e at = at

-- A start leaves each other Job.
stays_start : (h : List Told) (t : Stamp) (x r : Ref) (j : Job) → is_ref x r ≡ false → job_at h r.name ≡ Some j
    → j.uid ≡ r.uid → (o : Option Job) → look (state_of h).jobs x ≡ o
    → find r.name (start (state_of h) t x o).cluster.jobs ≡ Some j
stays_start h t x r j n at u None e = at
stays_start h t x r j n at u (Some i) e = stays_if r.name j i.held
    (puts_job (state_of h) (Is.Written t.version) x.name (released t i)) (refuses (state_of h))
    (put_other x.name r.name (released t i) (state_of h).jobs (elsewhere h x r i j e at u n) ∙ at) at

-- A mark leaves those of other names.
stays_mark : (h : List Told) (t : Stamp) (x r : Ref) (i j : Job) → x.name ≢ r.name → job_at h r.name ≡ Some j
    → find r.name (mark (state_of h) t x i).cluster.jobs ≡ Some j
stays_mark h t x r i j n at = stays_if r.name j i.deleting (says (state_of h) Is.Deleted)
    (puts_job (state_of h) Is.Deleted x.name (marked t i)) at
    (put_other x.name r.name (marked t i) (state_of h).jobs n ∙ at)

-- The deletion of a Job that stands leaves those of other names.
stays_delete : (h : List Told) (t : Stamp) (x r : Ref) (i j : Job) → x.name ≢ r.name → job_at h r.name ≡ Some j
    → find r.name (delete (state_of h) t x i).cluster.jobs ≡ Some j
stays_delete h t x r i j n at = stays_if r.name j i.pinned (mark (state_of h) t x i)
    (record { answer = Is.Deleted; cluster = record (state_of h) { jobs = without x.name (state_of h).jobs } })
    (stays_mark h t x r i j n at) (without_other x.name r.name (state_of h).jobs n ∙ at)

-- A DELETE by uid leaves each other Job.
pub stays_delete_where : (h : List Told) (t : Stamp) (x r : Ref) (j : Job) → is_ref x r ≡ false
    → job_at h r.name ≡ Some j
    → j.uid ≡ r.uid → (o : Option Job) → look (state_of h).jobs x ≡ o
    → find r.name (delete_where (state_of h) t x o).cluster.jobs ≡ Some j
stays_delete_where h t x r j n at u None e = at
stays_delete_where h t x r j n at u (Some i) e = stays_delete h t x r i j (elsewhere h x r i j e at u n) at

-- A DELETE by uid and version leaves each other Job.
stays_expire : (h : List Told) (t : Stamp) (x r : Ref) (v : List ℕ) (j : Job) → is_ref x r ≡ false
    → job_at h r.name ≡ Some j → j.uid ≡ r.uid → (o : Option Job) → look (state_of h).jobs x ≡ o
    → find r.name (expire_where (state_of h) t x v o).cluster.jobs ≡ Some j
stays_expire h t x r v j n at u None e = at
stays_expire h t x r v j n at u (Some i) e = stays_if r.name j (is_same i.version v) (delete (state_of h) t x i)
    (refuses (state_of h)) (stays_delete h t x r i j (elsewhere h x r i j e at u n) at) at

-- A call that isn't about a Job leaves it as it is.
pub stays : (h : List Told) (t : Stamp) (call : Call) (r : Ref) (j : Job) → Spares call r → job_at h r.name ≡ Some j
    → j.uid ≡ r.uid → find r.name (served (state_of h) t call).cluster.jobs ≡ Some j
stays h t (Of.GetCron n) r j s at u = at
stays h t (Of.CacheCron n) r j s at u = at
stays h t (Of.GetJob n) r j s at u = at
stays h t (Of.CacheJob n) r j s at u = at
stays h t Of.ListJobs r j s at u = at
stays h t (Of.Create n x) r j s at u = stays_create h t n x r.name j (job_at h n) refl at
stays h t (Of.Claim w) r j s at u = ap (λ z. find r.name z)
    (stays_claim (state_of h) t w (find w.name (state_of h).crons)) ∙ at
stays h t (Of.Tidy w) r j s at u = ap (λ z. find r.name z)
    (stays_tidy (state_of h) t w (find w.name (state_of h).crons)) ∙ at
stays h t (Of.Start x) r j s at u = stays_start h t x r j s at u (look (state_of h).jobs x) refl
stays h t (Of.Delete x) r j s at u = stays_delete_where h t x r j s at u (look (state_of h).jobs x) refl
stays h t (Of.Expire x v now) r j s at u = stays_expire h t x r v j s at u (look (state_of h).jobs x) refl

-- ---- a Job that waits

-- A Job that stands under its name and waits, waits.
pub is_waiting : (jobs : List (Row Job)) (r : Ref) (j : Job) → find r.name jobs ≡ Some j → j.uid ≡ r.uid
    → waits j ≡ true → waits_in (look jobs r) ≡ true
is_waiting jobs r j at u w = ap (λ (o : Option Job). waits_in o) (look_is jobs r j at u) ∙ w

-- ---- deletions

-- Garbage of the CronJob that was claimed is dead.
pub garbage_dead : {me : List ℕ} {h : List Told} → Inv me h → (n : List ℕ) (cron : Cron) → OldCron h n cron
    → cron.uid ≡ me → (r : Ref) → GarbageFact h cron r → (k : Claimed) → claim_of h r ≡ Some k → Dead h r
garbage_dead {me} {h} f n cron old m r b k is =
    let c = f.claims r k is in
    let own : Owned h me r = record { job = b.job; was = b.was; uid = b.uid; owner = b.owner ∙ m } in
    let mine = old_owner f r own c.job c.was c.uid in
    let alike = (f.jobs r.name c.job c.was).alike b.job b.was (b.uid ∙ sym c.uid) mine in
    let owner : k.owner ≡ cron.uid = sym c.owner ∙ mine ∙ sym m in
    let low = b.time in
    let t : c.job.time ≡ b.job.time = alike.time in
    let u = c.time in
    by_place ((f.status n cron old m).named r k is owner (omega arith))
  where
    by_place : IsIn r cron.active ⊎ Dead h r → Dead h r
    by_place (inl i) = absurd (b.absent i)
    by_place (inr d) = d

-- A Job of the CronJob that had finished can't be started.
finished_settled : {me : List ℕ} {h : List Told} → Inv me h → (c : Cron) → c.uid ≡ me → (r : Ref) → FinishedFact h c r
    → Settled h r
finished_settled {me} {h} f c m r a i at u =
    let k = ((f.jobs r.name a.job a.was).now i at (u ∙ sym a.uid)).own (a.owner ∙ m) in
    is_false (waits i) (λ w. not_finished i w (k.finished a.finished))

-- A sync that lists garbage which is of the CronJob is a sync of it.
pub garbage_mine : {me : List ℕ} {h : List Told} → Inv me h → (c : Cron) (r : Ref) → GarbageFact h c r → Owned h me r
    → c.uid ≡ me
garbage_mine f c r b o = owned_one f r c.uid (record { job = b.job; was = b.was; uid = b.uid; owner = b.owner }) o

-- So is one that lists a finished one.
pub finished_mine : {me : List ℕ} {h : List Told} → Inv me h → (c : Cron) (r : Ref) → FinishedFact h c r → Owned h me r
    → c.uid ≡ me
finished_mine f c r b o = owned_one f r c.uid (record { job = b.job; was = b.was; uid = b.uid; owner = b.owner }) o

-- A sync that deletes a Job of the CronJob before a start is a sync of it.
pub drop_mine : {me : List ℕ} {h : List Told} → Inv me h → (at : At) (x : Held) (d : Ref) (ds : List Ref)
    → Commits me h at x (d ∷ ds) → Owned h me d → at.cron.uid ≡ me
drop_mine f at x d ds a o = owned_one f d at.cron.uid (a.base.owned d (a.among d (inl refl))) o

-- A Job claimed for the CronJob that a sync may delete by its uid can't be started any more.
pub deleted_settled : {me : List ℕ} {h : List Told} → Inv me h → (s : Sync) → SyncFact me h s → (r : Ref)
    → May s (Of.Delete r) → (k : Claimed) → claim_of h r ≡ Some k → k.owner ≡ me → Settled h r
deleted_settled f Fresh a r m k is o = absurd m
deleted_settled f (Looking at [] held) a r m k is o = absurd m
deleted_settled f (Looking at (x ∷ rs) held) a r m k is o = absurd m
deleted_settled f (Ready at) a r m k is o = absurd m
deleted_settled f (Holding at x) a r m k is o = absurd m
deleted_settled f (Starting at x []) a r m k is o = absurd m
deleted_settled {me} {h} f (Starting at x (d ∷ ds)) a r m k is o =
    let q = drop_mine f at x d ds a (subst (Owned h me) m (claim_mine f r k is o)) in
    subst (Settled h) (sym m) ((a.its q).at_fact.settled d (a.among d (inl refl)))
deleted_settled {me} {h} f (Tidying at gs fs) a r m k is o = by_part (one_true (has_ref gs r) (has_ref fs r) m)
  where
    by_part : (has_ref gs r ≡ true) ⊎ (has_ref fs r ≡ true) → Settled h r
    by_part (inl e) =
        let b = a.garbage r (is_in gs r e) in
        let q = garbage_mine f at.cron r b (claim_mine f r k is o) in
        dead_settled h r (garbage_dead f at.name at.cron a.base.cron q r b k is)
    by_part (inr e) =
        let b = a.finished r (is_in fs r e) in
        finished_settled f at.cron (finished_mine f at.cron r b (claim_mine f r k is o)) r b
deleted_settled f Gone a r m k is o = absurd m
deleted_settled f Over a r m k is o = absurd m

-- For expiry_by: the claim of the Job that a sync found held.
held_claim : {me : List ℕ} {h : List Told} → Inv me h → (at : At) (x : Held) (ds : List Ref) → Commits me h at x ds
    → (k : Claimed) → claim_of h x.job ≡ Some k → k.owner ≡ me → (at.cron.uid ≡ k.owner) × (x.found.time ≡ k.time)
held_claim {me} {h} f at x ds a k is o =
    let c = f.claims x.job k is in
    let q = owned_one f x.job at.cron.uid (held_owned h at.cron.uid x a.held_fact) (claim_mine f x.job k is o) in
    let alike = (f.jobs x.job.name x.found a.held_fact.was).alike c.job c.was (c.uid ∙ sym a.held_fact.uid)
    (a.held_fact.owner ∙ q) in
    (q ∙ sym o, alike.time ∙ c.time)

-- What a sync knows of a Job that it deletes for its deadline.
expiry_by : {me : List ℕ} (h : List Told) (y : ℕ) → Inv me h → (at : At) (x : Held) (ds : List Ref)
    → seen_of (own y h) ≡ Starting at x ds → Commits me h at x ds → (r : Ref) (v : List ℕ) (now : ℕ)
    → MayExpire at x r v now → (k : Claimed) → claim_of h r ≡ Some k → k.owner ≡ me
    → IsExpiry h y (Of.Expire r v now) r k
expiry_by h y f at x ds e a r v now m k is o =
    let here : claim_of h x.job ≡ Some k = subst (λ (z : Ref). claim_of h z ≡ Some k) m.job is in
    let b = held_claim f at x ds a k here o in
    record {
      at = at;
      held = x;
      drops = ds;
      knows = e;
      version = v;
      now = now;
      is = refl;
      owner = b.0;
      late = subst (λ (z : ℕ). IsLate at.cron.deadline z now) b.1 m.late;
    }

-- A sync that deletes a Job for its deadline found it held.
expiry_of : {me : List ℕ} (h : List Told) (y : ℕ) → Inv me h → (s : Sync) → seen_of (own y h) ≡ s → SyncFact me h s
    → (r : Ref) (v : List ℕ) (now : ℕ) → May s (Of.Expire r v now) → (k : Claimed) → claim_of h r ≡ Some k
    → k.owner ≡ me → IsExpiry h y (Of.Expire r v now) r k
expiry_of h y f Fresh e a r v now m k is o = absurd m
expiry_of h y f (Looking at [] held) e a r v now m k is o = absurd m
expiry_of h y f (Looking at (x ∷ rs) held) e a r v now m k is o = absurd m
expiry_of h y f (Ready at) e a r v now m k is o = absurd m
expiry_of h y f (Holding at x) e a r v now m k is o = absurd m
expiry_of h y f (Starting at x []) e a r v now m k is o = expiry_by h y f at x [] e a r v now m k is o
expiry_of h y f (Starting at x (d ∷ ds)) e a r v now m k is o = expiry_by h y f at x (d ∷ ds) e a r v now m k is o
expiry_of h y f (Tidying at gs fs) e a r v now m k is o = absurd m
expiry_of h y f Gone e a r v now m k is o = absurd m
expiry_of h y f Over e a r v now m k is o = absurd m

-- ---- any call

-- what becomes of a claimed Job that waits
abbrev pub Becomes : List Told → Stamp → ℕ → Call → Bool → Answer → Ref → Claimed → Type 0
Becomes h t y call reached a r k =
    IsWaiting (next h t (Asked y call reached a)) r
    ⊎ ((starts (state_of h) t (Asked y call reached a) r ≡ true) ⊎ IsExpiry h y call r k)

-- For becomes: a call that isn't about it.
spared : (h : List Told) (t : Stamp) (y : ℕ) (call : Call) (a : Answer) (r : Ref) (k : Claimed) → IsStarting h r
    → Spares call r → Becomes h t y call true a r k
spared h t y call a r k w s = inl (is_waiting (served (state_of h) t call).cluster.jobs r w.job
    (stays h t call r w.job s w.stands w.uid) w.uid w.waits_yet)

-- A start of a Job that waits starts it.
start_runs : (h : List Told) (t : Stamp) (y : ℕ) (x : Ref) (a : Answer) → IsWaiting h x
    → starts (state_of h) t (Asked y (Of.Start x) true a) x ≡ true
start_runs h t y x a w =
    let s = state_of h in
    let k = waiting_is h x w in
    let P : Option Job → Type 0
    = λ o. (not (runs_in o) && runs_in (look (start s t x o).cluster.jobs x)) ≡ true in
    let Q : Bool → Type 0 = λ b. (not (runs k.job) && runs_in (look (if b then puts_job s (Is.Written t.version) x.name
    (released t k.job) else refuses s).cluster.jobs x)) ≡ true in
    let held = is_held k.job k.waits_yet in
    let finished = is_false k.job.finished (λ e. not_finished k.job k.waits_yet e) in
    let deleting = is_false k.job.deleting (λ e. not_deleting k.job k.waits_yet e) in
    let waited : runs k.job ≡ false
    = ap (λ (b : Bool). not b && not k.job.finished && not k.job.deleting) held in
    let here : runs_in (look (put x.name (released t k.job) s.jobs) x) ≡ true =
    ap (λ (o : Option Job). runs_in o) (look_is (put x.name (released t k.job) s.jobs) x (released t k.job)
    (put_self x.name (released t k.job) s.jobs) k.uid)
    ∙ ap (λ (b : Bool). true && not b && not k.job.deleting) finished
    ∙ ap (λ (b : Bool). true && true && not b) deleting in
    let base : Q true =
    ap (λ (b : Bool). not b && runs_in (look (put x.name (released t k.job) s.jobs) x)) waited ∙ here in
    subst P (sym (look_is s.jobs x k.job k.stands k.uid)) (subst Q (sym held) base)

-- What becomes of a Job that waits, by a start.
by_start : (h : List Told) (t : Stamp) (y : ℕ) (x : Ref) (a : Answer) (r : Ref) (k : Claimed) → IsWaiting h r
    → (b : Bool) → is_ref x r ≡ b → Becomes h t y (Of.Start x) true a r k
by_start h t y x a r k w true e =
    let same : r ≡ x = sym (ref_true x r e) in
    inr (inl (subst (λ (z : Ref). starts (state_of h) t (Asked y (Of.Start z) true a) r ≡ true) same
    (start_runs h t y r a w)))
by_start h t y x a r k w false e = spared h t y (Of.Start x) a r k (waiting_is h r w) e

-- What becomes of a claimed Job that waits, by a DELETE by uid.
by_delete : {me : List ℕ} (h : List Told) (t : Stamp) (y : ℕ) (x : Ref) (a : Answer) (r : Ref) (k : Claimed) → Inv me h
    → May (seen_of (own y h)) (Of.Delete x) → claim_of h r ≡ Some k → k.owner ≡ me → IsWaiting h r → (b : Bool)
    → is_ref x r ≡ b
    → Becomes h t y (Of.Delete x) true a r k
by_delete h t y x a r k f m is o w true e =
    let s = waiting_is h r w in
    let may = subst (λ (z : Ref). May (seen_of (own y h)) (Of.Delete z)) (ref_true x r e) m in
    let n = deleted_settled f (seen_of (own y h)) (f.syncs y) r may k is o s.job s.stands s.uid in
    absurd (cc (s.waits_yet, n))
by_delete h t y x a r k f m is o w false e = spared h t y (Of.Delete x) a r k (waiting_is h r w) e

-- What becomes of a claimed Job that waits, by a DELETE by uid and version.
by_expire : {me : List ℕ} (h : List Told) (t : Stamp) (y : ℕ) (x : Ref) (v : List ℕ) (now : ℕ) (a : Answer) (r : Ref)
    (k : Claimed)
    → Inv me h → May (seen_of (own y h)) (Of.Expire x v now) → claim_of h r ≡ Some k → k.owner ≡ me → IsWaiting h r
    → (b : Bool)
    → is_ref x r ≡ b → Becomes h t y (Of.Expire x v now) true a r k
by_expire h t y x v now a r k f m is o w true e =
    let same = ref_true x r e in
    let b = expiry_of h y f (seen_of (own y h)) refl (f.syncs y) x v now m k
    (subst (λ (z : Ref). claim_of h z ≡ Some k) (sym same) is) o in
    inr (inr (subst (λ (z : Ref). IsExpiry h y (Of.Expire x v now) z k) same b))
by_expire h t y x v now a r k f m is o w false e = spared h t y (Of.Expire x v now) a r k (waiting_is h r w) e

-- What becomes of a claimed Job that waits, by any call of a sync.
pub becomes : {me : List ℕ} (h : List Told) (t : Stamp) (y : ℕ) (call : Call) (reached : Bool) (a : Answer) → Inv me h
    → May (seen_of (own y h)) call → (r : Ref) (k : Claimed) → claim_of h r ≡ Some k → k.owner ≡ me → IsWaiting h r
    → Becomes h t y call reached a r k
becomes h t y call false a f m r k is o w = inl w
becomes h t y (Of.GetCron n) true a f m r k is o w = spared h t y (Of.GetCron n) a r k (waiting_is h r w) tt
becomes h t y (Of.CacheCron n) true a f m r k is o w = spared h t y (Of.CacheCron n) a r k (waiting_is h r w) tt
becomes h t y (Of.GetJob n) true a f m r k is o w = spared h t y (Of.GetJob n) a r k (waiting_is h r w) tt
becomes h t y (Of.CacheJob n) true a f m r k is o w = spared h t y (Of.CacheJob n) a r k (waiting_is h r w) tt
becomes h t y Of.ListJobs true a f m r k is o w = spared h t y Of.ListJobs a r k (waiting_is h r w) tt
becomes h t y (Of.Create n j) true a f m r k is o w = spared h t y (Of.Create n j) a r k (waiting_is h r w) tt
becomes h t y (Of.Claim c) true a f m r k is o w = spared h t y (Of.Claim c) a r k (waiting_is h r w) tt
becomes h t y (Of.Tidy c) true a f m r k is o w = spared h t y (Of.Tidy c) a r k (waiting_is h r w) tt
becomes h t y (Of.Start x) true a f m r k is o w = by_start h t y x a r k w (is_ref x r) refl
becomes h t y (Of.Delete x) true a f m r k is o w = by_delete h t y x a r k f m is o w (is_ref x r) refl
becomes h t y (Of.Expire x v now) true a f m r k is o w = by_expire h t y x v now a r k f m is o w (is_ref x r) refl

-- No entry of a sync loses what was claimed.
kept_by : {me : List ℕ} (h : List Told) (t : Stamp) (d : Deed) → Inv me h → MayDo h d
    → KeepsClaimed me (record { stamp = t; deed = d }) h d
kept_by h t (Asked y call reached a) f m = λ r k is o w. becomes h t y call reached a f m r k is o w
kept_by h t (Wrote x) f m = tt

-- No sync's call loses what was claimed.
pub nothing_lost : NothingIsLost
nothing_lost u = always_by u (IsKept u) (λ e h f m. kept_by h e.stamp e.deed f m)

-- What each call and each write does to the Jobs that stand, and to claims and starts.
use Rattle.std.proofs.Common.{◌≡◌, ◌≢◌, ◌⊎◌, inl, inr, ℕ, ◌≤◌, Bool, true, false, not, ◌&&◌, List, [], ◌∷◌, Option, Some, None, refl, sym, ap, subst, ◌∙◌}
use Rattle.std.specs.Prelude.{IfSome, if◌then◌else◌}
use Rattle.cj_fence.specs.declared.table.Row.{Row}
use Rattle.cj_fence.specs.declared.refs.Ref.{Ref}
use Rattle.cj_fence.specs.declared.objects.Cron.{Cron}
use Rattle.cj_fence.specs.declared.objects.Job.{Job}
use Rattle.cj_fence.specs.declared.cluster.Cluster.{Cluster}
use Rattle.cj_fence.specs.declared.cluster.Served.{Served}
use Rattle.cj_fence.specs.declared.call.Claim.{Claim}
use Rattle.cj_fence.specs.declared.call.Tidy.{Tidy}
use Rattle.cj_fence.specs.declared.call.Call.{Call}
use Rattle.cj_fence.specs.declared.call.Call.TheVariants as Of
use Rattle.cj_fence.specs.declared.call.Write.{Write}
use Rattle.cj_fence.specs.declared.call.Write.TheVariants as By
use Rattle.cj_fence.specs.declared.answer.Answer.{Answer}
use Rattle.cj_fence.specs.declared.answer.Answer.TheVariants as Is
use Rattle.cj_fence.specs.declared.answer.Stamp.{Stamp}
use Rattle.cj_fence.specs.Texts.{is_same}
use Rattle.cj_fence.specs.Tables.{find, without, put}
use Rattle.cj_fence.specs.Objects.{look, waits, runs}
use Rattle.cj_fence.specs.Server.{says, refuses, puts_cron, puts_job, made, create, takes, claimed, claim, tidied, tidy, released, start, marked, mark, delete, delete_where, expire_where, served, put_job, written}
use Rattle.cj_fence.specs.History.{Deed, Asked, Wrote, Told, after, state_of, IsFresh, Claimed, claims, or_else, claim_of, waits_in, runs_in, starts, started}
use Rattle.cj_fence.specs.Others.{KeepsJob, KeepsTo, DeedKeepsTo}
use Rattle.cj_fence.proofs.FenceLemmas.Basics.{first_true, both_true, one_true, not_true, ref_parts, put_at, without_at, look_found, look_is, look_put, look_without}
use Rattle.cj_fence.proofs.FenceLemmas.Facts.{job_at, cron_at, OldCron, ref, Keeps}
use Rattle.cj_fence.proofs.FenceLemmas.Kept.{keeps_self}
use Rattle.cj_fence.proofs.FenceLemmas.Grows.{JobStep, IsStarting, Grows, is_held, waits_is, runs_parts}

-- the next history
abbrev pub next : List Told → Stamp → Deed → List Told
next h t d = record { stamp = t; deed = d } ∷ h

-- what is shown of each Job that stands in a cluster
abbrev pub JobSteps : List ℕ → List Told → Stamp → Cluster → Type 0
JobSteps me h t s = (n : List ℕ) (j : Job) → find n s.jobs ≡ Some j → JobStep me h t n j

-- No Job changes.
jobs_same : (me : List ℕ) (h : List Told) (t : Stamp) → JobSteps me h t (state_of h)
jobs_same me h t n j at = inl (j, at, keeps_self me j, inl refl)

-- One Job is put under a name.
jobs_put : (me : List ℕ) (h : List Told) (t : Stamp) → (n : List ℕ) (x : Job) → JobStep me h t n x
    → (m : List ℕ) (j : Job)
    → find m (put n x (state_of h).jobs) ≡ Some j → JobStep me h t m j
jobs_put me h t n x s m j at = by_name (put_at n m x (state_of h).jobs j at)
  where
    by_name : ((n ≡ m) × (x ≡ j)) ⊎ ((n ≢ m) × (job_at h m ≡ Some j)) → JobStep me h t m j
    by_name (inl e) =
        let a : JobStep me h t m x = subst (λ (z : List ℕ). JobStep me h t z x) e.0 s in
        subst (JobStep me h t m) e.1 a
    by_name (inr e) = inl (j, e.1, keeps_self me j, inl refl)

-- One Job goes.
jobs_without : (me : List ℕ) (h : List Told) (t : Stamp) → (n m : List ℕ) (j : Job)
    → find m (without n (state_of h).jobs) ≡ Some j
    → JobStep me h t m j
jobs_without me h t n m j at = inl (j, (without_at n m (state_of h).jobs j at).1, keeps_self me j, inl refl)

-- What a POST does to the Jobs.
jobs_create : (me : List ℕ) (h : List Told) (t : Stamp) → (n : List ℕ) (x : Job) (o : Option Job)
    → JobSteps me h t (create (state_of h) t n x o).cluster
jobs_create me h t [] x o = jobs_same me h t
jobs_create me h t (c ∷ n) x None = jobs_put me h t (c ∷ n) (made t x) (inr (refl, refl, λ e. absurd (cc e)))
jobs_create me h t (c ∷ n) x (Some old) = jobs_same me h t

-- Of two outcomes of which each does to the Jobs what it may, the one that a test picks does.
jobs_if : (me : List ℕ) (h : List Told) (t : Stamp) → (b : Bool) (x y : Served) → JobSteps me h t x.cluster
    → JobSteps me h t y.cluster
    → JobSteps me h t (if b then x else y).cluster
jobs_if me h t true x y f g = f
jobs_if me h t false x y f g = g

-- What a claim does to the Jobs.
jobs_claim : (me : List ℕ) (h : List Told) (t : Stamp) → (w : Claim) (o : Option Cron)
    → JobSteps me h t (claim (state_of h) t w o).cluster
jobs_claim me h t w None = jobs_same me h t
jobs_claim me h t w (Some c) = jobs_if me h t (takes w.uid w.version c)
    (puts_cron (state_of h) (Is.Written t.version) w.name (claimed t w c)) (refuses (state_of h)) (jobs_same me h t)
    (jobs_same me h t)

-- What a status without its dead does to the Jobs.
jobs_tidy : (me : List ℕ) (h : List Told) (t : Stamp) → (w : Tidy) (o : Option Cron)
    → JobSteps me h t (tidy (state_of h) t w o).cluster
jobs_tidy me h t w None = jobs_same me h t
jobs_tidy me h t w (Some c) = jobs_if me h t (takes w.uid w.version c)
    (puts_cron (state_of h) (Is.Written t.version) w.name (tidied t w c)) (refuses (state_of h)) (jobs_same me h t)
    (jobs_same me h t)

-- A Job whose hold is taken away.
keeps_released : (me : List ℕ) (t : Stamp) → (j : Job) → Keeps me j (released t j)
keeps_released me t j = record {
  uid = refl;
  own = λ o. record {
    alike = record { owner = refl; time = refl; policy = refl };
    held = λ e. absurd (cc e);
    finished = λ e. e;
    deleting = λ e. e;
  };
  back = λ o. o;
}

-- What a start does to the Jobs.
jobs_start : (me : List ℕ) (h : List Told) (t : Stamp) → (r : Ref) (o : Option Job) → look (state_of h).jobs r ≡ o
    → JobSteps me h t (start (state_of h) t r o).cluster
jobs_start me h t r None e = jobs_same me h t
jobs_start me h t r (Some j) e = jobs_if me h t j.held
    (puts_job (state_of h) (Is.Written t.version) r.name (released t j))
    (refuses (state_of h))
    (jobs_put me h t r.name (released t j)
    (inl (j, (look_found (state_of h).jobs r j e).0, keeps_released me t j, inr refl)))
    (jobs_same me h t)

-- A Job that is marked to go.
keeps_marked : (me : List ℕ) (t : Stamp) → (j : Job) → Keeps me j (marked t j)
keeps_marked me t j = record {
  uid = refl;
  own = λ o. record {
    alike = record { owner = refl; time = refl; policy = refl };
    held = λ e. e;
    finished = λ e. e;
    deleting = λ e. refl;
  };
  back = λ o. o;
}

-- What a mark does to the Jobs.
jobs_mark : (me : List ℕ) (h : List Told) (t : Stamp) → (r : Ref) (j : Job) → job_at h r.name ≡ Some j
    → JobSteps me h t (mark (state_of h) t r j).cluster
jobs_mark me h t r j at = jobs_if me h t j.deleting (says (state_of h) Is.Deleted)
    (puts_job (state_of h) Is.Deleted r.name (marked t j)) (jobs_same me h t)
    (jobs_put me h t r.name (marked t j) (inl (j, at, keeps_marked me t j, inr refl)))

-- What the deletion of a Job that stands does to the Jobs.
jobs_delete : (me : List ℕ) (h : List Told) (t : Stamp) → (r : Ref) (j : Job) → job_at h r.name ≡ Some j
    → JobSteps me h t (delete (state_of h) t r j).cluster
jobs_delete me h t r j at = jobs_if me h t j.pinned (mark (state_of h) t r j)
    (record { answer = Is.Deleted; cluster = record (state_of h) { jobs = without r.name (state_of h).jobs } })
    (jobs_mark me h t r j at) (jobs_without me h t r.name)

-- What a DELETE by uid does to the Jobs.
jobs_delete_where : (me : List ℕ) (h : List Told) (t : Stamp) → (r : Ref) (o : Option Job)
    → look (state_of h).jobs r ≡ o
    → JobSteps me h t (delete_where (state_of h) t r o).cluster
jobs_delete_where me h t r None e = jobs_same me h t
jobs_delete_where me h t r (Some j) e = jobs_delete me h t r j (look_found (state_of h).jobs r j e).0

-- What a DELETE by uid and version does to the Jobs.
jobs_expire : (me : List ℕ) (h : List Told) (t : Stamp) → (r : Ref) (v : List ℕ) (o : Option Job)
    → look (state_of h).jobs r ≡ o
    → JobSteps me h t (expire_where (state_of h) t r v o).cluster
jobs_expire me h t r v None e = jobs_same me h t
jobs_expire me h t r v (Some j) e = jobs_if me h t (is_same j.version v) (delete (state_of h) t r j)
    (refuses (state_of h))
    (jobs_delete me h t r j (look_found (state_of h).jobs r j e).0) (jobs_same me h t)

-- What any call that reaches the server does to the Jobs.
jobs_served : (me : List ℕ) (h : List Told) (t : Stamp) → (call : Call)
    → JobSteps me h t (served (state_of h) t call).cluster
jobs_served me h t (Of.GetCron n) = jobs_same me h t
jobs_served me h t (Of.CacheCron n) = jobs_same me h t
jobs_served me h t (Of.GetJob n) = jobs_same me h t
jobs_served me h t (Of.CacheJob n) = jobs_same me h t
jobs_served me h t Of.ListJobs = jobs_same me h t
jobs_served me h t (Of.Create n j) = jobs_create me h t n j (job_at h n)
jobs_served me h t (Of.Claim w) = jobs_claim me h t w (cron_at h w.name)
jobs_served me h t (Of.Tidy w) = jobs_tidy me h t w (cron_at h w.name)
jobs_served me h t (Of.Start r) = jobs_start me h t r (look (state_of h).jobs r) refl
jobs_served me h t (Of.Delete r) = jobs_delete_where me h t r (look (state_of h).jobs r) refl
jobs_served me h t (Of.Expire r v now) = jobs_expire me h t r v (look (state_of h).jobs r) refl

-- A Job that somebody wrote who keeps to the premises.
keeps_put : (me : List ℕ) (t : Stamp) → (i j : Job) → ((i.owner ≡ me) ⊎ (j.owner ≡ me) → KeepsJob j i)
    → Keeps me i (put_job t j (Some i))
keeps_put me t i j k = record {
  uid = refl;
  own = λ o. let p = k (inl o) in record {
    alike = record { owner = p.owner; time = p.time; policy = p.policy };
    held = λ e. sym p.held ∙ e;
    finished = p.finished;
    deleting = first_true i.deleting j.deleting;
  };
  back = λ o. let p = k (inr o) in sym p.owner ∙ o;
}

-- The Job that somebody writes is the one that stood, with what may change, or has the new uid.
put_step : (me : List ℕ) (h : List Told) (t : Stamp) → (n : List ℕ) (j : Job) (o : Option Job) → (n ≡ [] → ⊥)
    → job_at h n ≡ o
    → IfSome o (λ old. (old.owner ≡ me) ⊎ (j.owner ≡ me) → KeepsJob j old)
    → JobStep me h t n (put_job t j o)
put_step me h t n j None m e k = inr (refl, refl, m)
put_step me h t n j (Some i) m e k = inl (i, e, keeps_put me t i j k, inr refl)

-- What any write of others does to the Jobs.
jobs_written : (me : List ℕ) (h : List Told) (t : Stamp) → (w : Write) → KeepsTo me (state_of h) w
    → JobSteps me h t (written (state_of h) t w)
jobs_written me h t (By.PutCron n c) k = jobs_same me h t
jobs_written me h t (By.DropCron n) k = jobs_same me h t
jobs_written me h t (By.PutJob [] j) k = jobs_same me h t
jobs_written me h t (By.PutJob (c ∷ n) j) k = jobs_put me h t (c ∷ n) (put_job t j (job_at h (c ∷ n)))
    (put_step me h t (c ∷ n) j (job_at h (c ∷ n)) (λ e. absurd (cc e)) refl k)
jobs_written me h t (By.DropJob n) k = jobs_without me h t n

-- What each entry does to the Jobs.
pub jobs_after : (me : List ℕ) (h : List Told) (t : Stamp) → (d : Deed) → DeedKeepsTo me (state_of h) d
    → JobSteps me h t (after (state_of h) t d)
jobs_after me h t (Asked y call true a) k = jobs_served me h t call
jobs_after me h t (Asked y call false a) k = jobs_same me h t
jobs_after me h t (Wrote w) k = jobs_written me h t w k

-- ---- starts

-- A test isn't true and false.
not_both : (b : Bool) → (not b && b) ≡ true → ⊥
not_both true e = absurd (cc e)
not_both false e = absurd (cc e)

-- the Job of a reference runs among the new Jobs, and didn't among the old ones
abbrev pub Begins : List (Row Job) → List (Row Job) → Ref → Type 0
Begins old new r = (not (runs_in (look old r)) && runs_in (look new r)) ≡ true

-- None begins to run where the Jobs are the same.
none_begins : (old new : List (Row Job)) (r : Ref) → new ≡ old → Begins old new r → ⊥
none_begins old new r e b = not_both (runs_in (look old r)) (subst (λ z. Begins old z r) e b)

-- For put_begins and without_begins: a Job that begins to run stands, and wasn't there before.
begins_new : (old new : List (Row Job)) (r : Ref) → Begins old new r
    → (j : Job) × (look new r ≡ Some j) × (runs j ≡ true) × (look old r ≡ Some j → ⊥)
begins_new old new r b =
    let c = both_true (not (runs_in (look old r))) (runs_in (look new r)) b in
    by_look (not_true (runs_in (look old r)) c.0) (look new r) refl c.1
  where
    by_look : runs_in (look old r) ≡ false → (o : Option Job) → look new r ≡ o → runs_in o ≡ true
        → (j : Job) × (look new r ≡ Some j) × (runs j ≡ true) × (look old r ≡ Some j → ⊥)
    by_look n None e a = absurd (cc a)
    by_look n (Some j) e a =
        (j, e, a, λ w. absurd (cc (sym (ap (λ (o : Option Job). runs_in o) w) ∙ n, a)))

-- What begins to run where a Job is put is this Job.
put_begins : (n : List ℕ) (x : Job) (jobs : List (Row Job)) (r : Ref) → Begins jobs (put n x jobs) r
    → (n ≡ r.name) × (x.uid ≡ r.uid) × (runs x ≡ true)
put_begins n x jobs r b =
    let k = begins_new jobs (put n x jobs) r b in
    by_place k.0 k.2 k.3 (look_put n x jobs r k.0 k.1)
  where
    by_place : (j : Job) → runs j ≡ true → (look jobs r ≡ Some j → ⊥)
        → ((n ≡ r.name) × (x ≡ j) × (x.uid ≡ r.uid)) ⊎ (look jobs r ≡ Some j)
        → (n ≡ r.name) × (x.uid ≡ r.uid) × (runs x ≡ true)
    by_place j a m (inl p) = (p.0, p.2, subst (λ (z : Job). runs z ≡ true) (sym p.1) a)
    by_place j a m (inr e) = absurd (m e)

-- None begins to run where a Job goes.
without_begins : (n : List ℕ) (jobs : List (Row Job)) (r : Ref) → Begins jobs (without n jobs) r → ⊥
without_begins n jobs r b =
    let k = begins_new jobs (without n jobs) r b in
    k.3 (look_without n jobs r k.0 k.1)

-- a call that makes no Job but a held one
abbrev pub MadeHeld : Call → Type 0
MadeHeld (Of.Create n j) = j.held ≡ true
MadeHeld call = Unit {0}

-- and a deed
abbrev pub MakesHeld : Deed → Type 0
MakesHeld (Asked y call reached a) = MadeHeld call
MakesHeld (Wrote w) = Unit {0}

-- A POST of a held Job starts none.
create_begins : (s : Cluster) (t : Stamp) (n : List ℕ) (j : Job) (o : Option Job) → j.held ≡ true → (r : Ref)
    → Begins s.jobs (create s t n j o).cluster.jobs r → ⊥
create_begins s t [] j o m r b = none_begins s.jobs s.jobs r refl b
create_begins s t (c ∷ n) j None m r b =
    let k = put_begins (c ∷ n) (made t j) s.jobs r b in
    absurd (cc (m, (runs_parts (made t j) k.2).0))
create_begins s t (c ∷ n) j (Some old) m r b = none_begins s.jobs s.jobs r refl b

-- A claim leaves the Jobs.
pub stays_claim : (s : Cluster) (t : Stamp) (w : Claim) (o : Option Cron) → (claim s t w o).cluster.jobs ≡ s.jobs
stays_claim s t w None = refl
stays_claim s t w (Some c) = by_test (takes w.uid w.version c)
  where
    by_test : (b : Bool)
        → (if b then puts_cron s (Is.Written t.version) w.name (claimed t w c) else refuses s).cluster.jobs ≡ s.jobs
    by_test true = refl
    by_test false = refl

-- A status without its dead leaves the Jobs.
pub stays_tidy : (s : Cluster) (t : Stamp) (w : Tidy) (o : Option Cron) → (tidy s t w o).cluster.jobs ≡ s.jobs
stays_tidy s t w None = refl
stays_tidy s t w (Some c) = by_test (takes w.uid w.version c)
  where
    by_test : (b : Bool)
        → (if b then puts_cron s (Is.Written t.version) w.name (tidied t w c) else refuses s).cluster.jobs ≡ s.jobs
    by_test true = refl
    by_test false = refl

-- What a start begins is the Job that it names, and it waited.
start_begins : (h : List Told) (t : Stamp) (x : Ref) (o : Option Job) → look (state_of h).jobs x ≡ o → (r : Ref)
    → Begins (state_of h).jobs (start (state_of h) t x o).cluster.jobs r → (x ≡ r) × IsStarting h r
start_begins h t x None e r b = absurd (none_begins (state_of h).jobs (state_of h).jobs r refl b)
start_begins h t x (Some i) e r b = by_hold i.held refl b
  where
    by_hold : (q : Bool) → i.held ≡ q
        → Begins (state_of h).jobs (if q then puts_job (state_of h) (Is.Written t.version) x.name (released t i) else
        refuses (state_of h)).cluster.jobs r
        → (x ≡ r) × IsStarting h r
    by_hold true q g =
        let k = put_begins x.name (released t i) (state_of h).jobs r g in
        let p = runs_parts (released t i) k.2 in
        let f = look_found (state_of h).jobs x i e in
        let same : x ≡ r = ref_parts x r k.0 (sym f.1 ∙ k.1) in (
          same,
          subst (IsStarting h) same
              (record { job = i; stands = f.0; uid = f.1; waits_yet = waits_is i q p.1 p.2 }),
        )
    by_hold false q g = absurd (none_begins (state_of h).jobs (state_of h).jobs r refl g)

-- A deletion starts none.
delete_begins : (s : Cluster) (t : Stamp) (x : Ref) (j : Job) (r : Ref)
    → Begins s.jobs (delete s t x j).cluster.jobs r → ⊥
delete_begins s t x j r b = by_pin j.pinned b
  where
    by_mark : (q : Bool) → Begins s.jobs
        (if q then says s Is.Deleted else puts_job s Is.Deleted x.name (marked t j)).cluster.jobs r → ⊥
    by_mark true g = none_begins s.jobs s.jobs r refl g
    by_mark false g =
        let k = put_begins x.name (marked t j) s.jobs r g in
        absurd (cc (runs_parts (marked t j) k.2).2)

    by_pin : (q : Bool)
        → Begins s.jobs (if q then mark s t x j else record
        { answer = Is.Deleted; cluster = record s { jobs = without x.name s.jobs } }).cluster.jobs r → ⊥
    by_pin true g = by_mark j.deleting g
    by_pin false g = without_begins x.name s.jobs r g

-- A DELETE by uid starts none.
delete_where_begins : (s : Cluster) (t : Stamp) (x : Ref) (o : Option Job) (r : Ref)
    → Begins s.jobs (delete_where s t x o).cluster.jobs r → ⊥
delete_where_begins s t x None r b = none_begins s.jobs s.jobs r refl b
delete_where_begins s t x (Some j) r b = delete_begins s t x j r b

-- A DELETE by uid and version starts none.
expire_begins : (s : Cluster) (t : Stamp) (x : Ref) (v : List ℕ) (o : Option Job) (r : Ref)
    → Begins s.jobs (expire_where s t x v o).cluster.jobs r → ⊥
expire_begins s t x v None r b = none_begins s.jobs s.jobs r refl b
expire_begins s t x v (Some j) r b = by_test (is_same j.version v) b
  where
    by_test : (q : Bool) → Begins s.jobs (if q then delete s t x j else refuses s).cluster.jobs r → ⊥
    by_test true g = delete_begins s t x j r g
    by_test false g = none_begins s.jobs s.jobs r refl g

-- What a call starts that makes no Job but a held one is what it is a start of, and it waited.
call_begins : (h : List Told) (t : Stamp) (call : Call) → MadeHeld call → (r : Ref)
    → Begins (state_of h).jobs (served (state_of h) t call).cluster.jobs r → (call ≡ Of.Start r) × IsStarting h r
call_begins h t (Of.GetCron n) m r b = absurd (none_begins (state_of h).jobs (state_of h).jobs r refl b)
call_begins h t (Of.CacheCron n) m r b = absurd (none_begins (state_of h).jobs (state_of h).jobs r refl b)
call_begins h t (Of.GetJob n) m r b = absurd (none_begins (state_of h).jobs (state_of h).jobs r refl b)
call_begins h t (Of.CacheJob n) m r b = absurd (none_begins (state_of h).jobs (state_of h).jobs r refl b)
call_begins h t Of.ListJobs m r b = absurd (none_begins (state_of h).jobs (state_of h).jobs r refl b)
call_begins h t (Of.Create n j) m r b = absurd (create_begins (state_of h) t n j (job_at h n) m r b)
call_begins h t (Of.Claim w) m r b = absurd (none_begins (state_of h).jobs
    (claim (state_of h) t w (cron_at h w.name)).cluster.jobs r (stays_claim (state_of h) t w (cron_at h w.name)) b)
call_begins h t (Of.Tidy w) m r b = absurd (none_begins (state_of h).jobs
    (tidy (state_of h) t w (cron_at h w.name)).cluster.jobs r (stays_tidy (state_of h) t w (cron_at h w.name)) b)
call_begins h t (Of.Start x) m r b =
    let k = start_begins h t x (look (state_of h).jobs x) refl r b in (ap (λ (z : Ref). Of.Start z) k.0, k.1)
call_begins h t (Of.Delete x) m r b =
    absurd (delete_where_begins (state_of h) t x (look (state_of h).jobs x) r b)
call_begins h t (Of.Expire x v now) m r b =
    absurd (expire_begins (state_of h) t x v (look (state_of h).jobs x) r b)

-- What a sync's call starts is what it is a start of, and it waited.
pub call_starts : (h : List Told) (t : Stamp) (y : ℕ) (call : Call) (reached : Bool) (a : Answer) → MadeHeld call
    → (r : Ref) → starts (state_of h) t (Asked y call reached a) r ≡ true → (call ≡ Of.Start r) × IsStarting h r
call_starts h t y call true a m r b = call_begins h t call m r b
call_starts h t y call false a m r b = absurd (none_begins (state_of h).jobs (state_of h).jobs r refl b)

-- A Job that waits stands.
pub waiting_is : (h : List Told) (r : Ref) → waits_in (look (state_of h).jobs r) ≡ true → IsStarting h r
waiting_is h r w = by_look (look (state_of h).jobs r) refl w
  where
    by_look : (o : Option Job) → look (state_of h).jobs r ≡ o → waits_in o ≡ true → IsStarting h r
    by_look None e a = absurd (cc a)
    by_look (Some j) e a =
        let f = look_found (state_of h).jobs r j e in record { job = j; stands = f.0; uid = f.1; waits_yet = a }

-- Whatever an entry starts is a Job that waits.
pub starting : (h : List Told) (t : Stamp) (d : Deed) → MakesHeld d → (r : Ref) → starts (state_of h) t d r ≡ true
    → IsStarting h r
starting h t (Asked y call reached a) m r b = (call_starts h t y call reached a m r b).1
starting h t (Wrote w) m r b = waiting_is h r
    (both_true (waits_in (look (state_of h).jobs r)) (runs_in (look (written (state_of h) t w).jobs r)) b).0

-- A Job that an entry starts runs after it.
started_runs : (s : Cluster) (t : Stamp) (d : Deed) (r : Ref) → starts s t d r ≡ true
    → runs_in (look (after s t d).jobs r) ≡ true
started_runs s t (Asked y call reached a) r b =
    (both_true (not (runs_in (look s.jobs r))) (runs_in (look (after s t (Asked y call reached a)).jobs r)) b).1
started_runs s t (Wrote w) r b =
    (both_true (waits_in (look s.jobs r)) (runs_in (look (written s t w).jobs r)) b).1

-- What waits doesn't run.
waits_or_runs : (o : Option Job) → waits_in o ≡ true → runs_in o ≡ true → ⊥
waits_or_runs None w k = absurd (cc w)
waits_or_runs (Some j) w k = absurd (cc (is_held j w, (runs_parts j k).0))

-- For write_starts: the Job that is put where one waits is held.
put_waits : (t : Stamp) (j i : Job) → KeepsJob j i → waits i ≡ true → runs (put_job t j (Some i)) ≡ true → ⊥
put_waits t j i k w a = absurd (cc (k.held ∙ is_held i w, (runs_parts (put_job t j (Some i)) a).0))

-- Whoever keeps to the premises starts no Job of the CronJob.
pub write_starts : (me : List ℕ) (h : List Told) (t : Stamp) (w : Write) → KeepsTo me (state_of h) w → (r : Ref)
    → ((j : Job) → job_at h r.name ≡ Some j → j.uid ≡ r.uid → j.owner ≡ me)
    → starts (state_of h) t (Wrote w) r ≡ true → ⊥
write_starts me h t w k r own b =
    let c = both_true (waits_in (look (state_of h).jobs r)) (runs_in (look (written (state_of h) t w).jobs r)) b in
    by_look w k c.0 (look (written (state_of h) t w).jobs r) refl c.1
  where
    waits_on : (o : Option Job) → look (state_of h).jobs r ≡ o → waits_in (look (state_of h).jobs r) ≡ true
        → runs_in o ≡ true → ⊥
    waits_on o e a q = waits_or_runs o (ap (λ (z : Option Job). waits_in z) (sym e) ∙ a) q

    by_put : (n : List ℕ) (j : Job)
        → IfSome (job_at h n) (λ old. (old.owner ≡ me) ⊎ (j.owner ≡ me) → KeepsJob j old)
        → waits_in (look (state_of h).jobs r) ≡ true → (i : Job) → runs i ≡ true
        → ((n ≡ r.name) × (put_job t j (job_at h n) ≡ i) × ((put_job t j (job_at h n)).uid ≡ r.uid))
        ⊎ (look (state_of h).jobs r ≡ Some i) → ⊥
    by_put n j p a i q (inr e) = waits_on (Some i) e a q
    by_put n j p a i q (inl e) =
        let f = waiting_is h r a in
        let here : job_at h n ≡ Some f.job = ap (λ (z : List ℕ). job_at h z) e.0 ∙ f.stands in
        let keeps : KeepsJob j f.job =
        subst (λ (o : Option Job). IfSome o (λ old. (old.owner ≡ me) ⊎ (j.owner ≡ me) → KeepsJob j old)) here p
        (inl (own f.job f.stands f.uid)) in
        put_waits t j f.job keeps f.waits_yet
        (subst (λ (o : Option Job). runs (put_job t j o) ≡ true) here (subst (λ (z : Job). runs z ≡ true) (sym e.1) q))

    by_look : (w : Write) → KeepsTo me (state_of h) w → waits_in (look (state_of h).jobs r) ≡ true → (o : Option Job)
        → look (written (state_of h) t w).jobs r ≡ o → runs_in o ≡ true → ⊥
    by_look w p a None e q = absurd (cc q)
    by_look (By.PutCron n c) p a (Some i) e q = waits_on (Some i) e a q
    by_look (By.DropCron n) p a (Some i) e q = waits_on (Some i) e a q
    by_look (By.PutJob [] j) p a (Some i) e q = waits_on (Some i) e a q
    by_look (By.PutJob (c ∷ n) j) p a (Some i) e q = by_put (c ∷ n) j p a i q
        (look_put (c ∷ n) (put_job t j (job_at h (c ∷ n))) (state_of h).jobs r i e)
    by_look (By.DropJob n) p a (Some i) e q = waits_on (Some i) (look_without n (state_of h).jobs r i e) a q

-- ---- claims

-- An earlier claim stays.
pub claim_stays : (a b : Option Claimed) (k : Claimed) → a ≡ Some k → or_else a b ≡ Some k
claim_stays a b k e = ap (λ (o : Option Claimed). or_else o b) e

-- A claim is an earlier one, or the entry's where there was none.
pub claim_from : (a b : Option Claimed) (k : Claimed) → or_else a b ≡ Some k
    → (a ≡ Some k) ⊎ ((a ≡ None) × (b ≡ Some k))
claim_from None b k e = inr (refl, e)
claim_from (Some c) b k e = inl e

-- An entry that claims nothing.
abbrev pub ClaimsNone : List Told → Deed → Type 0
ClaimsNone h d = (r : Ref) → claims (state_of h) d r ≡ None

-- For plain_grows: no claim is new.
pub no_claim : (h : List Told) (t : Stamp) (d : Deed) → ClaimsNone h d → (r : Ref) (k : Claimed)
    → claim_of (next h t d) r ≡ Some k → claim_of h r ≡ Some k
no_claim h t d n r k e = by_age (claim_from (claim_of h r) (claims (state_of h) d r) k e)
  where
    by_age : (claim_of h r ≡ Some k) ⊎ ((claim_of h r ≡ None) × (claims (state_of h) d r ≡ Some k))
        → claim_of h r ≡ Some k
    by_age (inl a) = a
    by_age (inr b) = absurd (cc (n r, b.1))

-- For grows_by: a start is an earlier one or the entry's.
starts_from : (h : List Told) (t : Stamp) (d : Deed) → MakesHeld d → (r : Ref) → started (next h t d) r ≡ true
    → (started h r ≡ true) ⊎ IsStarting h r
starts_from h t d m r e = by_part (one_true (starts (state_of h) t d r) (started h r) e)
  where
    by_part : (starts (state_of h) t d r ≡ true) ⊎ (started h r ≡ true) → (started h r ≡ true) ⊎ IsStarting h r
    by_part (inl a) = inr (starting h t d m r a)
    by_part (inr b) = inl b

-- A Job that is held after an entry was started before it, if at all.
held_from : (h : List Told) (t : Stamp) (d : Deed) (n : List ℕ) (j : Job) → job_at (next h t d) n ≡ Some j
    → j.held ≡ true → started (next h t d) (ref n j.uid) ≡ true → started h (ref n j.uid) ≡ true
held_from h t d n j at held e = by_part (one_true (starts (state_of h) t d (ref n j.uid)) (started h (ref n j.uid)) e)
  where
    by_part : (starts (state_of h) t d (ref n j.uid) ≡ true) ⊎ (started h (ref n j.uid) ≡ true)
        → started h (ref n j.uid) ≡ true
    by_part (inl a) =
        let here = look_is (after (state_of h) t d).jobs (ref n j.uid) j at refl in
        let k : runs j ≡ true =
        subst (λ (o : Option Job). runs_in o ≡ true) here (started_runs (state_of h) t d (ref n j.uid) a) in
        absurd (cc (held, (runs_parts j k).0))
    by_part (inr b) = b

-- An entry makes the history grow, where no claim up to the last time of the CronJob is new.
pub grows_by : (me : List ℕ) (h : List Told) (t : Stamp) (d : Deed) → IsFresh h t → DeedKeepsTo me (state_of h) d
    → MakesHeld d → ((n : List ℕ) (c : Cron) (r : Ref) (k : Claimed) → c.uid ≡ me → OldCron h n c
    → claim_of (next h t d) r ≡ Some k → k.owner ≡ c.uid → k.time ≤ c.last → claim_of h r ≡ Some k)
    → Grows me h (next h t d) t
grows_by me h t d fresh keeps m older = record {
  fresh = fresh;
  new_uid = inl refl;
  new_version = inl refl;
  gave_uid = λ u a. inr a;
  gave_version = λ v a. inr a;
  old_cron = λ n c a. inr a;
  old_job = λ n j a. inr a;
  was_cron = λ n c a. a;
  was_job = λ n j a. a;
  jobs = jobs_after me h t d keeps;
  held = held_from h t d;
  starts = starts_from h t d m;
  claims = λ r k e. claim_stays (claim_of h r) (claims (state_of h) d r) k e;
  older = older;
}

-- An entry that claims nothing makes the history grow.
pub plain_grows : (me : List ℕ) (h : List Told) (t : Stamp) (d : Deed) → IsFresh h t → DeedKeepsTo me (state_of h) d
    → MakesHeld d → ClaimsNone h d → Grows me h (next h t d) t
plain_grows me h t d fresh keeps m none =
    grows_by me h t d fresh keeps m (λ n c r k u old is o l. no_claim h t d none r k is)

-- A name is unique among the Jobs that stand, so that each one listed is the one under its name.
use Rattle.std.proofs.Common.{◌≡◌, inl, inr, ℕ, Bool, true, false, List, [], ◌∷◌, Option, Some, None, refl, sym, ap, subst, ◌∙◌}
use Rattle.std.specs.Prelude.{if◌then◌else◌}
use Rattle.cj_fence.specs.declared.table.Row.{Row}
use Rattle.cj_fence.specs.declared.refs.Ref.{Ref}
use Rattle.cj_fence.specs.declared.objects.Cron.{Cron}
use Rattle.cj_fence.specs.declared.objects.Job.{Job}
use Rattle.cj_fence.specs.declared.cluster.Cluster.{Cluster}
use Rattle.cj_fence.specs.declared.cluster.Served.{Served}
use Rattle.cj_fence.specs.declared.call.Claim.{Claim}
use Rattle.cj_fence.specs.declared.call.Tidy.{Tidy}
use Rattle.cj_fence.specs.declared.call.Call.{Call}
use Rattle.cj_fence.specs.declared.call.Call.TheVariants as Of
use Rattle.cj_fence.specs.declared.call.Write.{Write}
use Rattle.cj_fence.specs.declared.call.Write.TheVariants as By
use Rattle.cj_fence.specs.declared.answer.Answer.TheVariants as Is
use Rattle.cj_fence.specs.declared.answer.Stamp.{Stamp}
use Rattle.cj_fence.specs.Texts.{is_same}
use Rattle.cj_fence.specs.Tables.{find, without, put}
use Rattle.cj_fence.specs.Objects.{ref_of, look}
use Rattle.cj_fence.specs.Server.{says, refuses, puts_cron, puts_job, made, create, takes, claimed, claim, tidied, tidy, released, start, marked, mark, delete, delete_where, expire_where, served, put_job, written}
use Rattle.cj_fence.specs.Protocol.{refs_where}
use Rattle.cj_fence.specs.History.{Deed, Asked, Wrote, Told, after, state_of, RowsWereSo, IsAnswer, Unheard, Answered, FromCache, Listed}
use Rattle.cj_fence.proofs.FenceLemmas.Basics.{IsIn, same_true, same_self, without_at}
use Rattle.cj_fence.proofs.FenceLemmas.Facts.{OldJob}
use Rattle.cj_fence.proofs.FenceLemmas.Grows.{job_is_old}
use Rattle.cj_fence.proofs.FenceLemmas.Looks.{not_cached, was_job}

-- no two rows of one name
abbrev pub Unique : List (Row Job) → Type 0
Unique [] = Unit {0}
Unique (r ∷ rs) = (find r.name rs ≡ None) × Unique rs

-- What isn't found before isn't found after rows went.
none_without : (k q : List ℕ) (rs : List (Row Job)) → find q rs ≡ None → find q (without k rs) ≡ None
none_without k q rs e = by_found (find q (without k rs)) refl
  where
    by_found : (o : Option Job) → find q (without k rs) ≡ o → o ≡ None
    by_found None f = refl
    by_found (Some j) f = absurd (cc (sym (without_at k q rs j f).1 ∙ e))

-- Names stay unique where rows go.
unique_without : (k : List ℕ) (rs : List (Row Job)) → Unique rs → Unique (without k rs)
unique_without k [] u = tt
unique_without k (r ∷ rs) u = by_name (unique_without k rs u.1) (is_same r.name k)
  where
    by_name : Unique (without k rs) → (b : Bool) → Unique (if b then without k rs else r ∷ without k rs)
    by_name w true = w
    by_name w false = (none_without k r.name rs u.0, w)

-- Nothing of the name is left.
none_left : (k : List ℕ) (rs : List (Row Job)) → find k (without k rs) ≡ None
none_left k rs = by_found (find k (without k rs)) refl
  where
    by_found : (o : Option Job) → find k (without k rs) ≡ o → o ≡ None
    by_found None f = refl
    by_found (Some j) f = absurd ((without_at k k rs j f).0 refl)

-- Names stay unique where a row is put.
unique_put : (k : List ℕ) (x : Job) (rs : List (Row Job)) → Unique rs → Unique (put k x rs)
unfolding put
unique_put k x rs u = (none_left k rs, unique_without k rs u)

-- A row is what is found under its name.
pub row_found : (rs : List (Row Job)) → Unique rs → (x : Row Job) → IsIn x rs → find x.name rs ≡ Some x.object
row_found [] u x i = absurd i
row_found (r ∷ rs) u x (inl e) =
    subst (λ (z : Row Job). find z.name (r ∷ rs) ≡ Some z.object) (sym e)
    (ap (λ (b : Bool). if b then Some r.object else find r.name rs) (same_self r.name))
row_found (r ∷ rs) u x (inr i) = by_name (row_found rs u.1 x i) (is_same r.name x.name) refl
  where
    by_name : find x.name rs ≡ Some x.object → (b : Bool) → is_same r.name x.name ≡ b
        → (if b then Some r.object else find x.name rs) ≡ Some x.object
    by_name f true e =
        let n : find x.name rs ≡ None = subst (λ (z : List ℕ). find z rs ≡ None) (same_true r.name x.name e) u.0 in
        absurd (cc (sym n ∙ f))
    by_name f false e = f

-- ---- after each entry

-- Of two outcomes with unique names, the one that a test picks has them.
unique_if : (b : Bool) (x y : Served) → Unique x.cluster.jobs → Unique y.cluster.jobs
    → Unique (if b then x else y).cluster.jobs
unique_if true x y f g = f
unique_if false x y f g = g

-- After a POST names are unique.
unique_create : (s : Cluster) (t : Stamp) (n : List ℕ) (j : Job) (o : Option Job) → Unique s.jobs
    → Unique (create s t n j o).cluster.jobs
unique_create s t [] j o u = u
unique_create s t (c ∷ n) j None u = unique_put (c ∷ n) (made t j) s.jobs u
unique_create s t (c ∷ n) j (Some old) u = u

-- After a claim names are unique.
unique_claim : (s : Cluster) (t : Stamp) (w : Claim) (o : Option Cron) → Unique s.jobs
    → Unique (claim s t w o).cluster.jobs
unique_claim s t w None u = u
unique_claim s t w (Some c) u = unique_if (takes w.uid w.version c)
    (puts_cron s (Is.Written t.version) w.name (claimed t w c)) (refuses s) u u

-- After a status without its dead names are unique.
unique_tidy : (s : Cluster) (t : Stamp) (w : Tidy) (o : Option Cron) → Unique s.jobs
    → Unique (tidy s t w o).cluster.jobs
unique_tidy s t w None u = u
unique_tidy s t w (Some c) u = unique_if (takes w.uid w.version c)
    (puts_cron s (Is.Written t.version) w.name (tidied t w c)) (refuses s) u u

-- After a start names are unique.
unique_start : (s : Cluster) (t : Stamp) (r : Ref) (o : Option Job) → Unique s.jobs
    → Unique (start s t r o).cluster.jobs
unique_start s t r None u = u
unique_start s t r (Some j) u = unique_if j.held (puts_job s (Is.Written t.version) r.name (released t j)) (refuses s)
    (unique_put r.name (released t j) s.jobs u) u

-- After a mark names are unique.
unique_mark : (s : Cluster) (t : Stamp) (r : Ref) (j : Job) → Unique s.jobs → Unique (mark s t r j).cluster.jobs
unique_mark s t r j u = unique_if j.deleting (says s Is.Deleted) (puts_job s Is.Deleted r.name (marked t j)) u
    (unique_put r.name (marked t j) s.jobs u)

-- After the deletion of a Job that stands names are unique.
unique_delete : (s : Cluster) (t : Stamp) (r : Ref) (j : Job) → Unique s.jobs → Unique (delete s t r j).cluster.jobs
unique_delete s t r j u = unique_if j.pinned (mark s t r j)
    (record { answer = Is.Deleted; cluster = record s { jobs = without r.name s.jobs } })
    (unique_mark s t r j u) (unique_without r.name s.jobs u)

-- After a DELETE by uid names are unique.
unique_delete_where : (s : Cluster) (t : Stamp) (r : Ref) (o : Option Job) → Unique s.jobs
    → Unique (delete_where s t r o).cluster.jobs
unique_delete_where s t r None u = u
unique_delete_where s t r (Some j) u = unique_delete s t r j u

-- After a DELETE by uid and version names are unique.
unique_expire : (s : Cluster) (t : Stamp) (r : Ref) (v : List ℕ) (o : Option Job) → Unique s.jobs
    → Unique (expire_where s t r v o).cluster.jobs
unique_expire s t r v None u = u
unique_expire s t r v (Some j) u = unique_if (is_same j.version v) (delete s t r j) (refuses s)
    (unique_delete s t r j u) u

-- After any call names are unique.
unique_served : (s : Cluster) (t : Stamp) (call : Call) → Unique s.jobs → Unique (served s t call).cluster.jobs
unique_served s t (Of.GetCron n) u = u
unique_served s t (Of.CacheCron n) u = u
unique_served s t (Of.GetJob n) u = u
unique_served s t (Of.CacheJob n) u = u
unique_served s t Of.ListJobs u = u
unique_served s t (Of.Create n j) u = unique_create s t n j (find n s.jobs) u
unique_served s t (Of.Claim w) u = unique_claim s t w (find w.name s.crons) u
unique_served s t (Of.Tidy w) u = unique_tidy s t w (find w.name s.crons) u
unique_served s t (Of.Start r) u = unique_start s t r (look s.jobs r) u
unique_served s t (Of.Delete r) u = unique_delete_where s t r (look s.jobs r) u
unique_served s t (Of.Expire r v now) u = unique_expire s t r v (look s.jobs r) u

-- After any write of others names are unique.
unique_written : (s : Cluster) (t : Stamp) (w : Write) → Unique s.jobs → Unique (written s t w).jobs
unique_written s t (By.PutCron n c) u = u
unique_written s t (By.DropCron n) u = u
unique_written s t (By.PutJob [] j) u = u
unique_written s t (By.PutJob (c ∷ n) j) u = unique_put (c ∷ n) (put_job t j (find (c ∷ n) s.jobs)) s.jobs u
unique_written s t (By.DropJob n) u = unique_without n s.jobs u

-- After any entry names are unique.
unique_after : (s : Cluster) (t : Stamp) (d : Deed) → Unique s.jobs → Unique (after s t d).jobs
unique_after s t (Asked y call true a) u = unique_served s t call u
unique_after s t (Asked y call false a) u = u
unique_after s t (Wrote w) u = unique_written s t w u

-- A name is unique after every history.
pub unique : (h : List Told) → Unique (state_of h).jobs
unique [] = tt
unique (e ∷ h) = unique_after (state_of h) e.stamp e.deed (unique h)

-- ---- what is listed

-- Jobs that stood, each at some moment
abbrev pub AreOld : List Told → List (Row Job) → Type 0
AreOld h rows = (x : Row Job) → IsIn x rows → OldJob h x.name x.object

-- The Jobs that stand stood at some moment.
now_listed : (h : List Told) → AreOld h (state_of h).jobs
now_listed h x i = job_is_old h x.name x.object (row_found (state_of h).jobs (unique h) x i)

-- Rows of which each says what was so are of Jobs that stood.
rows_old : (h : List Told) (rows : List (Row Job)) → RowsWereSo rows h → AreOld h rows
rows_old h [] w x i = absurd i
rows_old h (r ∷ rows) w x (inl e) =
    subst (λ (z : Row Job). OldJob h z.name z.object) (sym e) (was_job r.name r.object h w.0)
rows_old h (r ∷ rows) w x (inr i) = rows_old h rows w.1 x i

-- Jobs that are listed stood, each at some moment.
pub listed_old : {h : List Told} {t : Stamp} {reached : Bool} {rows : List (Row Job)}
    → IsAnswer h t Of.ListJobs reached (Is.Jobs rows) → AreOld h rows
listed_old (Unheard (inl e)) = absurd (cc e)
listed_old (Unheard (inr e)) = absurd (cc e)
listed_old {h} {t} {reached} {rows} (Answered r e) =
    let s : Is.Jobs rows ≡ Is.Jobs (state_of h).jobs = e in
    let q : (state_of h).jobs ≡ rows = cc in
    subst (λ (z : List (Row Job)). AreOld h z) q (now_listed h)
listed_old {h} {t} {reached} {rows} (FromCache w) =
    absurd (not_cached Of.ListJobs (λ s. refl) (Is.Jobs rows) h w)
listed_old {h} {t} {reached} {rows} (Listed all c e w) =
    let q : all ≡ rows = cc (sym e) in
    subst (λ (z : List (Row Job)). AreOld h z) q (rows_old h all w)

-- a row that passes a test
pub record Picked (p : Row Job → Bool) (rows : List (Row Job)) (r : Ref) : Type 0 where
  pub row : Row Job
  pub among : IsIn row rows
  pub passes : p row ≡ true
  pub is : r ≡ ref_of row

-- What is picked of a list is picked of a longer one.
more_picked : (p : Row Job → Bool) (x : Row Job) (rows : List (Row Job)) (r : Ref) → Picked p rows r
    → Picked p (x ∷ rows) r
more_picked p x rows r a = record { row = a.row; among = inr a.among; passes = a.passes; is = a.is }

-- What is picked by a test is of a row that passes it.
pub picked : (p : Row Job → Bool) (rows : List (Row Job)) (r : Ref) → IsIn r (refs_where p rows) → Picked p rows r
picked p [] r i = absurd i
picked p (x ∷ rows) r i = by_test (λ k. picked p rows r k) (p x) refl i
  where
    by_test : (IsIn r (refs_where p rows) → Picked p rows r) → (b : Bool) → p x ≡ b
        → IsIn r (if b then ref_of x ∷ refs_where p rows else refs_where p rows) → Picked p (x ∷ rows) r
    by_test f true e (inl s) = record { row = x; among = inl refl; passes = e; is = s }
    by_test f true e (inr k) = more_picked p x rows r (f k)
    by_test f false e k = more_picked p x rows r (f k)

-- What passes the test is picked.
pub is_picked : (p : Row Job → Bool) (rows : List (Row Job)) (x : Row Job) → IsIn x rows → p x ≡ true
    → IsIn (ref_of x) (refs_where p rows)
is_picked p [] x i e = absurd i
is_picked p (y ∷ rows) x (inl s) e = by_test (p y) (ap p (sym s) ∙ e)
  where
    by_test : (b : Bool) → b ≡ true → IsIn (ref_of x) (if b then ref_of y ∷ refs_where p rows else refs_where p rows)
    by_test true q = inl (ap (λ (z : Row Job). ref_of z) s)
    by_test false q = absurd (cc q)
is_picked p (y ∷ rows) x (inr i) e = by_test (is_picked p rows x i e) (p y)
  where
    by_test : IsIn (ref_of x) (refs_where p rows) → (b : Bool)
        → IsIn (ref_of x) (if b then ref_of y ∷ refs_where p rows else refs_where p rows)
    by_test k true = inr k
    by_test k false = k

-- Garbage is never started, and an undisturbed sync removes it.
use Rattle.std.proofs.Common.{◌≡◌, ◌⊎◌, inl, inr, ℕ, ◌≤◌, Bool, true, false, not, ◌&&◌, List, [], ◌∷◌, ◌++◌, Option, Some, None, refl, sym, ap, subst, ◌∙◌, arith}
use Rattle.std.specs.Prelude.{nat_le, if◌then◌else◌}
use Rattle.std.proofs.lemmas.Bool.Decides.{nat_tests}
use Rattle.cj_fence.specs.declared.table.Row.{Row}
use Rattle.cj_fence.specs.declared.refs.Ref.{Ref}
use Rattle.cj_fence.specs.declared.objects.Cron.{Cron}
use Rattle.cj_fence.specs.declared.objects.Job.{Job}
use Rattle.cj_fence.specs.declared.call.Call.{Call}
use Rattle.cj_fence.specs.declared.call.Call.TheVariants as Of
use Rattle.cj_fence.specs.declared.answer.Answer.{Answer}
use Rattle.cj_fence.specs.declared.answer.Answer.TheVariants as Is
use Rattle.cj_fence.specs.declared.answer.Stamp.{Stamp}
use Rattle.cj_fence.specs.declared.sync.At.{At}
use Rattle.cj_fence.specs.declared.sync.Held.{Held}
use Rattle.cj_fence.specs.declared.sync.Sync.{Sync}
use Rattle.cj_fence.specs.declared.sync.Sync.TheVariants.{Fresh, Looking, Ready, Holding, Starting, Tidying, Gone, Over}
use Rattle.cj_fence.specs.Texts.{is_same}
use Rattle.cj_fence.specs.Tables.{find}
use Rattle.cj_fence.specs.Objects.{ref_of, is_ref, has_ref, named, without_ref, look, waits, is_dead}
use Rattle.cj_fence.specs.Server.{served}
use Rattle.cj_fence.specs.Protocol.{with_alive, drops_of, go_on, was_found, found_held, found_job, is_its, looked, cached, begun, is_ours, lets_hold, adopted, is_garbage, refs_where, has_started, from_fresh, from_looking, from_ready, from_holding, from_dropping, from_starting, from_tidying, advanced, May, seen_of}
use Rattle.cj_fence.specs.History.{Deed, Asked, Told, state_of, Claimed, claim_of, started, own}
use Rattle.cj_fence.specs.Garbage.{IsGarbage, NeverStarted, IsWhole, IsRemoved, IsCleared}
use Rattle.cj_fence.proofs.FenceLemmas.Basics.{IsIn, is_in, left_or, is_false, same_true, same_is, ref_true, look_found}
use Rattle.cj_fence.proofs.FenceLemmas.Facts.{job_at, cron_at, OldJob, OldCron, OfJob, IsDead, Owned, AtBase, Commits, SyncFact, Inv}
use Rattle.cj_fence.proofs.FenceLemmas.Grows.{Grows, job_is_old, cron_is_old, old_owner, owned_own, owned_one, of_job, not_deleting, not_finished, is_held}
use Rattle.cj_fence.proofs.FenceLemmas.Moves.{next}
use Rattle.cj_fence.proofs.FenceLemmas.Names.{is_picked}
use Rattle.cj_fence.proofs.FenceLemmas.Nexts.{garbage_row, garbage_says, delete_removes}
use Rattle.cj_fence.proofs.FenceLemmas.Lost.{Spares, stays, garbage_dead}
use Rattle.cj_fence.proofs.FenceLemmas.Help.{SinceOf, Since, since_next, reads_now}
use Rattle.cj_fence.proofs.FenceLemmas.Runs.{Plain, Beside, seen_next, run, onward, legal_before, followed_before, kept_before}
use Rattle.cj_fence.proofs.FenceLemmas.Entries.{held_owned}
use Rattle.cj_fence.proofs.FenceLemmas.Whole.{always}

-- ---- never started

-- a Job that no one claimed, and no one can, since its time isn't after the last one of its CronJob
pub record Spare (g : List Told) (n : List ℕ) (c : Cron) (x : Row Job) : Type 0 where
  pub cron : OldCron g n c
  pub job : OldJob g x.name x.object
  pub owner : x.object.owner ≡ c.uid
  pub time : x.object.time ≤ c.last
  pub none : claim_of g (ref_of x) ≡ None

module _ (n : List ℕ) (c : Cron) (x : Row Job) where
  -- For spare_first: a claim of it would stand in status.active, or its Job would be dead.
  not_claimed : (h : List Told) → Inv c.uid h → IsGarbage h n c x → (k : Claimed) → claim_of h (ref_of x) ≡ Some k → ⊥
  not_claimed h f a k is =
      let b = garbage_row h c x (job_is_old h x.name x.object a.job) a.garbage in
      let d = garbage_dead f n c (cron_is_old h n c a.cron) refl (ref_of x) b k is in
      by_dead (d x.object a.job refl)
    where
      by_dead : IsDead h (ref_of x) x.object → ⊥
      by_dead (inl e) = not_finished x.object a.held e
      by_dead (inr e) = not_deleting x.object a.held e.0

  spare_first : (h : List Told) → IsGarbage h n c x → Inv c.uid h → Spare h n c x
  spare_first h a f =
      let b = garbage_says c x a.garbage in
      record {
        cron = cron_is_old h n c a.cron;
        job = job_is_old h x.name x.object a.job;
        owner = b.0;
        time = b.1;
        none = by_claim (claim_of h (ref_of x)) refl;
      }
    where
      by_claim : (o : Option Claimed) → claim_of h (ref_of x) ≡ o → o ≡ None
      by_claim None e = refl
      by_claim (Some k) e = absurd (not_claimed h f a k e)

  -- For spare_next: a claim of it would be of an earlier entry.
  not_now : (g e : List Told) (t : Stamp) → Grows c.uid g e t → Inv c.uid e → Spare g n c x → (k : Claimed)
      → claim_of e (ref_of x) ≡ Some k → ⊥
  not_now g e t w f a k is =
      let b = f.claims (ref_of x) k is in
      let old = w.old_job x.name x.object a.job in
      let mine = old_owner f (ref_of x) (record { job = x.object; was = old; uid = refl; owner = a.owner }) b.job b.was
      b.uid in
      let alike = (f.jobs x.name b.job b.was).alike x.object old (sym b.uid) mine in
      let owner : k.owner ≡ c.uid = sym b.owner ∙ mine in
      let same = alike.time in
      let low = a.time in
      let time = b.time in
      let was = w.older n c (ref_of x) k refl a.cron is owner (omega arith) in
      absurd (cc (a.none, was))

  spare_next : (g e : List Told) (t : Stamp) → Grows c.uid g e t → Inv c.uid e → Spare g n c x → Spare e n c x
  spare_next g e t w f a = record {
    cron = w.old_cron n c a.cron;
    job = w.old_job x.name x.object a.job;
    owner = a.owner;
    time = a.time;
    none = by_claim (claim_of e (ref_of x)) refl;
  }
    where
      by_claim : (o : Option Claimed) → claim_of e (ref_of x) ≡ o → o ≡ None
      by_claim None q = refl
      by_claim (Some k) q = absurd (not_now g e t w f a k q)

  -- It is of the CronJob.
  pub spare_owned : (g : List Told) → Spare g n c x → Owned g c.uid (ref_of x)
  spare_owned g a = record { job = x.object; was = a.job; uid = refl; owner = a.owner }

  -- A Job that no one claimed wasn't started.
  spare_unstarted : (g : List Told) → Inv c.uid g → Spare g n c x → started g (ref_of x) ≡ false
  spare_unstarted g f a = is_false (started g (ref_of x))
      (λ s. let k = f.started (ref_of x) s (spare_owned g a) in absurd (cc (a.none, k.1)))

-- Garbage is never started.
pub never : NeverStarted
never h es n c x l a o g =
    spare_unstarted n c x (es ++ h) (always c.uid (es ++ h) l a o)
    (onward c.uid h (λ z. Spare z n c x) (spare_first n c x h g)
    (λ z t d f w i s. spare_next n c x z (next z t d) t w i s) es l a o)

-- ---- what a sync's call does to it

-- gone, or being deleted
abbrev pub Removed : List Told → Ref → Type 0
Removed g r = OfJob g r (λ j. j.deleting ≡ true)

-- A Job that is gone or being deleted stays so.
removed_kept : (n : List ℕ) (c : Cron) (x : Row Job) {g e : List Told} {t : Stamp} → Inv c.uid g → Grows c.uid g e t
    → Spare g n c x → Removed g (ref_of x) → Removed e (ref_of x)
removed_kept n c x {g} f w a m = of_job w (ref_of x) (owned_own f (ref_of x) (spare_owned n c x g a))
    (λ j. j.deleting ≡ true) (λ j. j.deleting ≡ true) (λ i j at k d. k.deleting d) m

-- After a DELETE by uid its Job is gone or being deleted.
removed_now : (g : List Told) (t : Stamp) (y : ℕ) (r : Ref) (a : Answer)
    → Removed (next g t (Asked y (Of.Delete r) true a)) r
removed_now g t y r a = delete_removes (state_of g) t r (look (state_of g).jobs r) refl

-- a call that is about a claimed Job
abbrev pub IsTarget : Call → Ref → Type 0
IsTarget (Of.Start z) r = z ≡ r
IsTarget (Of.Expire z v now) r = z ≡ r
IsTarget call r = ⊥

-- For target_claimed: the Job that a sync has to start was claimed, if it is of the CronJob.
held_claimed : {me : List ℕ} (g : List Told) → Inv me g → (at : At) (x : Held) (ds : List Ref) → Commits me g at x ds
    → (r : Ref) → x.job ≡ r → Owned g me r → (k : Claimed) × (claim_of g r ≡ Some k)
held_claimed {me} g f at x ds a r e o =
    let q = owned_one f x.job at.cron.uid (held_owned g at.cron.uid x a.held_fact) (subst (Owned g me) (sym e) o) in
    let b = (a.its q).at_fact.claimed x.job (inl refl) in
    (b.claim, subst (λ (z : Ref). claim_of g z ≡ Some b.claim) e b.is)

-- Whatever of the CronJob a sync starts, or deletes for its deadline, was claimed.
target_claimed : {me : List ℕ} (g : List Told) → Inv me g → (s : Sync) → SyncFact me g s → (call : Call) → May s call
    → (r : Ref) → IsTarget call r → Owned g me r → (k : Claimed) × (claim_of g r ≡ Some k)
target_claimed g f (Starting at x []) a (Of.Start z) m r e o = held_claimed g f at x [] a r (sym m ∙ e) o
target_claimed g f (Starting at x []) a (Of.Expire z v now) m r e o = held_claimed g f at x [] a r (sym m.job ∙ e) o
target_claimed g f (Starting at x (d ∷ ds)) a (Of.Expire z v now) m r e o =
    held_claimed g f at x (d ∷ ds) a r (sym m.job ∙ e) o
target_claimed g f (Starting at x (d ∷ ds)) a (Of.Start z) m r e o = absurd m
target_claimed g f Fresh a (Of.Start z) m r e o = absurd m
target_claimed g f Fresh a (Of.Expire z v now) m r e o = absurd m
target_claimed g f (Looking at [] held) a (Of.Start z) m r e o = absurd m
target_claimed g f (Looking at [] held) a (Of.Expire z v now) m r e o = absurd m
target_claimed g f (Looking at (q ∷ rs) held) a (Of.Start z) m r e o = absurd m
target_claimed g f (Looking at (q ∷ rs) held) a (Of.Expire z v now) m r e o = absurd m
target_claimed g f (Ready at) a (Of.Start z) m r e o = absurd m
target_claimed g f (Ready at) a (Of.Expire z v now) m r e o = absurd m
target_claimed g f (Holding at x) a (Of.Start z) m r e o = absurd m
target_claimed g f (Holding at x) a (Of.Expire z v now) m r e o = absurd m
target_claimed g f (Tidying at gs fs) a (Of.Start z) m r e o = absurd m
target_claimed g f (Tidying at gs fs) a (Of.Expire z v now) m r e o = absurd m
target_claimed g f Gone a (Of.Start z) m r e o = absurd m
target_claimed g f Gone a (Of.Expire z v now) m r e o = absurd m
target_claimed g f Over a (Of.Start z) m r e o = absurd m
target_claimed g f Over a (Of.Expire z v now) m r e o = absurd m
target_claimed g f s a call m r e o = absurd e

module _ (n : List ℕ) (c : Cron) (x : Row Job) (y : ℕ) where
  abbrev pub Stands : List Told → Type 0
  Stands g = (job_at g x.name ≡ Some x.object) ⊎ Removed g (ref_of x)

  -- For stands_next: it is no sync's target.
  not_target : (g : List Told) → Inv c.uid g → Spare g n c x → (call : Call) → May (seen_of (own y g)) call
      → IsTarget call (ref_of x) → ⊥
  not_target g f a call m e =
      let k = target_claimed g f (seen_of (own y g)) (f.syncs y) call m (ref_of x) e (spare_owned n c x g a) in
      absurd (cc (a.none, k.1))

  still : (g : List Told) (t : Stamp) (call : Call) (a : Answer) → Spares call (ref_of x)
      → job_at g x.name ≡ Some x.object → Stands (next g t (Asked y call true a))
  still g t call a s at = inl (stays g t call (ref_of x) x.object s at refl)

  by_test : (g : List Told) (t : Stamp) (a : Answer) (z : Ref) → job_at g x.name ≡ Some x.object → (b : Bool)
      → is_ref z (ref_of x) ≡ b → Stands (next g t (Asked y (Of.Delete z) true a))
  by_test g t a z at true e =
      let same = ref_true z (ref_of x) e in
      inr (subst (λ (q : Ref). Removed (next g t (Asked y (Of.Delete z) true a)) q) same (removed_now g t y z a))
  by_test g t a z at false e = still g t (Of.Delete z) a e at

  -- What stands of it after a call that doesn't disturb.
  stands_now : (g : List Told) (t : Stamp) (call : Call) (a : Answer) → Inv c.uid g → Spare g n c x
      → May (seen_of (own y g)) call → job_at g x.name ≡ Some x.object → Stands (next g t (Asked y call true a))
  stands_now g t (Of.Start z) a f s m at = still g t (Of.Start z) a
      (is_false (is_ref z (ref_of x)) (λ e. not_target g f s (Of.Start z) m (ref_true z (ref_of x) e))) at
  stands_now g t (Of.Expire z v now) a f s m at = still g t (Of.Expire z v now) a
      (is_false (is_ref z (ref_of x)) (λ e. not_target g f s (Of.Expire z v now) m (ref_true z (ref_of x) e))) at
  stands_now g t (Of.Delete z) a f s m at = by_test g t a z at (is_ref z (ref_of x)) refl
  stands_now g t (Of.GetCron q) a f s m at = still g t (Of.GetCron q) a tt at
  stands_now g t (Of.CacheCron q) a f s m at = still g t (Of.CacheCron q) a tt at
  stands_now g t (Of.GetJob q) a f s m at = still g t (Of.GetJob q) a tt at
  stands_now g t (Of.CacheJob q) a f s m at = still g t (Of.CacheJob q) a tt at
  stands_now g t Of.ListJobs a f s m at = still g t Of.ListJobs a tt at
  stands_now g t (Of.Create q j) a f s m at = still g t (Of.Create q j) a tt at
  stands_now g t (Of.Claim q) a f s m at = still g t (Of.Claim q) a tt at
  stands_now g t (Of.Tidy q) a f s m at = still g t (Of.Tidy q) a tt at

  stands_next : (g : List Told) (t : Stamp) (call : Call) (a : Answer) → Plain c.uid g t y call a → Spare g n c x
      → Stands g
      → Stands (next g t (Asked y call true a))
  stands_next g t call a p s (inl at) = stands_now g t call a p.inv s p.may at
  stands_next g t call a p s (inr m) = inr (removed_kept n c x p.inv p.grows s m)

-- ---- what the sync has listed

-- of a sync of this CronJob that clears: the Job is in its list, or removed
abbrev pub Clears : List ℕ → Ref → List Told → Sync → Type 0
Clears u r g (Tidying at gs fs) = at.cron.uid ≡ u → IsIn r gs ⊎ Removed g r
Clears u r g s = Unit {0}

module _ (u : List ℕ) (r : Ref) (g : List Told) where
  clears_go : (at : At) (rs : List Ref) (held : Option Held) → Clears u r g (go_on at rs held)
  clears_go at [] None = tt
  clears_go at [] (Some x) = tt
  clears_go at (q ∷ rs) held = tt

  clears_if : (b : Bool) (x z : Sync) → Clears u r g x → Clears u r g z → Clears u r g (if b then x else z)
  clears_if true x z f k = f
  clears_if false x z f k = k

  clears_held : (at : At) (rs : List Ref) (held : Option Held) (x : Held) → Clears u r g (found_held at rs held x)
  clears_held at rs None x = clears_go at rs (Some x)
  clears_held at rs (Some z) x = tt

  clears_looked : (at : At) (rs : List Ref) (held : Option Held) (q : Ref) (o : Option Job)
      → Clears u r g (looked at rs held q o)
  clears_looked at rs held q None = clears_go at rs held
  clears_looked at rs held q (Some j) = clears_if (is_its at.cron q j && not (is_dead j))
      (found_job at rs held q j) (go_on at rs held)
      (clears_if (was_found at held q) (go_on at rs held)
      (if j.held then found_held at rs held (record { job = q; found = j }) else go_on (with_alive at q) rs held)
      (clears_go at rs held)
      (clears_if j.held (found_held at rs held (record { job = q; found = j })) (go_on (with_alive at q) rs held)
      (clears_held at rs held (record { job = q; found = j })) (clears_go (with_alive at q) rs held)))
      (clears_go at rs held)

  clears_cached : (at : At) (rs : List Ref) (held : Option Held) (q : Ref) (o : Option Job)
      → Clears u r g (cached at rs held q o)
  clears_cached at rs held q None = tt
  clears_cached at rs held q (Some j) = clears_if (is_same j.uid q.uid && not (waits j))
      (looked at rs held q (Some j)) (Looking at (q ∷ rs) held) (clears_looked at rs held q (Some j)) tt

  clears_begun : (n : List ℕ) (o : Option Cron) → Clears u r g (begun n o)
  clears_begun n None = tt
  clears_begun n (Some c) = clears_go (record { name = n; cron = c; alive = [] }) (named c.active) None

  clears_adopted : (at : At) (n : List ℕ) (o : Option Job) → Clears u r g (adopted at n o)
  clears_adopted at n None = tt
  clears_adopted at n (Some j) = clears_if (lets_hold at.cron.policy at.alive && is_ours at.cron j)
      (Holding at (record { job = record { name = n; uid = j.uid }; found = j })) (Ready at) tt tt

  clears_fresh : (call : Call) (a : Answer) → Clears u r g (from_fresh call a)
  clears_fresh (Of.GetCron n) (Is.Cron o) = clears_begun n o
  clears_fresh (Of.CacheCron n) (Is.Cron o) = clears_begun n o
  clears_fresh call a = tt

  clears_looking : (at : At) (q : Ref) (rs : List Ref) (held : Option Held) (call : Call) (a : Answer)
      → Clears u r g (from_looking at q rs held call a)
  clears_looking at q rs held (Of.GetJob n) (Is.Job o) = clears_looked at rs held q o
  clears_looking at q rs held (Of.CacheJob n) (Is.Job o) = clears_cached at rs held q o
  clears_looking at q rs held call a = tt

  clears_dropping : (at : At) (x : Held) (ds : List Ref) (call : Call) (a : Answer)
      → Clears u r g (from_dropping at x ds call a)
  clears_dropping at x ds (Of.Delete q) Is.Deleted = tt
  clears_dropping at x ds call a = tt

  clears_starting : (at : At) (x : Held) (call : Call) (a : Answer) → Clears u r g (from_starting at x call a)
  clears_starting at x (Of.Start q) (Is.Written v) =
      clears_go (has_started at x) (drops_of x.found.policy at.alive) None
  clears_starting at x call a = tt

  -- what the list of a sync is of
  abbrev pub Lists : At → Call → Answer → Type 0
  Lists at Of.ListJobs (Is.Jobs rows) = at.cron.uid ≡ u → IsIn r (refs_where (is_garbage at.cron) rows) ⊎ Removed g r
  Lists at call a = Unit {0}

  clears_ready : (at : At) (call : Call) (a : Answer) → Lists at call a → Clears u r g (from_ready at call a)
  clears_ready at (Of.GetJob n) (Is.Job o) f = clears_adopted at n o
  clears_ready at (Of.Create n j) (Is.Created z) f = tt
  clears_ready at (Of.Create n j) Is.Refused f = tt
  clears_ready at (Of.Tidy w) (Is.Written v) f = tt
  clears_ready at Of.ListJobs (Is.Jobs rows) f = f
  clears_ready at call a f = tt

  clears_holding : (at : At) (x : Held) (call : Call) (a : Answer) → Lists at call a
      → Clears u r g (from_holding at x call a)
  clears_holding at x (Of.Claim w) (Is.Written v) f = tt
  clears_holding at x (Of.Claim w) a f = tt
  clears_holding at x call a f = clears_ready at call a f

-- ---- a sync that comes to its end

-- What is found under a name is listed.
found_row : (k : List ℕ) (rows : List (Row Job)) (j : Job) → find k rows ≡ Some j
    → (x : Row Job) × (IsIn x rows) × (x.name ≡ k) × (x.object ≡ j)
found_row k [] j e = absurd (cc e)
found_row k (r ∷ rs) j e = by_name (λ q. found_row k rs j q) (is_same r.name k) refl e
  where
    by_name : (find k rs ≡ Some j → (x : Row Job) × (IsIn x rs) × (x.name ≡ k) × (x.object ≡ j)) → (b : Bool)
        → is_same r.name k ≡ b → (if b then Some r.object else find k rs) ≡ Some j
        → (x : Row Job) × (IsIn x (r ∷ rs)) × (x.name ≡ k) × (x.object ≡ j)
    by_name f true s q = (r, inl refl, same_true r.name k s, cc)
    by_name f false s q = let a = f q in (a.0, inr a.1, a.2, a.3)

-- Rows of one name and one object are one.
row_parts : (a b : Row Job) → a.name ≡ b.name → a.object ≡ b.object → a ≡ b
row_parts a b p q =
    let f : List ℕ → Row Job = λ z. record { name = z; object = a.object } in
    let g : Job → Row Job = λ z. record { name = b.name; object = z } in
    ap f p ∙ ap g q

-- A number that is at most another tests so.
le_test : (a b : ℕ) → a ≤ b → nat_le a b ≡ true
le_test a b l = grind (arith, nat_tests)

-- A test of four parts that hold.
four : (a b c d : Bool) → a ≡ true → b ≡ true → c ≡ true → d ≡ false → (a && b && c && not d) ≡ true
four a b c d e f g h =
    ap (λ (z : Bool). z && b && c && not d) e ∙ ap (λ (z : Bool). true && z && c && not d) f
    ∙ ap (λ (z : Bool). true && true && z && not d) g ∙ ap (λ (z : Bool). true && true && true && not z) h

module _ (n : List ℕ) (c : Cron) (x : Row Job) where
  -- For lists_it: by what the sync knows, the Job is garbage.
  tests : (g : List Told) → Spare g n c x → x.object.held ≡ true → (at : At) → AtBase g at → Inv c.uid g
      → at.cron.uid ≡ c.uid → c.last ≤ at.cron.last → is_garbage at.cron x ≡ true
  tests g a held at f inv u l = four (is_same x.object.owner at.cron.uid) x.object.held
      (nat_le x.object.time at.cron.last) (has_ref at.cron.active (ref_of x))
      (same_is x.object.owner at.cron.uid (a.owner ∙ sym u)) held
      (le_test x.object.time at.cron.last (let b = a.time in omega arith))
      (is_false (has_ref at.cron.active (ref_of x)) (λ e.
      let k = (inv.status at.name at.cron f.cron u).claimed (ref_of x) (is_in at.cron.active (ref_of x) e) in
      absurd (cc (a.none, k.is))))

  -- What an undisturbed sync lists has the Job, if it stands.
  lists_it : (g e : List Told) (t : Stamp) → Inv c.uid g → Grows c.uid g e t → Spare g n c x → x.object.held ≡ true
      → (at : At)
      → AtBase g at → Since c.uid c.last at → (job_at g x.name ≡ Some x.object) ⊎ Removed g (ref_of x)
      → (call : Call) (a : Answer) → a ≡ (served (state_of g) t call).answer → Lists c.uid (ref_of x) e at call a
  lists_it g e t inv w a held at f s (inl here) Of.ListJobs (Is.Jobs rows) is = λ u.
      let same : rows ≡ (state_of g).jobs = cc is in
      let row = found_row x.name (state_of g).jobs x.object here in
      let one : row.0 ≡ x = row_parts row.0 x row.2 row.3 in
      let among : IsIn x (state_of g).jobs = subst (λ (z : Row Job). IsIn z (state_of g).jobs) one row.1 in
      inl (subst (λ (z : List (Row Job)). IsIn (ref_of x) (refs_where (is_garbage at.cron) z)) (sym same)
      (is_picked (is_garbage at.cron) (state_of g).jobs x among (tests g a held at f inv u (s u))))
  lists_it g e t inv w a held at f s (inr m) Of.ListJobs (Is.Jobs rows) is = λ u. inr (removed_kept n c x inv w a m)
  lists_it g e t inv w a held at f s here call q is = tt

-- what holds of garbage while an undisturbed sync works
pub record Clearing (n : List ℕ) (c : Cron) (x : Row Job) (y : ℕ) (g : List Told) : Type 0 where
  pub spare : Spare g n c x
  pub stands : (job_at g x.name ≡ Some x.object) ⊎ Removed g (ref_of x)
  pub since : SinceOf c.uid c.last (seen_of (own y g))
  pub clears : Clears c.uid (ref_of x) g (seen_of (own y g))

-- A Job fewer is to be deleted.
clears_one : (g : List Told) (t : Stamp) (y : ℕ) (u : List ℕ) (r : Ref) (at : At) (gs fs : List Ref) (call : Call)
    (a : Answer) → (Removed g r → Removed (next g t (Asked y call true a)) r)
    → (at.cron.uid ≡ u → IsIn r gs ⊎ Removed g r)
    → Clears u r (next g t (Asked y call true a)) (from_tidying at gs fs call a)
clears_one g t y u r at gs fs (Of.Delete q) a kept f = by_answer a (λ e. by_place (f e))
  where
    by_end : (r ≡ q) ⊎ IsIn r (without_ref q gs)
        → IsIn r (without_ref q gs) ⊎ Removed (next g t (Asked y (Of.Delete q) true a)) r
    by_end (inl e) = inr (subst (Removed (next g t (Asked y (Of.Delete q) true a))) (sym e) (removed_now g t y q a))
    by_end (inr i) = inl i

    by_place : IsIn r gs ⊎ Removed g r
        → IsIn r (without_ref q gs) ⊎ Removed (next g t (Asked y (Of.Delete q) true a)) r
    by_place (inl i) = by_end (left_or q r gs i)
    by_place (inr d) = inr (kept d)

    by_answer : (b : Answer) → (at.cron.uid ≡ u
        → IsIn r (without_ref q gs) ⊎ Removed (next g t (Asked y (Of.Delete q) true a)) r)
        → Clears u r (next g t (Asked y (Of.Delete q) true a)) (from_tidying at gs fs (Of.Delete q) b)
    by_answer Is.Deleted k = k
    by_answer Is.Refused k = k
    by_answer b k = tt
clears_one g t y u r at gs fs call a kept f = tt

module _ (n : List ℕ) (c : Cron) (x : Row Job) (y : ℕ) where
  clears_by : (g : List Told) (t : Stamp) (call : Call) (a : Answer) → Plain c.uid g t y call a → x.object.held ≡ true
      → Spare g n c x → (job_at g x.name ≡ Some x.object) ⊎ Removed g (ref_of x) → (s : Sync) → SyncFact c.uid g s
      → May s call → SinceOf c.uid c.last s → Clears c.uid (ref_of x) g s
      → Clears c.uid (ref_of x) (next g t (Asked y call true a)) (advanced s call a)
  clears_by g t call a p held spare stands Fresh k m q f =
      clears_fresh c.uid (ref_of x) (next g t (Asked y call true a)) call a
  clears_by g t call a p held spare stands (Looking at [] o) k m q f = absurd m
  clears_by g t call a p held spare stands (Looking at (r ∷ rs) o) k m q f =
      clears_looking c.uid (ref_of x) (next g t (Asked y call true a)) at r rs o call a
  clears_by g t call a p held spare stands (Ready at) k m q f =
      clears_ready c.uid (ref_of x) (next g t (Asked y call true a)) at call a
      (lists_it n c x g (next g t (Asked y call true a)) t p.inv p.grows spare held at k.base q stands call a p.is)
  clears_by g t call a p held spare stands (Holding at z) k m q f =
      clears_holding c.uid (ref_of x) (next g t (Asked y call true a)) at z call a
      (lists_it n c x g (next g t (Asked y call true a)) t p.inv p.grows spare held at k.base q stands call a p.is)
  clears_by g t call a p held spare stands (Starting at z []) k m q f =
      clears_starting c.uid (ref_of x) (next g t (Asked y call true a)) at z call a
  clears_by g t call a p held spare stands (Starting at z (d ∷ ds)) k m q f =
      clears_dropping c.uid (ref_of x) (next g t (Asked y call true a)) at z ds call a
  clears_by g t call a p held spare stands (Tidying at gs fs) k m q f =
      clears_one g t y c.uid (ref_of x) at gs fs call a (removed_kept n c x p.inv p.grows spare) f
  clears_by g t call a p held spare stands Gone k m q f = absurd m
  clears_by g t call a p held spare stands Over k m q f = absurd m

  -- For clearing_next: what the sync reads first isn't older.
  reads_later : (g : List Told) (t : Stamp) (call : Call) (a : Answer) → Plain c.uid g t y call a → Spare g n c x
      → (m : List ℕ) (b : Cron) → cron_at g m ≡ Some b → b.uid ≡ c.uid → c.last ≤ b.last
  reads_later g t call a p spare m b at e =
      let home : m ≡ n = (p.inv.crons n c spare.cron).home m b (cron_is_old g m b at) e in
      (p.inv.now m b at e).last c (subst (λ (z : List ℕ). OldCron g z c) (sym home) spare.cron) (sym e)

  clearing_next : x.object.held ≡ true → (g : List Told) (t : Stamp) (call : Call) (a : Answer)
      → Plain c.uid g t y call a
      → Clearing n c x y g → Clearing n c x y (next g t (Asked y call true a))
  clearing_next held g t call a p k =
      let reads = reads_now g t c.uid c.last call a p.is (reads_later g t call a p k.spare) in
      let seen = seen_next g t y call true a in
      record {
        spare = spare_next n c x g (next g t (Asked y call true a)) t p.grows p.inv_next k.spare;
        stands = stands_next n c x y g t call a p k.spare k.stands;
        since = subst (SinceOf c.uid c.last) (sym seen)
            (since_next c.uid g c.uid c.last (seen_of (own y g)) (p.inv.syncs y) call p.may a reads k.since);
        clears = subst (Clears c.uid (ref_of x) (next g t (Asked y call true a))) (sym seen)
            (clears_by g t call a p held k.spare k.stands (seen_of (own y g)) (p.inv.syncs y) p.may k.since k.clears);
      }

-- What a sync has listed is still listed or removed after an entry of others.
clears_still : (u : List ℕ) (r : Ref) (g e : List Told) → (Removed g r → Removed e r) → (s : Sync) → Clears u r g s
    → Clears u r e s
clears_still u r g e kept (Tidying at gs fs) f = λ m. by_place (f m)
  where
    by_place : IsIn r gs ⊎ Removed g r → IsIn r gs ⊎ Removed e r
    by_place (inl i) = inl i
    by_place (inr d) = inr (kept d)
clears_still u r g e kept s f = tt

module _ (n : List ℕ) (c : Cron) (x : Row Job) (y : ℕ) where
  -- Garbage that still stands does so after an entry of others that leaves the CronJob alone.
  stands_meanwhile : x.object.held ≡ true → (g : List Told) (t : Stamp) (d : Deed) → Beside c.uid g t y d
      → Spare g n c x → (job_at g x.name ≡ Some x.object) ⊎ Removed g (ref_of x)
      → (job_at (next g t d) x.name ≡ Some x.object) ⊎ Removed (next g t d) (ref_of x)
  stands_meanwhile held g t d q a (inl at) = inl (q.leaves.held x.name x.object at a.owner held)
  stands_meanwhile held g t d q a (inr m) = inr (removed_kept n c x q.inv q.grows a m)

  -- What holds of garbage holds after such an entry.
  clearing_beside : x.object.held ≡ true → (g : List Told) (t : Stamp) (d : Deed) → Beside c.uid g t y d
      → Clearing n c x y g → Clearing n c x y (next g t d)
  clearing_beside held g t d q k = record {
    spare = spare_next n c x g (next g t d) t q.grows q.inv_next k.spare;
    stands = stands_meanwhile held g t d q k.spare k.stands;
    since = subst (λ os. SinceOf c.uid c.last (seen_of os)) (sym q.same) k.since;
    clears = subst (λ os. Clears c.uid (ref_of x) (next g t d) (seen_of os)) (sym q.same)
        (clears_still c.uid (ref_of x) g (next g t d) (removed_kept n c x q.inv q.grows k.spare)
        (seen_of (own y g)) k.clears);
  }

-- A sync at its end has removed what it was to clear.
cleared_at : (u : List ℕ) (r : Ref) (g : List Told) (s : Sync) → IsWhole u s → Clears u r g s → Removed g r
cleared_at u r g (Tidying at [] fs) w f = by_place (f w)
  where
    by_place : IsIn r [] ⊎ Removed g r → Removed g r
    by_place (inl i) = absurd i
    by_place (inr d) = d
cleared_at u r g s w f = absurd w

-- A Job that is gone or being deleted looks so.
removed_is : (g : List Told) (r : Ref) → Removed g r → IsRemoved (look (state_of g).jobs r)
removed_is g r d = by_look (look (state_of g).jobs r) refl
  where
    by_look : (o : Option Job) → look (state_of g).jobs r ≡ o → IsRemoved o
    by_look None e = tt
    by_look (Some j) e = let a = look_found (state_of g).jobs r j e in d j a.0 a.1

-- An undisturbed sync that has come to its end has removed all garbage.
pub cleared : IsCleared
cleared h es y n c x l a o none u b w =
    let f = always c.uid h (legal_before h es l) (followed_before h es a) (kept_before c.uid h es o) in
    let base : Clearing n c x y h = record {
      spare = spare_first n c x h b f;
      stands = inl b.job;
      since = subst (λ z. SinceOf c.uid c.last (seen_of z)) (sym none) tt;
      clears = subst (λ z. Clears c.uid (ref_of x) h (seen_of z)) (sym none) tt;
    } in
    let k = run c.uid y h (λ g. Clearing n c x y g) base (clearing_next n c x y (is_held x.object b.held))
    (clearing_beside n c x y (is_held x.object b.held)) es l a o u in
    removed_is (es ++ h) (ref_of x) (cleared_at c.uid (ref_of x) (es ++ h) (seen_of (own y (es ++ h))) w k.clears)

-- What a sync knows after its own call.
use Rattle.std.proofs.Common.{◌≡◌, ◌⊎◌, inl, inr, ℕ, ◌≤◌, Bool, true, false, not, ◌&&◌, List, [], ◌∷◌, Option, Some, None, refl, sym, ap, subst, ◌∙◌, arith}
use Rattle.std.specs.Prelude.{nat_le, if◌then◌else◌}
use Rattle.std.proofs.lemmas.Bool.Decides.{nat_tests}
use Rattle.cj_fence.specs.declared.table.Row.{Row}
use Rattle.cj_fence.specs.declared.refs.Ref.{Ref}
use Rattle.cj_fence.specs.declared.objects.Cron.{Cron}
use Rattle.cj_fence.specs.declared.objects.Job.{Job}
use Rattle.cj_fence.specs.declared.cluster.Cluster.{Cluster}
use Rattle.cj_fence.specs.declared.call.Claim.{Claim}
use Rattle.cj_fence.specs.declared.call.Tidy.{Tidy}
use Rattle.cj_fence.specs.declared.call.Call.{Call}
use Rattle.cj_fence.specs.declared.call.Call.TheVariants as Of
use Rattle.cj_fence.specs.declared.answer.Answer.{Answer}
use Rattle.cj_fence.specs.declared.answer.Answer.TheVariants as Is
use Rattle.cj_fence.specs.declared.answer.Stamp.{Stamp}
use Rattle.cj_fence.specs.declared.sync.At.{At}
use Rattle.cj_fence.specs.declared.sync.Held.{Held}
use Rattle.cj_fence.specs.declared.sync.Sync.{Sync}
use Rattle.cj_fence.specs.declared.sync.Sync.TheVariants.{Fresh, Looking, Ready, Holding, Starting, Tidying, Gone, Over}
use Rattle.cj_fence.specs.Texts.{is_same}
use Rattle.cj_fence.specs.Tables.{find, without, put}
use Rattle.cj_fence.specs.Objects.{ref_of, has_ref, without_ref, look, waits}
use Rattle.cj_fence.specs.Server.{says, refuses, puts_cron, puts_job, made, create, takes, with_claim, with_tidy, claimed, claim, tidied, tidy, released, start, marked, mark, delete_where}
use Rattle.cj_fence.specs.Protocol.{kept_of, drops_of, looked, cached, begun, adopted, is_garbage, is_finished, refs_where, has_claimed, has_tidied, has_started, from_fresh, from_looking, from_ready, from_holding, from_dropping, from_starting, from_tidying, advanced, MayFresh, MayLook, MayHold, MayTidy, MayReady, MayClaim, MayHolding, MayDrop, MayStart, May}
use Rattle.cj_fence.specs.History.{Asked, Told, state_of, IsAnswer, IsFresh}
use Rattle.cj_fence.proofs.FenceLemmas.Basics.{second_true, IsIn, in_front, in_end, is_false, both_true, not_true, not_in, fewer, same_true, same_is, look_found, look_is, put_self, without_at}
use Rattle.cj_fence.proofs.FenceLemmas.Facts.{job_at, cron_at, OldJob, OldCron, ref, Dead, Settled, Leaving, Owned, IsClaimedFor, AtBase, AtFact, GarbageFact, FinishedFact, Looks, Readies, Holds, Commits, Tidies, SyncFact, Inv}
use Rattle.cj_fence.proofs.FenceLemmas.Grows.{earlier_kept, Grows, is_held, cron_is_old, owned_kept, base_kept, at_kept, held_kept, drops_kept, tidy_kept, ready_kept, sync_kept}
use Rattle.cj_fence.proofs.FenceLemmas.Moves.{next}
use Rattle.cj_fence.proofs.FenceLemmas.Names.{AreOld, listed_old, Picked, picked}
use Rattle.cj_fence.proofs.FenceLemmas.Claims.{Accepted, claimed_fact}
use Rattle.cj_fence.proofs.FenceLemmas.Looks.{drops_among, kept_among, kept_or_dropped, go_on_fact, each_end, held_alone, looked_fact, says_now, cached_fact, begun_fact, adopted_fact, by_server, got_job, got_cron, cache_job, cache_cron}

-- ---- what a write leaves, by its answer

-- The Job that a create made stands under its name.
create_at : (s : Cluster) (t x : Stamp) (n : List ℕ) (j : Job) (o : Option Job)
    → Is.Created x ≡ (create s t n j o).answer
    → find n (create s t n j o).cluster.jobs ≡ Some (made x j)
create_at s t x [] j o e = absurd (cc e)
create_at s t x (c ∷ n) j None e =
    let same : x ≡ t = cc e in
    subst (λ (z : Stamp). find (c ∷ n) (put (c ∷ n) (made t j) s.jobs) ≡ Some (made z j)) (sym same)
    (put_self (c ∷ n) (made t j) s.jobs)
create_at s t x (c ∷ n) j (Some old) e = absurd (cc e)

-- what an accepted status leaves
pub record IsWritten (s t : Cluster) (n u v : List ℕ) (f : Cron → Cron) (o : Option Cron) : Type 0 where
  pub cron : Cron
  pub was : o ≡ Some cron
  pub uid : cron.uid ≡ u
  pub version : cron.version ≡ v
  pub now : find n t.crons ≡ Some (f cron)

-- What a claim leaves that was taken.
claim_at : (s : Cluster) (t : Stamp) (w : Claim) (v : List ℕ) (o : Option Cron)
    → Is.Written v ≡ (claim s t w o).answer
    → IsWritten s (claim s t w o).cluster w.name w.uid w.version
    (with_claim w v) o
claim_at s t w v None e = absurd (cc e)
claim_at s t w v (Some c) e = by_test (takes w.uid w.version c) refl e
  where
    by_test : (b : Bool) → takes w.uid w.version c ≡ b
        → Is.Written v ≡ (if b then puts_cron s (Is.Written t.version) w.name (claimed t w c) else refuses s).answer
        → IsWritten s (if b then puts_cron s (Is.Written t.version) w.name (claimed t w c) else refuses s).cluster
        w.name w.uid w.version (with_claim w v) (Some c)
    by_test true b g =
        let same : v ≡ t.version = cc g in
        let z = both_true (is_same c.uid w.uid) (is_same c.version w.version) b in
        record {
          cron = c;
          was = refl;
          uid = same_true c.uid w.uid z.0;
          version = same_true c.version w.version z.1;
          now = subst (λ (q : List ℕ). find w.name (put w.name (claimed t w c) s.crons)
              ≡ Some (with_claim w q c))
              (sym same) (put_self w.name (claimed t w c) s.crons);
        }
    by_test false b g = absurd (cc g)

-- What a status without its dead leaves that was taken.
tidy_at : (s : Cluster) (t : Stamp) (w : Tidy) (v : List ℕ) (o : Option Cron)
    → Is.Written v ≡ (tidy s t w o).answer
    → IsWritten s (tidy s t w o).cluster w.name w.uid w.version (with_tidy w v) o
tidy_at s t w v None e = absurd (cc e)
tidy_at s t w v (Some c) e = by_test (takes w.uid w.version c) refl e
  where
    by_test : (b : Bool) → takes w.uid w.version c ≡ b
        → Is.Written v ≡ (if b then puts_cron s (Is.Written t.version) w.name (tidied t w c) else refuses s).answer
        → IsWritten s (if b then puts_cron s (Is.Written t.version) w.name (tidied t w c) else refuses s).cluster w.name
        w.uid w.version (with_tidy w v) (Some c)
    by_test true b g =
        let same : v ≡ t.version = cc g in
        let z = both_true (is_same c.uid w.uid) (is_same c.version w.version) b in
        record {
          cron = c;
          was = refl;
          uid = same_true c.uid w.uid z.0;
          version = same_true c.version w.version z.1;
          now = subst (λ (q : List ℕ). find w.name (put w.name (tidied t w c) s.crons)
              ≡ Some (with_tidy w q c))
              (sym same) (put_self w.name (tidied t w c) s.crons);
        }
    by_test false b g = absurd (cc g)

-- A Job whose start was taken isn't held.
start_taken : (h : List Told) (t : Stamp) (x : Ref) (v : List ℕ) (o : Option Job)
    → Is.Written v ≡ (start (state_of h) t x o).answer → (j : Job)
    → find x.name (start (state_of h) t x o).cluster.jobs ≡ Some j → j.held ≡ false
start_taken h t x v None e j at = absurd (cc e)
start_taken h t x v (Some i) e j at = by_hold i.held e at
  where
    by_hold : (b : Bool)
        → Is.Written v ≡ (if b then puts_job (state_of h) (Is.Written t.version) x.name (released t i) else refuses
        (state_of h)).answer
        → find x.name (if b then puts_job (state_of h) (Is.Written t.version) x.name (released t i) else refuses
        (state_of h)).cluster.jobs ≡ Some j
        → j.held ≡ false
    by_hold true g a =
        let s : released t i ≡ j = cc (sym (put_self x.name (released t i) (state_of h).jobs) ∙ a) in
        ap (λ (z : Job). z.held) (sym s)
    by_hold false g a = absurd (cc g)

-- A Job that was deleted by uid is gone or being deleted.
pub delete_removes : (s : Cluster) (t : Stamp) (r : Ref) (o : Option Job) → look s.jobs r ≡ o → (j : Job)
    → find r.name (delete_where s t r o).cluster.jobs ≡ Some j → j.uid ≡ r.uid → j.deleting ≡ true
delete_removes s t r None e j at u = absurd (cc (sym e ∙ look_is s.jobs r j at u))
delete_removes s t r (Some i) e j at u = by_pin i.pinned at
  where
    by_mark : (b : Bool) → i.deleting ≡ b
        → find r.name (if b then says s Is.Deleted else puts_job s Is.Deleted r.name (marked t i)).cluster.jobs
        ≡ Some j → j.deleting ≡ true
    by_mark true d a =
        let same : i ≡ j = cc (sym (look_found s.jobs r i e).0 ∙ a) in
        subst (λ (z : Job). z.deleting ≡ true) same d
    by_mark false d a =
        let k : marked t i ≡ j = cc (sym (put_self r.name (marked t i) s.jobs) ∙ a) in
        ap (λ (z : Job). z.deleting) (sym k)

    by_pin : (b : Bool)
        → find r.name (if b then mark s t r i else record
        { answer = Is.Deleted; cluster = record s { jobs = without r.name s.jobs } }).cluster.jobs
        ≡ Some j → j.deleting ≡ true
    by_pin true a = by_mark i.deleting refl a
    by_pin false a = absurd ((without_at r.name r.name s.jobs j a).0 refl)

-- A number that tests as at most another is.
at_most : (a b : ℕ) → nat_le a b ≡ true → a ≤ b
at_most a b e = grind (arith, nat_tests)

-- ---- each state

-- The CronJob that a condition on its version meets is the one that the sync knows.
pub same_read : {me : List ℕ} {h : List Told} → Inv me h → (at : At) → AtBase h at → (c : Cron)
    → cron_at h at.name ≡ Some c → c.version ≡ at.cron.version → c ≡ at.cron
same_read {me} {h} f at b c is v = (f.crons at.name at.cron b.cron).same c (cron_is_old h at.name c is) v

module _ {me : List ℕ} {h g : List Told} {t : Stamp} where
  -- After a first reading.
  next_fresh : Inv me h → Grows me h g t → (call : Call) → MayFresh call → (reached : Bool) (a : Answer)
      → IsAnswer h t call reached a → SyncFact me g (from_fresh call a)
  next_fresh f w (Of.GetCron n) m reached (Is.Cron o) k =
      sync_kept f w (begun n o) (begun_fact f n o (got_cron k))
  next_fresh f w (Of.CacheCron n) m reached (Is.Cron o) k =
      sync_kept f w (begun n o) (begun_fact f n o (cache_cron k))
  next_fresh f w call m reached a k = tt

  -- After a Job of status.active was read.
  next_looking : Inv me h → Grows me h g t → (at : At) (r : Ref) (rs : List Ref) (held : Option Held)
      → Looks me h at (r ∷ rs) held → (call : Call) → MayLook r call → (reached : Bool) (a : Answer)
      → IsAnswer h t call reached a → SyncFact me g (from_looking at r rs held call a)
  next_looking f w at r rs held l (Of.GetJob n) m reached (Is.Job o) k =
      sync_kept f w (looked at rs held r o)
      (looked_fact f at rs held r o l (says_now f r o (subst (λ (z : List ℕ). job_at h z ≡ o) m (got_job k))))
  next_looking f w at r rs held l (Of.CacheJob n) m reached (Is.Job o) k =
      sync_kept f w (cached at rs held r o)
      (cached_fact f at rs held r o l (λ j e. subst (λ (z : List ℕ). OldJob h z j) m (cache_job k j e)))
  next_looking f w at r rs held l call m reached a k = tt

-- a Job that was made is held for a claim
created_fact : (me : List ℕ) (h : List Told) (t x : Stamp) (y : ℕ) (at : At) (n : List ℕ) (j : Job) (reached : Bool)
    → reached ≡ true → Inv me h → Grows me h (next h t (Asked y (Of.Create n j) reached (Is.Created x))) t
    → Readies me h at → MayHold at j
    → Is.Created x ≡ (create (state_of h) t n j (job_at h n)).answer
    → Holds me (next h t (Asked y (Of.Create n j) reached (Is.Created x))) at
    (record { job = ref n x.uid; found = made x j })
created_fact me h t x y at n j true r f w a m e = record {
  base = base_kept w at a.base;
  its = λ o. at_kept f w at [] a.base o (a.its o);
  held_fact = record {
    was = inl (create_at (state_of h) t x n j (job_at h n) e);
    uid = refl;
    held = m.held;
    owner = m.owner;
  };
  for_fact = record { owner = m.owner; policy = m.policy; time = m.time };
  alone = held_alone at.cron.policy at.alive m.alone;
}
created_fact me h t x y at n j false r f w a m e = absurd (cc r)

-- For tidied_fact: what is known of the CronJob holds of its tidied status.
tidied_at : (me : List ℕ) (g : List Told) (at : At) (w : Tidy) (v : List ℕ)
    → OldCron g at.name (with_tidy w v at.cron)
    → Readies me g at → Readies me g (has_tidied at w v)
tidied_at me g at w v old a = record {
  base = record { cron = old; owned = a.base.owned };
  its = λ m. let b = a.its m in record {
    known = b.known;
    settled = b.settled;
    alive = λ r i. let k = b.alive r i in record { claim = k.claim; is = k.is; owner = k.owner; time = k.time };
    claimed = λ r i. absurd i;
  };
}

-- What a sync knows after a status without its dead was taken.
tidied_fact : (me : List ℕ) (h : List Told) (t : Stamp) (y : ℕ) (at : At) (w : Tidy) (v : List ℕ) (reached : Bool)
    → reached ≡ true → Inv me h → Grows me h (next h t (Asked y (Of.Tidy w) reached (Is.Written v))) t
    → Readies me h at → MayTidy at w
    → Is.Written v ≡ (tidy (state_of h) t w (cron_at h w.name)).answer
    → Readies me (next h t (Asked y (Of.Tidy w) reached (Is.Written v))) (has_tidied at w v)
tidied_fact me h t y at w v true r f grows a m e =
    let g = next h t (Asked y (Of.Tidy w) true (Is.Written v)) in
    let z = tidy_at (state_of h) t w v (cron_at h w.name) e in
    let was : cron_at h at.name ≡ Some z.cron = subst (λ (q : List ℕ). cron_at h q ≡ Some z.cron) m.name z.was in
    let same : z.cron ≡ at.cron = same_read f at a.base z.cron was (z.version ∙ m.version) in
    let now : cron_at g at.name ≡ Some (with_tidy w v z.cron) =
    subst (λ (q : List ℕ). cron_at g q ≡ Some (with_tidy w v z.cron)) m.name z.now in
    tidied_at me g at w v (inl (subst (λ (c : Cron). cron_at g at.name
    ≡ Some (with_tidy w v c)) same now))
    (ready_kept f grows at a)
tidied_fact me h t y at w v false r f grows a m e = absurd (cc r)

-- A row that tests as garbage is.
pub garbage_row : (h : List Told) (c : Cron) (x : Row Job) → OldJob h x.name x.object → is_garbage c x ≡ true
    → GarbageFact h c (ref_of x)
garbage_row h c x old e =
    let j = x.object in
    let a = both_true (is_same j.owner c.uid && j.held && nat_le j.time c.last) (not (has_ref c.active (ref_of x))) e in
    let b = both_true (is_same j.owner c.uid && j.held) (nat_le j.time c.last) a.0 in
    let d = both_true (is_same j.owner c.uid) j.held b.0 in
    record {
      job = j;
      was = old;
      uid = refl;
      owner = same_true j.owner c.uid d.0;
      time = at_most j.time c.last b.1;
      absent = not_in c.active (ref_of x) (not_true (has_ref c.active (ref_of x)) a.1);
    }

-- A row that tests as garbage has this controller, and a time that isn't after the last one.
pub garbage_says : (c : Cron) (x : Row Job) → is_garbage c x ≡ true
    → (x.object.owner ≡ c.uid) × (x.object.time ≤ c.last)
garbage_says c x e =
    let j = x.object in
    let a = both_true (is_same j.owner c.uid && j.held && nat_le j.time c.last) (not (has_ref c.active (ref_of x))) e in
    let b = both_true (is_same j.owner c.uid && j.held) (nat_le j.time c.last) a.0 in
    let d = both_true (is_same j.owner c.uid) j.held b.0 in
    (same_true j.owner c.uid d.0, at_most j.time c.last b.1)

-- What is picked as garbage is.
garbage_fact : (h : List Told) (c : Cron) (rows : List (Row Job)) → AreOld h rows → (r : Ref)
    → Picked (is_garbage c) rows r → GarbageFact h c r
garbage_fact h c rows old r p =
    subst (GarbageFact h c) (sym p.is) (garbage_row h c p.row (old p.row p.among) p.passes)

-- What is picked as finished is.
finished_fact : (h : List Told) (c : Cron) (rows : List (Row Job)) → AreOld h rows → (r : Ref)
    → Picked (is_finished c) rows r → FinishedFact h c r
finished_fact h c rows old r p =
    let j = p.row.object in
    let a = both_true (is_same j.owner c.uid) j.finished p.passes in
    subst (FinishedFact h c) (sym p.is) (record {
      job = j;
      was = old p.row p.among;
      uid = refl;
      owner = same_true j.owner c.uid a.0;
      finished = a.1;
    })

-- What a sync knows of the Jobs that it listed.
listed_fact : (me : List ℕ) (h : List Told) (at : At) (rows : List (Row Job)) → Readies me h at → AreOld h rows
    → Tidies me h at (refs_where (is_garbage at.cron) rows) (refs_where (is_finished at.cron) rows)
listed_fact me h at rows a old = record {
  base = a.base;
  its = a.its;
  garbage = λ r i. garbage_fact h at.cron rows old r (picked (is_garbage at.cron) rows r i);
  finished = λ r i. finished_fact h at.cron rows old r (picked (is_finished at.cron) rows r i);
}

-- After a call of a sync at which no Job is held.
next_ready : (me : List ℕ) (h : List Told) (t : Stamp) (y : ℕ) (at : At) → Inv me h → Readies me h at → (call : Call)
    → MayReady at call → (reached : Bool) (a : Answer) → IsAnswer h t call reached a
    → Grows me h (next h t (Asked y call reached a)) t
    → SyncFact me (next h t (Asked y call reached a)) (from_ready at call a)
next_ready me h t y at f l (Of.GetJob n) m reached (Is.Job o) k w =
    sync_kept f w (adopted at n o) (adopted_fact me h at n o l (got_job k))
next_ready me h t y at f l (Of.Create n j) m reached (Is.Created x) k w =
    let s = by_server (λ s. refl) tt k in
    created_fact me h t x y at n j reached s.came f w l m s.is
next_ready me h t y at f l (Of.Create n j) m reached Is.Refused k w = ready_kept f w at l
next_ready me h t y at f l (Of.Tidy x) m reached (Is.Written v) k w =
    let s = by_server (λ s. refl) tt k in
    tidied_fact me h t y at x v reached s.came f w l m s.is
next_ready me h t y at f l Of.ListJobs m reached (Is.Jobs rows) k w =
    tidy_kept f w at (refs_where (is_garbage at.cron) rows) (refs_where (is_finished at.cron) rows)
    (listed_fact me h at rows l (listed_old k))
next_ready me h t y at f l call m reached a k w = tt

-- ---- the claim

-- Two texts that are equal test so.
takes_is : (u v : List ℕ) (c : Cron) → c.uid ≡ u → c.version ≡ v → takes u v c ≡ true
takes_is u v c a b = ap (λ (z : Bool). z && is_same c.version v) (same_is c.uid u a) ∙ same_is c.version v b

-- A claim that the server took.
pub accepted_by : {me : List ℕ} {h : List Told} → Inv me h → (at : At) (x : Held) (w : Claim) → Holds me h at x
    → MayClaim at x w → (c : Cron) → cron_at h w.name ≡ Some c → c.uid ≡ w.uid → c.version ≡ w.version
    → Accepted me h at x w
accepted_by {me} {h} f at x w a m c is u v =
    let same : c ≡ at.cron = same_read f at a.base c (subst (λ (z : List ℕ). cron_at h z ≡ Some c) m.name is)
    (v ∙ m.version) in
    record {
      fact = a;
      may = m;
      stands = subst (λ (z : Cron). cron_at h w.name ≡ Some z) same is;
      takes_it = subst (λ (z : Cron). takes w.uid w.version z ≡ true) same (takes_is w.uid w.version c u v);
    }

-- What a sync knows after its claim was taken.
after_claim : (me : List ℕ) (h : List Told) (t : Stamp) (y : ℕ) (at : At) (x : Held) (w : Claim) (v : List ℕ)
    (reached : Bool) → reached ≡ true → IsFresh h t → Inv me h → Holds me h at x → MayClaim at x w
    → Is.Written v ≡ (claim (state_of h) t w (cron_at h w.name)).answer
    → Commits me (next h t (Asked y (Of.Claim w) reached (Is.Written v))) (has_claimed at w v) x
    (drops_of x.found.policy at.alive)
after_claim me h t y at x w v true r fresh f a m e =
    let g = next h t (Asked y (Of.Claim w) true (Is.Written v)) in
    let z = claim_at (state_of h) t w v (cron_at h w.name) e in
    let k = accepted_by f at x w a m z.cron z.was z.uid z.version in
    let same : Some z.cron ≡ Some at.cron = sym z.was ∙ k.stands in
    let one : z.cron ≡ at.cron = cc in
    let now : cron_at g at.name ≡ Some (with_claim w v z.cron) =
    subst (λ (q : List ℕ). cron_at g q ≡ Some (with_claim w v z.cron)) m.name
    z.now in
    claimed_fact f k t y (Is.Written v) fresh v
    (inl (subst (λ (c : Cron). cron_at g at.name ≡ Some (with_claim w v c))
    one now))
after_claim me h t y at x w v false r fresh f a m e = absurd (cc r)

-- After a call of a sync that holds a Job.
next_holding : (me : List ℕ) (h : List Told) (t : Stamp) (y : ℕ) (at : At) (x : Held) → IsFresh h t → Inv me h
    → Holds me h at x → (call : Call) → MayHolding at x call → (reached : Bool) (a : Answer)
    → IsAnswer h t call reached a → Grows me h (next h t (Asked y call reached a)) t
    → SyncFact me (next h t (Asked y call reached a)) (from_holding at x call a)
next_holding me h t y at x fresh f l (Of.Claim w) m reached (Is.Written v) k g =
    let s = by_server (λ s. refl) tt k in
    after_claim me h t y at x w v reached s.came fresh f l m s.is
next_holding me h t y at x fresh f l (Of.Claim w) m reached a k g = tt
next_holding me h t y at x fresh f l call m reached a k g =
    next_ready me h t y at f (record { base = l.base; its = l.its }) call m reached a k g

-- ---- deletions before a start, and the start

-- After a DELETE by uid its Job is gone or leaving.
leaves_after : (h : List Told) (t : Stamp) (y : ℕ) (r : Ref) (reached : Bool) (a : Answer) → reached ≡ true
    → Leaving (next h t (Asked y (Of.Delete r) reached a)) r
leaves_after h t y r true a e = λ j at u.
    second_true j.finished j.deleting (delete_removes (state_of h) t r (look (state_of h).jobs r) refl j at u)
leaves_after h t y r false a e = absurd (cc e)

module _ {me : List ℕ} {h g : List Told} {t : Stamp} where
  -- One Job less is to be deleted.
  one_less : Inv me h → Grows me h g t → (at : At) (x : Held) (d : Ref) (ds : List Ref) → Commits me h at x (d ∷ ds)
      → Leaving g d → Commits me g at x ds
  one_less f w at x d ds l left = record {
    base = base_kept w at l.base;
    its = λ m. let q = l.its m in record {
      at_fact = at_kept f w at (x.job ∷ []) l.base m q.at_fact;
      drops = λ p r k is o low. by_place r (drops_kept f w at x (d ∷ ds) l.base m (q.drops p) r k is o low);
      earlier = λ r i. earlier_kept w r x.job (q.earlier r (inr i));
    };
    held_fact = held_kept w at.cron.uid x l.held_fact;
    among = λ r i. l.among r (inr i);
    replaces = λ r i. l.replaces r (inr i);
  }
    where
      by_place : (r : Ref) → (r ≡ x.job) ⊎ (IsIn r (d ∷ ds) ⊎ Leaving g r) → (r ≡ x.job) ⊎ (IsIn r ds ⊎ Leaving g r)
      by_place r (inl e) = inl e
      by_place r (inr (inl (inl e))) = inr (inr (subst (Leaving g) (sym e) left))
      by_place r (inr (inl (inr i))) = inr (inl i)
      by_place r (inr (inr a)) = inr (inr a)

-- After a call of a sync that has Jobs to delete before a start.
next_dropping : (me : List ℕ) (h : List Told) (t : Stamp) (y : ℕ) (at : At) (x : Held) (d : Ref) (ds : List Ref)
    → Inv me h → Commits me h at x (d ∷ ds) → (call : Call) → MayDrop at x d call → (reached : Bool) (a : Answer)
    → IsAnswer h t call reached a → Grows me h (next h t (Asked y call reached a)) t
    → SyncFact me (next h t (Asked y call reached a)) (from_dropping at x ds call a)
next_dropping me h t y at x d ds f l (Of.Delete r) m reached Is.Deleted k w =
    let s = by_server (λ s. refl) tt k in
    one_less f w at x d ds l (subst (Leaving (next h t (Asked y (Of.Delete r) reached Is.Deleted))) m
    (leaves_after h t y r reached Is.Deleted s.came))
next_dropping me h t y at x d ds f l call m reached a k w = tt

-- After a start that was taken its Job can't be started again.
settles_after : (h : List Told) (t : Stamp) (y : ℕ) (r : Ref) (reached : Bool) (v : List ℕ) → reached ≡ true
    → Is.Written v ≡ (start (state_of h) t r (look (state_of h).jobs r)).answer
    → Settled (next h t (Asked y (Of.Start r) reached (Is.Written v))) r
settles_after h t y r true v e g = λ j at u.
    let n = start_taken h t r v (look (state_of h).jobs r) g j at in
    is_false (waits j) (λ w. absurd (cc (is_held j w, n)))
settles_after h t y r false v e g = absurd (cc e)

-- For started_fact: where each claimed Job is, once this one was started.
known_started : (g : List Told) (at : At) (x : Held) (r : Ref) → IsIn r (x.job ∷ []) ⊎ (IsIn r at.alive ⊎ Dead g r)
    → IsIn r (drops_of x.found.policy at.alive) ⊎ (IsIn r (has_started at x).alive ⊎ Dead g r)
known_started g at x r (inl (inl e)) = inr (inl (subst (λ (z : Ref). IsIn z (has_started at x).alive) (sym e)
    (in_end x.job (kept_of x.found.policy at.alive))))
known_started g at x r (inl (inr n)) = absurd n
known_started g at x r (inr (inr d)) = inr (inr d)
known_started g at x r (inr (inl i)) = by_place (kept_or_dropped x.found.policy at.alive r i)
  where
    by_place : IsIn r (kept_of x.found.policy at.alive) ⊎ IsIn r (drops_of x.found.policy at.alive)
        → IsIn r (drops_of x.found.policy at.alive) ⊎ (IsIn r (has_started at x).alive ⊎ Dead g r)
    by_place (inl k) = inr (inl (in_front r (kept_of x.found.policy at.alive) (x.job ∷ []) k))
    by_place (inr k) = inl k

-- What is known of the Jobs of status.active once one more was started.
started_fact : (g : List Told) (at : At) (x : Held) → AtFact g at (x.job ∷ []) → Settled g x.job
    → AtFact g (has_started at x) (drops_of x.found.policy at.alive)
started_fact g at x a s = record {
  known = λ r k is o l. known_started g at x r (a.known r k is o l);
  settled = each_end (Settled g) (kept_of x.found.policy at.alive) x.job
      (λ r i. a.settled r (kept_among x.found.policy at.alive r i)) s;
  alive = each_end (IsClaimedFor g at.cron) (kept_of x.found.policy at.alive) x.job
      (λ r i. a.alive r (kept_among x.found.policy at.alive r i)) (a.claimed x.job (inl refl));
  claimed = λ r i. a.alive r (drops_among x.found.policy at.alive r i);
}

-- After a call of a sync that has a Job to start.
next_starting : (me : List ℕ) (h : List Told) (t : Stamp) (y : ℕ) (at : At) (x : Held) → Inv me h
    → Commits me h at x [] → (call : Call) → MayStart at x call → (reached : Bool) (a : Answer)
    → IsAnswer h t call reached a → Grows me h (next h t (Asked y call reached a)) t
    → SyncFact me (next h t (Asked y call reached a)) (from_starting at x call a)
next_starting me h t y at x f l (Of.Start r) m reached (Is.Written v) k w =
    let s = by_server (λ s. refl) tt k in
    let g = next h t (Asked y (Of.Start r) reached (Is.Written v)) in
    let kept = held_kept w at.cron.uid x l.held_fact in
    go_on_fact me g (has_started at x) (drops_of x.found.policy at.alive) None (record {
      base = record {
        cron = w.old_cron at.name at.cron l.base.cron;
        owned = each_end (Owned g at.cron.uid) (kept_of x.found.policy at.alive) x.job
            (λ q i. owned_kept w q at.cron.uid (l.base.owned q (kept_among x.found.policy at.alive q i)))
            (record { job = x.found; was = kept.was; uid = kept.uid; owner = kept.owner });
      };
      held_fact = tt;
      its = λ o. record {
        at_fact = started_fact g at x (at_kept f w at (x.job ∷ []) l.base o (l.its o).at_fact)
            (subst (Settled g) m (settles_after h t y r reached v s.came s.is));
        order = tt;
      };
    })
next_starting me h t y at x f l call m reached a k w = tt

-- Fewer Jobs are to be deleted.
one_cleared : (me : List ℕ) (g : List Told) (at : At) (gs fs : List Ref) (q : Ref) → Tidies me g at gs fs
    → Tidies me g at (without_ref q gs) (without_ref q fs)
one_cleared me g at gs fs q a = record {
  base = a.base;
  its = a.its;
  garbage = λ r i. a.garbage r (fewer q r gs i);
  finished = λ r i. a.finished r (fewer q r fs i);
}

-- After a deletion.
next_tidying : (me : List ℕ) (g : List Told) (at : At) (gs fs : List Ref) → Tidies me g at gs fs
    → (call : Call) (a : Answer) → SyncFact me g (from_tidying at gs fs call a)
next_tidying me g at gs fs k (Of.Delete r) Is.Deleted = one_cleared me g at gs fs r k
next_tidying me g at gs fs k (Of.Delete r) Is.Refused = one_cleared me g at gs fs r k
next_tidying me g at gs fs k call a = tt

-- What a sync knows after any call that it may make.
pub next_fact : (me : List ℕ) (h : List Told) (t : Stamp) (y : ℕ) (s : Sync) → IsFresh h t → Inv me h
    → SyncFact me h s → (call : Call) → May s call → (reached : Bool) (a : Answer) → IsAnswer h t call reached a
    → Grows me h (next h t (Asked y call reached a)) t
    → SyncFact me (next h t (Asked y call reached a)) (advanced s call a)
next_fact me h t y Fresh fresh f l call m reached a k w = next_fresh f w call m reached a k
next_fact me h t y (Looking at [] held) fresh f l call m reached a k w = absurd m
next_fact me h t y (Looking at (r ∷ rs) held) fresh f l call m reached a k w =
    next_looking f w at r rs held l call m reached a k
next_fact me h t y (Ready at) fresh f l call m reached a k w = next_ready me h t y at f l call m reached a k w
next_fact me h t y (Holding at x) fresh f l call m reached a k w =
    next_holding me h t y at x fresh f l call m reached a k w
next_fact me h t y (Starting at x []) fresh f l call m reached a k w =
    next_starting me h t y at x f l call m reached a k w
next_fact me h t y (Starting at x (d ∷ ds)) fresh f l call m reached a k w =
    next_dropping me h t y at x d ds f l call m reached a k w
next_fact me h t y (Tidying at gs fs) fresh f l call m reached a k w =
    next_tidying me (next h t (Asked y call reached a)) at gs fs (tidy_kept f w at gs fs l) call a
next_fact me h t y Gone fresh f l call m reached a k w = absurd m
next_fact me h t y Over fresh f l call m reached a k w = absurd m

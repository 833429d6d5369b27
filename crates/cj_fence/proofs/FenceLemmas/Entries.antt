-- Every entry keeps all facts, and what it starts and claims rests on them.
use Rattle.std.proofs.Common.{◌≡◌, ◌≢◌, ◌⊎◌, inl, inr, ℕ, ◌<◌, ◌==◌, Bool, true, false, List, [], ◌∷◌, Option, Some, None, refl, sym, ap, subst, ◌∙◌, arith}
use Rattle.std.specs.Prelude.{IfSome, if◌then◌else◌}
use Rattle.std.proofs.lemmas.Bool.Decides.{nat_tests}
use Rattle.cj_fence.specs.declared.policy.Policy.TheVariants.{Replace}
use Rattle.cj_fence.specs.declared.refs.Ref.{Ref}
use Rattle.cj_fence.specs.declared.objects.Cron.{Cron}
use Rattle.cj_fence.specs.declared.objects.Job.{Job}
use Rattle.cj_fence.specs.declared.cluster.Cluster.{Cluster}
use Rattle.cj_fence.specs.declared.cluster.Served.{Served}
use Rattle.cj_fence.specs.declared.call.Claim.{Claim}
use Rattle.cj_fence.specs.declared.call.Tidy.{Tidy}
use Rattle.cj_fence.specs.declared.call.Call.{Call}
use Rattle.cj_fence.specs.declared.call.Call.TheVariants as Of
use Rattle.cj_fence.specs.declared.call.Write.{Write}
use Rattle.cj_fence.specs.declared.call.Write.TheVariants as By
use Rattle.cj_fence.specs.declared.answer.Answer.{Answer}
use Rattle.cj_fence.specs.declared.answer.Answer.TheVariants as Is
use Rattle.cj_fence.specs.declared.answer.Stamp.{Stamp}
use Rattle.cj_fence.specs.declared.sync.At.{At}
use Rattle.cj_fence.specs.declared.sync.Held.{Held}
use Rattle.cj_fence.specs.declared.sync.Sync.{Sync}
use Rattle.cj_fence.specs.declared.sync.Sync.TheVariants.{Fresh, Looking, Ready, Holding, Starting, Tidying, Gone, Over}
use Rattle.cj_fence.specs.Texts.{is_same}
use Rattle.cj_fence.specs.Tables.{find, without, put}
use Rattle.cj_fence.specs.Objects.{is_ref, look}
use Rattle.cj_fence.specs.Server.{says, refuses, puts_cron, puts_job, create, takes, claimed, claim, tidied, tidy, released, start, marked, mark, delete, delete_where, expire_where, served, put_cron, written}
use Rattle.cj_fence.specs.Protocol.{seen_of, advanced, MayTidy, MayClaim, May}
use Rattle.cj_fence.specs.History.{Deed, Asked, Wrote, Told, state_of, GaveUid, IsFresh, IsAnswer, Claimed, claim_in, claims, claim_of, starts, started, own_after, own}
use Rattle.cj_fence.specs.Others.{KeepsCron, KeepsTo, DeedKeepsTo}
use Rattle.cj_fence.proofs.FenceLemmas.Basics.{IsIn, both_true, one_true, same_true, put_at, without_at}
use Rattle.cj_fence.proofs.FenceLemmas.Facts.{job_at, cron_at, Dead, Leaving, Owned, StatusFact, NowFact, HeldFact, Readies, Holds, Commits, SyncFact, Inv}
use Rattle.cj_fence.proofs.FenceLemmas.Grows.{IsStarting, Grows, cron_is_old, owned_own, owned_one, owned_before, for_kept, sync_kept}
use Rattle.cj_fence.proofs.FenceLemmas.Kept.{FromUid, NewStatus, CronStep, Change, still_named, gave_of}
use Rattle.cj_fence.proofs.FenceLemmas.Moves.{next, MadeHeld, MakesHeld, call_starts, write_starts, claim_stays, ClaimsNone, no_claim, plain_grows}
use Rattle.cj_fence.proofs.FenceLemmas.Claims.{Accepted, claims_it, unclaimed, claim_grows, claim_crons, claim_claims, record_of}
use Rattle.cj_fence.proofs.FenceLemmas.Nexts.{same_read, accepted_by, next_fact}

-- ---- what an entry starts and claims

-- a Job of the CronJob that is started: it was claimed, and under Replace all that was claimed before is leaving
pub record StartFact (me : List ℕ) (h : List Told) (r : Ref) : Type 0 where
  pub starts_it : IsStarting h r
  pub claim : Claimed
  pub is : claim_of h r ≡ Some claim
  pub owner : claim.owner ≡ me
  pub leaves : claim.policy ≡ Replace → (x : Ref) (m : Claimed) → claim_of h x ≡ Some m → m.owner ≡ claim.owner
      → m.time < claim.time → Leaving h x

-- a claim for the CronJob: its Job wasn't claimed before, and its time is later
pub record ClaimsFact (h : List Told) (r : Ref) (k : Claimed) : Type 0 where
  pub first : claim_of h r ≡ None
  pub rises : (x : Ref) (m : Claimed) → claim_of h x ≡ Some m → m.owner ≡ k.owner → m.time < k.time

-- what each start of a Job of the CronJob rests on
abbrev pub StartsRest : List ℕ → List Told → Stamp → Deed → Type 0
StartsRest me h t d = (r : Ref) → starts (state_of h) t d r ≡ true → Owned h me r → StartFact me h r

pub record Rests (me : List ℕ) (h : List Told) (t : Stamp) (d : Deed) : Type 0 where
  pub starts_fact : StartsRest me h t d
  pub claims_fact : (r : Ref) (k : Claimed) → claims (state_of h) d r ≡ Some k → k.owner ≡ me → ClaimsFact h r k

-- all facts after an entry
pub record Kept (me : List ℕ) (h : List Told) (t : Stamp) (d : Deed) : Type 0 where
  pub change : Change me h (next h t d) t
  pub rests : Rests me h t d

-- ---- an entry that claims nothing

-- a CronJob that is written at an entry, by what was claimed before
pub record Rewritten (me : List ℕ) (h : List Told) (t : Stamp) (k n : List ℕ) (c : Cron) : Type 0 where
  pub name : n ≡ k
  pub version : c.version ≡ t.version
  pub uid : FromUid me h t n c
  pub its : c.uid ≡ me → NewStatus h c

abbrev pub Cronic : List ℕ → List Told → Stamp → List ℕ → List ℕ → Cron → Type 0
Cronic me h t k n c = (cron_at h n ≡ Some c) ⊎ Rewritten me h t k n c

-- A CronJob after an entry that claims nothing, by what was claimed before it.
plain_cron : {me : List ℕ} (h : List Told) (t : Stamp) (d : Deed) → Inv me h → Grows me h (next h t d) t
    → ClaimsNone h d → (k n : List ℕ) (c : Cron) → Cronic me h t k n c → CronStep me h (next h t d) t k n c
plain_cron h t d f w none k n c (inl e) = inl (record {
  was = e;
  claims = λ m r q is o. no_claim h t d none r q is;
})
plain_cron h t d f w none k n c (inr a) = inr (record {
  name = a.name;
  version = a.version;
  uid = a.uid;
  its = λ m. let b = a.its m in record {
    named = λ r q is o l. let was = no_claim h t d none r q is in
        still_named f w c r q was (o ∙ m) (b.named r q was o l);
    claimed = λ r i. for_kept w c r (b.claimed r i);
    claims = λ r q is o. b.claims r q (no_claim h t d none r q is) o;
  };
})

-- Whatever of the CronJob was started by now was claimed.
plain_starts : {me : List ℕ} (h : List Told) (t : Stamp) (d : Deed) → Inv me h → Grows me h (next h t d) t
    → StartsRest me h t d → (r : Ref) → started (next h t d) r ≡ true → Owned (next h t d) me r
    → (k : Claimed) × (claim_of (next h t d) r ≡ Some k)
plain_starts {me} h t d f w s r e now = by_part (one_true (starts (state_of h) t d r) (started h r) e)
  where
    own : Owned h me r
    own = owned_before w r (gave_of f r (w.starts r e)) now

    by_part : (starts (state_of h) t d r ≡ true) ⊎ (started h r ≡ true)
        → (k : Claimed) × (claim_of (next h t d) r ≡ Some k)
    by_part (inl a) =
        let k = s r a own in (k.claim, claim_stays (claim_of h r) (claims (state_of h) d r) k.claim k.is)
    by_part (inr b) =
        let k = f.started r b own in (k.0, claim_stays (claim_of h r) (claims (state_of h) d r) k.0 k.1)

-- An entry that claims nothing keeps all facts.
pub plain_kept : {me : List ℕ} (h : List Told) (t : Stamp) (d : Deed) → Inv me h → IsFresh h t
    → DeedKeepsTo me (state_of h) d → MakesHeld d → ClaimsNone h d → (k : List ℕ)
    → ((n : List ℕ) (c : Cron) → cron_at (next h t d) n ≡ Some c → Cronic me h t k n c) → StartsRest me h t d
    → (Grows me h (next h t d) t → (y : ℕ) → SyncFact me (next h t d) (seen_of (own_after y d (own y h))))
    → Kept me h t d
plain_kept {me} h t d f fresh keeps m none k crons s syncs =
    let w = plain_grows me h t d fresh keeps m none in
    record {
      change = record {
        grows = w;
        name = k;
        crons = λ n c at. plain_cron h t d f w none k n c (crons n c at);
        it = record { name = []; uid = [] };
        claims = λ r q is. inl (no_claim h t d none r q is);
        starts = plain_starts h t d f w s;
        syncs = syncs w;
      };
      rests = record {
        starts_fact = s;
        claims_fact = λ r q is o. absurd (cc (none r, is));
      };
    }

-- ---- others' writes

-- For put_cronic: a CronJob that stood.
kept_cron : {me : List ℕ} (h : List Told) (t : Stamp) (n : List ℕ) (c old : Cron) → Inv me h → cron_at h n ≡ Some old
    → (old.uid ≡ me → KeepsCron c old)
    → Rewritten me h t n n (record c { uid = old.uid; version = t.version })
kept_cron {me} h t n c old f at keeps = record {
  name = refl;
  version = refl;
  uid = inr (old, at, refl, λ o. let e = (keeps o).last in omega arith);
  its = λ o. its (keeps o) (f.status n old (cron_is_old h n old at) o) (f.now n old at o);
}
  where
    its : KeepsCron c old → StatusFact h old → NowFact h n old
        → NewStatus h (record c { uid = old.uid; version = t.version })
    its k a b = record {
      named = λ r m is o l. let e = k.last in subst (λ (z : List Ref). IsIn r z ⊎ Dead h r) (sym k.active)
          (a.named r m is o (omega arith));
      claimed = λ r i. let x = a.claimed r (subst (λ (z : List Ref). IsIn r z) k.active i) in let e = k.last in let l
          = x.time in
          record { claim = x.claim; is = x.is; owner = x.owner; time = omega arith };
      claims = λ r m is o. let e = k.last in let l = b.claims r m is o in omega arith;
    }

-- For put_cronic: a new CronJob.
fresh_cron : {me : List ℕ} (h : List Told) (t : Stamp) (n : List ℕ) (c : Cron) → Inv me h → IsFresh h t
    → Rewritten me h t n n (record c { uid = t.uid; version = t.version; last = 0; active = []; success = 0 })
fresh_cron h t n c f fresh = record {
  name = refl;
  version = refl;
  uid = inl refl;
  its = λ q. record {
    named = λ r m is o l. absurd (none r m is o);
    claimed = λ r i. absurd i;
    claims = λ r m is o. absurd (none r m is o);
  };
}
  where
    none : (r : Ref) (m : Claimed) → claim_of h r ≡ Some m → m.owner ≡ t.uid → ⊥
    none r m is o = fresh.uid (subst (GaveUid h) o (f.claims r m is).gave)

-- The CronJob that somebody writes, where one stood and where none did.
put_cronic : {me : List ℕ} (h : List Told) (t : Stamp) (n : List ℕ) (c : Cron) (o : Option Cron) → Inv me h
    → IsFresh h t → cron_at h n ≡ o → IfSome o (λ old. old.uid ≡ me → KeepsCron c old)
    → Rewritten me h t n n (put_cron t c o)
put_cronic h t n c None f fresh e k = fresh_cron h t n c f fresh
put_cronic h t n c (Some old) f fresh e k = kept_cron h t n c old f e k

-- The CronJobs after a put.
crons_put : {me : List ℕ} (h : List Told) (t : Stamp) (n : List ℕ) (x : Cron) → Rewritten me h t n n x
    → (m : List ℕ) (c : Cron)
    → find m (put n x (state_of h).crons) ≡ Some c → Cronic me h t n m c
crons_put {me} h t n x a m c at = by_name (put_at n m x (state_of h).crons c at)
  where
    by_name : ((n ≡ m) × (x ≡ c)) ⊎ ((n ≢ m) × (cron_at h m ≡ Some c)) → Cronic me h t n m c
    by_name (inl e) =
        let b = subst (λ (z : List ℕ). Rewritten me h t n z x) e.0 a in
        inr (subst (Rewritten me h t n m) e.1 b)
    by_name (inr e) = inl e.1

-- The name that a write of others is about.
write_name : Write → List ℕ
write_name (By.PutCron n c) = n
write_name (By.DropCron n) = n
write_name (By.PutJob n j) = n
write_name (By.DropJob n) = n

-- The CronJobs after a write of others.
crons_written : {me : List ℕ} (h : List Told) (t : Stamp) (w : Write) → Inv me h → IsFresh h t
    → KeepsTo me (state_of h) w
    → (n : List ℕ) (c : Cron) → find n (written (state_of h) t w).crons ≡ Some c → Cronic me h t (write_name w) n c
unfolding write_name
crons_written h t (By.PutCron n c) f fresh k =
    crons_put h t n (put_cron t c (cron_at h n)) (put_cronic h t n c (cron_at h n) f fresh refl k)
crons_written h t (By.DropCron n) f fresh k = λ m c at. inl (without_at n m (state_of h).crons c at).1
crons_written h t (By.PutJob [] j) f fresh k = λ m c at. inl at
crons_written h t (By.PutJob (b ∷ n) j) f fresh k = λ m c at. inl at
crons_written h t (By.DropJob n) f fresh k = λ m c at. inl at

-- A write of somebody else keeps all facts.
pub wrote_kept : {me : List ℕ} (h : List Told) (t : Stamp) (w : Write) → Inv me h → IsFresh h t
    → KeepsTo me (state_of h) w
    → Kept me h t (Wrote w)
wrote_kept {me} h t w f fresh k =
    plain_kept h t (Wrote w) f fresh k tt (λ r. refl) (write_name w) (crons_written h t w f fresh k)
    (λ r e own. absurd (write_starts me h t w k r (owned_own f r own).stands e))
    (λ grows y. sync_kept f grows (seen_of (own y h)) (f.syncs y))

-- ---- calls of syncs

-- Numbers that test as one are one.
pub same_number : (x y : ℕ) → (x == y) ≡ true → x ≡ y
same_number x y e = grind (arith, nat_tests)

-- What each sync knows after a call of one of them.
asked_syncs : {me : List ℕ} (h : List Told) (t : Stamp) (x : ℕ) (call : Call) (reached : Bool) (a : Answer) → Inv me h
    → Grows me h (next h t (Asked x call reached a)) t
    → SyncFact me (next h t (Asked x call reached a)) (advanced (seen_of (own x h)) call a) → (y : ℕ)
    → SyncFact me (next h t (Asked x call reached a)) (seen_of (own_after y (Asked x call reached a) (own y h)))
asked_syncs {me} h t x call reached a f w s y = by_test (x == y) refl
  where
    by_test : (b : Bool) → (x == y) ≡ b → SyncFact me (next h t (Asked x call reached a))
        (seen_of (if b then record { call = call; answer = a } ∷ own y h else own y h))
    by_test true e = subst (λ (z : ℕ). SyncFact me (next h t (Asked x call reached a))
        (advanced (seen_of (own z h)) call a))
        (same_number x y e) s
    by_test false e = sync_kept f w (seen_of (own y h)) (f.syncs y)

-- a call that leaves the CronJobs
abbrev pub LeavesCrons : List Told → Stamp → Call → Type 0
LeavesCrons h t call = (served (state_of h) t call).cluster.crons ≡ (state_of h).crons

-- For crons_after: whether it came to the server or not.
crons_same : {me : List ℕ} (h : List Told) (t : Stamp) (y : ℕ) (call : Call) (reached : Bool) (a : Answer)
    → LeavesCrons h t call
    → (n : List ℕ) (c : Cron) → cron_at (next h t (Asked y call reached a)) n ≡ Some c → Cronic me h t [] n c
crons_same h t y call true a e n c at = inl (ap (λ z. find n z) (sym e) ∙ at)
crons_same h t y call false a e n c at = inl at

-- A POST of a Job leaves the CronJobs.
pub crons_create : (s : Cluster) (t : Stamp) (n : List ℕ) (j : Job) (o : Option Job)
    → (create s t n j o).cluster.crons ≡ s.crons
crons_create s t [] j o = refl
crons_create s t (c ∷ n) j None = refl
crons_create s t (c ∷ n) j (Some old) = refl

-- Of two outcomes that leave the CronJobs, the one that a test picks does.
crons_if : (s : Cluster) (b : Bool) (x y : Served) → x.cluster.crons ≡ s.crons → y.cluster.crons ≡ s.crons
    → (if b then x else y).cluster.crons ≡ s.crons
crons_if s true x y f g = f
crons_if s false x y f g = g

-- A start leaves the CronJobs.
pub crons_start : (s : Cluster) (t : Stamp) (r : Ref) (o : Option Job) → (start s t r o).cluster.crons ≡ s.crons
crons_start s t r None = refl
crons_start s t r (Some j) = crons_if s j.held (puts_job s (Is.Written t.version) r.name (released t j)) (refuses s)
    refl refl

-- A mark leaves the CronJobs.
crons_mark : (s : Cluster) (t : Stamp) (r : Ref) (j : Job) → (mark s t r j).cluster.crons ≡ s.crons
crons_mark s t r j = crons_if s j.deleting (says s Is.Deleted) (puts_job s Is.Deleted r.name (marked t j)) refl refl

-- The deletion of a Job that stands leaves the CronJobs.
crons_delete : (s : Cluster) (t : Stamp) (r : Ref) (j : Job) → (delete s t r j).cluster.crons ≡ s.crons
crons_delete s t r j = crons_if s j.pinned (mark s t r j)
    (record { answer = Is.Deleted; cluster = record s { jobs = without r.name s.jobs } }) (crons_mark s t r j) refl

-- A DELETE by uid leaves the CronJobs.
pub crons_delete_where : (s : Cluster) (t : Stamp) (r : Ref) (o : Option Job)
    → (delete_where s t r o).cluster.crons ≡ s.crons
crons_delete_where s t r None = refl
crons_delete_where s t r (Some j) = crons_delete s t r j

-- A DELETE by uid and version leaves the CronJobs.
pub crons_expire : (s : Cluster) (t : Stamp) (r : Ref) (v : List ℕ) (o : Option Job)
    → (expire_where s t r v o).cluster.crons ≡ s.crons
crons_expire s t r v None = refl
crons_expire s t r v (Some j) = crons_if s (is_same j.version v) (delete s t r j) (refuses s) (crons_delete s t r j)
    refl

-- ---- a start

-- The policy of the claim of a Job of the CronJob is the Job's.
pub claim_policy : {me : List ℕ} {h : List Told} → Inv me h → (w : List ℕ) (x : Held) → HeldFact h w x → w ≡ me
    → (k : Claimed) → claim_of h x.job ≡ Some k → x.found.policy ≡ k.policy
claim_policy f w x a m k is =
    let c = f.claims x.job k is in
    ((f.jobs x.job.name x.found a.was).alike c.job c.was (c.uid ∙ sym a.uid) (a.owner ∙ m)).policy ∙ c.policy

-- For start_fact: a sync that may start a Job knows that all else that was claimed is leaving.
may_start : {me : List ℕ} {h : List Told} → Inv me h → (at : At) (x : Held) → Commits me h at x []
    → at.cron.uid ≡ me → IsStarting h x.job → StartFact me h x.job
may_start {me} {h} f at x a q s =
    let k = (a.its q).at_fact.claimed x.job (inl refl) in
    record {
      starts_it = s;
      claim = k.claim;
      is = k.is;
      owner = k.owner ∙ q;
      leaves = λ p r m is o l. leaves r m is l ((a.its q).drops
          (claim_policy f at.cron.uid x a.held_fact q k.claim k.is ∙ p) r m is (o ∙ k.owner)
          (let z = k.time in omega arith));
    }
  where
    leaves : (r : Ref) (m : Claimed) → claim_of h r ≡ Some m
        → m.time < ((a.its q).at_fact.claimed x.job (inl refl)).claim.time
        → (r ≡ x.job) ⊎ (IsIn r [] ⊎ Leaving h r) → Leaving h r
    leaves r m is l (inl e) =
        let k = (a.its q).at_fact.claimed x.job (inl refl) in
        let b : claim_of h x.job ≡ Some m = subst (λ (z : Ref). claim_of h z ≡ Some m) e is in
        let same : m ≡ k.claim = cc (sym b ∙ k.is) in
        let time : m.time ≡ k.claim.time = ap (λ (z : Claimed). z.time) same in
        absurd (omega arith)
    leaves r m is l (inr (inl n)) = absurd n
    leaves r m is l (inr (inr d)) = d

-- Whose the held Job of a sync was.
pub held_owned : (h : List Told) (w : List ℕ) (x : Held) → HeldFact h w x → Owned h w x.job
held_owned h w x a = record { job = x.found; was = a.was; uid = a.uid; owner = a.owner }

-- What a sync knows of a Job of the CronJob that it may start, and that waits.
start_fact : {me : List ℕ} {h : List Told} → Inv me h → (s : Sync) → SyncFact me h s → (r : Ref) → May s (Of.Start r)
    → IsStarting h r → Owned h me r → StartFact me h r
start_fact f Fresh a r m s o = absurd m
start_fact f (Looking at [] held) a r m s o = absurd m
start_fact f (Looking at (x ∷ rs) held) a r m s o = absurd m
start_fact f (Ready at) a r m s o = absurd m
start_fact f (Holding at x) a r m s o = absurd m
start_fact {me} {h} f (Starting at x []) a r m s o =
    let q = owned_one f x.job at.cron.uid (held_owned h at.cron.uid x a.held_fact) (subst (Owned h me) m o) in
    subst (StartFact me h) (sym m) (may_start f at x a q (subst (IsStarting h) m s))
start_fact f (Starting at x (d ∷ ds)) a r m s o = absurd m
start_fact f (Tidying at gs fs) a r m s o = absurd m
start_fact f Gone a r m s o = absurd m
start_fact f Over a r m s o = absurd m

-- A sync makes no Job but a held one.
made_held : (s : Sync) (call : Call) → May s call → MadeHeld call
made_held s (Of.Create n j) m = by_state s m
  where
    by_state : (s : Sync) → May s (Of.Create n j) → j.held ≡ true
    by_state Fresh m = absurd m
    by_state (Looking at [] held) m = absurd m
    by_state (Looking at (x ∷ rs) held) m = absurd m
    by_state (Ready at) m = m.held
    by_state (Holding at x) m = m.held
    by_state (Starting at x []) m = absurd m
    by_state (Starting at x (d ∷ ds)) m = absurd m
    by_state (Tidying at gs fs) m = absurd m
    by_state Gone m = absurd m
    by_state Over m = absurd m
made_held s call m = tt

-- What a sync's call starts it may start.
any_start : {me : List ℕ} (h : List Told) (t : Stamp) (y : ℕ) (call : Call) (reached : Bool) (a : Answer) → Inv me h
    → May (seen_of (own y h)) call → StartsRest me h t (Asked y call reached a)
any_start h t y call reached a f m r e =
    let k = call_starts h t y call reached a (made_held (seen_of (own y h)) call m) r e in
    start_fact f (seen_of (own y h)) (f.syncs y) r (subst (May (seen_of (own y h))) k.0 m) k.1

-- A call of a sync that neither claims nor writes a CronJob keeps all facts.
asked_kept : {me : List ℕ} (h : List Told) (t : Stamp) (y : ℕ) (call : Call) (reached : Bool) (a : Answer) → Inv me h
    → IsFresh h t
    → May (seen_of (own y h)) call → IsAnswer h t call reached a → ClaimsNone h (Asked y call reached a)
    → LeavesCrons h t call → Kept me h t (Asked y call reached a)
asked_kept {me} h t y call reached a f fresh m k none e =
    plain_kept h t (Asked y call reached a) f fresh tt (made_held (seen_of (own y h)) call m) none []
    (crons_same h t y call reached a e) (any_start h t y call reached a f m)
    (λ w. asked_syncs h t y call reached a f w
    (next_fact me h t y (seen_of (own y h)) fresh f (f.syncs y) call m reached a k w))

-- ---- a status without its dead

-- For tidy_cronic: the CronJob that stands is the one that the sync knows.
tidy_fact : {me : List ℕ} (h : List Told) (t : Stamp) (w : Tidy) (at : At) → Inv me h → Readies me h at → MayTidy at w
    → (c : Cron) → cron_at h w.name ≡ Some c → takes w.uid w.version c ≡ true
    → Rewritten me h t w.name w.name (tidied t w c)
tidy_fact {me} h t w at f a m c is ok =
    let z = both_true (is_same c.uid w.uid) (is_same c.version w.version) ok in
    let here : cron_at h at.name ≡ Some c = subst (λ (q : List ℕ). cron_at h q ≡ Some c) m.name is in
    let same : c ≡ at.cron = same_read f at a.base c here (same_true c.version w.version z.1 ∙ m.version) in
    let stands : cron_at h w.name ≡ Some at.cron = subst (λ (q : Cron). cron_at h w.name ≡ Some q) same is in
    subst (λ (q : Cron). Rewritten me h t w.name w.name (tidied t w q)) (sym same) (record {
      name = refl;
      version = refl;
      uid = inr (at.cron, stands, refl, λ o. omega arith);
      its = λ o. let b = a.its o in record {
        named = λ r k i q l. subst (λ (p : List Ref). IsIn r p ⊎ Dead h r) (sym m.active)
            (by_place r (b.known r k i q l));
        claimed = λ r i. let k = b.alive r (subst (λ (p : List Ref). IsIn r p) m.active i) in
            record { claim = k.claim; is = k.is; owner = k.owner; time = k.time };
        claims = (f.now w.name at.cron stands o).claims;
      };
    })
  where
    by_place : (r : Ref) → IsIn r [] ⊎ (IsIn r at.alive ⊎ Dead h r) → IsIn r at.alive ⊎ Dead h r
    by_place r (inl n) = absurd n
    by_place r (inr k) = k

-- The CronJobs after a status without its dead, by what stood.
tidy_cronic : {me : List ℕ} (h : List Told) (t : Stamp) (w : Tidy) (at : At) (o : Option Cron) → Inv me h
    → Readies me h at → MayTidy at w
    → cron_at h w.name ≡ o → (n : List ℕ) (c : Cron) → find n (tidy (state_of h) t w o).cluster.crons ≡ Some c
    → Cronic me h t w.name n c
tidy_cronic h t w at None f a m e n c is = inl is
tidy_cronic {me} h t w at (Some b) f a m e n c is = by_test (takes w.uid w.version b) refl is
  where
    by_test : (q : Bool) → takes w.uid w.version b ≡ q
        → find n (if q then puts_cron (state_of h) (Is.Written t.version) w.name (tidied t w b) else refuses
        (state_of h)).cluster.crons ≡ Some c
        → Cronic me h t w.name n c
    by_test true k g = crons_put h t w.name (tidied t w b) (tidy_fact h t w at f a m b e k) n c g
    by_test false k g = inl g

-- The CronJobs after such a status, whether it reached the server or not.
tidy_crons : {me : List ℕ} (h : List Told) (t : Stamp) (y : ℕ) (w : Tidy) (reached : Bool) (a : Answer) → Inv me h
    → (at : At)
    → Readies me h at → MayTidy at w → (n : List ℕ) (c : Cron)
    → cron_at (next h t (Asked y (Of.Tidy w) reached a)) n ≡ Some c → Cronic me h t w.name n c
tidy_crons h t y w true a f at k m n c is = tidy_cronic h t w at (cron_at h w.name) f k m refl n c is
tidy_crons h t y w false a f at k m n c is = inl is

-- Of a sync that may tidy.
tidy_by : {me : List ℕ} (h : List Told) (t : Stamp) (y : ℕ) (w : Tidy) (reached : Bool) (a : Answer) → Inv me h
    → (s : Sync)
    → SyncFact me h s → May s (Of.Tidy w) → (n : List ℕ) (c : Cron)
    → cron_at (next h t (Asked y (Of.Tidy w) reached a)) n ≡ Some c → Cronic me h t w.name n c
tidy_by h t y w reached a f Fresh k m = absurd m
tidy_by h t y w reached a f (Looking at [] held) k m = absurd m
tidy_by h t y w reached a f (Looking at (x ∷ rs) held) k m = absurd m
tidy_by h t y w reached a f (Ready at) k m = tidy_crons h t y w reached a f at k m
tidy_by h t y w reached a f (Holding at x) k m =
    tidy_crons h t y w reached a f at (record { base = k.base; its = k.its }) m
tidy_by h t y w reached a f (Starting at x []) k m = absurd m
tidy_by h t y w reached a f (Starting at x (d ∷ ds)) k m = absurd m
tidy_by h t y w reached a f (Tidying at gs fs) k m = absurd m
tidy_by h t y w reached a f Gone k m = absurd m
tidy_by h t y w reached a f Over k m = absurd m

-- A status without its dead keeps all facts.
tidy_kept : {me : List ℕ} (h : List Told) (t : Stamp) (y : ℕ) (w : Tidy) (reached : Bool) (a : Answer) → Inv me h
    → IsFresh h t
    → May (seen_of (own y h)) (Of.Tidy w) → IsAnswer h t (Of.Tidy w) reached a
    → Kept me h t (Asked y (Of.Tidy w) reached a)
tidy_kept {me} h t y w reached a f fresh m k =
    plain_kept h t (Asked y (Of.Tidy w) reached a) f fresh tt tt (none reached) w.name
    (tidy_by h t y w reached a f (seen_of (own y h)) (f.syncs y) m) (any_start h t y (Of.Tidy w) reached a f m)
    (λ g. asked_syncs h t y (Of.Tidy w) reached a f g
    (next_fact me h t y (seen_of (own y h)) fresh f (f.syncs y) (Of.Tidy w) m reached a k g))
  where
    none : (b : Bool) (r : Ref) → claims (state_of h) (Asked y (Of.Tidy w) b a) r ≡ None
    none true r = refl
    none false r = refl

-- ---- a claim

-- A claim that the server refuses claims nothing.
not_taken : (w : Claim) (r : Ref) (o : Option Cron) → claim_in w o ≡ None
    → (if is_ref w.job r then claim_in w o else None) ≡ None
not_taken w r o e = by_test (is_ref w.job r)
  where
    by_test : (b : Bool) → (if b then claim_in w o else None) ≡ None
    by_test true = e
    by_test false = refl

-- A claim that isn't taken keeps all facts.
refused_kept : {me : List ℕ} (h : List Told) (t : Stamp) (y : ℕ) (w : Claim) (reached : Bool) (a : Answer) → Inv me h
    → IsFresh h t
    → May (seen_of (own y h)) (Of.Claim w) → IsAnswer h t (Of.Claim w) reached a
    → ClaimsNone h (Asked y (Of.Claim w) reached a) → ((n : List ℕ) (c : Cron)
    → cron_at (next h t (Asked y (Of.Claim w) reached a)) n ≡ Some c → Cronic me h t [] n c)
    → Kept me h t (Asked y (Of.Claim w) reached a)
refused_kept {me} h t y w reached a f fresh m k none crons =
    plain_kept h t (Asked y (Of.Claim w) reached a) f fresh tt tt none [] crons
    (any_start h t y (Of.Claim w) reached a f m)
    (λ g. asked_syncs h t y (Of.Claim w) reached a f g
    (next_fact me h t y (seen_of (own y h)) fresh f (f.syncs y) (Of.Claim w) m reached a k g))

-- A claim that is taken keeps all facts.
taken_kept : {me : List ℕ} (h : List Told) (t : Stamp) (y : ℕ) (w : Claim) (a : Answer) → Inv me h → IsFresh h t
    → May (seen_of (own y h)) (Of.Claim w) → IsAnswer h t (Of.Claim w) true a → (at : At) (x : Held)
    → Accepted me h at x w → Kept me h t (Asked y (Of.Claim w) true a)
taken_kept {me} h t y w a f fresh m k at x c =
    let g = claim_grows f c t y a fresh in
    record {
      change = record {
        grows = g;
        name = w.name;
        crons = claim_crons f c t y a fresh;
        it = w.job;
        claims = claim_claims f c t y a fresh;
        starts = plain_starts h t (Asked y (Of.Claim w) true a) f g (any_start h t y (Of.Claim w) true a f m);
        syncs = asked_syncs h t y (Of.Claim w) true a f g
            (next_fact me h t y (seen_of (own y h)) fresh f (f.syncs y) (Of.Claim w) m true a k g);
      };
      rests = record {
        starts_fact = any_start h t y (Of.Claim w) true a f m;
        claims_fact = λ r b e o. fact r b o (claims_it c y a r b e);
      };
    }
  where
    fact : (r : Ref) (b : Claimed) → b.owner ≡ me → (r ≡ w.job) × (b ≡ record_of at w) → ClaimsFact h r b
    fact r b o e =
        let mine : at.cron.uid ≡ me = ap (λ (z : Claimed). z.owner) (sym e.1) ∙ o in
        let m = subst (λ (z : Ref). ClaimsFact h z (record_of at w)) (sym e.0) (record {
          first = unclaimed f c mine;
          rises = λ z q is own.
              let low = (f.now w.name at.cron c.stands mine).claims z q is own in
              let high = c.fact.for_fact.time in
              let same = c.may.time in
              omega arith;
        }) in
        subst (ClaimsFact h r) (sym e.1) m

-- A claim keeps all facts, whether its condition is met or not.
claim_by_test : {me : List ℕ} (h : List Told) (t : Stamp) (y : ℕ) (w : Claim) (a : Answer) → Inv me h → IsFresh h t
    → May (seen_of (own y h)) (Of.Claim w) → IsAnswer h t (Of.Claim w) true a → (at : At) (x : Held)
    → Holds me h at x → MayClaim at x w → (c : Cron) → cron_at h w.name ≡ Some c → (b : Bool)
    → takes w.uid w.version c ≡ b → Kept me h t (Asked y (Of.Claim w) true a)
claim_by_test {me} h t y w a f fresh m k at x l may c e true b =
    let z = both_true (is_same c.uid w.uid) (is_same c.version w.version) b in
    taken_kept h t y w a f fresh m k at x (accepted_by f at x w l may c e (same_true c.uid w.uid z.0)
    (same_true c.version w.version z.1))
claim_by_test {me} h t y w a f fresh m k at x l may c e false b =
    let none : claim_in w (cron_at h w.name) ≡ None = ap (λ (o : Option Cron). claim_in w o) e
    ∙ ap (λ (q : Bool). if q then Some (record { owner = c.uid; time = w.time; policy = c.policy }) else None) b in
    let same : (claim (state_of h) t w (cron_at h w.name)).cluster.crons ≡ (state_of h).crons =
    ap (λ (o : Option Cron). (claim (state_of h) t w o).cluster.crons) e
    ∙ ap (λ (q : Bool). (if q then puts_cron (state_of h) (Is.Written t.version) w.name (claimed t w c) else refuses
    (state_of h)).cluster.crons) b in
    refused_kept h t y w true a f fresh m k (λ r. not_taken w r (cron_at h w.name) none)
    (crons_same h t y (Of.Claim w) true a same)

-- A claim that reaches the server keeps all facts, whether the CronJob stands or not.
claim_reached : {me : List ℕ} (h : List Told) (t : Stamp) (y : ℕ) (w : Claim) (a : Answer) → Inv me h → IsFresh h t
    → May (seen_of (own y h)) (Of.Claim w) → IsAnswer h t (Of.Claim w) true a → (at : At) (x : Held)
    → Holds me h at x → MayClaim at x w → (o : Option Cron) → cron_at h w.name ≡ o
    → Kept me h t (Asked y (Of.Claim w) true a)
claim_reached {me} h t y w a f fresh m k at x l may None e =
    refused_kept h t y w true a f fresh m k
    (λ r. not_taken w r (cron_at h w.name) (ap (λ (o : Option Cron). claim_in w o) e))
    (crons_same h t y (Of.Claim w) true a (ap (λ (o : Option Cron). (claim (state_of h) t w o).cluster.crons) e))
claim_reached {me} h t y w a f fresh m k at x l may (Some c) e =
    claim_by_test h t y w a f fresh m k at x l may c e (takes w.uid w.version c) refl

-- what is known of a sync that may claim
pub record Claiming (me : List ℕ) (h : List Told) (w : Claim) : Type 0 where
  pub at : At
  pub x : Held
  pub fact : Holds me h at x
  pub may : MayClaim at x w

-- A sync that may claim holds a Job for it.
pub claiming : (me : List ℕ) (h : List Told) (w : Claim) (s : Sync) → SyncFact me h s → May s (Of.Claim w)
    → Claiming me h w
claiming me h w Fresh k m = absurd m
claiming me h w (Looking at [] held) k m = absurd m
claiming me h w (Looking at (x ∷ rs) held) k m = absurd m
claiming me h w (Ready at) k m = absurd m
claiming me h w (Holding at x) k m = record { at = at; x = x; fact = k; may = m }
claiming me h w (Starting at x []) k m = absurd m
claiming me h w (Starting at x (d ∷ ds)) k m = absurd m
claiming me h w (Tidying at gs fs) k m = absurd m
claiming me h w Gone k m = absurd m
claiming me h w Over k m = absurd m

-- A claim keeps all facts.
claim_kept : {me : List ℕ} (h : List Told) (t : Stamp) (y : ℕ) (w : Claim) (reached : Bool) (a : Answer) → Inv me h
    → IsFresh h t
    → May (seen_of (own y h)) (Of.Claim w) → IsAnswer h t (Of.Claim w) reached a
    → Kept me h t (Asked y (Of.Claim w) reached a)
claim_kept {me} h t y w true a f fresh m k =
    let c = claiming me h w (seen_of (own y h)) (f.syncs y) m in
    claim_reached h t y w a f fresh m k c.at c.x c.fact c.may (cron_at h w.name) refl
claim_kept h t y w false a f fresh m k =
    refused_kept h t y w false a f fresh m k (λ r. refl) (λ n c at. inl at)

-- ---- any call

-- For call_kept: a call that neither claims nor writes a CronJob.
quiet_kept : {me : List ℕ} (h : List Told) (t : Stamp) (y : ℕ) (call : Call) (reached : Bool) (a : Answer) → Inv me h
    → IsFresh h t
    → May (seen_of (own y h)) call → IsAnswer h t call reached a
    → ((b : Bool) (r : Ref) → claims (state_of h) (Asked y call b a) r ≡ None)
    → LeavesCrons h t call → Kept me h t (Asked y call reached a)
quiet_kept {me} h t y call reached a f fresh m k none e = asked_kept h t y call reached a f fresh m k (none reached) e

-- A call of a sync that follows the protocol keeps all facts.
pub call_kept : {me : List ℕ} (h : List Told) (t : Stamp) (y : ℕ) (call : Call) (reached : Bool) (a : Answer)
    → Inv me h → IsFresh h t
    → May (seen_of (own y h)) call → IsAnswer h t call reached a → Kept me h t (Asked y call reached a)
call_kept h t y (Of.GetCron n) reached a f fresh m k = quiet_kept h t y (Of.GetCron n) reached a f fresh m k
    (λ b. elim b [ true ↦ λ q. refl | false ↦ λ q. refl ]) refl
call_kept h t y (Of.CacheCron n) reached a f fresh m k = quiet_kept h t y (Of.CacheCron n) reached a f fresh m k
    (λ b. elim b [ true ↦ λ q. refl | false ↦ λ q. refl ]) refl
call_kept h t y (Of.GetJob n) reached a f fresh m k = quiet_kept h t y (Of.GetJob n) reached a f fresh m k
    (λ b. elim b [ true ↦ λ q. refl | false ↦ λ q. refl ]) refl
call_kept h t y (Of.CacheJob n) reached a f fresh m k = quiet_kept h t y (Of.CacheJob n) reached a f fresh m k
    (λ b. elim b [ true ↦ λ q. refl | false ↦ λ q. refl ]) refl
call_kept h t y Of.ListJobs reached a f fresh m k = quiet_kept h t y Of.ListJobs reached a f fresh m k
    (λ b. elim b [ true ↦ λ q. refl | false ↦ λ q. refl ]) refl
call_kept h t y (Of.Create n j) reached a f fresh m k = quiet_kept h t y (Of.Create n j) reached a f fresh m k
    (λ b. elim b [ true ↦ λ q. refl | false ↦ λ q. refl ]) (crons_create (state_of h) t n j (job_at h n))
call_kept h t y (Of.Delete r) reached a f fresh m k = quiet_kept h t y (Of.Delete r) reached a f fresh m k
    (λ b. elim b [ true ↦ λ q. refl | false ↦ λ q. refl ])
    (crons_delete_where (state_of h) t r (look (state_of h).jobs r))
call_kept h t y (Of.Expire r v now) reached a f fresh m k = quiet_kept h t y (Of.Expire r v now) reached a f fresh m k
    (λ b. elim b [ true ↦ λ q. refl | false ↦ λ q. refl ]) (crons_expire (state_of h) t r v (look (state_of h).jobs r))
call_kept h t y (Of.Start r) reached a f fresh m k = quiet_kept h t y (Of.Start r) reached a f fresh m k
    (λ b. elim b [ true ↦ λ q. refl | false ↦ λ q. refl ]) (crons_start (state_of h) t r (look (state_of h).jobs r))
call_kept h t y (Of.Claim w) reached a f fresh m k = claim_kept h t y w reached a f fresh m k
call_kept h t y (Of.Tidy w) reached a f fresh m k = tidy_kept h t y w reached a f fresh m k

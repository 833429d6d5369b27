-- All facts hold after every history, and the laws rest on them.
use Rattle.std.proofs.Common.{◌≡◌, ◌⊎◌, inl, inr, ℕ, ◌<◌, ◌==◌, Bool, true, false, List, [], ◌∷◌, Option, Some, None, refl, sym, subst, ◌∙◌, arith}
use Rattle.std.specs.Prelude.{if◌then◌else◌}
use Rattle.std.proofs.lemmas.Bool.Decides.{nat_tests}
use Rattle.cj_fence.specs.declared.policy.Policy.{Policy}
use Rattle.cj_fence.specs.declared.policy.Policy.TheVariants.{Allow, Forbid, Replace}
use Rattle.cj_fence.specs.declared.refs.Ref.{Ref}
use Rattle.cj_fence.specs.declared.objects.Job.{Job}
use Rattle.cj_fence.specs.declared.answer.Stamp.{Stamp}
use Rattle.cj_fence.specs.Objects.{look}
use Rattle.cj_fence.specs.Protocol.{Own, seen_of, May, Follows}
use Rattle.cj_fence.specs.History.{Deed, Asked, Wrote, Told, state_of, IsFresh, IsHeard, IsLegal, AllFollow, Claimed, claims, claim_of, starts, started, own_after, own}
use Rattle.cj_fence.specs.Others.{DeedKeepsTo, OthersKeepTo}
use Rattle.cj_fence.specs.Fence.{Always, IsOnce, IsOver, IsAlone, IsOf, WasClaimed, IsClaimed, IsRising, FenceLaw}
use Rattle.cj_fence.proofs.FenceLemmas.Basics.{first_true, either_way, look_found}
use Rattle.cj_fence.proofs.FenceLemmas.Facts.{ref, IsDead, Dead, Leaving, Owned, IsOwn, Inv}
use Rattle.cj_fence.proofs.FenceLemmas.Grows.{IsStarting, is_held, job_is_old, claim_mine, claimed_own, owned_before}
use Rattle.cj_fence.proofs.FenceLemmas.Kept.{inv_kept, gave_of}
use Rattle.cj_fence.proofs.FenceLemmas.Moves.{claim_stays}
use Rattle.cj_fence.proofs.FenceLemmas.Entries.{StartFact, Kept, wrote_kept, call_kept}

-- ---- who follows

-- A number tests as one with itself.
pub self_number : (x : ℕ) → (x == x) ≡ true
self_number x = grind (arith, nat_tests)

-- A sync followed the protocol before an entry.
pub followed : (y : ℕ) (d : Deed) (os : List Own) → Follows (own_after y d os) → Follows os
followed y (Wrote w) os f = f
followed y (Asked x call reached a) os f = by_test (x == y) f
  where
    by_test : (b : Bool) → Follows (if b then record { call = call; answer = a } ∷ os else os) → Follows os
    by_test true g = g.1
    by_test false g = g

-- The caller of an entry may make its call.
abbrev pub MayDo : List Told → Deed → Type 0
MayDo h (Asked y call reached a) = May (seen_of (own y h)) call
MayDo h (Wrote w) = Unit {0}

-- The caller of the last entry could make its call.
pub may_do : (h : List Told) (d : Deed) → ((y : ℕ) → Follows (own_after y d (own y h))) → MayDo h d
may_do h (Wrote w) f = tt
may_do h (Asked x call reached a) f =
    (subst (λ (b : Bool). Follows (if b then record { call = call; answer = a } ∷ own x h else own x h)) (self_number x)
    (f x)).0

-- ---- all facts

-- Every entry keeps all facts.
pub entry_kept : {me : List ℕ} (h : List Told) (t : Stamp) (d : Deed) → Inv me h → IsFresh h t → IsHeard h t d
    → MayDo h d → DeedKeepsTo me (state_of h) d → Kept me h t d
entry_kept h t (Asked y call reached a) f fresh k m p = call_kept h t y call reached a f fresh m k
entry_kept h t (Wrote w) f fresh k m p = wrote_kept h t w f fresh p

-- Before the first call there is nothing.
at_start : (me : List ℕ) → Inv me []
at_start me = record {
  jobs = λ n j old. absurd old;
  held = λ n j at. absurd (cc at);
  crons = λ n c old. absurd old;
  status = λ n c old. absurd old;
  now = λ n c at. absurd (cc at);
  claims = λ r k is. absurd (cc is);
  orderly = λ r k is. absurd (cc is);
  gave = λ r e. absurd (cc e);
  started = λ r e. absurd (cc e);
  syncs = λ y. tt;
}

-- All facts hold after every history.
pub always : (me : List ℕ) (h : List Told) → IsLegal h → AllFollow h → OthersKeepTo me h → Inv me h
always me [] l a o = at_start me
always me (e ∷ h) l a o =
    let f = always me h l.2 (λ y. followed y e.deed (own y h) (a y)) o.1 in
    inv_kept me h (e ∷ h) e.stamp f (entry_kept h e.stamp e.deed f l.0 l.1 (may_do h e.deed a) o.0).change

-- What follows for each entry from the facts before it and after it holds always.
pub throughout : (me : List ℕ) (P : Told → List Told → Type 0)
    → ((e : Told) (h : List Told) → Inv me h → Kept me h e.stamp e.deed → Inv me (e ∷ h) → P e h)
    → (h : List Told) → IsLegal h → AllFollow h → OthersKeepTo me h → Always P h
throughout me P f [] l a o = tt
throughout me P f (e ∷ h) l a o =
    let before = λ (y : ℕ). followed y e.deed (own y h) (a y) in
    let i = always me h l.2 before o.1 in
    let k = entry_kept h e.stamp e.deed i l.0 l.1 (may_do h e.deed a) o.0 in
    (f e h i k (inv_kept me h (e ∷ h) e.stamp i k.change), throughout me P f h l.2 before o.1)

-- What follows from the facts and from who may call holds always.
pub always_by : (me : List ℕ) (P : Told → List Told → Type 0)
    → ((e : Told) (h : List Told) → Inv me h → MayDo h e.deed → P e h)
    → (h : List Told) → IsLegal h → AllFollow h → OthersKeepTo me h → Always P h
always_by me P f [] l a o = tt
always_by me P f (e ∷ h) l a o =
    let before = λ (y : ℕ). followed y e.deed (own y h) (a y) in
    (f e h (always me h l.2 before o.1) (may_do h e.deed a), always_by me P f h l.2 before o.1)

-- ---- the laws

-- A Job of the CronJob that is started wasn't started before.
not_twice : {me : List ℕ} {h : List Told} → Inv me h → (r : Ref) → IsOwn me h r → IsStarting h r
    → started h r ≡ true → ⊥
not_twice {me} {h} f r own s e =
    let n = f.held r.name s.job s.stands (own.stands s.job s.stands s.uid) (is_held s.job s.waits_yet) in
    let m : started h r ≡ false = subst (λ (u : List ℕ). started h (ref r.name u) ≡ false) s.uid n in
    absurd (cc (m, e))

-- No entry starts a second Job of the CronJob and one time.
once_at : (me : List ℕ) (e : Told) (h : List Told) → Inv me h → Kept me h e.stamp e.deed → Inv me (e ∷ h)
    → IsOnce me e h
once_at me e h f k g r x c d s before is was oc od t =
    let same : x ≡ r = (f.orderly r c is oc).unique x d was (od ∙ sym oc) t in
    not_twice f r (claimed_own f r c is oc) (k.rests.starts_fact r s (claim_mine f r c is oc)).starts_it
    (subst (λ (z : Ref). started h z ≡ true) same before)

-- For alone_at: what was claimed before is over.
over_by : (h : List Told) (p : Policy) (x : Ref) → started h x ≡ true → (p ≡ Forbid → Dead h x)
    → (p ≡ Replace → Leaving h x) → (o : Option Job) → look (state_of h).jobs x ≡ o → IsOver p o
over_by h Allow x s d l o e = tt
over_by h Forbid x s d l None e = tt
over_by h Forbid x s d l (Some j) e =
    let a = look_found (state_of h).jobs x j e in
    by_dead (d refl j a.0 a.1)
  where
    by_dead : IsDead h x j → j.finished ≡ true
    by_dead (inl k) = k
    by_dead (inr k) = absurd (cc (k.1, s))
over_by h Replace x s d l None e = tt
over_by h Replace x s d l (Some j) e =
    let a = look_found (state_of h).jobs x j e in
    l refl j a.0 a.1

-- What an entry starts under Forbid or Replace is alone.
alone_at : (me : List ℕ) (e : Told) (h : List Told) → Inv me h → Kept me h e.stamp e.deed → Inv me (e ∷ h)
    → IsAlone me e h
alone_at me e h f k g r x c d s before is was oc od = by_time (either_way d.time c.time)
  where
    start : StartFact me h r
    start = k.rests.starts_fact r s (claim_mine f r c is oc)

    by_time : (d.time < c.time) ⊎ ((d.time ≡ c.time) ⊎ (c.time < d.time)) → IsOver c.policy (look (state_of h).jobs x)
    by_time (inl l) =
        let same : start.claim ≡ c = cc (sym start.is ∙ is) in
        let b = subst (λ (z : Claimed). z.policy ≡ Replace → (q : Ref) (m : Claimed) → claim_of h q ≡ Some m
        → m.owner ≡ z.owner → m.time < z.time → Leaving h q) same start.leaves in
        over_by h c.policy x before ((f.orderly r c is oc).passed x d was (od ∙ sym oc) l).dead
        (λ p. b p x d was (od ∙ sym oc) l) (look (state_of h).jobs x) refl
    by_time (inr (inl t)) = absurd (once_at me e h f k g r x c d s before is was oc od t)
    by_time (inr (inr l)) =
        let a = start.starts_it in
        let n = ((f.orderly x d was od).passed r c is (oc ∙ sym od) l).settled a.job a.stands a.uid in
        absurd (cc (a.waits_yet, n))

-- A Job claimed for the CronJob has the controller and the time of its claim.
of_claim : {me : List ℕ} {h : List Told} → Inv me h → (r : Ref) (k : Claimed) → claim_of h r ≡ Some k → k.owner ≡ me
    → (j : Job) → look (state_of h).jobs r ≡ Some j → IsOf k j
of_claim {me} {h} f r k is o j e =
    let c = f.claims r k is in
    let a = look_found (state_of h).jobs r j e in
    let b = (f.jobs r.name c.job c.was).alike j (job_is_old h r.name j a.0) (a.1 ∙ sym c.uid) (c.owner ∙ o) in
    record { owner = sym b.owner ∙ c.owner; time = sym b.time ∙ c.time }

-- What an entry starts of the CronJob was claimed, and what it claims for it was not.
claimed_at : (me : List ℕ) (e : Told) (h : List Told) → Inv me h → Kept me h e.stamp e.deed → Inv me (e ∷ h)
    → IsClaimed me e h
claimed_at me e h f k g = record {
  before = before;
  once = λ r c d q o is. absurd (cc ((k.rests.claims_fact r c q o).first, is));
}
  where
    before : (r : Ref) (j : Job) → starts (state_of h) e.stamp e.deed r ≡ true → look (state_of (e ∷ h)).jobs r ≡ Some j
        → j.owner ≡ me → WasClaimed h r j
    before r j s at o =
        let p = look_found (state_of (e ∷ h)).jobs r j at in
        let now : Owned (e ∷ h) me r = record { job = j; was = inl p.0; uid = p.1; owner = o } in
        let so : started (e ∷ h) r ≡ true = first_true (starts (state_of h) e.stamp e.deed r) (started h r) s in
        let w = k.change.grows in
        let a = k.rests.starts_fact r s (owned_before w r (gave_of f r (w.starts r so)) now) in
        let is = claim_stays (claim_of h r) (claims (state_of h) e.deed r) a.claim a.is in
        record { claim = a.claim; claimed = a.is; job = of_claim g r a.claim is a.owner j at }

-- What an entry claims for the CronJob is of a later time.
rising_at : (me : List ℕ) (e : Told) (h : List Told) → Inv me h → Kept me h e.stamp e.deed → Inv me (e ∷ h)
    → IsRising me e h
rising_at me e h f k g r x c d s was oc od = (k.rests.claims_fact r c s oc).rises x d was (od ∙ sym oc)

-- The fenced start keeps what it promises.
pub fenced : FenceLaw
fenced u h l a o = (
  throughout u (IsOnce u) (once_at u) h l a o,
  throughout u (IsAlone u) (alone_at u) h l a o,
  throughout u (IsClaimed u) (claimed_at u) h l a o,
  throughout u (IsRising u) (rising_at u) h l a o,
)

-- An accepted claim, and that all facts hold after it.
use Rattle.std.proofs.Common.{◌≡◌, ◌≢◌, ◌⊎◌, inl, inr, ℕ, ◌<◌, ◌≤◌, Bool, true, false, List, [], ◌∷◌, ◌++◌, Option, Some, None, refl, sym, ap, subst, ◌∙◌, arith}
use Rattle.std.specs.Prelude.{if◌then◌else◌}
use Rattle.cj_fence.specs.declared.refs.Ref.{Ref}
use Rattle.cj_fence.specs.declared.objects.Cron.{Cron}
use Rattle.cj_fence.specs.declared.call.Claim.{Claim}
use Rattle.cj_fence.specs.declared.call.Call.TheVariants as Of
use Rattle.cj_fence.specs.declared.answer.Answer.{Answer}
use Rattle.cj_fence.specs.declared.answer.Answer.TheVariants as Is
use Rattle.cj_fence.specs.declared.answer.Stamp.{Stamp}
use Rattle.cj_fence.specs.declared.sync.At.{At}
use Rattle.cj_fence.specs.declared.sync.Held.{Held}
use Rattle.cj_fence.specs.Tables.{find, put}
use Rattle.cj_fence.specs.Objects.{is_ref}
use Rattle.cj_fence.specs.Server.{refuses, puts_cron, takes, claimed, claim}
use Rattle.cj_fence.specs.Protocol.{drops_of, has_claimed, MayClaim}
use Rattle.cj_fence.specs.History.{Deed, Asked, Told, state_of, IsFresh, Claimed, claim_in, claims, or_else, claim_of}
use Rattle.cj_fence.proofs.FenceLemmas.Basics.{IsIn, in_front, in_end, in_either, ref_true, ref_self, put_at}
use Rattle.cj_fence.proofs.FenceLemmas.Facts.{IsEarlier, cron_at, OldJob, OldCron, Dead, Alike, IsClaimedFor, Passed, AtFact, Holds, Commits, Inv}
use Rattle.cj_fence.proofs.FenceLemmas.Grows.{Grows, dead_settled, cron_is_old, claimed_own, owned_kept, held_kept, dead_kept, settled_kept}
use Rattle.cj_fence.proofs.FenceLemmas.Kept.{NewCron, SameCron, CronStep, NewClaim, ClaimStep}
use Rattle.cj_fence.proofs.FenceLemmas.Moves.{next, claim_from, claim_stays, grows_by}
use Rattle.cj_fence.proofs.FenceLemmas.Looks.{drops_known, drops_among, drops_replace, each_end}

-- a claim that a sync may make and that the server takes: the CronJob that stands is the one that the sync knows
pub record Accepted (me : List ℕ) (h : List Told) (at : At) (x : Held) (w : Claim) : Type 0 where
  pub fact : Holds me h at x
  pub may : MayClaim at x w
  pub stands : cron_at h w.name ≡ Some at.cron
  pub takes_it : takes w.uid w.version at.cron ≡ true

-- what it records
abbrev pub record_of : At → Claim → Claimed
record_of at w = record { owner = at.cron.uid; time = w.time; policy = at.cron.policy }

abbrev pub claim_deed : ℕ → Claim → Answer → Deed
claim_deed y w a = Asked y (Of.Claim w) true a

-- For claims_it: what the condition gives.
claim_of_cron : (w : Claim) (c : Cron) (b : Bool) → takes w.uid w.version c ≡ b → b ≡ true
    → claim_in w (Some c) ≡ Some (record { owner = c.uid; time = w.time; policy = c.policy })
claim_of_cron w c true e t = ap (λ (z : Bool). if z then Some
    (record { owner = c.uid; time = w.time; policy = c.policy }) else None) e
claim_of_cron w c false e t = absurd (cc t)

module _ {me : List ℕ} {h : List Told} {at : At} {x : Held} {w : Claim} where
  claim_is : Accepted me h at x w → claim_in w (cron_at h w.name) ≡ Some (record_of at w)
  claim_is c =
      ap (λ (o : Option Cron). claim_in w o) c.stands
      ∙ claim_of_cron w at.cron (takes w.uid w.version at.cron) refl c.takes_it

  -- The entry claims its Job, and no other.
  pub claims_it : Accepted me h at x w → (y : ℕ) (a : Answer) (r : Ref) (k : Claimed)
      → claims (state_of h) (claim_deed y w a) r ≡ Some k → (r ≡ w.job) × (k ≡ record_of at w)
  claims_it c y a r k e = by_test (is_ref w.job r) refl e
    where
      by_test : (b : Bool) → is_ref w.job r ≡ b
          → (if b then claim_in w (cron_at h w.name) else None) ≡ Some k → (r ≡ w.job) × (k ≡ record_of at w)
      by_test true t g =
          let s : Some k ≡ Some (record_of at w) = sym g ∙ claim_is c in
          (sym (ref_true w.job r t), cc)
      by_test false t g = absurd (cc g)

  -- The held Job is no other's: a claim of it would be of a time that isn't later.
  no_earlier : Inv me h → Accepted me h at x w → at.cron.uid ≡ me → (k : Claimed) → claim_of h w.job ≡ Some k → ⊥
  no_earlier f c m k is =
      let a = f.claims w.job k is in
      let hold = c.fact.held_fact in
      let name : w.job.name ≡ x.job.name = ap (λ (z : Ref). z.name) c.may.job in
      let uid : w.job.uid ≡ x.job.uid = ap (λ (z : Ref). z.uid) c.may.job in
      let was : OldJob h x.job.name a.job = subst (λ (n : List ℕ). OldJob h n a.job) name a.was in
      let alike : Alike a.job x.found =
      (f.jobs x.job.name x.found hold.was).alike a.job was (a.uid ∙ uid ∙ sym hold.uid) (hold.owner ∙ m) in
      let owner : k.owner ≡ at.cron.uid = sym a.owner ∙ sym alike.owner ∙ c.fact.for_fact.owner in
      let time : x.found.time ≡ k.time = alike.time ∙ a.time in
      let low : k.time ≤ at.cron.last = (f.now w.name at.cron c.stands m).claims w.job k is owner in
      let high : at.cron.last < x.found.time = c.fact.for_fact.time in
      omega arith

  pub unclaimed : Inv me h → Accepted me h at x w → at.cron.uid ≡ me → claim_of h w.job ≡ None
  unclaimed f c m = by_claim (claim_of h w.job) refl
    where
      by_claim : (o : Option Claimed) → claim_of h w.job ≡ o → o ≡ None
      by_claim None e = refl
      by_claim (Some k) e = absurd (no_earlier f c m k e)

  -- After the entry its Job is claimed.
  pub is_claimed : Inv me h → Accepted me h at x w → at.cron.uid ≡ me → (t : Stamp) (y : ℕ) (a : Answer)
      → claim_of (next h t (claim_deed y w a)) w.job ≡ Some (record_of at w)
  is_claimed f c m t y a =
      ap (λ (o : Option Claimed). or_else o (if is_ref w.job w.job then claim_in w (cron_at h w.name) else None))
      (unclaimed f c m)
      ∙ ap (λ (b : Bool). if b then claim_in w (cron_at h w.name) else None) (ref_self w.job) ∙ claim_is c

  -- The claimed time is later than the last one.
  later : Accepted me h at x w → at.cron.last < w.time
  later c = subst (λ (z : ℕ). at.cron.last < z) (sym c.may.time) c.fact.for_fact.time

  -- For older_claims: an entry's claim is of no CronJob of an earlier time.
  not_older : Inv me h → Accepted me h at x w → at.cron.uid ≡ me → (n : List ℕ) (b : Cron) → OldCron h n b
      → at.cron.uid ≡ b.uid
      → w.time ≤ b.last → ⊥
  not_older f c m n b old u l =
      let home : n ≡ w.name = (f.crons w.name at.cron (cron_is_old h w.name at.cron c.stands)).home n b old (sym u) in
      let last : b.last ≤ at.cron.last = (f.now w.name at.cron c.stands m).last b
      (subst (λ (z : List ℕ). OldCron h z b) home old) (sym u) in
      let high = later c in
      omega arith

  older_claims : Inv me h → Accepted me h at x w → (t : Stamp) (y : ℕ) (a : Answer) (n : List ℕ) (b : Cron) (r : Ref)
      (k : Claimed) → b.uid ≡ me → OldCron h n b → claim_of (next h t (claim_deed y w a)) r ≡ Some k → k.owner ≡ b.uid
      → k.time ≤ b.last → claim_of h r ≡ Some k
  older_claims f c t y a n b r k mine old is o l =
      by_age (claim_from (claim_of h r) (claims (state_of h) (claim_deed y w a) r) k is)
    where
      by_age : (claim_of h r ≡ Some k) ⊎ ((claim_of h r ≡ None) × (claims (state_of h) (claim_deed y w a) r ≡ Some k))
          → claim_of h r ≡ Some k
      by_age (inl e) = e
      by_age (inr e) =
          let i = claims_it c y a r k e.1 in
          let owner : at.cron.uid ≡ k.owner = ap (λ (z : Claimed). z.owner) (sym i.1) in
          let time : w.time ≤ b.last = subst (λ (z : Claimed). z.time ≤ b.last) i.1 l in
          absurd (not_older f c (owner ∙ o ∙ mine) n b old (owner ∙ o) time)

  pub claim_grows : Inv me h → Accepted me h at x w → (t : Stamp) (y : ℕ) (a : Answer) → IsFresh h t
      → Grows me h (next h t (claim_deed y w a)) t
  claim_grows f c t y a fresh = grows_by me h t (claim_deed y w a) fresh tt tt (older_claims f c t y a)

  -- ---- the CronJobs

  -- For claimed_named: each Job that was claimed up to now.
  claim_named : Inv me h → Accepted me h at x w → at.cron.uid ≡ me → (t : Stamp) (g : List Told) → Grows me h g t
      → (r : Ref) (k : Claimed)
      → claim_of h r ≡ Some k → k.owner ≡ at.cron.uid → IsIn r (at.alive ++ x.job ∷ []) ⊎ Dead g r
  claim_named f c m t g grows r k is o =
      by_place ((c.fact.its m).known r k is o ((f.now w.name at.cron c.stands m).claims r k is o))
    where
      by_place : IsIn r [] ⊎ (IsIn r at.alive ⊎ Dead h r) → IsIn r (at.alive ++ x.job ∷ []) ⊎ Dead g r
      by_place (inl n) = absurd n
      by_place (inr (inl i)) = inl (in_front r at.alive (x.job ∷ []) i)
      by_place (inr (inr d)) = inr (dead_kept grows r (claimed_own f r k is (o ∙ m)) d)

  now_named : Inv me h → Accepted me h at x w → at.cron.uid ≡ me → (t : Stamp) (y : ℕ) (a : Answer) → IsFresh h t
      → (r : Ref) (k : Claimed)
      → claim_of (next h t (claim_deed y w a)) r ≡ Some k → k.owner ≡ at.cron.uid
      → IsIn r w.active ⊎ Dead (next h t (claim_deed y w a)) r
  now_named f c m t y a fresh r k is o = subst (λ (z : List Ref). IsIn r z ⊎ Dead (next h t (claim_deed y w a)) r)
      (sym c.may.active)
      (by_age (claim_from (claim_of h r) (claims (state_of h) (claim_deed y w a) r) k is))
    where
      by_age : (claim_of h r ≡ Some k) ⊎ ((claim_of h r ≡ None) × (claims (state_of h) (claim_deed y w a) r ≡ Some k))
          → IsIn r (at.alive ++ x.job ∷ []) ⊎ Dead (next h t (claim_deed y w a)) r
      by_age (inl e) = claim_named f c m t (next h t (claim_deed y w a)) (claim_grows f c t y a fresh) r k e o
      by_age (inr e) =
          let i : r ≡ x.job = (claims_it c y a r k e.1).0 ∙ c.may.job in
          inl (subst (λ (z : Ref). IsIn z (at.alive ++ x.job ∷ [])) (sym i) (in_end x.job at.alive))

  -- The claimed time is the last one.
  now_last : Inv me h → Accepted me h at x w → at.cron.uid ≡ me → (t : Stamp) (y : ℕ) (a : Answer)
      → (r : Ref) (k : Claimed)
      → claim_of (next h t (claim_deed y w a)) r ≡ Some k → k.owner ≡ at.cron.uid → k.time ≤ w.time
  now_last f c m t y a r k is o = by_age (claim_from (claim_of h r) (claims (state_of h) (claim_deed y w a) r) k is)
    where
      by_age : (claim_of h r ≡ Some k) ⊎ ((claim_of h r ≡ None) × (claims (state_of h) (claim_deed y w a) r ≡ Some k))
          → k.time ≤ w.time
      by_age (inl e) =
          let low = (f.now w.name at.cron c.stands m).claims r k e o in
          let high = later c in
          omega arith
      by_age (inr e) =
          let i : k.time ≡ w.time = ap (λ (z : Claimed). z.time) (claims_it c y a r k e.1).1 in
          omega arith

  -- Each Job in the written status was claimed by its time.
  pub alive_claimed : Inv me h → Accepted me h at x w → at.cron.uid ≡ me → (t : Stamp) (y : ℕ) (a : Answer)
      → IsFresh h t → (c : Cron)
      → c.uid ≡ at.cron.uid → c.last ≡ w.time → (r : Ref) → IsIn r (at.alive ++ x.job ∷ [])
      → IsClaimedFor (next h t (claim_deed y w a)) c r
  alive_claimed f c m t y a fresh b u l = each_end (IsClaimedFor (next h t (claim_deed y w a)) b) at.alive x.job
      (λ r i. let k = (c.fact.its m).alive r i in record {
        claim = k.claim;
        is = claim_stays (claim_of h r) (claims (state_of h) (claim_deed y w a) r) k.claim k.is;
        owner = k.owner ∙ sym u;
        time = let low = k.time in let high = later c in omega arith;
      })
      (record {
        claim = record_of at w;
        is = subst (λ (z : Ref). claim_of (next h t (claim_deed y w a)) z ≡ Some (record_of at w)) c.may.job
            (is_claimed f c m t y a);
        owner = sym u;
        time = omega arith;
      })

  -- For claim_crons: the CronJob of the claim.
  claimed_cron : Inv me h → Accepted me h at x w → (t : Stamp) (y : ℕ) (a : Answer) → IsFresh h t
      → NewCron me h (next h t (claim_deed y w a)) t w.name w.name (claimed t w at.cron)
  claimed_cron f c t y a fresh = record {
    name = refl;
    version = refl;
    uid = inr (at.cron, c.stands, refl, λ m. let l = later c in omega arith);
    its = λ m. record {
      named = λ r k is o l. now_named f c m t y a fresh r k is o;
      claimed = λ r i. alive_claimed f c m t y a fresh (claimed t w at.cron) refl refl r
          (subst (λ (z : List Ref). IsIn r z) c.may.active i);
      claims = now_last f c m t y a;
    };
  }

  -- For claim_crons: any other CronJob.
  other_cron : Inv me h → Accepted me h at x w → (t : Stamp) (y : ℕ) (a : Answer) → (n : List ℕ) (b : Cron) → w.name ≢ n
      → cron_at h n ≡ Some b → SameCron me h (next h t (claim_deed y w a)) n b
  other_cron f c t y a n b apart is = record {
    was = is;
    claims = λ m r k e o. by_age r k o (claim_from (claim_of h r) (claims (state_of h) (claim_deed y w a) r) k e);
  }
    where
      by_age : (r : Ref) (k : Claimed) → k.owner ≡ b.uid
          → (claim_of h r ≡ Some k) ⊎ ((claim_of h r ≡ None) × (claims (state_of h) (claim_deed y w a) r ≡ Some k))
          → claim_of h r ≡ Some k
      by_age r k o (inl e) = e
      by_age r k o (inr e) =
          let i = claims_it c y a r k e.1 in
          let owner : at.cron.uid ≡ k.owner = ap (λ (z : Claimed). z.owner) (sym i.1) in
          absurd (apart ((f.crons n b (cron_is_old h n b is)).home w.name at.cron
          (cron_is_old h w.name at.cron c.stands) (owner ∙ o)))

  -- The claim's answer puts the status.
  put_by_claim : Accepted me h at x w → (t : Stamp) → (claim (state_of h) t w (cron_at h w.name)).cluster.crons
      ≡ put w.name (claimed t w at.cron) (state_of h).crons
  put_by_claim c t =
      ap (λ (o : Option Cron). (claim (state_of h) t w o).cluster.crons) c.stands
      ∙ ap (λ (b : Bool). (if b then puts_cron (state_of h) (Is.Written t.version) w.name (claimed t w at.cron) else
      refuses (state_of h)).cluster.crons) c.takes_it

  pub claim_crons : Inv me h → Accepted me h at x w → (t : Stamp) (y : ℕ) (a : Answer) → IsFresh h t
      → (n : List ℕ) (b : Cron)
      → cron_at (next h t (claim_deed y w a)) n ≡ Some b
      → CronStep me h (next h t (claim_deed y w a)) t w.name n b
  claim_crons f c t y a fresh n b is = by_name (put_at w.name n (claimed t w at.cron) (state_of h).crons b
      (ap (λ z. find n z) (sym (put_by_claim c t)) ∙ is))
    where
      by_name : ((w.name ≡ n) × (claimed t w at.cron ≡ b)) ⊎ ((w.name ≢ n) × (cron_at h n ≡ Some b))
          → CronStep me h (next h t (claim_deed y w a)) t w.name n b
      by_name (inl e) =
          let m = subst
          (λ (z : List ℕ). NewCron me h (next h t (claim_deed y w a)) t w.name z (claimed t w at.cron)) e.0
          (claimed_cron f c t y a fresh) in
          inr (subst (NewCron me h (next h t (claim_deed y w a)) t w.name n) e.1 m)
      by_name (inr e) = inl (other_cron f c t y a n b e.0 e.1)

  -- ---- the claims

  -- For new_by_claim: an earlier claim is passed by this one.
  passes_by : Inv me h → Accepted me h at x w → at.cron.uid ≡ me → (t : Stamp) (g : List Told) → Grows me h g t
      → (r : Ref) (k : Claimed) → claim_of h r ≡ Some k → k.owner ≡ me
      → IsIn r [] ⊎ (IsIn r at.alive ⊎ Dead h r) → Passed g at.cron.policy r
  passes_by f c m t g grows r k is o (inl n) = absurd n
  passes_by f c m t g grows r k is o (inr (inl i)) = record {
    settled = settled_kept grows r (claimed_own f r k is o) ((c.fact.its m).settled r i);
    dead = λ p. absurd (subst (λ (z : List Ref). IsIn r z) (c.fact.alone p) i);
  }
  passes_by f c m t g grows r k is o (inr (inr d)) = record {
    settled = settled_kept grows r (claimed_own f r k is o) (dead_settled h r d);
    dead = λ p. dead_kept grows r (claimed_own f r k is o) d;
  }

  new_by_claim : Inv me h → Accepted me h at x w → (t : Stamp) (y : ℕ) (a : Answer) → IsFresh h t
      → NewClaim me h (next h t (claim_deed y w a)) w.job w.job (record_of at w)
  new_by_claim f c t y a fresh =
      let hold = c.fact.held_fact in
      let grows = claim_grows f c t y a fresh in
      record {
        is = refl;
        fact = record {
          job = x.found;
          was = inr (subst (λ (z : Ref). OldJob h z.name x.found) (sym c.may.job) hold.was);
          uid = hold.uid ∙ ap (λ (z : Ref). z.uid) (sym c.may.job);
          owner = c.fact.for_fact.owner;
          time = sym c.may.time;
          policy = c.fact.for_fact.policy;
          gave = inr (f.crons w.name at.cron (cron_is_old h w.name at.cron c.stands)).gave_uid;
        };
        above = λ m r k is o. let low = (f.now w.name at.cron c.stands m).claims r k is o in (
          (let high = later c in omega arith),
          passes_by f c m t (next h t (claim_deed y w a)) grows r k is (o ∙ m) ((c.fact.its m).known r k is o low),
        );
      }

  pub claim_claims : Inv me h → Accepted me h at x w → (t : Stamp) (y : ℕ) (a : Answer) → IsFresh h t
      → (r : Ref) (k : Claimed)
      → claim_of (next h t (claim_deed y w a)) r ≡ Some k
      → ClaimStep me h (next h t (claim_deed y w a)) w.job r k
  claim_claims f c t y a fresh r k is = by_age (claim_from (claim_of h r) (claims (state_of h) (claim_deed y w a) r) k
      is)
    where
      by_age : (claim_of h r ≡ Some k) ⊎ ((claim_of h r ≡ None) × (claims (state_of h) (claim_deed y w a) r ≡ Some k))
          → ClaimStep me h (next h t (claim_deed y w a)) w.job r k
      by_age (inl e) = inl e
      by_age (inr e) =
          let i = claims_it c y a r k e.1 in
          let m = subst (λ (z : Ref). NewClaim me h (next h t (claim_deed y w a)) w.job z (record_of at w)) (sym i.0)
          (new_by_claim f c t y a fresh) in
          inr (subst (NewClaim me h (next h t (claim_deed y w a)) w.job r) (sym i.1) m)

  -- ---- the sync

  -- For claimed_at: each Job claimed by now is the claimed one, runs, or is dead.
  known_now : Inv me h → Accepted me h at x w → at.cron.uid ≡ me → (t : Stamp) (y : ℕ) (a : Answer) → IsFresh h t
      → (r : Ref) (k : Claimed)
      → claim_of (next h t (claim_deed y w a)) r ≡ Some k → k.owner ≡ at.cron.uid
      → IsIn r (x.job ∷ []) ⊎ (IsIn r at.alive ⊎ Dead (next h t (claim_deed y w a)) r)
  known_now f c m t y a fresh r k is o = by_place (now_named f c m t y a fresh r k is o)
    where
      by_end : IsIn r at.alive ⊎ (r ≡ x.job)
          → IsIn r (x.job ∷ []) ⊎ (IsIn r at.alive ⊎ Dead (next h t (claim_deed y w a)) r)
      by_end (inl i) = inr (inl i)
      by_end (inr e) = inl (inl e)

      by_place : IsIn r w.active ⊎ Dead (next h t (claim_deed y w a)) r
          → IsIn r (x.job ∷ []) ⊎ (IsIn r at.alive ⊎ Dead (next h t (claim_deed y w a)) r)
      by_place (inl i) = by_end (in_either r x.job at.alive (subst (λ (z : List Ref). IsIn r z) c.may.active i))
      by_place (inr d) = inr (inr d)

  -- What the sync knows after its claim.
  claimed_at : Inv me h → Accepted me h at x w → at.cron.uid ≡ me → (t : Stamp) (y : ℕ) (a : Answer) → IsFresh h t
      → (v : List ℕ) → AtFact (next h t (claim_deed y w a)) (has_claimed at w v) (x.job ∷ [])
  claimed_at f c m t y a fresh v =
      let grows = claim_grows f c t y a fresh in
      let all = alive_claimed f c m t y a fresh (has_claimed at w v).cron refl refl in
      record {
        known = λ r k is o l. known_now f c m t y a fresh r k is o;
        settled = λ r i. let k = (c.fact.its m).alive r i in
            settled_kept grows r (claimed_own f r k.claim k.is (k.owner ∙ m)) ((c.fact.its m).settled r i);
        alive = λ r i. all r (in_front r at.alive (x.job ∷ []) i);
        claimed = λ r i. only r i (all x.job (in_end x.job at.alive));
      }
    where
      only : (r : Ref) → IsIn r (x.job ∷ [])
          → IsClaimedFor (next h t (claim_deed y w a)) (has_claimed at w v).cron x.job
          → IsClaimedFor (next h t (claim_deed y w a)) (has_claimed at w v).cron r
      only r (inl e) k = subst (IsClaimedFor (next h t (claim_deed y w a)) (has_claimed at w v).cron) (sym e) k
      only r (inr n) k = absurd n

  -- What runs was claimed for earlier times than the claimed Job.
  alive_earlier : Inv me h → Accepted me h at x w → at.cron.uid ≡ me → (t : Stamp) (y : ℕ) (a : Answer) → IsFresh h t
      → (r : Ref) → IsIn r at.alive → IsEarlier (next h t (claim_deed y w a)) r x.job
  alive_earlier f c m t y a fresh r i =
      let k = (c.fact.its m).alive r i in
      record {
        first = k.claim;
        is_first = claim_stays (claim_of h r) (claims (state_of h) (claim_deed y w a) r) k.claim k.is;
        second = record_of at w;
        is_second = subst (λ (z : Ref). claim_of (next h t (claim_deed y w a)) z ≡ Some (record_of at w)) c.may.job
            (is_claimed f c m t y a);
        owner = k.owner;
        less = let low = k.time in let high = later c in omega arith;
      }

  -- What the sync knows after its claim was taken.
  pub claimed_fact : Inv me h → Accepted me h at x w → (t : Stamp) (y : ℕ) (a : Answer) → IsFresh h t → (v : List ℕ)
      → OldCron (next h t (claim_deed y w a)) at.name (has_claimed at w v).cron
      → Commits me (next h t (claim_deed y w a)) (has_claimed at w v) x (drops_of x.found.policy at.alive)
  claimed_fact f c t y a fresh v old =
      let grows = claim_grows f c t y a fresh in
      record {
        base = record { cron = old; owned = λ r i. owned_kept grows r at.cron.uid (c.fact.base.owned r i) };
        its = λ m. let k = claimed_at f c m t y a fresh v in record {
          at_fact = k;
          drops = drops_known (next h t (claim_deed y w a)) (has_claimed at w v) x k;
          earlier = λ r i. alive_earlier f c m t y a fresh r (drops_among x.found.policy at.alive r i);
        };
        held_fact = held_kept grows at.cron.uid x c.fact.held_fact;
        among = drops_among x.found.policy at.alive;
        replaces = drops_replace x.found.policy at.alive;
      }

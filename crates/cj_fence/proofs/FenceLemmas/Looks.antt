-- What a sync learns by reading.
use Rattle.std.proofs.Common.{◌≡◌, ◌⊎◌, inl, inr, ℕ, ◌<◌, Bool, true, false, not, ◌&&◌, ◌||◌, List, [], ◌∷◌, ◌++◌, Option, Some, None, refl, sym, ap, subst, ◌∙◌, arith}
use Rattle.std.specs.Prelude.{if◌then◌else◌, nat_lt}
use Rattle.std.proofs.lemmas.Bool.Decides.{nat_tests}
use Rattle.cj_fence.specs.declared.policy.Policy.{Policy}
use Rattle.cj_fence.specs.declared.policy.Policy.TheVariants.{Allow, Forbid, Replace}
use Rattle.cj_fence.specs.declared.refs.Ref.{Ref}
use Rattle.cj_fence.specs.declared.objects.Cron.{Cron}
use Rattle.cj_fence.specs.declared.objects.Job.{Job}
use Rattle.cj_fence.specs.declared.cluster.Cluster.{Cluster}
use Rattle.cj_fence.specs.declared.call.Call.{Call}
use Rattle.cj_fence.specs.declared.call.Call.TheVariants as Of
use Rattle.cj_fence.specs.declared.answer.Answer.{Answer}
use Rattle.cj_fence.specs.declared.answer.Answer.TheVariants as Is
use Rattle.cj_fence.specs.declared.answer.Stamp.{Stamp}
use Rattle.cj_fence.specs.declared.sync.At.{At}
use Rattle.cj_fence.specs.declared.sync.Held.{Held}
use Rattle.cj_fence.specs.declared.sync.Sync.TheVariants.{Looking, Ready, Holding}
use Rattle.cj_fence.specs.Texts.{is_same}
use Rattle.cj_fence.specs.Objects.{is_ref, has_name, has_ref, named, is_policy, waits, is_dead}
use Rattle.cj_fence.specs.Server.{served}
use Rattle.cj_fence.specs.Protocol.{with_alive, kept_of, drops_of, go_on, is_held_ref, was_found, found_held, found_job, is_its, looked, cached, begun, is_ours, adopted, lets_hold}
use Rattle.cj_fence.specs.History.{Told, state_of, nothing, Claimed, claim_of, started, cache_of, WasSo, IsAnswer, Unheard, Answered, FromCache, Listed}
use Rattle.cj_fence.proofs.FenceLemmas.Basics.{first_true, second_true, either_way, neither, is_in, ref_self, ref_true, IsIn, in_front, in_end, is_false, both_true, one_true, same_true, same_is, same_false}
use Rattle.cj_fence.proofs.FenceLemmas.Facts.{IsEarlier, OrderFact, IfOrder, job_at, cron_at, OldJob, OldCron, ref, IsDead, Dead, Settled, Leaving, Owned, JobFact, IsClaimedFor, AtFact, ForFact, DropFact, held_first, LookingFact, Looks, Readies, SyncFact, Inv}
use Rattle.cj_fence.proofs.FenceLemmas.Grows.{job_is_old, cron_is_old, is_held, IsStarting, waits_is, old_owner, claim_mine}

-- ---- after the last Job

-- Under Replace all that runs is to be deleted.
drops_all : (p : Policy) (rs : List Ref) → p ≡ Replace → drops_of p rs ≡ rs
drops_all Allow rs e = absurd (cc e)
drops_all Forbid rs e = absurd (cc e)
drops_all Replace rs e = refl

-- What is dead is leaving.
pub dead_leaving : (h : List Told) (r : Ref) → Dead h r → Leaving h r
dead_leaving h r d j at u = by_dead (d j at u)
  where
    by_dead : IsDead h r j → (j.finished || j.deleting) ≡ true
    by_dead (inl f) = first_true j.finished j.deleting f
    by_dead (inr m) = second_true j.finished j.deleting m.0

-- For drops_known: by what is known of a Job.
drop_known : (h : List Told) (at : At) (x : Held) (r : Ref)
    → IsIn r (x.job ∷ []) ⊎ (IsIn r at.alive ⊎ Dead h r) → (r ≡ x.job) ⊎ (IsIn r at.alive ⊎ Leaving h r)
drop_known h at x r (inl (inl e)) = inl e
drop_known h at x r (inl (inr n)) = absurd n
drop_known h at x r (inr (inl i)) = inr (inl i)
drop_known h at x r (inr (inr d)) = inr (inr (dead_leaving h r d))

-- Before a start under Replace each other claimed Job is to be deleted, or is leaving.
pub drops_known : (h : List Told) (at : At) (x : Held) → AtFact h at (x.job ∷ []) → x.found.policy ≡ Replace
    → DropFact h at x (drops_of x.found.policy at.alive)
drops_known h at x a p = subst (DropFact h at x) (sym (drops_all x.found.policy at.alive p))
    (λ r k is o l. drop_known h at x r (a.known r k is o l))

-- What is to be deleted runs.
pub drops_among : (p : Policy) (alive : List Ref) (r : Ref) → IsIn r (drops_of p alive) → IsIn r alive
drops_among Allow alive r i = absurd i
drops_among Forbid alive r i = absurd i
drops_among Replace alive r i = i

-- What stays beside a start runs.
pub kept_among : (p : Policy) (alive : List Ref) (r : Ref) → IsIn r (kept_of p alive) → IsIn r alive
kept_among Allow alive r i = i
kept_among Forbid alive r i = i
kept_among Replace alive r i = absurd i

-- What runs stays beside a start, or is to be deleted before it.
pub kept_or_dropped : (p : Policy) (alive : List Ref) (r : Ref) → IsIn r alive
    → IsIn r (kept_of p alive) ⊎ IsIn r (drops_of p alive)
kept_or_dropped Allow alive r i = inl i
kept_or_dropped Forbid alive r i = inl i
kept_or_dropped Replace alive r i = inr i

-- Only under Replace is anything to be deleted.
pub drops_replace : (p : Policy) (alive : List Ref) (r : Ref) → IsIn r (drops_of p alive) → p ≡ Replace
drops_replace Allow alive r i = absurd i
drops_replace Forbid alive r i = absurd i
drops_replace Replace alive r i = refl

-- What is known when the next Job is to be read.
pub go_on_fact : (me : List ℕ) (h : List Told) (at : At) (rs : List Ref) (held : Option Held) → Looks me h at rs held
    → SyncFact me h (go_on at rs held)
go_on_fact me h at [] None f = record { base = f.base; its = λ m. (f.its m).at_fact }
go_on_fact me h at [] (Some x) f = record {
  base = f.base;
  its = λ m. let l = f.its m in record {
    at_fact = l.at_fact;
    drops = drops_known h at x l.at_fact;
    earlier = λ r i. l.order.of_alive r (drops_among x.found.policy at.alive r i);
  };
  held_fact = f.held_fact;
  among = drops_among x.found.policy at.alive;
  replaces = drops_replace x.found.policy at.alive;
}
go_on_fact me h at (r ∷ rs) held f = f

-- A held Job that isn't dead waits.
pub held_waits : (j : Job) → j.held ≡ true → is_dead j ≡ false → waits j ≡ true
held_waits j h d =
    let a = neither j.finished (j.held && j.deleting) d in
    waits_is j h a.0 (is_false j.deleting (λ e. absurd (cc (ap (λ (z : Bool). z && j.deleting) h ∙ e, a.1))))

-- ---- one Job is read

-- Of the Jobs to be read and the one found held, each but the first to be read is left.
in_rest : (held : Option Held) (r : Ref) (rs : List Ref) (x : Ref) → IsIn x (held_first held (r ∷ rs))
    → IsIn x (held_first held rs) ⊎ (x ≡ r)
in_rest None r rs x (inl e) = inr e
in_rest None r rs x (inr i) = inl i
in_rest (Some y) r rs x (inl e) = inl (inl e)
in_rest (Some y) r rs x (inr (inl e)) = inr e
in_rest (Some y) r rs x (inr (inr i)) = inl (inr i)

-- What is left was there.
of_rest : (held : Option Held) (r : Ref) (rs : List Ref) (x : Ref) → IsIn x (held_first held rs)
    → IsIn x (held_first held (r ∷ rs))
of_rest None r rs x i = inr i
of_rest (Some y) r rs x (inl e) = inl e
of_rest (Some y) r rs x (inr i) = inr (inr i)

-- The first to be read is among them.
pub is_first : (held : Option Held) (r : Ref) (rs : List Ref) → IsIn r (held_first held (r ∷ rs))
is_first None r rs = inl refl
is_first (Some y) r rs = inr (inl refl)

-- For without_dead: the dead one counts as dead.
known_dead : (h : List Told) (alive : List Ref) (held : Option Held) (r : Ref) (rs : List Ref) → Dead h r → (x : Ref)
    → IsIn x (held_first held (r ∷ rs)) ⊎ (IsIn x alive ⊎ Dead h x)
    → IsIn x (held_first held rs) ⊎ (IsIn x alive ⊎ Dead h x)
known_dead h alive held r rs d x (inr k) = inr k
known_dead h alive held r rs d x (inl i) = by_place (in_rest held r rs x i)
  where
    by_place : IsIn x (held_first held rs) ⊎ (x ≡ r) → IsIn x (held_first held rs) ⊎ (IsIn x alive ⊎ Dead h x)
    by_place (inl k) = inl k
    by_place (inr e) = inr (inr (subst (Dead h) (sym e) d))

-- A dead Job is left out.
without_dead : (h : List Told) (at : At) (held : Option Held) (r : Ref) (rs : List Ref) → Dead h r
    → AtFact h at (held_first held (r ∷ rs)) → AtFact h at (held_first held rs)
without_dead h at held r rs d a = record {
  known = λ x k is o l. known_dead h at.alive held r rs d x (a.known x k is o l);
  settled = a.settled;
  alive = a.alive;
  claimed = λ x i. a.claimed x (of_rest held r rs x i);
}

-- The one that runs counts as running.
known_alive : (h : List Told) (alive : List Ref) (held : Option Held) (r : Ref) (rs : List Ref) (x : Ref)
    → IsIn x (held_first held (r ∷ rs)) ⊎ (IsIn x alive ⊎ Dead h x)
    → IsIn x (held_first held rs) ⊎ (IsIn x (alive ++ r ∷ []) ⊎ Dead h x)
known_alive h alive held r rs x (inr (inl i)) = inr (inl (in_front x alive (r ∷ []) i))
known_alive h alive held r rs x (inr (inr d)) = inr (inr d)
known_alive h alive held r rs x (inl i) = by_place (in_rest held r rs x i)
  where
    by_place : IsIn x (held_first held rs) ⊎ (x ≡ r)
        → IsIn x (held_first held rs) ⊎ (IsIn x (alive ++ r ∷ []) ⊎ Dead h x)
    by_place (inl k) = inl k
    by_place (inr e) = inr (inl (subst (λ (z : Ref). IsIn z (alive ++ r ∷ [])) (sym e) (in_end r alive)))

-- For more_alive: what holds of each of the list and of one more holds of each of the longer list.
pub each_end : (P : Ref → Type 0) (xs : List Ref) (r : Ref) → ((x : Ref) → IsIn x xs → P x) → P r
    → (x : Ref) → IsIn x (xs ++ r ∷ []) → P x
each_end P [] r f p x (inl e) = subst P (sym e) p
each_end P [] r f p x (inr n) = absurd n
each_end P (y ∷ xs) r f p x (inl e) = f x (inl e)
each_end P (y ∷ xs) r f p x (inr i) = each_end P xs r (λ z k. f z (inr k)) p x i

-- One Job more runs.
pub more_alive : (h : List Told) (at : At) (held : Option Held) (r : Ref) (rs : List Ref) → Settled h r
    → AtFact h at (held_first held (r ∷ rs)) → AtFact h (with_alive at r) (held_first held rs)
more_alive h at held r rs s a = record {
  known = λ x k is o l. known_alive h at.alive held r rs x (a.known x k is o l);
  settled = each_end (Settled h) at.alive r a.settled s;
  alive = each_end (IsClaimedFor h at.cron) at.alive r a.alive (a.claimed r (is_first held r rs));
  claimed = λ x i. a.claimed x (of_rest held r rs x i);
}

-- what an answer says of a reference
pub record Says (me : List ℕ) (h : List Told) (r : Ref) (j : Job) : Type 0 where
  pub was : OldJob h r.name j
  pub other : (j.uid ≡ r.uid → ⊥) → Dead h r
  pub dead : Owned h me r → j.uid ≡ r.uid → is_dead j ≡ true → Dead h r
  pub runs : Owned h me r → j.uid ≡ r.uid → j.held ≡ false → Settled h r
  pub yet : j.uid ≡ r.uid → waits j ≡ true → IsStarting h r

abbrev pub SaysOf : List ℕ → List Told → Ref → Option Job → Type 0
SaysOf me h r None = Dead h r
SaysOf me h r (Some j) = Says me h r j

-- For without_twice: what is named twice is still there.
known_twice : (h : List Told) (alive : List Ref) (x : Held) (r : Ref) (rs : List Ref) → x.job ≡ r → (q : Ref)
    → IsIn q (x.job ∷ r ∷ rs) ⊎ (IsIn q alive ⊎ Dead h q) → IsIn q (x.job ∷ rs) ⊎ (IsIn q alive ⊎ Dead h q)
known_twice h alive x r rs e q (inl (inl i)) = inl (inl i)
known_twice h alive x r rs e q (inl (inr (inl i))) = inl (inl (i ∙ sym e))
known_twice h alive x r rs e q (inl (inr (inr i))) = inl (inr i)
known_twice h alive x r rs e q (inr k) = inr k

-- A Job that is named twice is left out once.
without_twice : (h : List Told) (at : At) (x : Held) (r : Ref) (rs : List Ref) → x.job ≡ r
    → AtFact h at (x.job ∷ r ∷ rs) → AtFact h at (x.job ∷ rs)
without_twice h at x r rs e a = record {
  known = λ q k is o l. known_twice h at.alive x r rs e q (a.known q k is o l);
  settled = a.settled;
  alive = a.alive;
  claimed = λ q i. a.claimed q (of_rest (Some x) r rs q i);
}

-- For order_now: a Job of the CronJob, beside one that waits now, was claimed for an earlier time.
earlier_now : {me : List ℕ} {h : List Told} → Inv me h → (c : Cron) → c.uid ≡ me → (r q : Ref) → IsClaimedFor h c r
    → IsClaimedFor h c q → IsStarting h r
    → (q ≡ r) ⊎ IsEarlier h q r
earlier_now {me} {h} f c m r q a b w = by_time (either_way b.claim.time a.claim.time)
  where
    owner : b.claim.owner ≡ a.claim.owner
    owner = b.owner ∙ sym a.owner

    by_time : (b.claim.time < a.claim.time) ⊎ ((b.claim.time ≡ a.claim.time) ⊎ (a.claim.time < b.claim.time))
        → (q ≡ r) ⊎ IsEarlier h q r
    by_time (inl l) = inr (record {
      first = b.claim;
      is_first = b.is;
      second = a.claim;
      is_second = a.is;
      owner = owner;
      less = l;
    })
    by_time (inr (inl e)) = inl ((f.orderly r a.claim a.is (a.owner ∙ m)).unique q b.claim b.is owner e)
    by_time (inr (inr l)) =
        let n = ((f.orderly q b.claim b.is (b.owner ∙ m)).passed r a.claim a.is (sym owner) l).settled in
        absurd (cc (w.waits_yet, n w.job w.stands w.uid))

-- For order_now: a Job that was started isn't the one that waits.
alive_earlier : {h : List Told} → (r q : Ref) → Settled h q → IsStarting h r → (q ≡ r) ⊎ IsEarlier h q r
    → IsEarlier h q r
alive_earlier {h} r q n w (inl e) =
    let m = subst (Settled h) e n in
    absurd (cc (w.waits_yet, m w.job w.stands w.uid))
alive_earlier r q n w (inr a) = a

-- When a Job is found held that waits now, all else that may run was claimed for earlier times.
order_now : {me : List ℕ} {h : List Told} → Inv me h → (at : At) → at.cron.uid ≡ me → (r : Ref) (rs : List Ref)
    → AtFact h at (r ∷ rs) → IsStarting h r → OrderFact h r at.alive rs
order_now f at m r rs a w = record {
  of_alive = λ q i. alive_earlier r q (a.settled q i) w
      (earlier_now f at.cron m r q (a.claimed r (inl refl)) (a.alive q i) w);
  of_rest = λ q i. earlier_now f at.cron m r q (a.claimed r (inl refl)) (a.claimed q (inr i)) w;
}

-- The first Job to be read is of the CronJob.
first_mine : {me : List ℕ} {h : List Told} → Inv me h → (at : At) (held : Option Held) (r : Ref) (rs : List Ref)
    → at.cron.uid ≡ me → AtFact h at (held_first held (r ∷ rs)) → Owned h me r
first_mine f at held r rs m a =
    let c = a.claimed r (is_first held r rs) in claim_mine f r c.claim c.is (c.owner ∙ m)

-- A held Job is found: only one may be.
found_fact : {me : List ℕ} {h : List Told} → Inv me h → (at : At) (rs : List Ref) (held : Option Held) (r : Ref)
    (j : Job) → Looks me h at (r ∷ rs) held → Says me h r j → j.uid ≡ r.uid → j.owner ≡ at.cron.uid → j.held ≡ true
    → is_dead j ≡ false → SyncFact me h (found_held at rs held (record { job = r; found = j }))
found_fact {me} {h} f at rs None r j l s u o e d =
    go_on_fact me h at rs (Some (record { job = r; found = j })) (record {
      base = l.base;
      held_fact = record { was = s.was; uid = u; held = e; owner = o };
      its = λ m. let k = l.its m in record {
        at_fact = k.at_fact;
        order = order_now f at m r rs k.at_fact (s.yet u (held_waits j e d));
      };
    })
found_fact f at rs (Some x) r j l s u o e d = tt

-- For alive_fact: the order with one more that runs.
order_more : (h : List Told) (held : Option Held) (alive : List Ref) (r : Ref) (rs : List Ref)
    → is_held_ref held r ≡ false → IfOrder h held alive (r ∷ rs) → IfOrder h held (alive ++ r ∷ []) rs
order_more h None alive r rs e a = tt
order_more h (Some x) alive r rs e a = record {
  of_alive = each_end (λ z. IsEarlier h z x.job) alive r a.of_alive (by_first (a.of_rest r (inl refl)));
  of_rest = λ q i. a.of_rest q (inr i);
}
  where
    by_first : (r ≡ x.job) ⊎ IsEarlier h r x.job → IsEarlier h r x.job
    by_first (inl s) = absurd (cc (sym e ∙ subst (λ (z : Ref). is_ref x.job z ≡ true) (sym s) (ref_self x.job)))
    by_first (inr k) = k

-- For dead_fact: the order with one less to be read.
order_less : (h : List Told) (held : Option Held) (alive : List Ref) (r : Ref) (rs : List Ref)
    → IfOrder h held alive (r ∷ rs) → IfOrder h held alive rs
order_less h None alive r rs a = tt
order_less h (Some x) alive r rs a = record { of_alive = a.of_alive; of_rest = λ q i. a.of_rest q (inr i) }

-- A Job that isn't dead is found.
alive_fact : {me : List ℕ} {h : List Told} → Inv me h → (at : At) (rs : List Ref) (held : Option Held) (r : Ref)
    (j : Job) → Looks me h at (r ∷ rs) held → Says me h r j → j.uid ≡ r.uid → j.owner ≡ at.cron.uid
    → is_dead j ≡ false → is_held_ref held r ≡ false → (b : Bool) → j.held ≡ b
    → SyncFact me h (if b then found_held at rs held (record { job = r; found = j }) else go_on (with_alive at r) rs
    held)
alive_fact f at rs held r j l s u o d n true e = found_fact f at rs held r j l s u o e d
alive_fact {me} {h} f at rs held r j l s u o d n false e = go_on_fact me h (with_alive at r) rs held (record {
  base = record {
    cron = l.base.cron;
    owned = each_end (Owned h at.cron.uid) at.alive r l.base.owned
        (record { job = j; was = s.was; uid = u; owner = o });
  };
  held_fact = l.held_fact;
  its = λ m. let k = l.its m in record {
    at_fact = more_alive h at held r rs (s.runs (first_mine f at held r rs m k.at_fact) u e) k.at_fact;
    order = order_more h held at.alive r rs n k.order;
  };
})

-- A Job that is named twice is found.
twice_fact : (me : List ℕ) (h : List Told) (at : At) (rs : List Ref) (held : Option Held) (r : Ref)
    → Looks me h at (r ∷ rs) held → is_held_ref held r ≡ true → SyncFact me h (go_on at rs held)
twice_fact me h at rs None r l e = absurd (cc e)
twice_fact me h at rs (Some x) r l e = go_on_fact me h at rs (Some x) (record {
  base = l.base;
  held_fact = l.held_fact;
  its = λ m. let k = l.its m in record {
    at_fact = without_twice h at x r rs (ref_true x.job r e) k.at_fact;
    order = order_less h (Some x) at.alive r rs k.order;
  };
})

-- For again_fact: a Job that was found before is known without it.
known_again : (h : List Told) (alive : List Ref) (held : Option Held) (r : Ref) (rs : List Ref) → IsIn r alive
    → (x : Ref) → IsIn x (held_first held (r ∷ rs)) ⊎ (IsIn x alive ⊎ Dead h x)
    → IsIn x (held_first held rs) ⊎ (IsIn x alive ⊎ Dead h x)
known_again h alive held r rs i x (inr k) = inr k
known_again h alive held r rs i x (inl j) = by_place (in_rest held r rs x j)
  where
    by_place : IsIn x (held_first held rs) ⊎ (x ≡ r) → IsIn x (held_first held rs) ⊎ (IsIn x alive ⊎ Dead h x)
    by_place (inl k) = inl k
    by_place (inr e) = inr (inl (subst (λ (z : Ref). IsIn z alive) (sym e) i))

-- A Job that is named twice, and runs, is found.
again_fact : (me : List ℕ) (h : List Told) (at : At) (rs : List Ref) (held : Option Held) (r : Ref)
    → Looks me h at (r ∷ rs) held → IsIn r at.alive → SyncFact me h (go_on at rs held)
again_fact me h at rs held r l i = go_on_fact me h at rs held (record {
  base = l.base;
  held_fact = l.held_fact;
  its = λ m. let q = l.its m in let a = q.at_fact in record {
    at_fact = record {
      known = λ x k is o t. known_again h at.alive held r rs i x (a.known x k is o t);
      settled = a.settled;
      alive = a.alive;
      claimed = λ x k. a.claimed x (of_rest held r rs x k);
    };
    order = order_less h held at.alive r rs q.order;
  };
})

-- A Job that was found before is found.
seen_fact : (me : List ℕ) (h : List Told) (at : At) (rs : List Ref) (held : Option Held) (r : Ref)
    → Looks me h at (r ∷ rs) held → (has_ref at.alive r ≡ true) ⊎ (is_held_ref held r ≡ true)
    → SyncFact me h (go_on at rs held)
seen_fact me h at rs held r l (inl e) = again_fact me h at rs held r l (is_in at.alive r e)
seen_fact me h at rs held r l (inr e) = twice_fact me h at rs held r l e

-- A dead Job is found.
dead_fact : (me : List ℕ) (h : List Told) (at : At) (rs : List Ref) (held : Option Held) (r : Ref)
    → Looks me h at (r ∷ rs) held → (at.cron.uid ≡ me → LookingFact h at (r ∷ rs) held → Dead h r)
    → SyncFact me h (go_on at rs held)
dead_fact me h at rs held r f d = go_on_fact me h at rs held (record {
  base = f.base;
  held_fact = f.held_fact;
  its = λ m. let k = f.its m in record {
    at_fact = without_dead h at held r rs (d m k) k.at_fact;
    order = order_less h held at.alive r rs k.order;
  };
})

-- What is known after a Job that isn't dead was read.
by_ref : {me : List ℕ} {h : List Told} → Inv me h → (at : At) (rs : List Ref) (held : Option Held) (r : Ref) (j : Job)
    → Looks me h at (r ∷ rs) held → Says me h r j → j.uid ≡ r.uid → j.owner ≡ at.cron.uid → is_dead j ≡ false
    → (b : Bool) → was_found at held r ≡ b
    → SyncFact me h (if b then go_on at rs held else
    (if j.held then found_held at rs held (record { job = r; found = j }) else go_on (with_alive at r) rs held))
by_ref {me} {h} f at rs held r j l s u o d true e =
    seen_fact me h at rs held r l (one_true (has_ref at.alive r) (is_held_ref held r) e)
by_ref f at rs held r j l s u o d false e =
    alive_fact f at rs held r j l s u o d (neither (has_ref at.alive r) (is_held_ref held r) e).1 j.held refl

-- For looked_by: a Job that isn't the reference's, of this controller, is dead.
not_its : {me : List ℕ} {h : List Told} → Inv me h → (at : At) (rs : List Ref) (held : Option Held) (r : Ref) (j : Job)
    → Says me h r j → at.cron.uid ≡ me → LookingFact h at (r ∷ rs) held → (a : Bool) → is_same j.uid r.uid ≡ a
    → (a && is_same j.owner at.cron.uid) ≡ false → Dead h r
not_its {me} {h} f at rs held r j s m k true a e =
    let own = old_owner f r (first_mine f at held r rs m k.at_fact) j s.was (same_true j.uid r.uid a) in
    absurd (cc (sym e ∙ same_is j.owner at.cron.uid (own ∙ sym m)))
not_its f at rs held r j s m k false a e = s.other (same_false j.uid r.uid a)

-- What is known after a Job was read, by its uid and controller and whether it is dead.
looked_by : {me : List ℕ} {h : List Told} → Inv me h
    → (at : At) (rs : List Ref) (held : Option Held) (r : Ref) (j : Job)
    → Looks me h at (r ∷ rs) held → Says me h r j → (a : Bool) → is_its at.cron r j ≡ a → (b : Bool) → is_dead j ≡ b
    → SyncFact me h (if a && not b then found_job at rs held r j else go_on at rs held)
looked_by f at rs held r j l s true a false b =
    let p = both_true (is_same j.uid r.uid) (is_same j.owner at.cron.uid) a in
    by_ref f at rs held r j l s (same_true j.uid r.uid p.0) (same_true j.owner at.cron.uid p.1) b
    (was_found at held r) refl
looked_by {me} {h} f at rs held r j l s true a true b =
    let p = both_true (is_same j.uid r.uid) (is_same j.owner at.cron.uid) a in
    dead_fact me h at rs held r l (λ m k. s.dead (first_mine f at held r rs m k.at_fact) (same_true j.uid r.uid p.0) b)
looked_by {me} {h} f at rs held r j l s false a b e =
    dead_fact me h at rs held r l (λ m k. not_its f at rs held r j s m k (is_same j.uid r.uid) refl a)

-- What is known after a Job of status.active was read.
pub looked_fact : {me : List ℕ} {h : List Told} → Inv me h → (at : At) (rs : List Ref) (held : Option Held) (r : Ref)
    (o : Option Job) → Looks me h at (r ∷ rs) held → SaysOf me h r o → SyncFact me h (looked at rs held r o)
looked_fact {me} {h} f at rs held r None l d = dead_fact me h at rs held r l (λ m k. d)
looked_fact f at rs held r (Some j) l s =
    looked_by f at rs held r j l s (is_its at.cron r j) refl (is_dead j) refl

-- ---- what readings say

-- For says_old: a Job that was dead is dead.
old_dead : {me : List ℕ} {h : List Told} → Inv me h → (r : Ref) (j : Job) → OldJob h r.name j → Owned h me r
    → j.uid ≡ r.uid → is_dead j ≡ true → Dead h r
old_dead {me} {h} f r j old own u d i at v = by_part (one_true j.finished (j.held && j.deleting) d)
  where
    fact : JobFact me h r.name j
    fact = f.jobs r.name j old

    mine : j.owner ≡ me
    mine = old_owner f r own j old u

    by_part : (j.finished ≡ true) ⊎ ((j.held && j.deleting) ≡ true) → IsDead h r i
    by_part (inl e) = inl (((fact.now i at (v ∙ sym u)).own mine).finished e)
    by_part (inr e) =
        let b = both_true j.held j.deleting e in
        let n : started h (ref r.name j.uid) ≡ false = fact.doomed mine b.0 b.1 in
        inr (
          ((fact.now i at (v ∙ sym u)).own mine).deleting b.1,
          subst (λ (z : List ℕ). started h (ref r.name z) ≡ false) u n,
        )

-- A Job that wasn't held isn't held.
old_runs : {me : List ℕ} {h : List Told} → Inv me h → (r : Ref) (j : Job) → OldJob h r.name j → Owned h me r
    → j.uid ≡ r.uid → j.held ≡ false → Settled h r
old_runs {me} {h} f r j old own u e i at v =
    let k = ((f.jobs r.name j old).now i at (v ∙ sym u)).own (old_owner f r own j old u) in
    is_false (waits i) (λ w. absurd (cc (k.held (is_held i w), e)))

-- What a Job of any moment says of a reference.
says_old : {me : List ℕ} {h : List Told} → Inv me h → (r : Ref) (j : Job) → OldJob h r.name j
    → ((j.uid ≡ r.uid → ⊥) → Dead h r) → (j.uid ≡ r.uid → waits j ≡ true → IsStarting h r) → Says me h r j
says_old f r j old o y = record {
  was = old;
  other = o;
  dead = old_dead f r j old;
  runs = old_runs f r j old;
  yet = y;
}

-- What a GET says of a reference.
pub says_now : {me : List ℕ} {h : List Told} → Inv me h → (r : Ref) (o : Option Job) → job_at h r.name ≡ o
    → SaysOf me h r o
says_now {me} {h} f r None e = λ i at v. absurd (cc (sym e ∙ at))
says_now {me} {h} f r (Some j) e = says_old f r j (job_is_old h r.name j e)
    (λ n i at v. absurd (n (subst (λ (z : Job). z.uid ≡ r.uid) (same i at) v)))
    (λ u w. record { job = j; stands = e; uid = u; waits_yet = w })
  where
    same : (i : Job) → job_at h r.name ≡ Some i → i ≡ j
    same i at = cc (sym at ∙ e)

-- What is known after a cache was asked for a Job of status.active.
pub cached_fact : {me : List ℕ} {h : List Told} → Inv me h → (at : At) (rs : List Ref) (held : Option Held) (r : Ref)
    (o : Option Job) → Looks me h at (r ∷ rs) held → ((j : Job) → o ≡ Some j → OldJob h r.name j)
    → SyncFact me h (cached at rs held r o)
cached_fact {me} {h} f at rs held r None l old = l
cached_fact {me} {h} f at rs held r (Some j) l old = by_test (is_same j.uid r.uid) refl (waits j) refl
  where
    by_test : (a : Bool) → is_same j.uid r.uid ≡ a → (b : Bool) → waits j ≡ b
        → SyncFact me h (if a && not b then looked at rs held r (Some j) else Looking at (r ∷ rs) held)
    by_test true a false b = looked_fact f at rs held r (Some j) l (says_old f r j (old j refl)
        (λ n. absurd (n (same_true j.uid r.uid a))) (λ u w. absurd (cc (w, b))))
    by_test true a true b = l
    by_test false a b e = l

-- What is in a list, and has a name, is among those that have.
is_named : (r : Ref) (xs : List Ref) → IsIn r xs → (r.name ≡ [] → ⊥) → IsIn r (named xs)
is_named r [] i n = absurd i
is_named r (x ∷ xs) (inl e) n = by_name x.name (ap (λ (z : Ref). z.name) e)
  where
    by_name : (m : List ℕ) → r.name ≡ m → IsIn r (if has_name m then x ∷ named xs else named xs)
    by_name [] q = absurd (n q)
    by_name (b ∷ m) q = inl e
is_named r (x ∷ xs) (inr i) n = by_test (is_named r xs i n) (has_name x.name)
  where
    by_test : IsIn r (named xs) → (b : Bool) → IsIn r (if b then x ∷ named xs else named xs)
    by_test k true = inr k
    by_test k false = k

-- What is among those that have a name is in the list.
was_named : (r : Ref) (xs : List Ref) → IsIn r (named xs) → IsIn r xs
was_named r [] i = i
was_named r (x ∷ xs) i = by_test (λ k. was_named r xs k) (has_name x.name) i
  where
    by_test : (IsIn r (named xs) → IsIn r xs) → (b : Bool) → IsIn r (if b then x ∷ named xs else named xs)
        → IsIn r (x ∷ xs)
    by_test f true (inl e) = inl e
    by_test f true (inr k) = inr (f k)
    by_test f false k = inr (f k)

-- The Get of the CronJob.
pub begun_fact : {me : List ℕ} {h : List Told} → Inv me h → (n : List ℕ) (o : Option Cron)
    → ((c : Cron) → o ≡ Some c → OldCron h n c) → SyncFact me h (begun n o)
begun_fact f n None old = tt
begun_fact {me} {h} f n (Some c) old =
    go_on_fact me h (record { name = n; cron = c; alive = [] }) (named c.active) None (record {
      base = record { cron = old c refl; owned = λ r i. absurd i };
      held_fact = tt;
      its = λ m. let a = f.status n c (old c refl) m in record {
        at_fact = record {
          known = λ r k is o l. known r k is (a.named r k is o l);
          settled = λ r i. absurd i;
          alive = λ r i. absurd i;
          claimed = λ r i. a.claimed r (was_named r c.active i);
        };
        order = tt;
      };
    })
  where
    known : (r : Ref) (k : Claimed) → claim_of h r ≡ Some k → IsIn r c.active ⊎ Dead h r
        → IsIn r (named c.active) ⊎ (IsIn r [] ⊎ Dead h r)
    known r k is (inl i) =
        let b = f.claims r k is in inl (is_named r c.active i ((f.jobs r.name b.job b.was).named))
    known r k is (inr d) = inr (inr d)

-- Policies that test as one are one.
policy_true : (p q : Policy) → is_policy p q ≡ true → p ≡ q
policy_true Allow Allow e = refl
policy_true Forbid Forbid e = refl
policy_true Replace Replace e = refl
policy_true p q e = absurd (cc e)

-- A number that tests as less is less.
less : (a b : ℕ) → nat_lt a b ≡ true → a < b
less a b e = grind (arith, nat_tests)

-- A Job that tests as ours has this controller, this policy and a later time.
ours_fact : (c : Cron) (j : Job) → is_ours c j ≡ true → ForFact c j
ours_fact c j e =
    let a = both_true (is_same j.owner c.uid && waits j && is_policy j.policy c.policy) (nat_lt c.last j.time) e in
    let b = both_true (is_same j.owner c.uid && waits j) (is_policy j.policy c.policy) a.0 in
    let d = both_true (is_same j.owner c.uid) (waits j) b.0 in
    record {
      owner = same_true j.owner c.uid d.0;
      policy = policy_true j.policy c.policy b.1;
      time = less c.last j.time a.1;
    }

-- A Job that tests as ours waits.
pub ours_waits : (c : Cron) (j : Job) → is_ours c j ≡ true → waits j ≡ true
ours_waits c j e =
    let a = both_true (is_same j.owner c.uid && waits j && is_policy j.policy c.policy) (nat_lt c.last j.time) e in
    let b = both_true (is_same j.owner c.uid && waits j) (is_policy j.policy c.policy) a.0 in
    (both_true (is_same j.owner c.uid) (waits j) b.0).1

-- Where a Job may be held under Forbid, nothing runs.
pub held_alone : (p : Policy) (rs : List Ref) → lets_hold p rs ≡ true → p ≡ Forbid → rs ≡ []
held_alone Forbid [] e f = refl
held_alone Forbid (r ∷ rs) e f = absurd (cc e)
held_alone p rs e f = absurd (cc f)

-- A Job under a name that was to be taken is read.
pub adopted_fact : (me : List ℕ) (h : List Told) (at : At) (n : List ℕ) (o : Option Job) → Readies me h at
    → job_at h n ≡ o → SyncFact me h (adopted at n o)
adopted_fact me h at n None f e = f
adopted_fact me h at n (Some j) f e = by_test (lets_hold at.cron.policy at.alive && is_ours at.cron j) refl
  where
    by_test : (b : Bool) → (lets_hold at.cron.policy at.alive && is_ours at.cron j) ≡ b
        → SyncFact me h (if b then Holding at (record { job = ref n j.uid; found = j }) else Ready at)
    by_test true t =
        let b = both_true (lets_hold at.cron.policy at.alive) (is_ours at.cron j) t in
        let ours = ours_fact at.cron j b.1 in
        record {
          base = f.base;
          its = f.its;
          held_fact = record {
            was = job_is_old h n j e;
            uid = refl;
            held = is_held j (ours_waits at.cron j b.1);
            owner = ours.owner;
          };
          for_fact = ours;
          alone = held_alone at.cron.policy at.alive b.0;
        }
    by_test false t = f

-- ---- what is heard

-- What no cache keeps, no cache says.
pub not_cached : (call : Call) → ((s : Cluster) → cache_of s call ≡ None) → (a : Answer) (h : List Told)
    → WasSo call a h
    → ⊥
not_cached call n a [] w = absurd (cc (n nothing, w))
not_cached call n a (e ∷ h) (inl w) = absurd (cc (n (state_of (e ∷ h)), w))
not_cached call n a (e ∷ h) (inr w) = not_cached call n a h w

-- what the server answered
pub record IsServed (h : List Told) (t : Stamp) (call : Call) (reached : Bool) (a : Answer) : Type 0 where
  pub came : reached ≡ true
  pub is : a ≡ (served (state_of h) t call).answer

-- an answer that tells what the call found or did
abbrev pub Tells : Answer → Type 0
Tells Is.Lost = ⊥
Tells Is.Refused = ⊥
Tells (Is.Jobs rows) = ⊥
Tells a = Unit {0}

-- An answer that tells what a call did that no cache answers is the server's.
pub by_server : {h : List Told} {t : Stamp} {call : Call} {reached : Bool} {a : Answer}
    → ((s : Cluster) → cache_of s call ≡ None) → Tells a → IsAnswer h t call reached a
    → IsServed h t call reached a
by_server n l (Unheard (inl e)) = absurd (subst Tells e l)
by_server n l (Unheard (inr e)) = absurd (subst Tells e l)
by_server n l (Answered r e) = record { came = r; is = e }
by_server {h} {t} {call} {reached} {a} n l (FromCache w) = absurd (not_cached call n a h w)
by_server n l (Listed rows c e w) = absurd (subst Tells e l)

-- A Job that a cache tells of stood at some moment.
pub was_job : (n : List ℕ) (j : Job) (h : List Told) → WasSo (Of.CacheJob n) (Is.Job (Some j)) h → OldJob h n j
was_job n j [] w = absurd (cc w)
was_job n j (e ∷ h) (inl w) = inl (cc w)
was_job n j (e ∷ h) (inr w) = inr (was_job n j h w)

-- A CronJob that a cache tells of stood at some moment.
was_cron : (n : List ℕ) (c : Cron) (h : List Told) → WasSo (Of.CacheCron n) (Is.Cron (Some c)) h → OldCron h n c
was_cron n c [] w = absurd (cc w)
was_cron n c (e ∷ h) (inl w) = inl (cc w)
was_cron n c (e ∷ h) (inr w) = inr (was_cron n c h w)

-- What a GET of a Job answers.
pub got_job : {h : List Told} {t : Stamp} {n : List ℕ} {reached : Bool} {o : Option Job}
    → IsAnswer h t (Of.GetJob n) reached (Is.Job o) → job_at h n ≡ o
got_job {h} {t} {n} {reached} {o} a =
    let s = by_server (λ s. refl) tt a in
    let e : Is.Job o ≡ Is.Job (job_at h n) = s.is in
    cc

-- What a GET of a CronJob answers.
pub got_cron : {h : List Told} {t : Stamp} {n : List ℕ} {reached : Bool} {o : Option Cron}
    → IsAnswer h t (Of.GetCron n) reached (Is.Cron o) → (c : Cron) → o ≡ Some c → OldCron h n c
got_cron {h} {t} {n} {reached} {o} a c is =
    let s = by_server (λ s. refl) tt a in
    let e : Is.Cron o ≡ Is.Cron (cron_at h n) = s.is in
    cron_is_old h n c (cc)

-- What a cache answers of a Job stood there at some moment.
pub cache_job : {h : List Told} {t : Stamp} {n : List ℕ} {reached : Bool} {o : Option Job}
    → IsAnswer h t (Of.CacheJob n) reached (Is.Job o) → (j : Job) → o ≡ Some j → OldJob h n j
cache_job (Unheard (inl e)) j is = absurd (cc e)
cache_job (Unheard (inr e)) j is = absurd (cc e)
cache_job (Listed rows c e w) j is = absurd (cc c)
cache_job {h} {t} {n} {reached} {o} (Answered r e) j is =
    let e' : Is.Job o ≡ Is.Job (job_at h n) = e in
    job_is_old h n j (cc)
cache_job {h} {t} {n} {reached} {o} (FromCache w) j is =
    was_job n j h (subst (λ (z : Option Job). WasSo (Of.CacheJob n) (Is.Job z) h) is w)

-- What a cache answers of a CronJob stood there at some moment.
pub cache_cron : {h : List Told} {t : Stamp} {n : List ℕ} {reached : Bool} {o : Option Cron}
    → IsAnswer h t (Of.CacheCron n) reached (Is.Cron o) → (c : Cron) → o ≡ Some c → OldCron h n c
cache_cron (Unheard (inl e)) c is = absurd (cc e)
cache_cron (Unheard (inr e)) c is = absurd (cc e)
cache_cron (Listed rows d e w) c is = absurd (cc d)
cache_cron {h} {t} {n} {reached} {o} (Answered r e) c is =
    let e' : Is.Cron o ≡ Is.Cron (cron_at h n) = e in
    cron_is_old h n c (cc)
cache_cron {h} {t} {n} {reached} {o} (FromCache w) c is =
    was_cron n c h (subst (λ (z : Option Cron). WasSo (Of.CacheCron n) (Is.Cron z) h) is w)

-- The Job that an undisturbed sync makes is the only one that was made for its CronJob and its
-- time.
use Rattle.std.proofs.Common.{◌≡◌, ℕ, suc, ◌==◌, ◌&&◌, Bool, true, false, cond, List, [], ◌∷◌, ◌++◌, length, filter, map as map_list, Option, Some, None, inl, inr, refl, sym, ap, subst, ◌∙◌}
use Rattle.std.specs.FinMap as map
use Rattle.std.proofs.lemmas.Bool.{eqb-true}
use Rattle.cj_types.specs.Keys.{Place}
use Rattle.cj_types.specs.Made.{made_place}
use Rattle.cj_types.specs.declared.cron.CronJob.{CronJob}
use Rattle.cj_types.specs.declared.job.JobDraft.{JobDraft}
use Rattle.cj_types.specs.declared.policy.Reason.{Reason}
use Rattle.cj_status.specs.declared.refs.JobRef.{JobRef}
use Rattle.cj_decide.specs.Start.{claim_of as claim_for}
use Rattle.cj_decide.specs.Decision.{Planned}
use Rattle.cj_decide.specs.laws.Laws.{IsIn}
use Rattle.cj_calls.specs.Rows.{Told}
use Rattle.cj_calls.specs.declared.call.Call.{Call}
use Rattle.cj_calls.specs.declared.call.Call.TheVariants as Of
use Rattle.cj_state.specs.declared.phases.sync.Phase.TheVariants.{Checked}
use Rattle.cj_state.specs.declared.state.State.{State}
use Rattle.cj_state.specs.phases.Steps.{Step, drops, makes as makes_job, sets, makings, settings, all_steps}
use Rattle.cj_state.specs.WorkerCalls.{Handled, sync_of}
use Rattle.cj_state.specs.Legal.{IsLegal, answer_of, state_of}
use Rattle.cj_world_laws.specs.once.Once.{Claimed, claimed_under, claimed_of, claim_after, claim_of, is_making, is_ok, with_made, makes, IsNew, Once}
use Rattle.cj_world_laws.proofs.LegalLemmas.Callers.{idle}
use Rattle.cj_world_laws.proofs.LegalLemmas.Inputs.{rests_exactly}
use Rattle.cj_world_laws.proofs.LegalLemmas.HeldSyncs.{syncs_agree}
use Rattle.cj_world_laws.proofs.OnceLemmas.Whole.{both}
use Rattle.cj_history.specs.store.Writes.{writes}
use Rattle.cj_history.specs.progress.Undisturbed.{worker, entry, AreAside, Leads}
use Rattle.cj_history.specs.progress.Syncs.{calls_left, works_off, is_for, IsFor, IsOpen, IsOnly, PlansMakeOne}
use Rattle.cj_history.proofs.StoreLemmas.Stores.{store_agrees}
use Rattle.cj_history.proofs.StoreLemmas.Answered.{cron_keyed}
use Rattle.cj_history.proofs.ProgressLemmas.Missed.{claims_due}
use Rattle.cj_history.proofs.ProgressLemmas.Calls.{in_flight, claim_is}
use Rattle.cj_history.proofs.ProgressLemmas.Aside.{Same, same_aside, caller_is, ok_entered}
use Rattle.cj_history.proofs.ProgressLemmas.Started.{IsRead, Starting, starting, plan_of, seen_in, plans_make_job}
use Rattle.cj_history.proofs.GapsLemmas.Whole.{same_nat}

-- ---- a time is there once

-- each claim is new beside those that follow it
abbrev AreDistinct : List Claimed → Type 0
AreDistinct [] = Unit {0}
AreDistinct (m ∷ ms) = IsNew m ms × AreDistinct ms

-- Where each making rests on a new claim, those that were made are distinct.
distinct : (window : ℕ) (h : List Told) → Once window h → AreDistinct (makes window h)
distinct window [] o = tt
distinct window (e ∷ h) o = by (distinct window h o.1) (is_making e) refl
  where
    by : AreDistinct (makes window h) → (b : Bool) → is_making e ≡ b
        → AreDistinct (with_made b (claim_of window h e.caller.number) (makes window h))
    by rest true t =
        let c = o.0 t in
        subst (λ (x : Option Claimed). AreDistinct (with_made true x (makes window h))) (sym c.1) (c.2, rest)
    by rest false t = rest

-- Where two tests hold, the first does.
first : (a b : Bool) → (a && b) ≡ true → a ≡ true
first true b e = refl
first false b e = absurd (cc e)

-- And the second.
second : (a b : Bool) → (a && b) ≡ true → b ≡ true
second true b e = e
second false b e = absurd (cc e)

-- Two tests that hold do so together.
both_true : (a b : Bool) → a ≡ true → b ≡ true → (a && b) ≡ true
both_true true b e f = f
both_true false b e f = absurd (cc e)

-- A claim that tests as one of the CronJob and the time is one.
is_of : (u t : ℕ) (x : Claimed) → is_for u t x ≡ true → (x.owner ≡ u) × (x.time ≡ t)
is_of u t x e = (
  eqb-true x.owner u (first (x.owner == u) (x.time == t) e),
  eqb-true x.time t (second (x.owner == u) (x.time == t) e),
)

module _ (m : Claimed) where
  -- A claim tests as one of its own CronJob and time.
  of_itself : is_for m.owner m.time m ≡ true
  of_itself = both_true (m.owner == m.owner) (m.time == m.time) (same_nat m.owner) (same_nat m.time)

  -- Of those beside which it is new none is for the same.
  none_for : (ms : List Claimed) → IsNew m ms → length (filter (is_for m.owner m.time) ms) ≡ 0
  none_for [] n = refl
  none_for (x ∷ ms) n = by (none_for ms n.1) (is_for m.owner m.time x) refl
    where
      by : length (filter (is_for m.owner m.time) ms) ≡ 0 → (b : Bool) → is_for m.owner m.time x ≡ b
          → length (cond b (x ∷ filter (is_for m.owner m.time) ms) (filter (is_for m.owner m.time) ms)) ≡ 0
      by rest true e = let r = is_of m.owner m.time x e in absurd (n.0 r.0 r.1)
      by rest false e = rest

  -- One that stands among those beside which another is new isn't for the same.
  not_same : (x : Claimed) (ms : List Claimed) → IsNew x ms → IsIn m ms → x.owner ≡ m.owner → x.time ≡ m.time → ⊥
  not_same x [] n i a b = absurd i
  not_same x (y ∷ ms) n (inl e) a b =
      n.0 (ap (λ (z : Claimed). z.owner) e ∙ sym a) (ap (λ (z : Claimed). z.time) e ∙ sym b)
  not_same x (y ∷ ms) n (inr i) a b = not_same x ms n.1 i a b

  -- Of distinct ones among which it stands it alone is for the same.
  only_one : (ms : List Claimed) → AreDistinct ms → IsIn m ms → length (filter (is_for m.owner m.time) ms) ≡ 1
  only_one [] d i = absurd i
  only_one (x ∷ ms) d (inl e) =
      let new : IsNew m ms = subst (λ (z : Claimed). IsNew z ms) e d.0 in
      let rest = filter (is_for m.owner m.time) ms in
      ap (λ (b : Bool). length (cond b (x ∷ rest) rest))
      (ap (λ (z : Claimed). is_for m.owner m.time z) e ∙ of_itself)
      ∙ ap suc (none_for ms new)
  only_one (x ∷ ms) d (inr i) = by (only_one ms d.1 i) (is_for m.owner m.time x) refl
    where
      by : length (filter (is_for m.owner m.time) ms) ≡ 1 → (b : Bool) → is_for m.owner m.time x ≡ b
          → length (cond b (x ∷ filter (is_for m.owner m.time) ms) (filter (is_for m.owner m.time) ms)) ≡ 1
      by rest true e = let r = is_of m.owner m.time x e in absurd (not_same x ms d.0 i r.0 r.1)
      by rest false e = rest

  -- What was made stays made, with one making more or none.
  made_still : (b : Bool) (o : Option Claimed) (ms : List Claimed) → IsIn m ms → IsIn m (with_made b o ms)
  made_still true (Some n) ms i = inr i
  made_still true None ms i = i
  made_still false o ms i = i

  -- What an accepted making rests on is made.
  made_now : (b : Bool) (o : Option Claimed) (ms : List Claimed) → b ≡ true → o ≡ Some m → IsIn m (with_made b o ms)
  made_now true (Some n) ms e f = inl (cc f)
  made_now true None ms e f = absurd (cc f)
  made_now false o ms e f = absurd (cc e)

-- ---- the claim of the worker

-- What others call aside leaves the worker's claim.
pub claim_aside : (window w : ℕ) (k : Place) (q : Option Place) (es h : List Told) → IsLegal window (es ++ h)
    → AreAside w k q es h → claim_of window (es ++ h) w ≡ claim_of window h w
claim_aside window w k q [] h l a = refl
claim_aside window w k q (e ∷ es) h l a = left (w == e.caller.number) refl ∙ claim_aside window w k q es h l.2 a.2
  where
    left : (b : Bool) → (w == e.caller.number) ≡ b
        → cond b (claim_after (state_of window (es ++ h)).store e.call e.answer (claim_of window (es ++ h) w))
        (claim_of window (es ++ h) w)
        ≡ claim_of window (es ++ h) w
    left true n =
        (idle window e (es ++ h) l (λ r. a.0 (caller_is w e.caller n r))).claims (claim_of window (es ++ h) w)
    left false n = refl

-- A choice of the same is that.
pub either : (b : Bool) (o : Option Claimed) → cond b o o ≡ o
either true o = refl
either false o = refl

-- one of the steps makes a Job
abbrev pub Makes : List Step → Type 0
Makes [] = ⊥
Makes (drops r ∷ xs) = Makes xs
Makes (makes_job d ∷ xs) = Unit {0}
Makes (sets f ∷ xs) = Makes xs

-- One after some drops does.
pub makes_after : (rs : List JobRef) (d : JobDraft) (xs : List Step) → Makes (map_list drops rs ++ (makes_job d ∷ xs))
makes_after [] d xs = tt
makes_after (r ∷ rs) d xs = makes_after rs d xs

-- w is the worker, k its key, q the Job's name, m what it claims, and P what its calls are known to
-- lead to.
module _ (window w : ℕ) (k : Place) (q : Option Place) (m : Claimed) (P : List Told → Type 0) where
  -- A worker's accepted call after a legal history makes a legal one.
  legal_with : (h : List Told) (call : Call) → IsLegal window h → is_ok (answer_of window h (worker w) call) ≡ true
      → IsLegal window (entry window h w call ∷ h)
  legal_with h call l ok = (refl, ok_entered (answer_of window h (worker w) call) ok, l)

  -- What others call aside leaves what was made.
  made_aside : (es h : List Told) → IsIn m (makes window h) → IsIn m (makes window (es ++ h))
  made_aside [] h i = i
  made_aside (e ∷ es) h i =
      made_still m (is_making e) (claim_of window (es ++ h) e.caller.number) (makes window (es ++ h))
      (made_aside es h i)

  -- Once it is made, the calls that are left lead to its being the only one.
  leads_kept : (calls : List Call) (h : List Told) → IsLegal window h → IsIn m (makes window h)
      → Leads window w k q h calls P → Leads window w k q h calls (IsOnly window m.owner m.time)
  leads_kept [] h l i f = λ short planned. only_one m (makes window h)
      (distinct window h (both window h short l planned).0) i
  leads_kept (call ∷ calls) h l i f = λ es n a. (
      let r = f es n a in
      let x = entry window (es ++ h) w call in (
        r.0,
        leads_kept calls (x ∷ (es ++ h)) (legal_with (es ++ h) call n r.0)
            (made_still m (is_making x) (claim_of window (es ++ h) w) (makes window (es ++ h)) (made_aside es h i)) r.1,
      ))

  -- Once it is claimed, the steps that are left do, where one of them makes a Job.
  leads_made : (reasons : List Reason) (steps : List Step) (h : List Told) → IsLegal window h → Makes steps
      → claim_of window h w ≡ Some m → Leads window w k q h (calls_left reasons steps) P
      → Leads window w k q h (calls_left reasons steps) (IsOnly window m.owner m.time)
  leads_made reasons [] h l s c f = absurd s
  leads_made reasons (drops d ∷ xs) h l s c f = λ es n a. (
      let r = f es n a in (
        r.0,
        leads_made reasons xs (entry window (es ++ h) w Of.DropNext ∷ (es ++ h))
            (legal_with (es ++ h) Of.DropNext n r.0) s
            (either (w == w) (claim_of window (es ++ h) w) ∙ claim_aside window w k q es h n a ∙ c) r.1,
      ))
  leads_made reasons (makes_job d ∷ xs) h l s c f = λ es n a. (
      let r = f es n a in (
        r.0,
        leads_kept (calls_left reasons xs) (entry window (es ++ h) w Of.MakeNext ∷ (es ++ h))
            (legal_with (es ++ h) Of.MakeNext n r.0)
            (made_now m (is_ok (answer_of window (es ++ h) (worker w) Of.MakeNext)) (claim_of window (es ++ h) w)
            (makes window (es ++ h)) r.0 (claim_aside window w k q es h n a ∙ c)) r.1,
      ))
  leads_made reasons (sets g ∷ xs) h l s c f = λ es n a. (
      let r = f es n a in (
        r.0,
        leads_made reasons xs (entry window (es ++ h) w Of.SetStatus ∷ (es ++ h))
            (legal_with (es ++ h) Of.SetStatus n r.0) s
            (either (w == w) (claim_of window (es ++ h) w) ∙ claim_aside window w k q es h n a ∙ c) r.1,
      ))

  -- So do the claim and the steps after it, where its answer is of this claim.
  leads_only : (p : Planned) (h : List Told) → Makes (all_steps p.steps)
      → ((es : List Told) → IsLegal window (es ++ h) → AreAside w k q es h
      → claim_of window (entry window (es ++ h) w (Of.Claim p) ∷ (es ++ h)) w ≡ Some m)
      → Leads window w k q h (works_off p) P → Leads window w k q h (works_off p) (IsOnly window m.owner m.time)
  leads_only p h s c f = λ es n a. (
      let r = f es n a in (
        r.0,
        leads_made p.steps.reasons (all_steps p.steps) (entry window (es ++ h) w (Of.Claim p) ∷ (es ++ h))
            (legal_with (es ++ h) (Of.Claim p) n r.0) s (c es n a) r.1,
      ))

-- ---- the sync

-- After the claim of its plan the worker's claim is of the latest time missed by its CronJob.
pub claim_made : (window w : ℕ) (k : Place) (cron : CronJob) (h : List Told) → IsLegal window h
    → IsRead w k cron (state_of window h) → (p : Planned) (time : ℕ) → IsFor h w k p → IsOpen cron p time
    → (q : Option Place) (es : List Told) → IsLegal window (es ++ h) → AreAside w k q es h
    → claim_of window (entry window (es ++ h) w (Of.Claim p) ∷ (es ++ h)) w
    ≡ Some (record { owner = cron.meta.uid; time = time; policy = cron.spec.policy })
claim_made window w k cron h l r p time f o q es n a =
    let sync : sync_of (state_of window h) w ≡ Some (in_flight k (Checked p.cron p.jobs p.active)) =
    syncs_agree window h l w ∙ f.rests in
    let seen : p.cron ≡ Some cron = sym (ap seen_in (sym r.sync ∙ sync)) in
    let plan = plan_of p cron f.decided seen in
    let claim = claims_due cron p.jobs p.active p.at p.zone p.steps o.zone time plan o.runs o.known o.latest o.allowed
    in
    let key = cron_keyed (writes h) k cron (sym ((store_agrees window h l).crons k) ∙ r.stands) in
    let t : State = state_of window (es ++ h) in
    let same : Same w k q (state_of window h) t = same_aside window w k q es h n a in
    let is = claim_is t w k p p.cron p.jobs p.active cron (claim_for cron time) (same.sync ∙ sync)
    ((rests_exactly p p.cron p.jobs p.active).1 (refl, refl, refl)) claim seen (same.cron ∙ r.stands) in
    let was : Option Claimed = claim_of window (es ++ h) w in
    ap (λ (b : Bool). cond b (claim_after t.store (Of.Claim p) (answer_of window (es ++ h) (worker w) (Of.Claim p)) was)
    was)
    (same_nat w)
    ∙ ap (λ (x : Handled). claim_after t.store (Of.Claim p) x.answer was) is
    ∙ ap (λ (c : Option CronJob). claimed_of t.store time c) seen
    ∙ ap (λ (c : Option CronJob). claimed_under cron.meta.uid time c)
    (ap (λ (x : Place). map.get t.store.crons x) key ∙ same.cron ∙ r.stands)

-- For makes_job: the Job that the plans make is the only one for its CronJob and its time.
pub plans_make_one : (window w : ℕ) (k : Place) (cron : CronJob) (h : List Told) → IsLegal window h
    → IsRead w k cron (state_of window h) → PlansMakeOne window w k cron h
plans_make_one window w k cron h l r p time f o free =
    let q : Option Place = Some (made_place cron.key time) in
    let m : Claimed = record { owner = cron.meta.uid; time = time; policy = cron.spec.policy } in
    let sync : sync_of (state_of window h) w ≡ Some (in_flight k (Checked p.cron p.jobs p.active)) =
    syncs_agree window h l w ∙ f.rests in
    let seen : p.cron ≡ Some cron = sym (ap seen_in (sym r.sync ∙ sync)) in
    let plan = plan_of p cron f.decided seen in
    let claim = claims_due cron p.jobs p.active p.at p.zone p.steps o.zone time plan o.runs o.known o.latest o.allowed
    in
    let start : Starting p cron (claim_for cron time) = starting p cron (claim_for cron time) f.decided seen claim in
    let later : List Step = map_list drops p.steps.cleanup ++ settings p.steps.status in
    let all : all_steps p.steps ≡ map_list drops p.steps.drop_first ++ (makes_job _ ∷ later) =
    ap (λ (d : Option JobDraft). map_list drops p.steps.drop_first ++ (makings d ++ later)) start.make in
    leads_only window w k q m _ p h
    (subst Makes (sym all) (makes_after p.steps.drop_first _ later))
    (claim_made window w k cron h l r p time f o q)
    (plans_make_job window w k cron h l r p time f o free)

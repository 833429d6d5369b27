-- A plan claims nothing where its CronJob is suspended, its zone isn't known, no time was missed,
-- or Forbid forbids it.
use Rattle.std.proofs.Common.{◌≡◌, inl, inr, ℕ, ◌<◌, Bool, true, false, List, ◌++◌, Option, Some, None, option_map, refl, sym, ap, subst, ◌∙◌, arith}
use Rattle.cj_types.specs.Keys.{Place}
use Rattle.cj_types.specs.declared.cron.CronJob.{CronJob}
use Rattle.cj_types.specs.declared.policy.Policy.{Policy}
use Rattle.cj_types.specs.declared.policy.Policy.TheVariants.{Forbid}
use Rattle.cj_types.specs.declared.policy.Reason.{Reason}
use Rattle.cj_types.specs.declared.policy.Reason.TheVariants.{UnknownTimeZone, JobAlreadyActive}
use Rattle.cj_schedule.specs.Matches.{Sets}
use Rattle.cj_schedule.specs.Grammar.{IsSchedule}
use Rattle.cj_zone.specs.declared.zone.Zone.{Zone}
use Rattle.cj_due.specs.declared.answer.Missed.{Missed}
use Rattle.cj_due.specs.declared.answer.Missed.TheVariants as Kind
use Rattle.cj_due.specs.Due.{missed_count}
use Rattle.cj_due.specs.Missed.{IsMissed}
use Rattle.cj_due.specs.Window.{window_of}
use Rattle.cj_status.specs.Refs.{has_any}
use Rattle.cj_decide.specs.declared.start_decision.StartDecision.{StartDecision}
use Rattle.cj_decide.specs.declared.steps.Steps.{Steps}
use Rattle.cj_decide.specs.StartDecisions.{by_missed, IsByText, IsByZone, IsUnlessSuspended}
use Rattle.cj_decide.specs.Start.{claim_of}
use Rattle.cj_decide.specs.Decision.{Planned, many_of, reason_of, running_of, IsDecision}
use Rattle.cj_decide.specs.laws.Laws.{IsIn, IsClaimed}
use Rattle.cj_calls.specs.Rows.{Told}
use Rattle.cj_state.specs.declared.phases.sync.Phase.TheVariants.{Checked}
use Rattle.cj_state.specs.WorkerCalls.{sync_of}
use Rattle.cj_state.specs.Legal.{IsLegal, state_of}
use Rattle.cj_world_laws.proofs.LegalLemmas.HeldSyncs.{syncs_agree}
use Rattle.cj_history.specs.progress.Syncs.{Closed, suspended, zoneless, unmissed, forbidden, Says, PlansStay}
use Rattle.cj_history.proofs.ProgressLemmas.Missed.{one_schedule, some_missed}
use Rattle.cj_history.proofs.ProgressLemmas.Calls.{in_flight}
use Rattle.cj_history.proofs.ProgressLemmas.Started.{IsRead, plan_of, seen_in}

-- ---- the start decision

-- A time is counted where some are missed.
counted : (s : Sets) (z : Zone) (lo hi : ℕ) (m : Missed) (policy : Policy) (busy : Bool) (n : Option ℕ)
    → IsMissed s z lo hi m → missed_count s z lo hi ≡ 0 → (by_missed m policy busy n).time ≡ None
counted s z lo hi Kind.None policy busy n h e = refl
counted s z lo hi (Kind.Some count latest) policy busy n h e =
    let a = h.0 in let b = h.1 in absurd (omega (arith, a, b, e))
counted s z lo hi (Kind.Many latest) policy busy n h e = let a = h.0 in absurd (omega (arith, a, e))

-- Where times are missed and a Job runs, Forbid starts none, and says so.
held_back : (m : Missed) (n : Option ℕ) → (m ≡ Kind.None → ⊥) → ((by_missed m Forbid true n).time ≡ None)
    × ((by_missed m Forbid true n).reason ≡ Some JobAlreadyActive)
held_back Kind.None n f = absurd (f refl)
held_back (Kind.Some count latest) n f = (refl, refl)
held_back (Kind.Many latest) n f = (refl, refl)

-- Where a time is due in the window, not none are missed.
not_none : (s : Sets) (z : Zone) (lo hi : ℕ) (m : Missed) → IsMissed s z lo hi m → 0 < missed_count s z lo hi
    → m ≡ Kind.None
    → ⊥
not_none s z lo hi m h l e =
    let a : IsMissed s z lo hi Kind.None = subst (IsMissed s z lo hi) e h in omega (arith, a, l)

-- By a text of which no time was missed, no Job is started.
text_none : (c : CronJob) (z : Zone) (busy : Bool) (now : ℕ) (v : StartDecision) (s : Sets) → IsByText c z busy now v
    → IsSchedule c.spec.schedule s → missed_count s z (window_of c now) now ≡ 0 → v.time ≡ None
text_none c z busy now v s (inl (t, ht, (m, n, hm, hn, e))) hs none =
    let same : t ≡ s = one_schedule c.spec.schedule t s ht hs in
    ap (λ (x : StartDecision). x.time) e ∙ counted s z (window_of c now) now m c.spec.policy busy n
    (subst (λ (x : Sets). IsMissed x z (window_of c now) now m) same hm) none
text_none c z busy now v s (inr (never, e)) hs none = ap (λ (x : StartDecision). x.time) e

-- By a text of which a time was missed, Forbid starts no Job beside one that runs, and says so.
text_held : (c : CronJob) (z : Zone) (now : ℕ) (v : StartDecision) (t : ℕ) → IsByText c z true now v
    → IsClaimed c now z t
    → c.spec.policy ≡ Forbid → (v.time ≡ None) × (v.reason ≡ Some JobAlreadyActive)
text_held c z now v t (inl (s, hs, (m, n, hm, hn, e))) d policy =
    let same : s ≡ d.sets = one_schedule c.spec.schedule s d.sets hs d.schedule in
    let miss : IsMissed d.sets z (window_of c now) now m
    = subst (λ (x : Sets). IsMissed x z (window_of c now) now m) same
    hm in
    let some = some_missed d.sets z (window_of c now) now t d.latest in
    let both = held_back m n (not_none d.sets z (window_of c now) now m miss (omega (arith, some))) in
    let is : v ≡ by_missed m Forbid true n = e ∙ ap (λ (x : Policy). by_missed m x true n) policy in
    (ap (λ (x : StartDecision). x.time) is ∙ both.0, ap (λ (x : StartDecision). x.reason) is ∙ both.1)
text_held c z now v t (inr (never, e)) d policy = absurd (never d.sets d.schedule)

-- A reason stands among those of a plan.
among : (late : Bool) (o : Option Reason) (x : Reason) → o ≡ Some x → IsIn x (many_of late ++ reason_of o)
among true o x e = inr (subst (λ (z : Option Reason). IsIn x (reason_of z)) (sym e) (inl refl))
among false o x e = subst (λ (z : Option Reason). IsIn x (reason_of z)) (sym e) (inl refl)

-- ---- the plan

-- d is the decision by which the plan p of the CronJob c is made.
module _ (c : CronJob) (p : Planned) (d : IsDecision c p.jobs p.active p.at p.zone p.steps) where
  -- Where the start decision starts none, nothing is claimed.
  none_claimed : d.start.time ≡ None → p.steps.claim ≡ None
  none_claimed e = ap (λ (x : Steps). x.claim) d.meant.are ∙ ap (λ (o : Option ℕ). option_map (claim_of c) o) e

  -- The start decision's reason is told.
  told : (x : Reason) → d.start.reason ≡ Some x → IsIn x p.steps.reasons
  told x e = subst (λ (l : List Reason). IsIn x l) (sym (ap (λ (z : Steps). z.reasons) d.meant.are))
      (among d.start.is_late d.start.reason x e)

  -- What is decided of a CronJob that isn't suspended.
  by_zone : c.spec.suspend ≡ false → (z : Option Zone) → p.zone ≡ z
      → IsByZone c z (has_any (running_of c p.active)) p.at d.start
  by_zone e z f = subst (λ (o : Option Zone). IsByZone c o (has_any (running_of c p.active)) p.at d.start) f
      (subst (λ b. IsUnlessSuspended b c p.zone (has_any (running_of c p.active)) p.at d.start) e d.decided)

  -- Such a plan claims nothing, and says why.
  stays : (y : Closed c p) → (p.steps.claim ≡ None) × Says y p.steps.reasons
  stays (suspended e) =
      let is = subst (λ b. IsUnlessSuspended b c p.zone (has_any (running_of c p.active)) p.at d.start) e d.decided in
      (none_claimed (ap (λ (x : StartDecision). x.time) is), tt)
  stays (zoneless e f) =
      let is = by_zone e None f in
      (none_claimed (ap (λ (x : StartDecision). x.time) is), told UnknownTimeZone (ap (λ (x : StartDecision). x.reason) is))
  stays (unmissed z s e f hs none) = (
    none_claimed (text_none c z (has_any (running_of c p.active)) p.at d.start s (by_zone e (Some z) f) hs none),
    tt,
  )
  stays (forbidden z t e f due policy busy) =
      let by : IsByText c z true p.at d.start = subst (λ b. IsByText c z b p.at d.start) busy (by_zone e (Some z) f) in
      let both = text_held c z p.at d.start t by due policy in
      (none_claimed both.0, told JobAlreadyActive both.1)

-- For makes_job: the plans that start no Job claim nothing, and say why.
pub plans_stay : (window w : ℕ) (k : Place) (cron : CronJob) (h : List Told) → IsLegal window h
    → IsRead w k cron (state_of window h) → PlansStay w k cron h
plans_stay window w k cron h l r p f y =
    let sync : sync_of (state_of window h) w ≡ Some (in_flight k (Checked p.cron p.jobs p.active)) =
    syncs_agree window h l w ∙ f.rests in
    let seen : p.cron ≡ Some cron = sym (ap seen_in (sym r.sync ∙ sync)) in
    stays cron p (plan_of p cron f.decided seen) y

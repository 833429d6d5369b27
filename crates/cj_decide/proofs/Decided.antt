-- Two statuses are equal or not, so there is a plan.
use Rattle.std.proofs.Common.{◌≡◌, ◌⊎◌, inl, inr, ap, sym, subst, refl, ℕ, nat_eq, Bool, true, false, List, [], ◌∷◌, Option, None, Some, eq-eqb}
use Rattle.std.proofs.lemmas.Bool.{eqb-true}
use Rattle.cj_types.specs.declared.cron.CronJob.{CronJob}
use Rattle.cj_types.specs.declared.cron.CronStatus.{CronStatus}
use Rattle.cj_types.specs.declared.job.Job.{Job}
use Rattle.cj_zone.specs.declared.zone.Zone.{Zone}
use Rattle.cj_status.specs.Refs.{has_any}
use Rattle.cj_decide.specs.declared.steps.Steps.{Steps}
use Rattle.cj_decide.specs.declared.start_decision.StartDecision.{StartDecision}
use Rattle.cj_decide.specs.Finally.{standing, final, IsStatusStep}
use Rattle.cj_decide.specs.StartDecisions.{IsStartDecision}
use Rattle.cj_decide.specs.Decision.{running_of, claim_by, steps_of, IsDecision}

-- equal, or not
abbrev Differs : {X : Type 0} → X → X → Type 0
Differs a b = (a ≡ b) ⊎ (a ≡ b → ⊥)

-- Two numbers are equal, or not.
numbers : (a b : ℕ) → Differs a b
numbers a b = by (nat_eq a b) refl
  where
    by : (t : Bool) → nat_eq a b ≡ t → Differs a b
    by true e = inl (eqb-true a b e)
    by false e = inr (λ h. let t = eq-eqb a b h in cc)

-- Two lists are equal, or not, where any two of their items are.
lists : {X : Type 0} → ((x y : X) → Differs x y) → (xs ys : List X) → Differs xs ys
lists d [] [] = inl refl
lists d [] (y ∷ ys) = inr (λ h. cc)
lists d (x ∷ xs) [] = inr (λ h. cc)
lists {X} d (x ∷ xs) (y ∷ ys) = by (d x y) (lists d xs ys)
  where
    by : Differs x y → Differs xs ys → Differs (x ∷ xs) (y ∷ ys)
    by (inl e) (inl f) = inl (cc)
    by (inr n) r = inr (λ h. n (cc))
    by (inl e) (inr n) = inr (λ h. n (cc))

-- Two times, of which either may be missing, are equal, or not.
options : (a b : Option ℕ) → Differs a b
options None None = inl refl
options None (Some y) = inr (λ h. cc)
options (Some x) None = inr (λ h. cc)
options (Some x) (Some y) = by (numbers x y)
  where
    by : Differs x y → Differs (Some x) (Some y)
    by (inl e) = inl (cc)
    by (inr n) = inr (λ h. n (cc))

-- The status of these parts.
status : List (List ℕ) → Option ℕ → Option ℕ → CronStatus
status active last success = record { active = active; last_schedule_time = last; last_successful_time = success }

-- Statuses with the same active names and the same two times are the same.
same_parts : (a b : CronStatus) → a.active ≡ b.active → a.last_schedule_time ≡ b.last_schedule_time
    → a.last_successful_time ≡ b.last_successful_time → a ≡ b
same_parts a b e f g = λ i. record { active = e i; last_schedule_time = f i; last_successful_time = g i }

-- Two statuses are equal, or not.
statuses : (a b : CronStatus) → Differs a b
statuses a b = by (lists (lists numbers) a.active b.active) (options a.last_schedule_time b.last_schedule_time)
    (options a.last_successful_time b.last_successful_time)
  where
    by : Differs a.active b.active → Differs a.last_schedule_time b.last_schedule_time
        → Differs a.last_successful_time b.last_successful_time → Differs a b
    by (inl e) (inl f) (inl g) = inl (same_parts a b e f g)
    by (inr n) s t = inr (λ h. n (ap (λ (x : CronStatus). x.active) h))
    by (inl e) (inr n) t = inr (λ h. n (ap (λ (x : CronStatus). x.last_schedule_time) h))
    by (inl e) (inl f) (inr n) = inr (λ h. n (ap (λ (x : CronStatus). x.last_successful_time) h))

-- From one status to another there is a step, or none is needed.
a_step : (old new : CronStatus) → (s : Option CronStatus) × IsStatusStep old new s
a_step old new = by (statuses new old)
  where
    by : Differs new old → (s : Option CronStatus) × IsStatusStep old new s
    by (inl e) = (None, e)
    by (inr n) = (Some new, (refl, n))

-- For each start decision on a CronJob there is a plan.
a_plan : (c : CronJob) (jobs : List Job) (found : List (Option Job)) (now : ℕ) (z : Option Zone) (v : StartDecision)
    → IsStartDecision c z (has_any (running_of c found)) now v → (p : Steps) × IsDecision c jobs found now z p
a_plan c jobs found now z v h =
    let s = a_step (standing c (claim_by c v)) (final c jobs found v (claim_by c v)) in (
      steps_of c jobs found v s.0,
      record {
        start = v;
        decided = h;
        meant = record { status = s.0; changes = s.1; are = refl };
      },
    )

-- For plan_exists: by the start decision where a Job runs, and the one where none does, there is a plan.
pub some_plan : (c : CronJob) (jobs : List Job) (found : List (Option Job)) (now : ℕ) (z : Option Zone)
    (v w : StartDecision)
    → IsStartDecision c z true now v → IsStartDecision c z false now w → (p : Steps) × IsDecision c jobs found now z p
some_plan c jobs found now z v w h k = by (has_any (running_of c found)) refl
  where
    by : (b : Bool) → has_any (running_of c found) ≡ b → (p : Steps) × IsDecision c jobs found now z p
    by true e = a_plan c jobs found now z v (subst (λ b. IsStartDecision c z b now v) (sym e) h)
    by false e = a_plan c jobs found now z w (subst (λ b. IsStartDecision c z b now w) (sym e) k)

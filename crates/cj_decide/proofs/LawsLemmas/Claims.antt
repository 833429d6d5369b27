-- What holds where a plan claims a time.
use Rattle.std.proofs.Common.{◌≡◌, ◌∙◌, ap, sym, subst, refl, ℕ, ◌<◌, ◌≤◌, max, unwrap_or, Bool, true, false, cond, List, [], ◌∷◌, Option, None, Some, option_map, inl, inr, arith}
use Rattle.cj_types.specs.declared.cron.CronJob.{CronJob}
use Rattle.cj_types.specs.declared.policy.Policy.{Policy}
use Rattle.cj_types.specs.declared.policy.Policy.TheVariants.{Allow, Forbid, Replace}
use Rattle.cj_schedule.specs.Matches.{Sets}
use Rattle.cj_zone.specs.declared.zone.Zone.{Zone}
use Rattle.cj_due.specs.declared.answer.Missed.{Missed}
use Rattle.cj_due.specs.declared.answer.Missed.TheVariants as Kind
use Rattle.cj_due.specs.Due.{IsLatestDue}
use Rattle.cj_due.specs.Missed.{IsMissed}
use Rattle.cj_due.specs.Window.{window_of, deadline_start}
use Rattle.cj_status.specs.declared.refs.JobRef.{JobRef}
use Rattle.cj_status.specs.Refs.{has_any}
use Rattle.cj_decide.specs.declared.start.Claim.{Claim}
use Rattle.cj_decide.specs.declared.steps.Steps.{Steps}
use Rattle.cj_decide.specs.declared.start_decision.StartDecision.{StartDecision}
use Rattle.cj_decide.specs.StartDecisions.{by_policy, by_missed, IsByText, IsByZone, IsUnlessSuspended}
use Rattle.cj_decide.specs.Start.{claim_of, draft_of}
use Rattle.cj_decide.specs.Decision.{running_of}
use Rattle.cj_decide.specs.laws.Laws.{IsClaimed, IsAllowed, ClaimsLatest, ClaimsInTime, NoClaim, is_replacing}
use Rattle.cj_decide.proofs.LawsLemmas.StartDecisions.{start_replaces}

-- the Jobs that a start decision drops
abbrev pub dropped : List JobRef → StartDecision → List JobRef
dropped running v = cond v.replaces running []

-- Where the policy has a Job started, it is for the latest time missed, and of what runs just that
-- is dropped which the policy allows.
policy_starts : (p : Policy) (running : List JobRef) (latest : ℕ) (n : Option ℕ) (t : ℕ)
    → (by_policy p (has_any running) latest n).time ≡ Some t → (latest ≡ t)
    × IsAllowed p running (dropped running (by_policy p (has_any running) latest n))
policy_starts Allow running latest n t e = (cc, refl)
policy_starts Forbid [] latest n t e = (cc, (refl, refl))
policy_starts Forbid (r ∷ rs) latest n t e = absurd (cc)
policy_starts Replace running latest n t e = (cc, refl)

-- A Job started by the missed times is for the latest due time, and drops as the policy allows.
missed_starts : (c : CronJob) (s : Sets) (z : Zone) (now : ℕ) (m : Missed) (p : Policy) (running : List
    JobRef) (n : Option ℕ) (t : ℕ)
    → IsMissed s z (window_of c now) now m → (by_missed m p (has_any running) n).time ≡ Some t
    → IsLatestDue s z (window_of c now) now t × IsAllowed p running
    (dropped running (by_missed m p (has_any running) n))
missed_starts c s z now Kind.None p running n t h e = absurd (cc)
missed_starts c s z now (Kind.Many latest) p running n t h e =
    let k = policy_starts p running latest n t e in
    (subst (IsLatestDue s z (window_of c now) now) k.0 h.1, k.1)
missed_starts c s z now (Kind.Some count latest) p running n t h e =
    let k = policy_starts p running latest n t e in
    (subst (IsLatestDue s z (window_of c now) now) k.0 h.3, k.1)

-- a start decision that starts a Job
pub record IsStart (c : CronJob) (running : List JobRef) (now : ℕ) (z : Option Zone) (v : StartDecision) (t : ℕ)
    : Type 0
  where
    pub zone : Zone
    pub known : z ≡ Some zone
    pub due : IsClaimed c now zone t
    pub allowed : IsAllowed c.spec.policy running (dropped running v)

-- In a known zone, a start decision that starts a Job starts it for the latest time missed by the
-- schedule, and drops as the policy allows.
text_starts : (c : CronJob) (z : Zone) (running : List JobRef) (now : ℕ) (v : StartDecision) (t : ℕ)
    → IsByText c z (has_any running) now v → v.time ≡ Some t → IsStart c running now (Some z) v t
text_starts c z running now v t (inl (s, hs, (m, n, hm, hn, e))) h =
    let k = missed_starts c s z now m c.spec.policy running n t hm (sym (ap (λ (x : StartDecision). x.time) e) ∙ h) in
    record {
      zone = z;
      known = refl;
      due = record { sets = s; schedule = hs; latest = k.0 };
      allowed = subst (λ (x : StartDecision). IsAllowed c.spec.policy running (dropped running x)) (sym e) k.1;
    }
text_starts c z running now v t (inr (none, e)) h = absurd (cc)

-- A start decision starts a Job only where the zone is known, and then for the latest time missed.
zone_starts : (c : CronJob) (z : Option Zone) (running : List JobRef) (now : ℕ) (v : StartDecision) (t : ℕ)
    → IsByZone c z (has_any running) now v → v.time ≡ Some t → IsStart c running now z v t
zone_starts c None running now v t e h = absurd (cc)
zone_starts c (Some z) running now v t e h = text_starts c z running now v t e h

-- The same whether or not the CronJob is suspended: a suspended one starts none.
unless_starts : (b : Bool) (c : CronJob) (z : Option Zone) (running : List JobRef) (now : ℕ) (v : StartDecision) (t : ℕ)
    → IsUnlessSuspended b c z (has_any running) now v → v.time ≡ Some t → IsStart c running now z v t
unless_starts true c z running now v t e h = absurd (cc)
unless_starts false c z running now v t e h = zone_starts c z running now v t e h

-- A claim that is made of a start time has that time, and is the one that claim_of gives for it.
time_of : (c : CronJob) (o : Option ℕ) (k : Claim) → option_map (claim_of c) o ≡ Some k
    → (o ≡ Some k.time) × (claim_of c k.time ≡ k)
time_of c None k e = absurd (cc)
time_of c (Some t) k e =
    let h : claim_of c t ≡ k = cc in
    let same : t ≡ k.time = ap (λ (x : Claim). x.time) h in
    (ap (λ (x : ℕ). Some x) same, ap (claim_of c) (sym same) ∙ h)

-- For plan_laws: a plan that claims a time claims the latest one missed, makes the Job that is
-- drafted for it, and drops as the policy allows.
pub claims_latest : ClaimsLatest
claims_latest c jobs found now z p k d h =
    let e = d.meant.are in
    let start = time_of c d.start.time k (sym (ap (λ (x : Steps). x.claim) e) ∙ h) in
    let begun = unless_starts c.spec.suspend c z (running_of c found) now d.start k.time d.decided start.0 in
    record {
      zone = begun.zone;
      known = begun.known;
      due = begun.due;
      status = sym (ap (λ (x : Claim). x.status) start.1);
      make = ap (λ (x : Steps). x.make) e ∙ ap (option_map (draft_of c)) start.0;
      allowed = subst (IsAllowed c.spec.policy (running_of c found)) (sym (ap (λ (x : Steps). x.drop_first) e))
          begun.allowed;
    }

-- A time above the window's lower end is above the last scheduled time, or the creation.
in_time : (last : Option ℕ) (created d now t : ℕ) → max (unwrap_or last created) d < t → t ≤ now
    → (unwrap_or last created < t) × (t ≤ now)
in_time last created d now t h k = (omega arith, k)

-- For plan_laws: a claimed time is above the last one, or the creation, and not above now.
pub claims_in_time : ClaimsInTime
claims_in_time c jobs found now z p k d h =
    let b = claims_latest c jobs found now z p k d h in
    let i = in_time c.status.last_schedule_time c.meta.created (deadline_start c.spec.starting_deadline_seconds now) now
    k.time b.due.latest.above b.due.latest.within in
    record { above = i.0; within = i.1 }

-- A start decision that gives no claim starts no Job.
pub no_start : (c : CronJob) (o : Option ℕ) → option_map (claim_of c) o ≡ None → o ≡ None
no_start c None e = refl
no_start c (Some t) e = absurd (cc)

-- For plan_laws: a plan that claims no time makes no Job and drops none first.
pub no_claim : NoClaim
no_claim None jobs found now z p e h = record {
  make = ap (λ (x : Steps). x.make) e;
  drops = ap (λ (x : Steps). x.drop_first) e;
}
no_claim (Some c) jobs found now z p d h =
    let e = d.meant.are in
    let none = sym (ap (λ (x : Steps). x.claim) e) ∙ h in
    let start = no_start c d.start.time none in
    let stays : d.start.replaces ≡ false = start_replaces c z (has_any (running_of c found)) now d.start d.decided
    ∙ ap (is_replacing c.spec.policy) none in
    record {
      make = ap (λ (x : Steps). x.make) e ∙ ap (option_map (draft_of c)) start;
      drops = ap (λ (x : Steps). x.drop_first) e ∙ ap (λ b. cond b (running_of c found) []) stays;
    }

-- A start decision takes the place of what runs just where the policy says so and a time is claimed.
use Rattle.std.proofs.Common.{◌≡◌, sym, subst, refl, ℕ, Bool, true, false, Option, None, Some, inl, inr}
use Rattle.cj_types.specs.declared.cron.CronJob.{CronJob}
use Rattle.cj_types.specs.declared.policy.Policy.{Policy}
use Rattle.cj_types.specs.declared.policy.Policy.TheVariants.{Allow, Forbid, Replace}
use Rattle.cj_zone.specs.declared.zone.Zone.{Zone}
use Rattle.cj_due.specs.declared.answer.Missed.{Missed}
use Rattle.cj_due.specs.declared.answer.Missed.TheVariants as Kind
use Rattle.cj_decide.specs.declared.start_decision.StartDecision.{StartDecision}
use Rattle.cj_decide.specs.StartDecisions.{by_policy, by_missed, IsByZone, IsUnlessSuspended, IsStartDecision}
use Rattle.cj_decide.specs.Decision.{claim_by}
use Rattle.cj_decide.specs.laws.Laws.{is_replacing}

module _ (c : CronJob) where
  -- By the policy alone: a start decision replaces just where it gives a claim and the policy is Replace.
  policy_replaces : (p : Policy) (busy : Bool) (t : ℕ) (n : Option ℕ) → (by_policy p busy t n).replaces
      ≡ is_replacing p (claim_by c (by_policy p busy t n))
  policy_replaces Allow busy t n = refl
  policy_replaces Forbid true t n = refl
  policy_replaces Forbid false t n = refl
  policy_replaces Replace busy t n = refl

  -- The same of a start decision by the times missed, be they none, some or many.
  missed_replaces : (m : Missed) (p : Policy) (busy : Bool) (n : Option ℕ)
      → (by_missed m p busy n).replaces ≡ is_replacing p (claim_by c (by_missed m p busy n))
  missed_replaces Kind.None p busy n = refl
  missed_replaces (Kind.Some count latest) p busy n = policy_replaces p busy latest n
  missed_replaces (Kind.Many latest) p busy n = policy_replaces p busy latest n

  -- What is so of a start decision is so of one that equals it.
  at : (p : Policy) (v w : StartDecision) → v ≡ w → w.replaces ≡ is_replacing p (claim_by c w)
      → v.replaces ≡ is_replacing p (claim_by c v)
  at p v w e h = subst (λ (x : StartDecision). x.replaces ≡ is_replacing p (claim_by c x)) (sym e) h

  -- The same of a start decision where the CronJob isn't suspended, with a zone that is known or not.
  zone_replaces : (z : Option Zone) (busy : Bool) (now : ℕ) (v : StartDecision) → IsByZone c z busy now v
      → v.replaces ≡ is_replacing c.spec.policy (claim_by c v)
  zone_replaces None busy now v e = at c.spec.policy v _ e refl
  zone_replaces (Some z) busy now v (inl (s, hs, (m, n, hm, hn, e))) = at c.spec.policy v _ e
      (missed_replaces m c.spec.policy busy n)
  zone_replaces (Some z) busy now v (inr (none, e)) = at c.spec.policy v _ e refl

  -- For start_replaces: the same, whether the CronJob is suspended or not.
  unless_replaces : (b : Bool) (z : Option Zone) (busy : Bool) (now : ℕ) (v : StartDecision)
      → IsUnlessSuspended b c z busy now v → v.replaces ≡ is_replacing c.spec.policy (claim_by c v)
  unless_replaces true z busy now v e = at c.spec.policy v _ e refl
  unless_replaces false z busy now v h = zone_replaces z busy now v h

-- A start decision takes the place of what runs just where it gives a claim and the policy is Replace.
pub start_replaces : (c : CronJob) (z : Option Zone) (busy : Bool) (now : ℕ) (v : StartDecision)
    → IsStartDecision c z busy now v
    → v.replaces ≡ is_replacing c.spec.policy (claim_by c v)
start_replaces c z busy now v h = unless_replaces c c.spec.suspend z busy now v h

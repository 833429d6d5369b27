-- There is one plan for each input.
use Rattle.std.proofs.Common.{◌≡◌, ◌∙◌, ap, sym, subst, refl, ℕ, Bool, true, false, List, Option, None, Some, Ok, inl, inr, arith}
use Rattle.std.proofs.lemmas.Bool.{cases_order}
use Rattle.cj_types.specs.declared.cron.CronJob.{CronJob}
use Rattle.cj_types.specs.declared.cron.CronStatus.{CronStatus}
use Rattle.cj_types.specs.declared.job.Job.{Job}
use Rattle.cj_schedule.specs.Matches.{Sets}
use Rattle.cj_schedule.specs.Grammar.{IsSchedule}
use Rattle.cj_schedule.proofs.Laws.{only_by, lists_complete}
use Rattle.cj_zone.specs.declared.zone.Zone.{Zone}
use Rattle.cj_due.specs.declared.answer.Missed.{Missed}
use Rattle.cj_due.specs.declared.answer.Missed.TheVariants as Kind
use Rattle.cj_due.specs.Due.{due, IsLeastDue, IsLatestDue}
use Rattle.cj_due.specs.Missed.{IsMissed}
use Rattle.cj_due.specs.Window.{window_of}
use Rattle.cj_status.specs.Refs.{has_any}
use Rattle.cj_decide.specs.declared.start_decision.StartDecision.{StartDecision}
use Rattle.cj_decide.specs.StartDecisions.{by_missed, IsNext, IsByTimes, IsByText, IsByZone, IsUnlessSuspended}
use Rattle.cj_decide.specs.declared.steps.Steps.{Steps}
use Rattle.cj_decide.specs.Finally.{standing, final, IsStatusStep}
use Rattle.cj_decide.specs.Decision.{running_of, claim_by, steps_of, IsDecision}
use Rattle.cj_decide.specs.laws.Laws.{OnePlan}

-- No test is both false and true.
clash : (b : Bool) → b ≡ false → b ≡ true → ⊥
clash b f t = absurd (cc)

-- A text is a schedule with one value of Sets at most.
one_schedule : (text : List ℕ) (s t : Sets) → IsSchedule text s → IsSchedule text t → s ≡ t
one_schedule text s t h k =
    let same = only_by text (Ok s) t (h.lists, lists_complete text h.lists h.short h.fields, h.sets) k in
    cc

-- There is one latest due time at most in a window.
one_latest : (s : Sets) (z : Zone) (lo hi t u : ℕ) → IsLatestDue s z lo hi t → IsLatestDue s z lo hi u → t ≡ u
one_latest s z lo hi t u h k =
    elim (cases_order t u) [
      | inl same ↦ same
      | inr (inl lt) ↦ absurd (clash (due s z u) (h.latest u lt k.within) k.is_due)
      | inr (inr gt) ↦ absurd (clash (due s z t) (k.latest t gt h.within) h.is_due)
    ]

-- There is one least due time at most in a window.
one_least : (s : Sets) (z : Zone) (lo hi t u : ℕ) → IsLeastDue s z lo hi t → IsLeastDue s z lo hi u → t ≡ u
one_least s z lo hi t u h k =
    elim (cases_order t u) [
      | inl same ↦ same
      | inr (inl lt) ↦ absurd (clash (due s z t) (k.least t h.above lt) h.is_due)
      | inr (inr gt) ↦ absurd (clash (due s z u) (h.least u k.above gt) k.is_due)
    ]

-- What is told of the times missed in a window is one.
one_missed : (s : Sets) (z : Zone) (lo hi : ℕ) (m n : Missed) → IsMissed s z lo hi m → IsMissed s z lo hi n → m ≡ n
one_missed s z lo hi Kind.None Kind.None h k = refl
one_missed s z lo hi Kind.None (Kind.Some c t) h k = absurd (omega (arith, h, k.0, k.1))
one_missed s z lo hi Kind.None (Kind.Many t) h k = absurd (omega (arith, h, k.0))
one_missed s z lo hi (Kind.Some c t) Kind.None h k = absurd (omega (arith, k, h.0, h.1))
one_missed s z lo hi (Kind.Some c t) (Kind.Some d u) h k =
    let count : c ≡ d = sym h.0 ∙ k.0 in
    let latest : t ≡ u = one_latest s z lo hi t u h.3 k.3 in
    cc
one_missed s z lo hi (Kind.Some c t) (Kind.Many u) h k = absurd (omega (arith, k.0, h.0, h.2))
one_missed s z lo hi (Kind.Many t) Kind.None h k = absurd (omega (arith, h.0, k))
one_missed s z lo hi (Kind.Many t) (Kind.Some c u) h k = absurd (omega (arith, h.0, k.0, k.2))
one_missed s z lo hi (Kind.Many t) (Kind.Many u) h k = ap (λ (x : ℕ). Kind.Many x) (one_latest s z lo hi t u h.1 k.1)

-- What is next due after a moment is one: a time, or none within 3,000 days.
one_next : (s : Sets) (z : Zone) (now : ℕ) (m n : Option ℕ) → IsNext s z now m → IsNext s z now n → m ≡ n
one_next s z now None None h k = refl
one_next s z now None (Some t) h k = absurd (clash (due s z t) (h t k.above k.within) k.is_due)
one_next s z now (Some t) None h k = absurd (clash (due s z t) (k t h.above h.within) h.is_due)
one_next s z now (Some t) (Some u) h k = ap (λ (n : ℕ). Some n) (one_least s z now _ t u h k)

-- By a schedule's times in a zone there is one start decision at most.
one_times : (c : CronJob) (s : Sets) (z : Zone) (busy : Bool) (now : ℕ) (v w : StartDecision)
    → IsByTimes c s z busy now v
    → IsByTimes c s z busy now w → v ≡ w
one_times c s z busy now v w (m, n, hm, hn, e) (m', n', km, kn, f) =
    let missed = one_missed s z (window_of c now) now m m' hm km in
    let next = one_next s z now n n' hn kn in
    e ∙ ap (λ (x : Missed). by_missed x c.spec.policy busy n) missed ∙ ap
    (λ (x : Option ℕ). by_missed m' c.spec.policy busy x) next ∙ sym f

-- By a text, which may be no schedule, there is one start decision at most in a zone.
one_text : (c : CronJob) (z : Zone) (busy : Bool) (now : ℕ) (v w : StartDecision) → IsByText c z busy now v
    → IsByText c z busy now w → v ≡ w
one_text c z busy now v w (inl (s, hs, h)) (inl (t, kt, k)) =
    let same = one_schedule c.spec.schedule s t hs kt in
    one_times c t z busy now v w (subst (λ (x : Sets). IsByTimes c x z busy now v) same h) k
one_text c z busy now v w (inl (s, hs, h)) (inr (none, k)) = absurd (none s hs)
one_text c z busy now v w (inr (none, h)) (inl (t, kt, k)) = absurd (none t kt)
one_text c z busy now v w (inr (none, h)) (inr (again, k)) = h ∙ sym k

-- By a zone, which may be unknown, there is one start decision at most.
one_zone : (c : CronJob) (z : Option Zone) (busy : Bool) (now : ℕ) (v w : StartDecision) → IsByZone c z busy now v
    → IsByZone c z busy now w → v ≡ w
one_zone c None busy now v w h k = h ∙ sym k
one_zone c (Some z) busy now v w h k = one_text c z busy now v w h k

-- Whether or not the CronJob is suspended, there is one start decision at most.
one_suspended : (b : Bool) (c : CronJob) (z : Option Zone) (busy : Bool) (now : ℕ) (v w : StartDecision)
    → IsUnlessSuspended b c z busy now v → IsUnlessSuspended b c z busy now w → v ≡ w
one_suspended true c z busy now v w h k = h ∙ sym k
one_suspended false c z busy now v w h k = one_zone c z busy now v w h k

-- From one status to another there is one step, or none.
one_step : (old new : CronStatus) (a b : Option CronStatus) → IsStatusStep old new a → IsStatusStep old new b → a ≡ b
one_step old new None None h k = refl
one_step old new None (Some t) h k = absurd (k.1 h)
one_step old new (Some s) None h k = absurd (h.1 k)
one_step old new (Some s) (Some t) h k = ap (λ (x : CronStatus). Some x) (h.0 ∙ sym k.0)

-- For a CronJob and what was read there is one plan at most.
one_decision : (c : CronJob) (jobs : List Job) (found : List (Option Job)) (now : ℕ) (z : Option Zone) (p q : Steps)
    → IsDecision c jobs found now z p → IsDecision c jobs found now z q → p ≡ q
one_decision c jobs found now z p q h k =
    let same = one_suspended c.spec.suspend c z (has_any (running_of c found)) now h.start k.start h.decided k.decided
    in
    let changes = subst (λ (x : StartDecision). IsStatusStep (standing c (claim_by c x))
    (final c jobs found x (claim_by c x)) h.meant.status) same h.meant.changes in
    let status = one_step _ _ h.meant.status k.meant.status changes k.meant.changes in
    h.meant.are ∙ ap (λ (x : StartDecision). steps_of c jobs found x h.meant.status) same
    ∙ ap (λ (x : Option CronStatus). steps_of c jobs found k.start x) status ∙ sym k.meant.are

-- For plan_laws: for a CronJob or none, and what was read, there is one plan at most.
pub one_plan : OnePlan
one_plan None jobs found now z p q h k = h ∙ sym k
one_plan (Some c) jobs found now z p q h k = one_decision c jobs found now z p q h k

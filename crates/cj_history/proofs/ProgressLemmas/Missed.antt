-- A plan claims the latest time missed, where its CronJob isn't suspended, its zone is known and its policy lets it.
use Rattle.std.proofs.Common.{◌≡◌, inl, inr, ℕ, ◌-◌, ◌<◌, ◌≤◌, Bool, true, false, List, [], ◌∷◌, ◌++◌, length, length-append, Option, Some, option_map, Ok, refl, ap, subst, ◌∙◌, arith}
use Rattle.std.proofs.lemmas.Bool.{cases_order}
use Rattle.cj_types.specs.declared.cron.CronJob.{CronJob}
use Rattle.cj_types.specs.declared.job.Job.{Job}
use Rattle.cj_types.specs.declared.policy.Policy.{Policy}
use Rattle.cj_types.specs.declared.policy.Policy.TheVariants.{Allow, Forbid, Replace}
use Rattle.cj_schedule.specs.Matches.{Sets}
use Rattle.cj_schedule.specs.Grammar.{IsSchedule}
use Rattle.cj_schedule.proofs.Laws.{only_by, lists_complete}
use Rattle.cj_zone.specs.declared.zone.Zone.{Zone}
use Rattle.cj_due.specs.declared.answer.Missed.{Missed}
use Rattle.cj_due.specs.declared.answer.Missed.TheVariants as Kind
use Rattle.cj_due.specs.Due.{due, IsLatestDue, missed_times, missed_count}
use Rattle.cj_due.specs.Missed.{IsMissed}
use Rattle.cj_due.specs.Window.{window_of}
use Rattle.cj_due.proofs.MissedLemmas.{missed_times-split, missed_times-one}
use Rattle.cj_status.specs.declared.refs.JobRef.{JobRef}
use Rattle.cj_status.specs.Refs.{has_any}
use Rattle.cj_decide.specs.declared.start_decision.StartDecision.{StartDecision}
use Rattle.cj_decide.specs.declared.steps.Steps.{Steps}
use Rattle.cj_decide.specs.StartDecisions.{by_policy, by_missed, IsByText, IsByZone, IsUnlessSuspended}
use Rattle.cj_decide.specs.Start.{claim_of}
use Rattle.cj_decide.specs.Decision.{running_of, IsDecision}
use Rattle.cj_decide.specs.laws.Laws.{IsClaimed}
use Rattle.cj_history.specs.progress.Syncs.{IsLet}

-- ---- the latest time missed

-- A text is a schedule with one value of Sets at most.
pub one_schedule : (text : List ℕ) (s t : Sets) → IsSchedule text s → IsSchedule text t → s ≡ t
one_schedule text s t h k =
    let same = only_by text (Ok s) t (h.lists, lists_complete text h.lists h.short h.fields, h.sets) k in
    cc

-- No test is both false and true.
pub clash : (b : Bool) → b ≡ false → b ≡ true → ⊥
clash b f t = absurd (cc)

-- There is one latest due time at most in a window.
pub one_latest : (s : Sets) (z : Zone) (lo hi t u : ℕ) → IsLatestDue s z lo hi t → IsLatestDue s z lo hi u → t ≡ u
one_latest s z lo hi t u h k =
    elim (cases_order t u) [
      | inl same ↦ same
      | inr (inl lt) ↦ absurd (clash (due s z u) (h.latest u lt k.within) k.is_due)
      | inr (inr gt) ↦ absurd (clash (due s z t) (k.latest t gt h.within) h.is_due)
    ]

-- Where a time is due in a window, a time is missed in it.
pub due_counts : (s : Sets) (z : Zone) (lo hi t : ℕ) → lo < t → t ≤ hi → due s z t ≡ true → 1 ≤ missed_count s z lo hi
due_counts s z lo hi t above within is_due =
    let a = missed_times-split s z lo (t - 1) hi (omega (arith, above)) (omega (arith, within)) in
    let b = missed_times-split s z (t - 1) t hi (omega arith) within in
    let c = missed_times-one s z (t - 1) t t (record {
      above = omega (arith, above);
      within = omega arith;
      is_due = is_due;
      least = λ k x y. absurd (omega (arith, x, y));
    }) in
    let e = ap (λ (l : List ℕ). length l)
    (a ∙ ap (λ (l : List ℕ). missed_times s z lo (t - 1) ++ l) (b ∙ ap (λ (l : List ℕ). l ++ missed_times s z t hi) c))
    in
    let f = length-append (missed_times s z lo (t - 1)) (t ∷ missed_times s z t hi) in
    omega (arith, e, f)

-- Where the latest is due in it, one is.
pub some_missed : (s : Sets) (z : Zone) (lo hi t : ℕ) → IsLatestDue s z lo hi t → 1 ≤ missed_count s z lo hi
some_missed s z lo hi t h = due_counts s z lo hi t h.above h.within h.is_due

-- ---- the claim

-- Where the policy lets a Job start, it is started for the time.
policy_time : (p : Policy) (running : List JobRef) (t : ℕ) (n : Option ℕ) → IsLet p running
    → (by_policy p (has_any running) t n).time ≡ Some t
policy_time Allow running t n l = refl
policy_time Forbid [] t n l = refl
policy_time Forbid (r ∷ rs) t n l = absurd (cc l)
policy_time Replace running t n l = refl

-- By what is told of the missed times, the Job is started for the latest of them.
missed_time : (s : Sets) (z : Zone) (lo hi t : ℕ) (m : Missed) (p : Policy) (running : List JobRef) (n : Option ℕ)
    → IsLatestDue s z lo hi t → IsMissed s z lo hi m → IsLet p running
    → (by_missed m p (has_any running) n).time ≡ Some t
missed_time s z lo hi t Kind.None p running n d h l = let a = some_missed s z lo hi t d in absurd (omega (arith, a, h))
missed_time s z lo hi t (Kind.Some count latest) p running n d h l =
    policy_time p running latest n l ∙ ap (λ (x : ℕ). Some x) (one_latest s z lo hi latest t h.3 d)
missed_time s z lo hi t (Kind.Many latest) p running n d h l =
    policy_time p running latest n l ∙ ap (λ (x : ℕ). Some x) (one_latest s z lo hi latest t h.1 d)

-- In a known zone the Job is started for the latest time missed.
text_time : (c : CronJob) (z : Zone) (running : List JobRef) (now : ℕ) (v : StartDecision) (t : ℕ)
    → IsByText c z (has_any running) now v → IsClaimed c now z t → IsLet c.spec.policy running → v.time ≡ Some t
text_time c z running now v t (inl (s, hs, (m, n, hm, hn, e))) d l =
    let same : s ≡ d.sets = one_schedule c.spec.schedule s d.sets hs d.schedule in
    ap (λ (x : StartDecision). x.time) e
    ∙ missed_time d.sets z (window_of c now) now t m c.spec.policy running n d.latest
    (subst (λ (x : Sets). IsMissed x z (window_of c now) now m) same hm) l
text_time c z running now v t (inr (none, e)) d l = absurd (none d.sets d.schedule)

-- A plan claims the latest time missed, where nothing keeps it from that.
pub claims_due : (c : CronJob) (jobs : List Job) (found : List (Option Job)) (now : ℕ) (o : Option Zone) (p : Steps)
    (z : Zone) (t : ℕ) → IsDecision c jobs found now o p → c.spec.suspend ≡ false → o ≡ Some z → IsClaimed c now z t
    → IsLet c.spec.policy (running_of c found) → p.claim ≡ Some (claim_of c t)
claims_due c jobs found now o p z t d runs known due l =
    let by : IsByZone c o (has_any (running_of c found)) now d.start =
    subst (λ b. IsUnlessSuspended b c o (has_any (running_of c found)) now d.start) runs d.decided in
    let time : d.start.time ≡ Some t = text_time c z (running_of c found) now d.start t
    (subst (λ (x : Option Zone). IsByZone c x (has_any (running_of c found)) now d.start) known by) due l in
    ap (λ (x : Steps). x.claim) d.meant.are ∙ ap (λ (x : Option ℕ). option_map (claim_of c) x) time

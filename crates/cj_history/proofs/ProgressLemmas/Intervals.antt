-- The greatest due time of an interval from one moment to the next is that of the window of a CronJob whose last time
-- is the greatest one up to the moment before.
use Rattle.std.proofs.Common.{◌≡◌, ◌⊎◌, inl, inr, ℕ, zero, suc, ◌+◌, ◌<◌, ◌≤◌, max, Bool, true, false, List, Option, Some, None, refl, subst, arith}
use Rattle.std.proofs.lemmas.Bool.{cases_lt}
use Rattle.cj_types.specs.declared.cron.CronJob.{CronJob}
use Rattle.cj_types.specs.declared.job.Job.{Job}
use Rattle.cj_schedule.specs.Matches.{Sets}
use Rattle.cj_schedule.specs.Grammar.{IsSchedule}
use Rattle.cj_zone.specs.declared.zone.Zone.{Zone}
use Rattle.cj_due.specs.declared.answer.Missed.{Missed}
use Rattle.cj_due.specs.declared.answer.Missed.TheVariants as Kind
use Rattle.cj_due.specs.Due.{due, IsQuiet, IsLatestDue, missed_count}
use Rattle.cj_due.specs.Missed.{IsMissed}
use Rattle.cj_due.specs.Window.{deadline_start, window_of}
use Rattle.cj_status.specs.Refs.{has_any}
use Rattle.cj_decide.specs.declared.steps.Steps.{Steps}
use Rattle.cj_decide.specs.StartDecisions.{IsByText, IsByZone, IsUnlessSuspended}
use Rattle.cj_decide.specs.Decision.{running_of, IsDecision}
use Rattle.cj_history.proofs.ProgressLemmas.Missed.{clash, one_schedule, due_counts}

-- nothing is due after a base and up to a moment, of what is in time at that moment
pub record IsLooked (s : Sets) (z : Zone) (d : Option ℕ) (base upto : ℕ) : Type 0 where
  pub low : base ≤ upto
  pub quiet : (x : ℕ) → base < x → deadline_start d upto < x → x ≤ upto → due s z x ≡ false

-- A later moment has no earlier deadline.
later_deadline : (d : Option ℕ) (a b : ℕ) → a ≤ b → deadline_start d a ≤ deadline_start d b
later_deadline None a b l = omega arith
later_deadline (Some n) a b l = omega (arith, l)

module _ (s : Sets) (z : Zone) (d : Option ℕ) (base old now : ℕ) where
  -- The greatest due time of a window that was looked at up to a moment comes after that moment.
  pub latest_after : IsLooked s z d base old → old ≤ now → (t : ℕ)
      → IsLatestDue s z (max base (deadline_start d now)) now t
      → IsLatestDue s z (max old (deadline_start d now)) now t
  latest_after f l t h =
      let above = h.above in
      let line = later_deadline d old now l in
      let after : old < t = by above line (cases_lt old t) in
      record {
        above = omega (arith, above, after);
        within = h.within;
        is_due = h.is_due;
        latest = h.latest;
      }
    where
      by : max base (deadline_start d now) < t → deadline_start d old ≤ deadline_start d now → (old < t) ⊎ (t ≤ old)
          → old < t
      by a b (inl c) = c
      by a b (inr c) = absurd (clash (due s z t) (f.quiet t (omega (arith, a)) (omega (arith, a, b)) c) h.is_due)

  -- Where nothing is due in the window, nothing is after the moment.
  pub quiet_after : IsLooked s z d base old → IsQuiet s z (max base (deadline_start d now)) now
      → IsQuiet s z (max old (deadline_start d now)) now
  quiet_after f q x a b = let l = f.low in q x (omega (arith, a, l)) b

  -- Then the window is looked at up to now.
  pub looked_quiet : base ≤ now → IsQuiet s z (max base (deadline_start d now)) now → IsLooked s z d base now
  looked_quiet l q = record { low = l; quiet = λ x a b c. q x (omega (arith, a, b)) c }

-- After the greatest due time nothing is due.
pub looked_latest : (s : Sets) (z : Zone) (d : Option ℕ) (lo now t : ℕ) → IsLatestDue s z lo now t
    → IsLooked s z d t now
looked_latest s z d lo now t h = record { low = h.within; quiet = λ x a b c. h.latest x a c }

-- Up to a moment at which nothing is looked at yet, nothing is due after it.
pub looked_none : (s : Sets) (z : Zone) (d : Option ℕ) (base : ℕ) → IsLooked s z d base base
looked_none s z d base = record { low = omega arith; quiet = λ x a b c. absurd (omega (arith, a, c)) }

-- Where no time is missed, nothing is due.
pub none_due : (s : Sets) (z : Zone) (lo hi : ℕ) → missed_count s z lo hi ≡ 0 → IsQuiet s z lo hi
none_due s z lo hi e t a b = by (due s z t) refl
  where
    by : (c : Bool) → due s z t ≡ c → due s z t ≡ false
    by true f = let g = due_counts s z lo hi t a b f in absurd (omega (arith, e, g))
    by false f = f

-- none was missed, or one was the latest
abbrev pub NoneOrLatest : Sets → Zone → ℕ → ℕ → Type 0
NoneOrLatest s z lo hi = (missed_count s z lo hi ≡ 0) ⊎ ((t : ℕ) × IsLatestDue s z lo hi t)

-- What is told of the missed times says which.
by_count : (s : Sets) (z : Zone) (lo hi : ℕ) (m : Missed) → IsMissed s z lo hi m → NoneOrLatest s z lo hi
by_count s z lo hi Kind.None h = inl h
by_count s z lo hi (Kind.Some count latest) h = inr (latest, h.3)
by_count s z lo hi (Kind.Many latest) h = inr (latest, h.1)

-- A decision of a CronJob that isn't suspended, in a known zone, tells which.
pub none_or_latest : (c : CronJob) (jobs : List Job) (found : List (Option Job)) (now : ℕ) (o : Option Zone) (p : Steps)
    (s : Sets) (z : Zone) → IsDecision c jobs found now o p → c.spec.suspend ≡ false → o ≡ Some z
    → IsSchedule c.spec.schedule s
    → NoneOrLatest s z (window_of c now) now
none_or_latest c jobs found now o p s z d runs known reads =
    by (subst (λ (x : Option Zone). IsByZone c x (has_any (running_of c found)) now d.start) known
    (subst (λ b. IsUnlessSuspended b c o (has_any (running_of c found)) now d.start) runs d.decided))
  where
    by : IsByText c z (has_any (running_of c found)) now d.start → NoneOrLatest s z (window_of c now) now
    by (inl (t, ht, (m, n, hm, hn, e))) =
        let same : t ≡ s = one_schedule c.spec.schedule t s ht reads in
        by_count s z (window_of c now) now m (subst (λ (x : Sets). IsMissed x z (window_of c now) now m) same hm)
    by (inr (never, e)) = absurd (never s reads)

-- In so many seconds after an instant there is a greatest due time, or none is due.
pub latest_or_none : (s : Sets) (z : Zone) (lo n : ℕ)
    → ((t : ℕ) × IsLatestDue s z lo (lo + n) t) ⊎ IsQuiet s z lo (lo + n)
latest_or_none s z lo zero = inr (λ t b c. absurd (omega (arith, b, c)))
latest_or_none s z lo (suc n) = by (latest_or_none s z lo n) (due s z (lo + n + 1)) refl
  where
    still : (from : ℕ) → IsQuiet s z from (lo + n) → due s z (lo + n + 1) ≡ false → IsQuiet s z from (lo + suc n)
    still from q e t x y = here (cases_lt t (lo + n + 1))
      where
        here : (t < lo + n + 1) ⊎ (lo + n + 1 ≤ t) → due s z t ≡ false
        here (inl l) = q t x (omega (arith, l))
        here (inr l) = let same : lo + n + 1 ≡ t = omega (arith, l, y) in subst (λ (k : ℕ). due s z k ≡ false) same e

    by : ((t : ℕ) × IsLatestDue s z lo (lo + n) t) ⊎ IsQuiet s z lo (lo + n) → (b : Bool) → due s z (lo + n + 1) ≡ b
        → ((t : ℕ) × IsLatestDue s z lo (lo + suc n) t) ⊎ IsQuiet s z lo (lo + suc n)
    by h true e = inl (
      lo + n + 1,
      record { above = omega arith; within = omega arith; is_due = e; latest = λ k x y. absurd (omega (arith, x, y)) },
    )
    by (inl (t, h)) false e =
        let w = h.within in
        inl (t, record { above = h.above; within = omega (arith, w); is_due = h.is_due; latest = still t h.latest e })
    by (inr q) false e = inr (still lo q e)

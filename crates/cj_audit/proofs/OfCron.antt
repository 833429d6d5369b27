-- What is noted of a CronJob is what is wrong with its Jobs.
use Rattle.std.proofs.Common.{◌≡◌, ◌⊎◌, inl, inr, ℕ, Bool, true, false, not, List, Option, Some, None, refl, sym, ap, subst}
use Rattle.std.specs.BTreeSet.{BTreeSet}
use Rattle.cj_schedule.specs.Grammar.{IsSchedule}
use Rattle.cj_schedule.specs.Matches.{Sets}
use Rattle.cj_zone.specs.declared.zone.Zone.{Zone}
use Rattle.cj_due.specs.Due.{due}
use Rattle.cj_cluster.specs.declared.cron.ClusterCron.{ClusterCron}
use Rattle.cj_cluster.specs.Content.{Content}
use Rattle.cj_audit.specs.declared.kind.Exclusive.{Exclusive}
use Rattle.cj_audit.specs.declared.finding.Finding.{Finding}
use Rattle.cj_audit.specs.declared.pairing.Pairing.{Pairing}
use Rattle.cj_audit.specs.declared.pairing.Pairing.TheVariants.{SameTime, SideBySide}
use Rattle.cj_audit.specs.declared.run.Run.{Run}
use Rattle.cj_audit.specs.Kinds.{exclusive_of}
use Rattle.cj_audit.specs.Runs.{AreRunsOf, IsRunOf}
use Rattle.cj_audit.specs.Times.{is_undue, zone_for, IsUndueRun, IsUndueNote, IsEarlyRun}
use Rattle.cj_audit.specs.Notes.{AnyOf, IsPairIn, Notes}
use Rattle.cj_audit.specs.Findings.{IsPairOf, IsTwiceOf, IsBesideUnder, IsUndueOf, IsEarlyOf, IsAloneOf, IsFindingOf}
use Rattle.cj_audit.specs.Missing.{IsMissingOf}
use Rattle.cj_audit.proofs.Members.{IsIn, contains_in, in_all}
use Rattle.cj_audit.proofs.Noting.{notes_as, notes_then}
use Rattle.cj_audit.proofs.Walks.{any_in, in_any}

-- a schedule that is told by a text, where the text is one
pub record IsRead (text : List ℕ) (schedule : Option Sets) : Type 0 where
  pub found : (s : Sets) → schedule ≡ Some s → IsSchedule text s
  pub only : (s : Sets) → IsSchedule text s → schedule ≡ Some s

-- For undue_is: where a schedule isn't due in a zone, both are there.
both_there : (s : Option Sets) (z : Option Zone) (time : ℕ) → is_undue s z time ≡ true
    → (x : Sets) × ((y : Zone) × ((s ≡ Some x) × (z ≡ Some y) × (due x y time ≡ false)))
both_there (Some x) (Some y) time h = (x, (y, (refl, refl, not_true (due x y time) h)))
  where
    not_true : (b : Bool) → not b ≡ true → b ≡ false
    not_true true e = absurd (cc e)
    not_true false e = refl
both_there (Some x) None time h = absurd (cc h)
both_there None z time h = absurd (cc h)

module _ (zones : List Zone) (c : ClusterCron) (s : Option Sets) (read : IsRead c.cron.spec.schedule s) where
  -- What is noted by the schedule and the zone is a Job whose time isn't due.
  undue_is : (run : Run) (f : Finding) → IsUndueNote s (zone_for c.cron.spec.time_zone zones) c run f
      → IsUndueRun zones c run f
  undue_is run f h = by (both_there s (zone_for c.cron.spec.time_zone zones) h.time h.undue)
    where
      by : (x : Sets)
          × ((y : Zone) × ((s ≡ Some x) × (zone_for c.cron.spec.time_zone zones ≡ Some y) × (due x y h.time ≡ false)))
          → IsUndueRun zones c run f
      by (x, (y, (a, b, d))) = record {
        time = h.time;
        scheduled = h.scheduled;
        schedule = x;
        zone = y;
        reads = read.found x a;
        in_zone = b;
        undue = d;
        is = h.is;
      }

  -- And the other way round.
  is_undue_note : (run : Run) (f : Finding) → IsUndueRun zones c run f
      → IsUndueNote s (zone_for c.cron.spec.time_zone zones) c run f
  is_undue_note run f h = record {
    time = h.time;
    scheduled = h.scheduled;
    undue = rw (read.only h.schedule h.reads, h.in_zone) (ap not h.undue);
    is = h.is;
  }

  -- what is noted of single Jobs
  abbrev pub Single : Run → Finding → Type 0
  Single run f = IsUndueNote s (zone_for c.cron.spec.time_zone zones) c run f ⊎ IsEarlyRun c run f

  module _ (content : Content) (runs : List Run) (are : AreRunsOf content c runs) where
    -- For singles: what is noted of a Job of the list is wrong with a Job of the CronJob.
    single_of : (f : Finding) → (run : Run) × (IsIn run runs × Single run f)
        → IsUndueOf zones content c f ⊎ IsEarlyOf content c f
    single_of f (run, (i, inl h)) =
        inl (record { run = run; run_of = in_all (IsRunOf content c) runs run are.each i; note = undue_is run f h })
    single_of f (run, (i, inr h)) =
        inr (record { run = run; run_of = in_all (IsRunOf content c) runs run are.each i; note = h })

    -- For singles: what is wrong with a Job of the CronJob is noted of one of the list.
    of_single : (f : Finding) → IsUndueOf zones content c f ⊎ IsEarlyOf content c f → AnyOf Single runs f
    of_single f (inl h) =
        in_any Single runs f h.run (contains_in h.run runs (are.all h.run h.run_of))
        (inl (is_undue_note h.run f h.note))
    of_single f (inr h) =
        in_any Single runs f h.run (contains_in h.run runs (are.all h.run h.run_of)) (inr h.note)

    -- What is noted of single Jobs is what is wrong with single Jobs.
    pub singles : (a b : BTreeSet Finding) → Notes (AnyOf Single runs) a b
        → Notes (λ f. IsUndueOf zones content c f ⊎ IsEarlyOf content c f) a b
    singles a b n = notes_as (AnyOf Single runs) (λ f. IsUndueOf zones content c f ⊎ IsEarlyOf content c f) a b
        (λ f h. single_of f (any_in Single runs f h)) of_single n

-- For note_cron: the same of a schedule, a zone and a list that are told in other words.
pub singles_by : (zones : List Zone) (content : Content) (c : ClusterCron) (s t : Option Sets) (z : Option Zone)
    (runs these : List Run) → IsRead c.cron.spec.schedule s → AreRunsOf content c runs → t ≡ s
    → z ≡ zone_for c.cron.spec.time_zone zones → these ≡ runs → (a b : BTreeSet Finding)
    → Notes (AnyOf (λ run f. IsUndueNote t z c run f ⊎ IsEarlyRun c run f) these) a b
    → Notes (λ f. IsUndueOf zones content c f ⊎ IsEarlyOf content c f) a b
singles_by zones content c s t z runs these read are e f g a b n =
    singles zones c s read content runs are a b (
    subst (λ xs. Notes (AnyOf (Single zones c s read) xs) a b) g (
    subst (λ x. Notes (AnyOf (λ run f. IsUndueNote s x c run f ⊎ IsEarlyRun c run f) these) a b) f (
    subst (λ x. Notes (AnyOf (λ run f. IsUndueNote x z c run f ⊎ IsEarlyRun c run f) these) a b) e n
    )
    )
    )

-- The pairs among all Jobs of a CronJob are its pairs.
pub pairs_of : (p : Pairing) (content : Content) (c : ClusterCron) (runs : List Run) → AreRunsOf content c runs
    → (a b : BTreeSet Finding) → Notes (IsPairIn p c runs) a b → Notes (IsPairOf p content c) a b
pairs_of p content c runs are a b n = notes_as (IsPairIn p c runs) (IsPairOf p content c) a b
    (λ f h. record {
      first = h.first;
      second = h.second;
      first_of = in_all (IsRunOf content c) runs h.first are.each (contains_in h.first runs h.first_in);
      second_of = in_all (IsRunOf content c) runs h.second are.each (contains_in h.second runs h.second_in);
      note = h.note;
    })
    (λ f h. record {
      first = h.first;
      second = h.second;
      first_in = are.all h.first h.first_of;
      second_in = are.all h.second h.second_of;
      note = h.note;
    }) n

-- For note_alone: what is noted of single Jobs, and of times that have none.
pub noted_alone : (zones : List Zone) (content : Content) (c : ClusterCron) (s t u : BTreeSet Finding)
    → Notes (λ f. IsUndueOf zones content c f ⊎ IsEarlyOf content c f) s t → Notes (IsMissingOf zones content c) t u
    → Notes (IsAloneOf zones content c) s u
noted_alone zones content c s t u n m =
    notes_as (λ f. Single f ⊎ IsMissingOf zones content c f) (IsAloneOf zones content c) s u to from
    (notes_then Single (IsMissingOf zones content c) s t u n m)
  where
    Single : Finding → Type 0
    Single f = IsUndueOf zones content c f ⊎ IsEarlyOf content c f

    to : (f : Finding) → Single f ⊎ IsMissingOf zones content c f → IsAloneOf zones content c f
    to f (inl (inl h)) = inl h
    to f (inl (inr h)) = inr (inl h)
    to f (inr h) = inr (inr h)

    from : (f : Finding) → IsAloneOf zones content c f → Single f ⊎ IsMissingOf zones content c f
    from f (inl h) = inl (inl h)
    from f (inr (inl h)) = inl (inr h)
    from f (inr (inr h)) = inr h

-- For note_cron: under a policy that allows no two Jobs, what is noted is all that is wrong with the CronJob's Jobs.
pub noted_all : (zones : List Zone) (content : Content) (c : ClusterCron) (e : Exclusive)
    → exclusive_of c.cron.spec.policy ≡ Some e → (s t u v : BTreeSet Finding)
    → Notes (IsAloneOf zones content c) s t → Notes (IsPairOf SameTime content c) t u
    → Notes (IsPairOf (SideBySide e) content c) u v → Notes (IsFindingOf zones content c) s v
noted_all zones content c e is s t u v n m o =
    notes_as (λ f. (Alone f ⊎ IsTwiceOf content c f) ⊎ Beside f) (IsFindingOf zones content c) s v to from
    (notes_then (λ f. Alone f
    ⊎ IsTwiceOf content c f) Beside s u v (notes_then Alone (IsTwiceOf content c) s t u n m) o)
  where
    Alone : Finding → Type 0
    Alone f = IsAloneOf zones content c f

    Beside : Finding → Type 0
    Beside f = IsPairOf (SideBySide e) content c f

    to : (f : Finding) → (Alone f ⊎ IsTwiceOf content c f) ⊎ Beside f → IsFindingOf zones content c f
    to f (inl (inl h)) = inr (inr h)
    to f (inl (inr h)) = inl h
    to f (inr h) = inr (inl (subst (λ x. IsBesideUnder x content c f) (sym is) h))

    from : (f : Finding) → IsFindingOf zones content c f → (Alone f ⊎ IsTwiceOf content c f) ⊎ Beside f
    from f (inl h) = inl (inr h)
    from f (inr (inl h)) = inr (subst (λ x. IsBesideUnder x content c f) is h)
    from f (inr (inr h)) = inl (inl h)

-- For note_cron: under the policy that allows two at once, nothing is noted of Jobs beside each other.
pub noted_most : (zones : List Zone) (content : Content) (c : ClusterCron) → exclusive_of c.cron.spec.policy ≡ None
    → (s t u : BTreeSet Finding) → Notes (IsAloneOf zones content c) s t
    → Notes (IsPairOf SameTime content c) t u → Notes (IsFindingOf zones content c) s u
noted_most zones content c is s t u n m =
    notes_as (λ f. Alone f ⊎ IsTwiceOf content c f) (IsFindingOf zones content c) s u to from
    (notes_then Alone (IsTwiceOf content c) s t u n m)
  where
    Alone : Finding → Type 0
    Alone f = IsAloneOf zones content c f

    to : (f : Finding) → Alone f ⊎ IsTwiceOf content c f → IsFindingOf zones content c f
    to f (inl h) = inr (inr h)
    to f (inr h) = inl h

    from : (f : Finding) → IsFindingOf zones content c f → Alone f ⊎ IsTwiceOf content c f
    from f (inl h) = inr h
    from f (inr (inl h)) = absurd (subst (λ x. IsBesideUnder x content c f) is h)
    from f (inr (inr h)) = inl h

-- What is noted of all CronJobs of a list is what starts in the window.
use Rattle.std.proofs.Common.{◌≡◌, ◌⊎◌, inl, inr, ◌<◌, ◌≤◌, ◌+◌, ℕ, Bool, true, false, ◌||◌, List, [], ◌∷◌, Some, length, refl, sym, ap, ◌∙◌, subst, arith}
use Rattle.std.specs.List.{list_any, slice_get}
use Rattle.std.specs.BTreeSet.{BTreeSet, contains, IsOrdered}
use Rattle.std.specs.BTreeMap.{is_at}
use Rattle.std.specs.Ordering.{is_eq}
use Rattle.std.proofs.lemmas.Cmp.{tied_itself}
use Rattle.std.proofs.lemmas.Option.{slice_get_within}
use Rattle.std.proofs.lemmas.Bool.{cases_lt}
use Rattle.cj_zone.specs.declared.zone.Zone.{Zone}
use Rattle.cj_cluster.specs.Content.{is_halted}
use Rattle.cj_cluster.specs.declared.cron.ClusterCron.{ClusterCron}
use Rattle.cj_upcoming.specs.declared.start.Start.{Start}
use Rattle.cj_upcoming.specs.Window.{Span}
use Rattle.cj_upcoming.specs.Notes.{Notes, Exceeds}
use Rattle.cj_upcoming.specs.Starts.{start_cmp, starts_total, IsStartBy, IsStartAt}
use Rattle.cj_upcoming.specs.Upcoming.{IsStart, IsUpcoming, HasMore}
use Rattle.cj_upcoming.proofs.Members.{IsIn, all_in, any_true, in_contains}
use Rattle.cj_upcoming.proofs.Noting.{notes_then, notes_as, notes_none, tie}
use Rattle.cj_upcoming.proofs.Orders.{starts_exact}

-- For keys_have: what a test by comparison finds in a list stands there.
tied_in : (f : Start) (xs : List Start) → list_any (is_at (start_cmp f)) xs ≡ true → IsIn f xs
tied_in f [] e = absurd (cc e)
tied_in f (x ∷ xs) e = by (is_eq (start_cmp f x)) refl (λ h. tied_in f xs h) e
  where
    by : (b : Bool) → is_eq (start_cmp f x) ≡ b → (list_any (is_at (start_cmp f)) xs ≡ true → IsIn f xs)
        → (b || list_any (is_at (start_cmp f)) xs) ≡ true → IsIn f (x ∷ xs)
    by true t more e = inl (starts_exact f x (tie (start_cmp f x) t))
    by false t more e = inr (more e)

-- What a set has stands in the list of its keys.
keys_have : (f : Start) (s : BTreeSet Start) → contains start_cmp s f ≡ true → IsIn f s.keys
keys_have f s h = tied_in f s.keys h

-- And the other way round.
have_keys : (f : Start) (s : BTreeSet Start) → IsIn f s.keys → contains start_cmp s f ≡ true
have_keys f s h = any_true (is_at (start_cmp f)) f s.keys h (ap is_eq (tied_itself starts_total f))

-- An empty set has nothing.
empty_has : (f : Start) (s : BTreeSet Start) → s.keys ≡ [] → contains start_cmp s f ≡ true → ⊥
empty_has f s empty h = subst (λ xs. IsIn f xs) empty (keys_have f s h)

module _ (zones : List Zone) (w : Span) (crons : List ClusterCron) where
  -- a start of one of the CronJobs before a place
  pub record StartsTo (k : ℕ) (s : Start) : Type 0 where
    pub start : IsStart zones w crons s
    pub before : s.cron < k

  -- Before the first place there is none.
  pub starts_none : (a : BTreeSet Start) → Notes (StartsTo 0) a a
  starts_none a = notes_none (StartsTo 0) a (λ s h. absurd (omega (arith, h.before)))

  -- A start of the CronJob at a place is one of the list's.
  of_place : (place : ℕ) (c : ClusterCron) (s : Start) → slice_get crons place ≡ Some c
      → IsStartBy zones w place c s → IsStart zones w crons s
  of_place place c s at h = record {
    cron = c;
    there = ap (λ n. slice_get crons n) h.start.at_place ∙ at;
    goes = h.goes;
    at_time = h.start.at_time;
  }

  -- A start of the list's at a place is one of the CronJob there.
  at_place : (place : ℕ) (c : ClusterCron) (s : Start) → slice_get crons place ≡ Some c → s.cron ≡ place
      → IsStart zones w crons s → IsStartBy zones w place c s
  at_place place c s at is h =
      let same : Some h.cron ≡ Some c = sym h.there ∙ ap (λ n. slice_get crons n) is ∙ at in
      let one : h.cron ≡ c = cc same in
      record {
        goes = subst (λ (x : ClusterCron). is_halted x.marks ≡ false) one h.goes;
        start = record {
          at_place = is;
          at_time = subst (λ (x : ClusterCron). IsStartAt zones w x.cron.spec s.time) one h.at_time;
        };
      }

  -- With those of the CronJob at a place, those before the next place are noted.
  pub starts_step : (place : ℕ) (x : ClusterCron) (a b c : BTreeSet Start) → slice_get crons place ≡ Some x
      → Notes (StartsTo place) a b → Notes (IsStartBy zones w place x) b c → Notes (StartsTo (place + 1)) a c
  starts_step place x a b c at n m =
      notes_as (λ s. StartsTo place s ⊎ IsStartBy zones w place x s) (StartsTo (place + 1)) a c
      (λ s h. elim h [
        | inl was ↦ record { start = was.start; before = omega (arith, was.before) }
        | inr is ↦ record { start = of_place place x s at is; before = omega (arith, is.start.at_place) }
      ])
      (λ s h. elim (cases_lt s.cron place) [
        | inl below ↦ inl (record { start = h.start; before = below })
        | inr above ↦ inr (at_place place x s at (omega (arith, above, h.before)) h.start)
      ])
      (notes_then (StartsTo place) (IsStartBy zones w place x) a b c n m)

  -- Behind the last place all are noted.
  pub starts_end : (k : ℕ) (a b : BTreeSet Start) → length crons ≤ k → Notes (StartsTo k) a b
      → Notes (IsStart zones w crons) a b
  starts_end k a b past n = notes_as (StartsTo k) (IsStart zones w crons) a b (λ s h. h.start)
      (λ s h. record {
        start = h;
        before = let inside = slice_get_within crons s.cron h.cron h.there in omega (arith, past, inside);
      }) n

  -- Where the starts of one CronJob more are too many, all that are noted are starts of the list's.
  pub starts_over : (most place : ℕ) (x : ClusterCron) (a b c : BTreeSet Start) → slice_get crons place ≡ Some x
      → Notes (StartsTo place) a b → Exceeds most (IsStartBy zones w place x) b c
      → Exceeds most (IsStart zones w crons) a c
  starts_over most place x a b c at n over = record {
    found = λ s h. elim (over.found s h) [
      | inl was ↦ elim (n.found s was) [ inl older ↦ inl older | inr p ↦ inr p.start ]
      | inr is ↦ inr (of_place place x s at is)
    ];
    more = over.more;
    ordered = over.ordered;
  }

  -- What is noted in an empty set is what starts.
  pub all_noted : (a b : BTreeSet Start) → a.keys ≡ [] → Notes (IsStart zones w crons) a b → IsOrdered start_cmp b
      → IsUpcoming zones w crons b.keys
  all_noted a b empty n ordered = record {
    each = all_in (IsStart zones w crons) b.keys (λ s i. elim (n.found s (have_keys s b i)) [
      | inl was ↦ absurd (empty_has s a empty was)
      | inr h ↦ h
    ]);
    all = λ s h. in_contains s b.keys (keys_have s b (n.noted s h));
    rises = ordered;
  }

  -- Where too much is noted in an empty set, that is how much starts.
  pub all_over : (most : ℕ) (a b : BTreeSet Start) → a.keys ≡ [] → Exceeds most (IsStart zones w crons) a b
      → HasMore zones w crons most
  all_over most a b empty over = record {
    starts = b.keys;
    each = all_in (IsStart zones w crons) b.keys (λ s i. elim (over.found s (have_keys s b i)) [
      | inl was ↦ absurd (empty_has s a empty was)
      | inr h ↦ h
    ]);
    rises = over.ordered;
    more = over.more;
  }

-- A walk over the due times of a window by which a set of starts grows.
use Rattle.std.proofs.Common.{◌≡◌, ◌⊎◌, inl, inr, ◌<◌, ◌≤◌, ◌+◌, ◌-◌, ℕ, Bool, true, false, Option, Some, None, IfSome, IsNone, List, refl, sym, ap, subst, ◌∙◌, arith}
use Rattle.std.proofs.lemmas.Bool.{cases_lt, cases_order}
use Rattle.std.specs.BTreeSet.{BTreeSet}
use Rattle.std.specs.Iterator.{YieldsFirst}
use Rattle.cj_schedule.specs.Matches.{Sets}
use Rattle.cj_zone.specs.declared.zone.Zone.{Zone}
use Rattle.cj_due.specs.Due.{due, reach, IsQuiet, IsLeastDue}
use Rattle.cj_due.specs.DueTimes.{due_times}
use Rattle.cj_due.proofs.FirstDueLemmas.{first_due, none_due}
use Rattle.cj_upcoming.specs.declared.start.Start.{Start}
use Rattle.cj_upcoming.specs.Notes.{Notes, Exceeds}
use Rattle.cj_upcoming.specs.Window.{Span}
use Rattle.cj_upcoming.specs.Times.{IsFirstDue, IsTimeAt}
use Rattle.cj_upcoming.proofs.Noting.{notes_then, notes_as, notes_none}

-- Nothing is both true and false.
pub true_false : (b : Bool) → b ≡ true → b ≡ false → ⊥
true_false true t f = absurd (cc f)
true_false false t f = absurd (cc t)

-- the next time that is noted, or the end where there is none
abbrev pub next_at : Option ℕ → ℕ → ℕ
next_at None end = end
next_at (Some t) end = t

-- how much of the window is left
abbrev pub left_of : Option ℕ → ℕ → ℕ
left_of None end = 0
left_of (Some t) end = end - t + 1

-- what is known of a next time: it is due, and not before the window
abbrev pub Awaits : Span → Sets → Zone → Option ℕ → Type 0
Awaits w s z next = IfSome next (λ t. (w.from ≤ t) × (due s z t ≡ true))

module _ (s : Sets) (z : Zone) (end : ℕ) where
  -- The due times that are left after a next time, where that is this one.
  left_at : (was : Option ℕ) (t : ℕ) (old : List ℕ) → was ≡ Some t → IfSome was (λ u. old ≡ due_times s z u end)
      → old ≡ due_times s z t end
  left_at was t old is e = subst (λ n. IfSome n (λ u. old ≡ due_times s z u end)) is e

  -- The first of them is the least after it.
  pub next_least : (was : Option ℕ) (t : ℕ) (next : Option ℕ) (old new : List ℕ) → was ≡ Some t
      → IfSome was (λ u. old ≡ due_times s z u end) → YieldsFirst (λ (left : List ℕ). left) old next new
      → IfSome next (λ u. IsLeastDue s z t end u)
  next_least was t None old new is e h = tt
  next_least was t (Some u) old new is e h = (first_due s z t end u new (sym (left_at was t old is e) ∙ h)).0

  -- The others are those after the first.
  pub next_left : (was : Option ℕ) (t : ℕ) (next : Option ℕ) (old new : List ℕ) → was ≡ Some t
      → IfSome was (λ u. old ≡ due_times s z u end) → YieldsFirst (λ (left : List ℕ). left) old next new
      → IfSome next (λ u. new ≡ due_times s z u end)
  next_left was t None old new is e h = tt
  next_left was t (Some u) old new is e h = (first_due s z t end u new (sym (left_at was t old is e) ∙ h)).1

  -- Where none are left, nothing is due up to the end.
  pub next_none : (was : Option ℕ) (t : ℕ) (next : Option ℕ) (old new : List ℕ) → was ≡ Some t
      → IfSome was (λ u. old ≡ due_times s z u end) → YieldsFirst (λ (left : List ℕ). left) old next new
      → IsNone next → IsQuiet s z t end
  next_none was t None old new is e h none = none_due s z t end (sym (left_at was t old is e) ∙ h.0)
  next_none was t (Some u) old new is e h none = absurd (cc)

  -- With each turn less of the window is left.
  pub left_less : (was : Option ℕ) (t : ℕ) (next : Option ℕ) → was ≡ Some t
      → IfSome next (λ u. IsLeastDue s z t end u) → left_of next end < left_of was end
  left_less was t None is some = subst (λ n. 0 < left_of n end) (sym is) (omega arith)
  left_less was t (Some u) is some = subst (λ n. end - u + 1 < left_of n end) (sym is)
      (omega (arith, some.above, some.within))

  -- Where the instant itself isn't due, the least one after it is the first from it on.
  pub first_least : (from : ℕ) (next : Option ℕ) → end ≤ from + reach → due s z from ≡ false
      → IfSome next (λ t. IsLeastDue s z from end t) → IfSome next (λ t. IsFirstDue s z from t)
  first_least from None near here some = some
  first_least from (Some t) near here some = record {
    above = omega (arith, some.above);
    near = omega (arith, near, some.within);
    due_then = some.is_due;
    least = λ k above below. elim (cases_lt from k) [
      | inl later ↦ some.least k later below
      | inr same ↦ let e : k ≡ from = omega arith in ap (due s z) e ∙ here
    ];
  }

  -- So it is where none is.
  pub quiet_from : (from : ℕ) → due s z from ≡ false → IsQuiet s z from end → (t : ℕ) → from ≤ t → t < end
      → due s z t ≡ false
  quiet_from from here quiet t above below = elim (cases_lt from t) [
    | inl later ↦ quiet t later (omega (arith, below))
    | inr same ↦ let e : t ≡ from = omega arith in ap (due s z) e ∙ here
  ]

module _ (w : Span) (s : Sets) (z : Zone) (place : ℕ) where
  -- a due instant of the window before one
  abbrev pub TimesTo : ℕ → Start → Type 0
  TimesTo k e = IsTimeAt w s z place e × (e.time < k)

  -- At the beginning nothing is noted yet.
  pub times_start : (next : Option ℕ) (a : BTreeSet Start) → IfSome next (λ t. IsFirstDue s z w.from t)
      → (IsNone next → (t : ℕ) → w.from ≤ t → t < w.end → due s z t ≡ false) → Notes (TimesTo (next_at next w.end)) a a
  times_start None a some none = notes_none (TimesTo w.end) a (λ e h.
      true_false (due s z e.time) h.0.due_in.due_then (none refl e.time h.0.due_in.inside.0 h.0.due_in.inside.1))
  times_start (Some t) a some none = notes_none (TimesTo t) a (λ e h.
      true_false (due s z e.time) h.0.due_in.due_then (some.least e.time h.0.due_in.inside.0 h.1))

  -- At the beginning the next time is due.
  pub awaits_start : (next : Option ℕ) → IfSome next (λ t. IsFirstDue s z w.from t) → Awaits w s z next
  awaits_start None some = some
  awaits_start (Some t) some = (some.above, some.due_then)

  -- After a time the next time is due.
  pub awaits_step : (t : ℕ) (next : Option ℕ) → w.from ≤ t → IfSome next (λ u. IsLeastDue s z t w.end u)
      → Awaits w s z next
  awaits_step t None from some = some
  awaits_step t (Some u) from some = (omega (arith, from, some.above), some.is_due)

  -- Between a time and the next nothing is due.
  gap : (t : ℕ) (next : Option ℕ) → IfSome next (λ u. IsLeastDue s z t w.end u) → (IsNone next → IsQuiet s z t w.end)
      → (k : ℕ) → t < k → k < next_at next w.end → due s z k ≡ false
  gap t None some none k above below = none refl k above (omega (arith, below))
  gap t (Some u) some none k above below = some.least k above below

  -- A time comes before the next, and before the end where there is none.
  goes_up : (t : ℕ) (next : Option ℕ) → t < w.end → IfSome next (λ u. IsLeastDue s z t w.end u)
      → t < next_at next w.end
  goes_up t None inside some = inside
  goes_up t (Some u) inside some = some.above

  -- The start at a due time of the window.
  at_time : (t : ℕ) (g : Start) → w.from ≤ t → t < w.end → due s z t ≡ true → g ≡ record { time = t; cron = place }
      → IsTimeAt w s z place g
  at_time t g from inside here is =
      subst (λ x. IsTimeAt w s z place x) (sym is)
      (record { at_place = refl; due_in = record { inside = (from, inside); due_then = here } })

  -- With a due time noted, those before the next are.
  pub times_step : (t : ℕ) (next : Option ℕ) (a b c : BTreeSet Start) → w.from ≤ t → t < w.end
      → due s z t ≡ true → IfSome next (λ u. IsLeastDue s z t w.end u)
      → (IsNone next → IsQuiet s z t w.end) → Notes (TimesTo t) a b
      → Notes (λ g. g ≡ record { time = t; cron = place }) b c → Notes (TimesTo (next_at next w.end)) a c
  times_step t next a b c from inside here some none n m =
      let up = goes_up t next inside some in
      notes_as (λ g. TimesTo t g ⊎ (g ≡ record { time = t; cron = place })) (TimesTo (next_at next w.end)) a c
      (λ g h. elim h [
        | inl was ↦ (was.0, omega (arith, was.1, up))
        | inr is ↦ (at_time t g from inside here is, subst (λ (x : Start). x.time < next_at next w.end) (sym is) up)
      ])
      (λ g h. elim (cases_order g.time t) [
        | inl same ↦ inr (λ i. record { time = same i; cron = h.0.at_place i })
        | inr (inl below) ↦ inl (h.0, below)
        | inr (inr above) ↦ absurd (true_false (due s z g.time) h.0.due_in.due_then
            (gap t next some none g.time above h.1))
      ])
      (notes_then (TimesTo t) (λ g. g ≡ record { time = t; cron = place }) a b c n m)

  -- Past the end all due times of the window are noted.
  pub times_end : (k : ℕ) (a b : BTreeSet Start) → w.end ≤ k → Notes (TimesTo k) a b
      → Notes (IsTimeAt w s z place) a b
  times_end k a b past n = notes_as (TimesTo k) (IsTimeAt w s z place) a b (λ g h. h.0)
      (λ g h. (h, omega (arith, past, h.due_in.inside.1))) n

  -- Where one due time more is too many, all that are noted are due times of the window.
  pub times_over : (most t : ℕ) (a b c : BTreeSet Start) → w.from ≤ t → t < w.end → due s z t ≡ true
      → Notes (TimesTo t) a b → Exceeds most (λ g. g ≡ record { time = t; cron = place }) b c
      → Exceeds most (IsTimeAt w s z place) a c
  times_over most t a b c from inside here n over = record {
    found = λ g h. elim (over.found g h) [
      | inl was ↦ elim (n.found g was) [ inl older ↦ inl older | inr p ↦ inr p.0 ]
      | inr is ↦ inr (at_time t g from inside here is)
    ];
    more = over.more;
    ordered = over.ordered;
  }

-- The gaps among some times, and which these are.
use Rattle.std.proofs.Common.{◌≡◌, ◌∙◌, ◌⊎◌, inl, inr, ℕ, zero, suc, ◌+◌, ◌-◌, ◌<◌, ◌≤◌, Bool, true, false, cond, List, [], ◌∷◌, ◌++◌, refl, sym, ap, subst, arith, append_assoc, append-nil, filter}
use Rattle.std.proofs.lemmas.Bool.{cases_lt}
use Rattle.std.specs.List.{range_with_len, AllByRecursion}
use Rattle.cj_types.specs.declared.cron.CronJob.{CronJob}
use Rattle.cj_schedule.specs.Matches.{Sets}
use Rattle.cj_zone.specs.declared.zone.Zone.{Zone}
use Rattle.cj_due.specs.Due.{due, missed_times, IsQuiet, IsLeastDue}
use Rattle.cj_due.proofs.MissedLemmas.{missed_times-none, missed_times-split, missed_times-one}
use Rattle.cj_decide.specs.laws.Laws.{IsIn}
use Rattle.cj_decide.proofs.LawsLemmas.Members.{in_left, in_parts, in_filtered, filtered_in}
use Rattle.cj_history.specs.declared.gaps.gap.Gap.{Gap}
use Rattle.cj_history.specs.declared.gaps.gap.Why.{Why}
use Rattle.cj_history.specs.declared.gaps.mark.Mark.{Mark}
use Rattle.cj_history.specs.gaps.Gaps.{Rise}
use Rattle.cj_history.specs.gaps.reading.Listed.{gap_by, gap_if, gaps_with}
use Rattle.cj_history.specs.gaps.reading.Settled.{is_listed, is_settled}
use Rattle.cj_history.proofs.GapsLemmas.Settled.{listed_is, is_there, settled_still, settled_new, settled_same}

-- ---- lists

-- What stands in a list stands in it with another list before.
pub in_right : {X : Type 0} (x : X) (xs ys : List X) → IsIn x ys → IsIn x (xs ++ ys)
in_right x [] ys h = h
in_right x (y ∷ xs) ys h = inr (in_right x xs ys h)

-- What holds of all that stand in a list holds of each of its elements.
pub all_in : {X : Type 0} (P : X → Type 0) (xs : List X) → ((x : X) → IsIn x xs → P x) → AllByRecursion P xs
all_in P [] h = tt
all_in P (x ∷ xs) h = (h x (inl refl), all_in P xs (λ y k. h y (inr k)))

-- The numbers of an interval are those from its first on, so many.
pub in_range : (t a n : ℕ) → IsIn t (range_with_len a n) → (a ≤ t) × (t < a + n)
in_range t a zero h = absurd h
in_range t a (suc n) (inl e) = (omega (arith, e), omega (arith, e))
in_range t a (suc n) (inr h) = let r = in_range t (a + 1) n h in let x = r.0 in let y
    = r.1 in (omega (arith, x), omega (arith, y))

-- And each of these stands in it.
pub range_in : (t a n : ℕ) → a ≤ t → t < a + n → IsIn t (range_with_len a n)
range_in t a zero l h = absurd (omega (arith, l, h))
range_in t a (suc n) l h = elim (cases_lt a t) [
  | inl below ↦ inr (range_in t (a + 1) n (omega (arith, below)) (omega (arith, h)))
  | inr above ↦ inl (omega (arith, l, above))
]

-- ---- the times missed

-- A time is missed just where it is due in the interval.
pub in_missed : (s : Sets) (z : Zone) (lo hi t : ℕ) → IsIn t (missed_times s z lo hi)
    → (lo < t) × (t ≤ hi) × (due s z t ≡ true)
unfolding missed_times
in_missed s z lo hi t h =
    let r = in_filtered (due s z) t (range_with_len (lo + 1) (hi - lo)) h in
    let q = in_range t (lo + 1) (hi - lo) r.0 in
    let x = q.0 in
    let y = q.1 in
    (omega (arith, x), omega (arith, x, y), r.1)

-- And conversely.
pub missed_in : (s : Sets) (z : Zone) (lo hi t : ℕ) → lo < t → t ≤ hi → due s z t ≡ true
    → IsIn t (missed_times s z lo hi)
unfolding missed_times
missed_in s z lo hi t a b e =
    filtered_in (due s z) t (range_with_len (lo + 1) (hi - lo)) e
    (range_in t (lo + 1) (hi - lo) (omega (arith, a)) (omega (arith, a, b)))

-- Where nothing is due after an instant, no time is missed after those up to it.
pub missed_rest : (s : Sets) (z : Zone) (lo at hi : ℕ) → lo ≤ at → (lo < at → at ≤ hi) → IsQuiet s z at hi
    → missed_times s z lo at ≡ missed_times s z lo hi
missed_rest s z lo at hi low high quiet = elim (cases_lt hi at) [
  | inl over ↦
      let same : at ≤ lo = elim (cases_lt lo at) [ inl l ↦ (let k = high l in absurd (omega (arith, k, over))) | inr l ↦ l ] in
      missed_times-none s z lo at (λ t a b. absurd (omega (arith, a, b, same)))
      ∙ sym (missed_times-none s z lo hi (λ t a b. absurd (omega (arith, a, b, same, over))))
  | inr within ↦
      sym (missed_times-split s z lo at hi low within
      ∙ ap (λ (l : List ℕ). missed_times s z lo at ++ l) (missed_times-none s z at hi quiet)
      ∙ append-nil (missed_times s z lo at))
]

-- Up to the next due instant that one is missed more.
pub missed_next : (s : Sets) (z : Zone) (lo at hi t : ℕ) → lo ≤ at → IsLeastDue s z at hi t
    → missed_times s z lo t ≡ missed_times s z lo at ++ (t ∷ [])
missed_next s z lo at hi t low least =
    let a = least.above in
    missed_times-split s z lo at t low (omega (arith, a))
    ∙ ap (λ (l : List ℕ). missed_times s z lo at ++ l) (missed_times-one s z at hi t least)

-- ---- the gaps among times

module _ (settled : ℕ → Bool) (cron : CronJob) (why : ℕ → Why) where
  -- The gaps among the times of two lists are those among the one, then those among the other.
  pub among_append : (xs ys : List ℕ)
      → gaps_with settled cron why (xs ++ ys) ≡ gaps_with settled cron why xs ++ gaps_with settled cron why ys
  among_append [] ys = refl
  among_append (x ∷ xs) ys =
      ap (λ (l : List Gap). gap_if settled cron why x ++ l) (among_append xs ys)
      ∙ sym (append_assoc (gap_if settled cron why x) (gaps_with settled cron why xs) (gaps_with settled cron why ys))

  -- For note_times: with the next time gone through.
  pub among_next : (s : Sets) (z : Zone) (lo at hi t : ℕ) (first before after : List Gap) → lo ≤ at
      → IsLeastDue s z at hi t
      → before ≡ first ++ gaps_with settled cron why (missed_times s z lo at)
      → after ≡ before ++ gap_if settled cron why t
      → after ≡ first ++ gaps_with settled cron why (missed_times s z lo t)
  among_next s z lo at hi t first before after low least was is =
      let old = gaps_with settled cron why (missed_times s z lo at) in
      let new = gap_if settled cron why t in
      is
      ∙ ap (λ (l : List Gap). l ++ new) was
      ∙ append_assoc first old new
      ∙ ap (λ (l : List Gap). first ++ l) (
      ap (λ (l : List Gap). old ++ l) (sym (append-nil new))
      ∙ sym (among_append (missed_times s z lo at) (t ∷ []))
      ∙ ap (λ (l : List ℕ). gaps_with settled cron why l) (sym (missed_next s z lo at hi t low least))
      )

  -- For note_times: where nothing is due any more, all times are gone through.
  pub among_rest : (s : Sets) (z : Zone) (lo at hi end : ℕ) (first gs : List Gap) → lo ≤ at → (lo < at → at ≤ hi)
      → IsQuiet s z at hi → hi ≡ end → gs ≡ first ++ gaps_with settled cron why (missed_times s z lo at)
      → gs ≡ first ++ gaps_with settled cron why (missed_times s z lo end)
  among_rest s z lo at hi end first gs low high quiet e is =
      is ∙ ap (λ (l : List ℕ). first ++ gaps_with settled cron why l)
      (missed_rest s z lo at hi low high quiet ∙ ap (λ (x : ℕ). missed_times s z lo x) e)

  -- For note_times: before the first turn.
  pub among_none : (s : Sets) (z : Zone) (lo : ℕ) (gs : List Gap)
      → gs ≡ gs ++ gaps_with settled cron why (missed_times s z lo lo)
  among_none s z lo gs =
      sym (ap (λ (l : List ℕ). gs ++ gaps_with settled cron why l)
      (missed_times-none s z lo lo (λ t a b. absurd (omega (arith, a, b)))) ∙ append-nil gs)

  -- A gap among the times is that of one of them, which isn't settled.
  pub among_is : (ts : List ℕ) (g : Gap) → IsIn g (gaps_with settled cron why ts)
      → IsIn g.time ts × (settled g.time ≡ false) × (gap_by cron why g.time ≡ g)
  among_is [] g h = absurd h
  among_is (t ∷ ts) g h = by (λ k. among_is ts g k)
      (in_parts g (gap_if settled cron why t) (gaps_with settled cron why ts) h)
    where
      here : (b : Bool) → settled t ≡ b → IsIn g (cond b [] (gap_by cron why t ∷ []))
          → IsIn g.time (t ∷ ts) × (settled g.time ≡ false) × (gap_by cron why g.time ≡ g)
      here true e k = absurd k
      here false e (inl same) =
          let at : t ≡ g.time = ap (λ (x : Gap). x.time) same in (
            inl at,
            ap settled (sym at) ∙ e,
            ap (λ (x : ℕ). gap_by cron why x) (sym at) ∙ same,
          )
      here false e (inr k) = absurd k

      by : (IsIn g (gaps_with settled cron why ts)
          → IsIn g.time ts × (settled g.time ≡ false) × (gap_by cron why g.time ≡ g))
          → IsIn g (gap_if settled cron why t) ⊎ IsIn g (gaps_with settled cron why ts)
          → IsIn g.time (t ∷ ts) × (settled g.time ≡ false) × (gap_by cron why g.time ≡ g)
      by rest (inl k) = here (settled t) refl k
      by rest (inr k) = let r = rest k in (inr r.0, r.1, r.2)

  -- And the gap of each of them that isn't settled is among them.
  pub is_among : (ts : List ℕ) (t : ℕ) → IsIn t ts → settled t ≡ false
      → IsIn (gap_by cron why t) (gaps_with settled cron why ts)
  is_among [] t h e = absurd h
  is_among (x ∷ ts) t (inl same) e =
      in_left (gap_by cron why t) (gap_if settled cron why x) (gaps_with settled cron why ts)
      (here (settled x) (ap settled same ∙ e))
    where
      here : (b : Bool) → b ≡ false → IsIn (gap_by cron why t) (cond b [] (gap_by cron why x ∷ []))
      here true f = absurd (cc f)
      here false f = inl (ap (λ (y : ℕ). gap_by cron why y) same)
  is_among (x ∷ ts) t (inr h) e =
      in_right (gap_by cron why t) (gap_if settled cron why x) (gaps_with settled cron why ts) (is_among ts t h e)

  -- Where all are settled there are none.
  pub none_among : (ts : List ℕ) → ((t : ℕ) → IsIn t ts → settled t ≡ true) → gaps_with settled cron why ts ≡ []
  none_among [] all = refl
  none_among (t ∷ ts) all =
      ap (λ (b : Bool). cond b [] (gap_by cron why t ∷ []) ++ gaps_with settled cron why ts) (all t (inl refl))
      ∙ none_among ts (λ x i. all x (inr i))

  -- Those after an instant are those after an earlier one, where what is due between is settled.
  pub among_later : (s : Sets) (z : Zone) (from lo hi : ℕ) → from ≤ lo
      → ((t : ℕ) → from < t → t ≤ lo → due s z t ≡ true → settled t ≡ true)
      → gaps_with settled cron why (missed_times s z lo hi) ≡ gaps_with settled cron why (missed_times s z from hi)
  among_later s z from lo hi low known = elim (cases_lt hi lo) [
    | inl over ↦
        ap (gaps_with settled cron why) (missed_times-none s z lo hi (λ t a b. absurd (omega (arith, a, b, over))))
        ∙ sym (none_among (missed_times s z from hi) (λ t i.
        (let m = in_missed s z from hi t i in let b = m.1 in known t m.0 (omega (arith, b, over)) m.2)))
    | inr within ↦
        sym (ap (gaps_with settled cron why) (missed_times-split s z from lo hi low within)
        ∙ among_append (missed_times s z from lo) (missed_times s z lo hi)
        ∙ ap (λ (l : List Gap). l ++ gaps_with settled cron why (missed_times s z lo hi))
        (none_among (missed_times s z from lo) (λ t i.
        (let m = in_missed s z from lo t i in known t m.0 m.1 m.2))))
  ]

-- ---- with the gaps that are listed already

-- The gaps among times are of none of the others.
not_among : (settled : ℕ → Bool) (cron : CronJob) (why : ℕ → Why) (ts : List ℕ) (t : ℕ) → (IsIn t ts → ⊥)
    → is_listed (gaps_with settled cron why ts) cron.meta.uid t ≡ false
not_among settled cron why ts t out = by (is_listed (gaps_with settled cron why ts) cron.meta.uid t) refl
  where
    by : (b : Bool) → is_listed (gaps_with settled cron why ts) cron.meta.uid t ≡ b → b ≡ false
    by true e =
        let g = listed_is (gaps_with settled cron why ts) cron.meta.uid t e in
        absurd (out (subst (λ (x : ℕ). IsIn x ts) g.3 (among_is settled cron why ts g.0 g.1).0))
    by false e = refl

module _ (told : Mark → Bool) (gs : List Gap) (cron : CronJob) (why : ℕ → Why) where
  -- For note_times: with the next time gone through, which is settled by all gaps just where it is by the first.
  pub among_turn : (s : Sets) (z : Zone) (lo at hi t : ℕ) (before after : List Gap) → lo ≤ at
      → IsLeastDue s z at hi t
      → before ≡ gs ++ gaps_with (is_settled told gs cron.meta.uid) cron why (missed_times s z lo at)
      → after ≡ before ++ gap_if (is_settled told before cron.meta.uid) cron why t
      → after ≡ gs ++ gaps_with (is_settled told gs cron.meta.uid) cron why (missed_times s z lo t)
  among_turn s z lo at hi t before after low least was is =
      among_next (is_settled told gs cron.meta.uid) cron why s z lo at hi t gs before after low least was
      (is ∙ ap (λ (b : Bool). before ++ cond b [] (gap_by cron why t ∷ [])) same)
    where
      here : List Gap
      here = gaps_with (is_settled told gs cron.meta.uid) cron why (missed_times s z lo at)

      out : IsIn t (missed_times s z lo at) → ⊥
      out i = let m = (in_missed s z lo at t i).1 in let a = least.above in absurd (omega (arith, m, a))

      same : is_settled told before cron.meta.uid t ≡ is_settled told gs cron.meta.uid t
      same =
          ap (λ (l : List Gap). is_settled told l cron.meta.uid t) was
          ∙ settled_same told gs here cron.meta.uid t
          (not_among (is_settled told gs cron.meta.uid) cron why (missed_times s z lo at) t out)

  -- With the gaps among times listed, each of the times is settled.
  pub among_settled : (ts : List ℕ) (t : ℕ) → IsIn t ts
      → is_settled told (gs ++ gaps_with (is_settled told gs cron.meta.uid) cron why ts) cron.meta.uid t ≡ true
  among_settled ts t i = by (is_settled told gs cron.meta.uid t) refl
    where
      new : List Gap
      new = gaps_with (is_settled told gs cron.meta.uid) cron why ts

      by : (b : Bool) → is_settled told gs cron.meta.uid t ≡ b → is_settled told (gs ++ new) cron.meta.uid t ≡ true
      by true e = settled_still told gs new cron.meta.uid t e
      by false e =
          settled_new told gs new cron.meta.uid t
          (is_there new (gap_by cron why t) cron.meta.uid t
          (is_among (is_settled told gs cron.meta.uid) cron why ts t i e) refl refl)

-- ---- rising times

-- Two lists of gaps rise together, where each rises and each of the second is later than each of the first.
rise_append : (xs ys : List Gap) → Rise xs → Rise ys → ((a b : Gap) → IsIn a xs → IsIn b ys → a.time < b.time)
    → Rise (xs ++ ys)
rise_append [] ys a b h = b
rise_append (x ∷ xs) ys a b h = (
  all_in (λ (g : Gap). x.time < g.time) (xs ++ ys) (λ g k. by g (in_parts g xs ys k)),
  rise_append xs ys a.1 b (λ c d i j. h c d (inr i) j),
)
  where
    old : (g : Gap) (l : List Gap) → AllByRecursion (λ (y : Gap). x.time < y.time) l → IsIn g l → x.time < g.time
    old g [] r i = absurd i
    old g (y ∷ l) r (inl e) = let q = r.0 in let t = ap (λ (z : Gap). z.time) e in omega (arith, q, t)
    old g (y ∷ l) r (inr i) = old g l r.1 i

    by : (g : Gap) → IsIn g xs ⊎ IsIn g ys → x.time < g.time
    by g (inl i) = old g xs a.0 i
    by g (inr i) = h x g (inl refl) i

-- each number is below all that follow it
abbrev pub Rising : List ℕ → Type 0
Rising [] = Unit {0}
Rising (t ∷ ts) = ((x : ℕ) → IsIn x ts → t < x) × Rising ts

-- The numbers of an interval rise.
range_rises : (a n : ℕ) → Rising (range_with_len a n)
range_rises a zero = tt
range_rises a (suc n) = ((λ x i. let r = in_range x (a + 1) n i in let l = r.0 in omega (arith, l)), range_rises (a + 1) n)

-- So do those of them that pass a test.
filter_rises : (p : ℕ → Bool) (xs : List ℕ) → Rising xs → Rising (filter p xs)
filter_rises p [] r = tt
filter_rises p (x ∷ xs) r = by (p x) (filter_rises p xs r.1)
  where
    by : (b : Bool) → Rising (filter p xs) → Rising (cond b (x ∷ filter p xs) (filter p xs))
    by true rest = ((λ y i. r.0 y (in_filtered p y xs i).0), rest)
    by false rest = rest

-- So do the times missed.
pub missed_rises : (s : Sets) (z : Zone) (lo hi : ℕ) → Rising (missed_times s z lo hi)
unfolding missed_times
missed_rises s z lo hi = filter_rises (due s z) (range_with_len (lo + 1) (hi - lo)) (range_rises (lo + 1) (hi - lo))

-- The gaps among times that rise are for times that rise.
pub among_rises : (settled : ℕ → Bool) (cron : CronJob) (why : ℕ → Why) (ts : List ℕ) → Rising ts
    → Rise (gaps_with settled cron why ts)
among_rises settled cron why [] r = tt
among_rises settled cron why (t ∷ ts) r =
    rise_append (gap_if settled cron why t) (gaps_with settled cron why ts) (one (settled t))
    (among_rises settled cron why ts r.1) later
  where
    one : (b : Bool) → Rise (cond b [] (gap_by cron why t ∷ []))
    one true = tt
    one false = (tt, tt)

    at : (a : Gap) → IsIn a.time (t ∷ []) → a.time ≡ t
    at a (inl e) = sym e
    at a (inr i) = absurd i

    later : (a b : Gap) → IsIn a (gap_if settled cron why t) → IsIn b (gaps_with settled cron why ts) → a.time < b.time
    later a b i j =
        let e = at a (among_is settled cron why (t ∷ []) a (in_left a (gap_if settled cron why t) [] i)).0 in
        let l = r.0 b.time (among_is settled cron why ts b j).0 in
        omega (arith, e, l)

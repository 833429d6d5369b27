-- Times that are settled: looked up in the set, and with more gaps listed.
use Rattle.std.proofs.Common.{◌≡◌, ◌∙◌, ◌&&◌, ◌||◌, inl, inr, ℕ, Bool, true, false, cond, List, [], ◌∷◌, ◌++◌, refl, sym, ap, arith}
use Rattle.std.specs.Prelude.{◌==◌}
use Rattle.std.proofs.lemmas.Bool.{eqb-true}
use Rattle.std.proofs.lemmas.Bool.Decides.{nat_tests}
use Rattle.std.specs.Ordering.{nat_cmp, is_eq}
use Rattle.std.specs.BTreeSet as set
use Rattle.std.specs.BTreeMap as tree
use Rattle.std.specs.List.{list_any}
use Rattle.cj_decide.specs.laws.Laws.{IsIn}
use Rattle.cj_history.specs.declared.gaps.gap.Gap.{Gap}
use Rattle.cj_history.specs.declared.gaps.mark.Mark.{Mark}
use Rattle.cj_history.specs.declared.gaps.mark.Start.{Start}
use Rattle.cj_history.specs.gaps.Marks.{has_job}
use Rattle.cj_history.specs.gaps.Whole.{is_gap_of}
use Rattle.cj_history.specs.gaps.reading.Settled.{is_listed, is_settled, start_cmp, Agrees}
use Rattle.cj_history.proofs.GapsLemmas.Known.{eq_nat, both_eq}

-- ---- truth values

-- Where both of two hold, each does.
both_true : (a b : Bool) → (a && b) ≡ true → (a ≡ true) × (b ≡ true)
both_true true b e = (refl, e)
both_true false b e = absurd (cc e)

-- Two that hold do so together.
pub true_both : (a b : Bool) → a ≡ true → b ≡ true → (a && b) ≡ true
true_both true b e f = f
true_both false b e f = absurd (cc e)

-- One of two that hold makes either hold.
pub left_true : (a b : Bool) → a ≡ true → (a || b) ≡ true
left_true true b e = refl
left_true false b e = absurd (cc e)

-- So does the other.
pub right_true : (a b : Bool) → b ≡ true → (a || b) ≡ true
right_true true b e = refl
right_true false b e = e

-- Where neither holds, each doesn't.
pub both_false : (a b : Bool) → (a || b) ≡ false → (a ≡ false) × (b ≡ false)
both_false true b e = absurd (cc e)
both_false false b e = (refl, e)

-- Two that don't hold make neither hold.
pub false_both : (a b : Bool) → a ≡ false → b ≡ false → (a || b) ≡ false
false_both true b e f = absurd (cc e)
false_both false b e f = f

-- The first two of three can be asked in either order.
or_swap : (x y z : Bool) → (x || (y || z)) ≡ (y || (x || z))
or_swap true true z = refl
or_swap true false z = refl
or_swap false true z = refl
or_swap false false z = refl

-- Three can be asked as two and one, or as one and two.
or_again : (x y z : Bool) → ((x || y) || z) ≡ (x || (y || z))
or_again true y z = refl
or_again false y z = refl

-- One that doesn't hold adds nothing.
or_none : (x : Bool) → (x || false) ≡ x
or_none true = refl
or_none false = refl

-- A choice of true or another is either of them.
cond_or : (x y : Bool) → cond x true y ≡ (x || y)
cond_or true y = refl
cond_or false y = refl

-- ---- gaps in a list

-- A gap of a CronJob and a time is of that uid and that time.
pub of_which : (u t : ℕ) (g : Gap) → is_gap_of u t g ≡ true → (g.cron.meta.uid ≡ u) × (g.time ≡ t)
of_which u t g e =
    let b = both_true (g.cron.meta.uid == u) (g.time == t) e in
    (eqb-true g.cron.meta.uid u b.0, eqb-true g.time t b.1)

-- A number tests as equal to one that it is.
pub eq_test : (a b : ℕ) → a ≡ b → (a == b) ≡ true
eq_test a b e = sym (eq_nat a b) ∙ ap (λ (x : ℕ). is_eq (nat_cmp x b)) e ∙ eq_nat b b ∙ grind (arith, nat_tests)

-- And conversely.
pub is_of : (u t : ℕ) (g : Gap) → g.cron.meta.uid ≡ u → g.time ≡ t → is_gap_of u t g ≡ true
is_of u t g e f = true_both (g.cron.meta.uid == u) (g.time == t) (eq_test g.cron.meta.uid u e) (eq_test g.time t f)

-- What is listed stands in the list.
pub listed_is : (gs : List Gap) (u t : ℕ) → is_listed gs u t ≡ true
    → (g : Gap) × IsIn g gs × (g.cron.meta.uid ≡ u) × (g.time ≡ t)
listed_is [] u t e = absurd (cc e)
listed_is (g ∷ gs) u t e = by (listed_is gs u t) (is_gap_of u t g) refl e
  where
    by : (is_listed gs u t ≡ true → (x : Gap) × IsIn x gs × (x.cron.meta.uid ≡ u) × (x.time ≡ t))
        → (b : Bool) → is_gap_of u t g ≡ b → (b || is_listed gs u t) ≡ true
        → (x : Gap) × IsIn x (g ∷ gs) × (x.cron.meta.uid ≡ u) × (x.time ≡ t)
    by rest true f k = let w = of_which u t g f in (g, inl refl, w.0, w.1)
    by rest false f k = let r = rest k in (r.0, inr r.1, r.2, r.3)

-- And conversely.
pub is_there : (gs : List Gap) (g : Gap) (u t : ℕ) → IsIn g gs → g.cron.meta.uid ≡ u → g.time ≡ t
    → is_listed gs u t ≡ true
is_there [] g u t i e f = absurd i
is_there (x ∷ gs) g u t (inl same) e f =
    left_true (is_gap_of u t x) (is_listed gs u t) (ap (λ (y : Gap). is_gap_of u t y) same ∙ is_of u t g e f)
is_there (x ∷ gs) g u t (inr i) e f = right_true (is_gap_of u t x) (is_listed gs u t) (is_there gs g u t i e f)

-- Of two lists together it is listed in the one or the other.
pub listed_append : (xs ys : List Gap) (u t : ℕ) → is_listed (xs ++ ys) u t ≡ (is_listed xs u t || is_listed ys u t)
listed_append [] ys u t = refl
listed_append (x ∷ xs) ys u t =
    ap (λ (b : Bool). is_gap_of u t x || b) (listed_append xs ys u t)
    ∙ sym (or_again (is_gap_of u t x) (is_listed xs u t) (is_listed ys u t))

-- With a gap more.
listed_more : (gs : List Gap) (g : Gap) (u t : ℕ)
    → is_listed (gs ++ g ∷ []) u t ≡ (is_gap_of u t g || is_listed gs u t)
listed_more [] g u t = refl
listed_more (x ∷ gs) g u t =
    ap (λ (b : Bool). is_gap_of u t x || b) (listed_more gs g u t)
    ∙ or_swap (is_gap_of u t x) (is_gap_of u t g) (is_listed gs u t)

-- ---- the set of their times

-- Starts compare as equal just where they are one.
eq_start : (a b : Start) → is_eq (start_cmp a b) ≡ ((a.uid == b.uid) && (a.time == b.time))
eq_start a b =
    both_eq (nat_cmp a.uid b.uid) (nat_cmp a.time b.time)
    ∙ ap (λ (x : Bool). x && is_eq (nat_cmp a.time b.time)) (eq_nat a.uid b.uid)
    ∙ ap (λ (x : Bool). (a.uid == b.uid) && x) (eq_nat a.time b.time)

-- For new: an empty set has the times of no gap.
pub agrees_none : (times : set.BTreeSet Start) → set.IsEmpty times → Agrees [] times
agrees_none times empty = λ s. ap (λ (ks : List Start). list_any (tree.is_at (start_cmp s)) ks) empty

-- For push: with its time put in, a gap more.
pub agrees_more : (gs : List Gap) (g : Gap) (s : Start) (before after : set.BTreeSet Start)
    → s ≡ record { uid = g.cron.meta.uid; time = g.time } → set.Updates start_cmp before after s true
    → Agrees gs before → Agrees (gs ++ g ∷ []) after
agrees_more gs g s before after is up agrees = λ q.
    up.0 q
    ∙ ap (λ (x : Start). cond (is_eq (start_cmp x q)) true (set.contains start_cmp before q)) is
    ∙ ap (λ (b : Bool). cond b true (set.contains start_cmp before q))
    (eq_start (record { uid = g.cron.meta.uid; time = g.time }) q)
    ∙ cond_or (is_gap_of q.uid q.time g) (set.contains start_cmp before q)
    ∙ ap (λ (b : Bool). is_gap_of q.uid q.time g || b) (agrees q)
    ∙ sym (listed_more gs g q.uid q.time)

-- ---- settled times

module _ (told : Mark → Bool) where
  -- What is settled stays so.
  pub settled_still : (gs new : List Gap) (u t : ℕ) → is_settled told gs u t ≡ true
      → is_settled told (gs ++ new) u t ≡ true
  settled_still gs new u t e =
      ap (λ (b : Bool). has_job told u t || b) (listed_append gs new u t)
      ∙ sym (or_again (has_job told u t) (is_listed gs u t) (is_listed new u t))
      ∙ left_true (is_settled told gs u t) (is_listed new u t) e

  -- What is listed more is settled.
  pub settled_new : (gs new : List Gap) (u t : ℕ) → is_listed new u t ≡ true
      → is_settled told (gs ++ new) u t ≡ true
  settled_new gs new u t e =
      ap (λ (b : Bool). has_job told u t || b) (listed_append gs new u t)
      ∙ sym (or_again (has_job told u t) (is_listed gs u t) (is_listed new u t))
      ∙ right_true (is_settled told gs u t) (is_listed new u t) e

  -- Where what is listed more isn't of a time, that is settled as before.
  pub settled_same : (gs new : List Gap) (u t : ℕ) → is_listed new u t ≡ false
      → is_settled told (gs ++ new) u t ≡ is_settled told gs u t
  settled_same gs new u t e =
      ap (λ (b : Bool). has_job told u t || b) (listed_append gs new u t)
      ∙ ap (λ (b : Bool). has_job told u t || (is_listed gs u t || b)) e
      ∙ ap (λ (b : Bool). has_job told u t || b) (or_none (is_listed gs u t))

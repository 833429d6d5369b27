-- Gaps of one CronJob with one cause, counted one after the other.
use Rattle.std.proofs.Common.{◌≡◌, ◌∙◌, ◌+◌, ◌≤◌, ◌&&◌, ℕ, Bool, true, false, cond, if◌then◌else◌, List, [], ◌∷◌, ◌++◌, length, Option, Some, refl, sym, ap, arith, append-nil, length-append}
use Rattle.std.specs.Prelude.{◌==◌}
use Rattle.std.specs.Ordering.{nat_cmp, is_eq, ordering_then}
use Rattle.std.specs.BTreeMap as tree
use Rattle.std.specs.declared.cmp.Ordering.{Ordering}
use Rattle.std.specs.declared.cmp.Ordering.TheVariants.{Less, Equal, Greater}
use Rattle.std.proofs.lemmas.Bool.{eqb-true}
use Rattle.std.proofs.lemmas.Bool.Decides.{nat_tests}
use Rattle.std.proofs.lemmas.List.Elements.{filter-append}
use Rattle.cj_history.specs.declared.gaps.gap.Gap.{Gap}
use Rattle.cj_history.specs.declared.gaps.gap.Why.{Why}
use Rattle.cj_history.specs.declared.gaps.gap.Why.TheVariants.{Suspended, TooLate, Forbidden, Earlier, NameTaken, NotMade, NeverSynced}
use Rattle.cj_history.specs.contracts.gaps.gap.WhyOrd.TheImpl as why
use Rattle.cj_program.specs.declared.remarks.families.Families.{Families}
use Rattle.cj_program.specs.declared.remarks.families.Kind.{Kind}
use Rattle.cj_program.specs.declared.remarks.families.Tally.{Tally}
use Rattle.cj_program.specs.remarks.Families.{IsCounted, Stands, count_in, family, is_kind, kind_cmp, kind_of, last_time, same_why, tally_at, tally_of, tally_with}

-- ---- kinds

-- Numbers compare as equal just where they are one.
eq_nat : (a b : ℕ) → is_eq (nat_cmp a b) ≡ (a == b)
eq_nat a b = grind (arith, nat_tests)

-- Two orders, one asked after the other, say equal just where both do.
both_eq : (o p : Ordering) → is_eq (ordering_then o p) ≡ (is_eq o && is_eq p)
both_eq Less p = refl
both_eq Equal p = refl
both_eq Greater p = refl

-- Causes compare as equal just where they are one.
eq_why : (a b : Why) → is_eq (why.ghosts.cmp a b) ≡ same_why a b
eq_why Suspended Suspended = refl
eq_why TooLate TooLate = refl
eq_why Forbidden Forbidden = refl
eq_why Earlier Earlier = refl
eq_why NameTaken NameTaken = refl
eq_why NotMade NotMade = refl
eq_why NeverSynced NeverSynced = refl
eq_why a b = refl

-- Causes that test as the same are one.
one_why : (a b : Why) → same_why a b ≡ true → a ≡ b
one_why Suspended Suspended e = refl
one_why TooLate TooLate e = refl
one_why Forbidden Forbidden e = refl
one_why Earlier Earlier e = refl
one_why NameTaken NameTaken e = refl
one_why NotMade NotMade e = refl
one_why NeverSynced NeverSynced e = refl
one_why a b e = absurd (cc e)

-- Kinds compare as equal just where they are one.
eq_kind : (a b : Kind) → is_eq (kind_cmp a b) ≡ is_kind a b
eq_kind a b =
    both_eq (nat_cmp a.uid b.uid) (why.ghosts.cmp a.why b.why)
    ∙ ap (λ (x : Bool). x && is_eq (why.ghosts.cmp a.why b.why)) (eq_nat a.uid b.uid)
    ∙ ap (λ (x : Bool). (a.uid == b.uid) && x) (eq_why a.why b.why)

-- Where both of two are true, each of them is.
both_true : (a b : Bool) → (a && b) ≡ true → (a ≡ true) × (b ≡ true)
both_true true b e = (refl, e)
both_true false b e = absurd (cc e)

-- Kinds that test as the same are one.
one_kind : (a b : Kind) → is_kind a b ≡ true → a ≡ b
one_kind a b e =
    let parts = both_true (a.uid == b.uid) (same_why a.why b.why) e in
    let u : a.uid ≡ b.uid = eqb-true a.uid b.uid parts.0 in
    let w : a.why ≡ b.why = one_why a.why b.why parts.1 in
    λ i. record { uid = u i; why = w i }

-- For put: with a tally put in at a kind, it stands there.
pub stands : (k : Kind) (t : Tally) (a b : Families) → tree.Updates kind_cmp a.tallies b.tallies k (Some t)
    → Stands k t a b
stands k t a b up = λ q. up.0 q ∙ ap (λ (x : Bool). cond x (Some t) (tally_at a q)) (eq_kind k q)

-- ---- tallies

-- The last of some gaps and one more is that one.
last_more : (t : ℕ) (gs : List Gap) (g : Gap) → last_time t (gs ++ g ∷ []) ≡ g.time
last_more t [] g = refl
last_more t (h ∷ gs) g = last_more h.time gs g

-- The tally of some gaps and one more.
tally_more : (gs : List Gap) (g : Gap) → tally_of (gs ++ g ∷ []) ≡ Some (tally_with (tally_of gs) g.time)
tally_more [] g = refl
tally_more (h ∷ gs) g =
    let count : length (h ∷ (gs ++ g ∷ [])) ≡ length (h ∷ gs) + 1 = length-append (h ∷ gs) (g ∷ []) in
    ap (λ (n : ℕ). Some (record { count = n; first = h.time; last = last_time h.time (gs ++ g ∷ []) })) count
    ∙ ap (λ (n : ℕ). Some (record { count = length (h ∷ gs) + 1; first = h.time; last = n })) (last_more h.time gs g)

-- A tally counts the gaps.
count_is : (gs : List Gap) → count_in (tally_of gs) ≡ length gs
count_is [] = refl
count_is (g ∷ gs) = refl

-- A family has no more gaps than the list.
family_short : (k : Kind) (gs : List Gap) → length (family k gs) ≤ length gs
family_short k [] = omega arith
family_short k (g ∷ gs) = by (is_kind (kind_of g) k) (family_short k gs)
  where
    by : (b : Bool) → length (family k gs) ≤ length gs
        → length (if b then g ∷ family k gs else family k gs) ≤ length (g ∷ gs)
    by true h = omega (arith, h)
    by false h = omega (arith, h)

-- For of: no tally counts more gaps than were counted.
pub count_short : (f : Families) (k : Kind) (gs : List Gap) → IsCounted f gs → count_in (tally_at f k) ≤ length gs
count_short f k gs counted =
    let is : count_in (tally_at f k) ≡ length (family k gs) = ap count_in (counted k) ∙ count_is (family k gs) in
    let short = family_short k gs in omega (arith, is, short)

-- Of one gap, the family is that gap or nothing.
family_one : (k : Kind) (g : Gap) (b : Bool) → is_kind (kind_of g) k ≡ b
    → family k (g ∷ []) ≡ (if b then g ∷ [] else [])
family_one k g b e = ap (λ (x : Bool). if x then g ∷ [] else []) e

-- For note: with the tally of its kind put in, a gap more is counted.
pub counted_more : (f f' : Families) (g : Gap) (t : Tally) → t ≡ tally_with (tally_at f (kind_of g)) g.time
    → Stands (kind_of g) t f f' → (gs : List Gap) → IsCounted f gs → IsCounted f' (gs ++ g ∷ [])
counted_more f f' g t is put gs counted = λ q. put q ∙ by q (is_kind (kind_of g) q) refl
  where
    joined : (q : Kind) → family q (gs ++ g ∷ []) ≡ family q gs ++ family q (g ∷ [])
    joined q = filter-append (λ (x : Gap). is_kind (kind_of x) q) gs (g ∷ [])

    by : (q : Kind) (b : Bool) → is_kind (kind_of g) q ≡ b
        → (if b then Some t else tally_at f q) ≡ tally_of (family q (gs ++ g ∷ []))
    by q true e =
        ap Some (is ∙ ap (λ (k : Kind). tally_with (tally_at f k) g.time) (one_kind (kind_of g) q e)
        ∙ ap (λ (o : Option Tally). tally_with o g.time) (counted q))
        ∙ sym (tally_more (family q gs) g)
        ∙ ap tally_of (sym (joined q ∙ ap (λ (xs : List Gap). family q gs ++ xs) (family_one q g true e)))
    by q false e =
        counted q
        ∙ ap tally_of (sym (joined q ∙ ap (λ (xs : List Gap). family q gs ++ xs) (family_one q g false e)
        ∙ append-nil (family q gs)))

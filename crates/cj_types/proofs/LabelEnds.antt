-- A map of labels, put at its end.
use Rattle.std.proofs.Common.{◌≡◌, ℕ, ◌-◌, suc, List, [], ◌∷◌, length, Some, refl, sym, ap, ◌∙◌, arith}
use Rattle.std.specs.Prelude.{insert, slice_get, true, false, Bool, ◌&&◌}
use Rattle.std.specs.declared.cmp.Ordering.{Ordering}
use Rattle.std.specs.declared.cmp.Ordering.TheVariants.{Less, Equal, Greater}
use Rattle.std.specs.Ordering.{is_gt, is_lt, ordering_reverse}
use Rattle.std.specs.FinMap.Entries.{by_order, below_all}
use Rattle.std.specs.Cmp.Lexicographic.{nat_list_cmp_total}
use Rattle.cj_types.specs.LabelMap.{text_cmp, put_label, is_label_map}

abbrev Entry : Type 0
Entry = List ℕ × List ℕ

-- a name above one that is above x is above x
above : (n l x : List ℕ) → text_cmp n l ≡ Greater → text_cmp x l ≡ Less → text_cmp n x ≡ Greater
above n l x g lt =
    let o = nat_list_cmp_total in
    let down : text_cmp l n ≡ Less = o.antisymm l n ∙ ap ordering_reverse g in
    o.antisymm n x ∙ ap ordering_reverse (o.trans x l n lt down)

-- Two tests that hold together hold each.
both : (a b : Bool) → (a && b) ≡ true → (a ≡ true) × (b ≡ true)
both true b h = (refl, h)
both false b h = absurd (cc h)

-- An order that passes the test for less is Less.
less : (o : Ordering) → is_lt o ≡ true → o ≡ Less
less Less h = refl
less Equal h = absurd (cc h)
less Greater h = absurd (cc h)

-- what is below all is below the last one
below_last : (x : List ℕ) (e : Entry) (es : List Entry) (l : Entry) → below_all text_cmp x (e ∷ es) ≡ true
    → slice_get (e ∷ es) (length es) ≡ Some l → text_cmp x l.0 ≡ Less
below_last x e [] l h is = ap (λ y. text_cmp x y.0) (some_is _ _ (sym is)) ∙ less _ (both _ _ h).0
  where
    some_is : (a b : Entry) → Some a ≡ Some b → a ≡ b
    some_is a b p = cc p
below_last x e (f ∷ es) l h is = below_last x f es l (both _ _ h).1 is

-- For put_last, where there is an entry: a name above that of the last one is put at the end.
put_after : (n v : List ℕ) (e : Entry) (es : List Entry) (l : Entry) → slice_get (e ∷ es) (length es) ≡ Some l
    → text_cmp n l.0 ≡ Greater → is_label_map (e ∷ es) ≡ true → put_label n v (e ∷ es)
    ≡ insert (e ∷ es) (suc (length es)) (n, v)
put_after n v e [] l is g sorted = ap (λ o. by_order o ((n, v) ∷ e ∷ []) ((e.0, v) ∷ []) (e ∷ (n, v) ∷ []))
    (ap (λ y. text_cmp n y.0) (some_is _ _ is) ∙ g)
  where
    some_is : (a b : Entry) → Some a ≡ Some b → a ≡ b
    some_is a b p = cc p
put_after n v e (f ∷ es) l is g sorted =
    let parts = both _ _ sorted in
    let over : text_cmp n e.0 ≡ Greater = above n l.0 e.0 g (below_last e.0 f es l parts.0 is) in
    ap (λ o. by_order o ((n, v) ∷ e ∷ f ∷ es) ((e.0, v) ∷ f ∷ es) (e ∷ put_label n v (f ∷ es))) over
    ∙ ap (λ r. e ∷ r) (put_after n v f es l is g parts.1)

-- For comes_last: a name above that of the last entry of a map of labels is put at its end.
pub put_last : (n v : List ℕ) (es : List Entry) (l : Entry) → slice_get es (length es - 1) ≡ Some l
    → text_cmp n l.0 ≡ Greater → is_label_map es ≡ true → put_label n v es ≡ insert es (length es) (n, v)
put_last n v [] l is g sorted = absurd (cc is)
put_last n v (e ∷ es) l is g sorted = put_after n v e es l (ap (slice_get (e ∷ es)) (less_one (length es)) ∙ is) g
    sorted
  where
    less_one : (k : ℕ) → k ≡ suc k - 1
    less_one k = omega arith

-- An order that passes the test for greater is Greater.
pub greater : (o : Ordering) → is_gt o ≡ true → o ≡ Greater
greater Less h = absurd (cc h)
greater Equal h = absurd (cc h)
greater Greater h = refl

-- Entries whose names rise, put in one after another, come out as they were.
use Rattle.std.proofs.Common.{◌≡◌, ℕ, List, [], ◌∷◌, ◌++◌, Bool, true, false, ◌&&◌, refl, sym, ap, ◌∙◌, T, subst, append_assoc, append-nil}
use Rattle.std.specs.Ordering.{ordering_reverse, is_lt}
use Rattle.std.specs.declared.cmp.Ordering.{Ordering}
use Rattle.std.specs.declared.cmp.Ordering.TheVariants.{Less, Equal, Greater}
use Rattle.std.specs.FinMap.Entries.{by_order, below_all, is_sorted, put}
use Rattle.std.proofs.lemmas.Cmp.{nat_list_cmp_total}
use Rattle.cj_types.specs.LabelMap.{text_cmp}

abbrev pub Named : Type 0 → Type 0
Named X = List (List ℕ × X)

abbrev pub rises : {X : Type 0} → Named X → Type 0
rises es = T (is_sorted text_cmp es)

-- put in one after another
abbrev pub onto : {X : Type 0} → Named X → Named X → Named X
onto done [] = done
onto done (e ∷ es) = onto (put text_cmp e.0 e.1 done) es

-- Where both of two are true, the first is.
first : (a b : Bool) → T (a && b) → T a
first true b h = tt
first false b h = absurd h

-- Where both of two are true, the second is.
second : (a b : Bool) → T (a && b) → T b
second true b h = h
second false b h = absurd h

-- What tests as less is Less.
less : (o : Ordering) → T (is_lt o) → o ≡ Less
less Less h = refl
less Equal h = absurd h
less Greater h = absurd h

-- For put_last: a name below all in a list is below the one that stands in the middle of it.
below_middle : {X : Type 0} (k : List ℕ) (done : Named X) (e : List ℕ × X) (es : Named X)
    → T (below_all text_cmp k (done ++ e ∷ es)) → text_cmp k e.0 ≡ Less
below_middle k [] e es h = less (text_cmp k e.0) (first _ _ h)
below_middle k (x ∷ done) e es h = below_middle k done e es (second (is_lt (text_cmp k x.0)) _ h)

-- Where names rise, an entry put in among those before it stands last.
put_last : {X : Type 0} (done : Named X) (e : List ℕ × X) (es : Named X) → rises (done ++ e ∷ es)
    → put text_cmp e.0 e.1 done ≡ done ++ e ∷ []
put_last [] e es h = refl
put_last (x ∷ done) e es h =
    let below = below_middle x.0 done e es (first _ (is_sorted text_cmp (done ++ e ∷ es)) h) in
    let above : text_cmp e.0 x.0 ≡ Greater = nat_list_cmp_total.antisymm e.0 x.0 ∙ ap ordering_reverse below in
    let rest = put_last done e es (second (below_all text_cmp x.0 (done ++ e ∷ es)) _ h) in
    ap (λ o. by_order o (e ∷ x ∷ done) ((x.0, e.1) ∷ done) (x ∷ put text_cmp e.0 e.1 done)) above
    ∙ ap (λ ys. x ∷ ys) rest

-- Where names rise, entries put in one after another stand behind those that were there before.
onto_is : {X : Type 0} (done es : Named X) → rises (done ++ es) → onto done es ≡ done ++ es
onto_is done [] h = sym (append-nil done)
onto_is done (e ∷ es) h =
    let same = append_assoc done (e ∷ []) es in
    ap (λ ys. onto ys es) (put_last done e es h) ∙ onto_is (done ++ e ∷ []) es (subst (λ ys. rises ys) (sym same) h)
    ∙ same

-- Where names rise, entries put in one after another into nothing come out as they were.
pub onto_nothing : {X : Type 0} (es : Named X) → rises es → onto [] es ≡ es
onto_nothing es h = onto_is [] es h

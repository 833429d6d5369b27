-- What stands in the entries of a table once they are in the order of keys.
use Rattle.std.proofs.Common.{◌≡◌, ◌<◌, ◌≤◌, ◌+◌, ℕ, List, [], ◌∷◌, Option, Some, None, false, Bor, map as map_list}
use Rattle.std.proofs.Common.{length, get_or, take, refl, sym, ap, ◌∙◌, subst, arith}
use Rattle.std.specs.Ordering.{eq_by_cmp, is_lt, is_eq, ordering_reverse}
use Rattle.std.specs.declared.cmp.Ordering.{Ordering}
use Rattle.std.specs.declared.cmp.Ordering.TheVariants.{Less, Equal, Greater}
use Rattle.std.specs.Cmp.{IsTotalOrder, eq_by_cmp_equiv}
use Rattle.std.specs.List.{IsDistinct}
use Rattle.std.specs.List.Sorted.{IsPermutation, IsSorted, IsSortedByKey, IsStrictlySortedBy}
use Rattle.std.specs.Map.{lookup, keys_of}
use Rattle.std.specs.FinMap as map
use Rattle.std.proofs.lemmas.List.{get_or-map, length-map, take_all}
use Rattle.std.proofs.lemmas.List.Sorted.{IsPermutation-sym, IsPermutation-map, Contains-permutation}
use Rattle.std.proofs.lemmas.Map.Keys.{sorted_from_all_adjacent, apart_from_distinct, IsDistinct-IsPermutation, IsDistinct-from_sorted}
use Rattle.std.proofs.lemmas.Map.Views.{Contains-from_lookup, lookup-from_Contains, tells_apart}
use Rattle.std.specs.Map.Iter.{deref_pair}
use Rattle.cj_types.specs.Keys.{Place, place_cmp}
use Rattle.cj_table.proofs.Order.{places_total, places_exact}
use Rattle.cj_table.specs.Tags.{hash_cmp}
use Rattle.cj_table.proofs.Tags.{one_tie}
use Rattle.cj_table.proofs.Gets.{same_rows, rows_entries}

-- Of the three orders, one that is not Less from the other side and no tie is Less.
less : (o p : Ordering) → is_lt p ≡ false → is_eq o ≡ false → o ≡ ordering_reverse p → o ≡ Less
less o Less h e r = absurd (cc h)
less o Equal h e r = absurd (cc (sym e ∙ ap is_eq r))
less o Greater h e r = r

-- For kept_rows: two look-ups of which each finds what the other does find the same.
same_found : {X : Type 0} (a b : Option X) → ((v : X) → a ≡ Some v → b ≡ Some v)
    → ((v : X) → b ≡ Some v → a ≡ Some v) → b ≡ a
same_found None None f g = refl
same_found (Some v) b f g = f v refl
same_found None (Some w) f g = sym (g w refl)

-- Keys in order of which no two tie rise strictly.
strict : {K : Type 0} {R : K → K → Ordering} → IsTotalOrder R → (ks : List K) → IsDistinct (eq_by_cmp R) ks
    → IsSorted R ks → IsStrictlySortedBy R ks
unfolding IsStrictlySortedBy
strict o [] h s = tt
strict {R = R} o (k ∷ ks) h s = sorted_from_all_adjacent o (k ∷ ks) k (λ i l.
    less _ _ (s i k (omega arith) l)
    (apart_from_distinct (eq_by_cmp R) (k ∷ ks) i (i + 1) k h (omega arith) l) (o.antisymm _ _))

module _ {K X : Type 0} {R : K → K → Ordering} (o : IsTotalOrder R) (exact : map.IsAntisymmetric R) where
  -- Keys that differ still do after the entries change places.
  still_distinct : (es fs : List (K × X)) → IsPermutation es fs → IsDistinct (eq_by_cmp R) (keys_of es)
      → IsDistinct (eq_by_cmp R) (keys_of fs)
  still_distinct es fs p d = IsDistinct-IsPermutation _ (eq_by_cmp_equiv o).symm _ _
      (IsPermutation-map (λ (e : K × X). e.0) es fs p) d

  -- For kept_rows: what a look-up finds it finds after the entries change places.
  still_found : (es fs : List (K × X)) → IsDistinct (eq_by_cmp R) (keys_of fs) → IsPermutation es fs → (q : K) (v : X)
      → lookup (eq_by_cmp R q) es ≡ Some v → lookup (eq_by_cmp R q) fs ≡ Some v
  still_found es fs d p q v h = lookup-from_Contains (eq_by_cmp_equiv o) q v fs d
      (Contains-permutation es fs (q, v) p (Contains-from_lookup (tells_apart exact) q v es h))

  -- Where the keys of entries differ, a look-up finds the same after the entries change places.
  kept_rows : (es fs : List (K × X)) → IsDistinct (eq_by_cmp R) (keys_of es) → IsPermutation es fs → (q : K)
      → lookup (eq_by_cmp R q) fs ≡ lookup (eq_by_cmp R q) es
  kept_rows es fs d p q = same_found _ _
      (still_found es fs (still_distinct es fs p d) p q)
      (still_found fs es d (IsPermutation-sym es fs p) q)

  -- Where the keys of entries differ, the same entries in the order of keys are those of their map.
  pub sorted_entries : (es fs : List (K × X)) → IsDistinct (eq_by_cmp R) (keys_of es) → IsPermutation es fs
      → IsSorted R (keys_of fs) → fs ≡ map.entries (map.from_entries {R = R} es)
  sorted_entries es fs d p s =
      sym (rows_entries o exact fs (strict o (keys_of fs) (still_distinct es fs p d) s))
      ∙ ap (λ (m : map.FinMap R X). map.entries m) (same_rows o exact es fs (kept_rows es fs d p))

-- Elements in the order of what g and then key gives are, by g, in the order of key.
sorted_map : {A B K : Type 0} (R : K → K → Ordering) (g : A → B) (key : B → K) (xs : List A)
    → IsSortedByKey (λ x. key (g x)) R xs → IsSortedByKey key R (map_list g xs)
sorted_map R g key [] s = λ k d low l. absurd (omega (arith, l))
sorted_map R g key (x ∷ xs) s = λ k d low l.
    let at = λ (i : ℕ) (h : i < length (x ∷ xs)). get_or-map g (x ∷ xs) i x d h in
    let h : k + 1 < length (x ∷ xs) = subst (λ n. k + 1 < n) (length-map (x ∷ xs) g) l in
    let j : k < length (x ∷ xs) = omega (arith, h) in
    ap (λ y. is_lt (R (key y) (key (get_or (map_list g (x ∷ xs)) k d)))) (at (k + 1) h)
    ∙ ap (λ y. is_lt (R (key (g (get_or (x ∷ xs) (k + 1) x))) (key y))) (at k j)
    ∙ s k x low h

module _ {X : Type 0} where
  -- For ordered_rows: references to the rows of a table, in the order of keys, show the entries of its map.
  pub ordered : (es : List (Place × X)) (bs cs : List (Bor Place × Bor X)) → map_list deref_pair bs ≡ es
      → IsStrictlySortedBy hash_cmp (keys_of es) → IsPermutation bs cs → IsSortedByKey (λ r. r.0.now) place_cmp cs
      → map_list deref_pair cs ≡ map.entries (map.from_entries {R = place_cmp} es)
  ordered es bs cs h d p s = sorted_entries places_total places_exact es (map_list deref_pair cs)
      (subst (λ t. IsDistinct t (keys_of es)) one_tie (IsDistinct-from_sorted hash_cmp (keys_of es) d))
      (subst (λ t. IsPermutation t (map_list deref_pair cs)) h (IsPermutation-map deref_pair bs cs p))
      (sorted_map place_cmp (λ (e : Place × X). e.0) (λ k. k) (map_list deref_pair cs)
      (sorted_map place_cmp deref_pair (λ (e : Place × X). e.0) cs s))

  -- For listed: the values that references show are those of the rows that they show.
  shown_values : (rs : List (Bor Place × Bor X)) → map_list (λ r. r.1.now) rs
      ≡ map_list (λ e. e.1) (map_list deref_pair rs)
  shown_values [] = refl
  shown_values (r ∷ rs) = ap (λ vs. r.1.now ∷ vs) (shown_values rs)

  -- For Table::list: where references show the entries of a map, the values of all of them are the map's.
  pub listed : (m : map.FinMap place_cmp X) (rs : List (Bor Place × Bor X)) (n : ℕ) → length rs ≤ n
      → map_list deref_pair rs ≡ map.entries m → map_list (λ r. r.1.now) (take n rs) ≡ map.values m
  listed m rs n l h = ap (map_list (λ r. r.1.now)) (take_all n rs l) ∙ shown_values rs
      ∙ ap (map_list (λ e. e.1)) h

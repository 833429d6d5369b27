-- What a list of entries is as a finite map.
use Rattle.std.proofs.Common.{◌≡◌, List, [], ◌∷◌, Some, None, cond, refl, sym, ap, ◌∙◌}
use Rattle.std.proofs.Common.{Bool, true, false, ◌&&◌, subst, map as map_list}
use Rattle.std.specs.Prelude.{T}
use Rattle.std.specs.Ordering.{is_lt}
use Rattle.std.specs.declared.cmp.Ordering.{Ordering}
use Rattle.std.specs.List.{AllByRecursion}
use Rattle.std.specs.List.Sorted.{IsStrictlySortedBy}
use Rattle.std.specs.declared.cmp.Ordering.TheVariants.{Less}
use Rattle.std.specs.FinMap.Entries.{below_all}
use Rattle.std.proofs.lemmas.Map.Keys.{sorted_head, sorted_tail}
use Rattle.std.specs.FinMap as map
use Rattle.std.specs.FinMap.{find}
use Rattle.std.specs.Map.{lookup}
use Rattle.std.specs.BTreeMap.{is_at}
use Rattle.std.specs.Cmp.{IsTotalOrder, eq_by_cmp_equiv}

-- Two tests that hold hold together.
both : (a b : Bool) → T a → T b → T (a && b)
both true b p q = q
both false b p q = p

module _ {K X : Type 0} (R : K → K → Ordering) where
  -- A key that is less than the key of each entry is below all entries.
  below_from_all : (x : K) (es : List (K × X)) → AllByRecursion (λ y. R x y ≡ Less) (map_list (λ e. e.0) es)
      → T (below_all R x es)
  below_from_all x [] h = tt
  below_from_all x (e ∷ es) h = subst (λ o. T (is_lt o && below_all R x es)) (sym h.0) (below_from_all x es h.1)

  -- Entries of which each key is less than those behind it are sorted.
  pub sorted_rows : (es : List (K × X)) → IsStrictlySortedBy R (map_list (λ e. e.0) es) → T (map.is_sorted R es)
  sorted_rows [] h = tt
  sorted_rows (e ∷ es) h = both _ _ (below_from_all e.0 es (sorted_head R e.0 _ h))
      (sorted_rows es (sorted_tail R e.0 _ h))

  -- What a finite map finds at a key of some entries is what a look-up in them finds.
  pub find-lookup : (es : List (K × X)) (q : K) → find R q es ≡ lookup (is_at (R q)) es
  find-lookup [] q = refl
  find-lookup (e ∷ es) q = ap (cond (is_at (R q) e.0) (Some e.1)) (find-lookup es q)

module _ {K X : Type 0} {R : K → K → Ordering} (o : IsTotalOrder R) (exact : map.IsAntisymmetric R) where
  -- The map of some entries has at a key what a look-up in them finds.
  pub get_rows : (es : List (K × X)) (q : K) → map.get (map.from_entries {R = R} es) q ≡ lookup (is_at (R q)) es
  get_rows es q = map.get-from_entries o es q ∙ find-lookup R es q

  -- Where a look-up finds v at k and else what it found before, the map has v inserted at k.
  pub inserted : (es fs : List (K × X)) (k : K) (v : X)
      → ((q : K) → lookup (is_at (R q)) fs ≡ cond (is_at (R k) q) (Some v) (lookup (is_at (R q)) es))
      → map.from_entries {R = R} fs ≡ map.insert (map.from_entries es) k v
  inserted es fs k v h = map.same_map o exact _ _ (λ q.
      get_rows fs q ∙ h q ∙ ap (λ b. cond b (Some v) (lookup (is_at (R q)) es)) ((eq_by_cmp_equiv o).symm k q)
      ∙ sym (map.get-insert o (map.from_entries es) k v q ∙ ap (cond (is_at (R q) k) (Some v)) (get_rows es q)))

  -- Where a look-up finds nothing at k and else what it found before, the map has k removed.
  pub removed : (es fs : List (K × X)) (k : K) → ((q : K) → lookup (is_at (R q)) fs
      ≡ cond (is_at (R k) q) None (lookup (is_at (R q)) es)) → map.from_entries {R = R} fs
      ≡ map.remove (map.from_entries es) k
  removed es fs k h = map.same_map o exact _ _ (λ q.
      get_rows fs q ∙ h q ∙ ap (λ b. cond b None (lookup (is_at (R q)) es)) ((eq_by_cmp_equiv o).symm k q)
      ∙ sym (map.get-remove o (map.from_entries es) k q ∙ ap (cond (is_at (R q) k) None) (get_rows es q)))

  -- Where each look-up finds what it found before, the map is the same.
  pub same_rows : (es fs : List (K × X)) → ((q : K) → lookup (is_at (R q)) fs ≡ lookup (is_at (R q)) es)
      → map.from_entries {R = R} fs ≡ map.from_entries es
  same_rows es fs h = map.same_map o exact _ _ (λ q. get_rows fs q ∙ h q ∙ sym (get_rows es q))

  -- sorted entries are the entries of their map
  pub rows_entries : (es : List (K × X)) → IsStrictlySortedBy R (map_list (λ e. e.0) es)
      → map.entries (map.from_entries {R = R} es) ≡ es
  rows_entries es h =
      let s = sorted_rows R es h in
      let same : map.from_entries {R = R} es ≡ map.from_sorted es = map.same_map o exact _ _
      (λ q. map.get-from_entries o es q ∙ sym (map.get-from_sorted R es q s)) in
      ap (λ (m : map.FinMap R X). map.entries m) same ∙ map.entries-from_sorted R es s

-- What the entries of a map are as a finite map: of one in the order of keys, and of a table.
use Rattle.std.proofs.Common.{◌≡◌, List, [], ◌∷◌, None, Some, cond, refl, ap, ◌∙◌, sym, subst}
use Rattle.std.specs.Prelude.{length}
use Rattle.std.specs.FinMap as map
use Rattle.std.specs.Map.{lookup, keys_of, values_of}
use Rattle.std.specs.List.Sorted.{IsStrictlySortedBy}
use Rattle.std.specs.BTreeMap.{is_at}
use Rattle.cj_types.specs.Keys.{Place, place_cmp}
use Rattle.cj_table.proofs.Order.{places_total, places_exact}
use Rattle.cj_table.specs.Tags.{hash_cmp}
use Rattle.cj_table.proofs.Tags.{one_tie}
use Rattle.cj_table.proofs.Gets.{get_rows, inserted, removed, rows_entries}

-- Of a map in the order of keys: it has at a key what a look-up in its entries finds.
pub found_at : {X : Type 0} (es : List (Place × X)) (q : Place) → map.get (map.from_entries {R = place_cmp} es) q
    ≡ lookup (is_at (place_cmp q)) es
found_at es q = get_rows places_total places_exact es q

-- Of such a map: where a look-up finds v at k and else what it did, v is inserted at k.
pub inserted_at : {X : Type 0} (es fs : List (Place × X)) (k : Place) (v : X)
    → ((q : Place)
    → lookup (is_at (place_cmp q)) fs ≡ cond (is_at (place_cmp k) q) (Some v) (lookup (is_at (place_cmp q)) es))
    → map.from_entries {R = place_cmp} fs ≡ map.insert (map.from_entries es) k v
inserted_at es fs k v h = inserted places_total places_exact es fs k v h

-- Of such a map: where a look-up finds nothing at k and else what it did, k is removed.
pub removed_at : {X : Type 0} (es fs : List (Place × X)) (k : Place)
    → ((q : Place)
    → lookup (is_at (place_cmp q)) fs ≡ cond (is_at (place_cmp k) q) None (lookup (is_at (place_cmp q)) es))
    → map.from_entries {R = place_cmp} fs ≡ map.remove (map.from_entries es) k
removed_at es fs k h = removed places_total places_exact es fs k h

-- For Table::get: the table has at a key what a look-up in its entries finds.
pub found_row : {X : Type 0} (es : List (Place × X)) (q : Place) → map.get (map.from_entries {R = place_cmp} es) q
    ≡ lookup (is_at (hash_cmp q)) es
found_row es q = found_at es q ∙ ap (λ t. lookup (t q) es) (sym one_tie)

-- For Table::insert: where a look-up finds v at k and else what it did, v is inserted at k.
pub put_row : {X : Type 0} (es fs : List (Place × X)) (k : Place) (v : X)
    → ((q : Place) → lookup (is_at (hash_cmp q)) fs
    ≡ cond (is_at (hash_cmp k) q) (Some v) (lookup (is_at (hash_cmp q)) es))
    → map.from_entries {R = place_cmp} fs ≡ map.insert (map.from_entries es) k v
put_row es fs k v h = inserted_at es fs k v
    (subst (λ t. (q : Place) → lookup (t q) fs ≡ cond (t k q) (Some v) (lookup (t q) es)) one_tie h)

-- For Table::remove: where a look-up finds nothing at k and else what it did, k is removed.
pub gone_row : {X : Type 0} (es fs : List (Place × X)) (k : Place)
    → ((q : Place) → lookup (is_at (hash_cmp q)) fs
    ≡ cond (is_at (hash_cmp k) q) None (lookup (is_at (hash_cmp q)) es))
    → map.from_entries {R = place_cmp} fs ≡ map.remove (map.from_entries es) k
gone_row es fs k h = removed_at es fs k
    (subst (λ t. (q : Place) → lookup (t q) fs ≡ cond (t k q) None (lookup (t q) es)) one_tie h)

-- For OwnJobs::list: the values of sorted entries are those of their map, in the order of their keys.
pub listed : {X : Type 0} (es : List (Place × X)) → IsStrictlySortedBy place_cmp (keys_of es)
    → values_of es ≡ map.values (map.from_entries {R = place_cmp} es)
listed es sorted = ap values_of (sym (rows_entries places_total places_exact es sorted))

-- For OwnJobs::is_empty: where there are no entries the map is empty.
pub none_listed : {X : Type 0} (es : List (Place × X)) → length es ≡ 0 → map.from_entries {R = place_cmp} es ≡ map.empty
none_listed [] e = refl
none_listed (f ∷ fs) e = absurd (cc e)

-- For ByOwner::list: an empty map has no values.
pub no_values : {X : Type 0} → [] ≡ map.values (map.empty {X = X} {R = place_cmp})
unfolding IsStrictlySortedBy
no_values = listed [] tt

-- What stands in a map is what its list of values has.
use Rattle.std.proofs.Common.{◌≡◌, inl, inr, Bool, true, false, ◌&&◌, cond, List, [], ◌∷◌, Some, refl, sym, ap, ◌∙◌, map as map_list}
use Rattle.std.specs.Prelude.{T}
use Rattle.std.specs.declared.cmp.Ordering.{Ordering}
use Rattle.std.specs.declared.cmp.Ordering.TheVariants.{Less, Equal, Greater}
use Rattle.std.specs.Ordering.{is_eq, is_lt, eq_by_cmp, ordering_reverse}
use Rattle.std.specs.Cmp.{IsTotalOrder, tied_itself}
use Rattle.std.specs.FinMap as map
use Rattle.std.specs.FinMap.{find, is_sorted}
use Rattle.std.specs.FinMap.Entries.{below_all}
use Rattle.cj_audit.proofs.Members.{IsIn}

-- Of two tests that hold together, the first holds.
first : (a b : Bool) → T (a && b) → T a
first true b p = tt
first false b p = p

-- Of two tests that hold together, the second holds.
second : (a b : Bool) → T (a && b) → T b
second true b p = p
second false b p = absurd p

-- Of the three orders only Less is below.
less : (r : Ordering) → T (is_lt r) → r ≡ Less
less Less h = refl
less Equal h = absurd h
less Greater h = absurd h

module _ {K X : Type 0} (R : K → K → Ordering) where
  -- What a look-up in a list of entries finds is one of their values.
  found_value : (q : K) (es : List (K × X)) (v : X) → find R q es ≡ Some v → IsIn v (map_list (λ e. e.1) es)
  found_value q [] v h = absurd (cc h)
  found_value q (e ∷ es) v h = by (eq_by_cmp R q e.0) (λ f. found_value q es v f) h
    where
      by : (b : Bool) → (find R q es ≡ Some v → IsIn v (map_list (λ x. x.1) es))
          → cond b (Some e.1) (find R q es) ≡ Some v → IsIn v (map_list (λ x. x.1) (e ∷ es))
      by true more f = let same : v ≡ e.1 = cc f in inl same
      by false more f = inr (more f)

  -- A value of a list of entries stands there under a key.
  value_key : (v : X) (es : List (K × X)) → IsIn v (map_list (λ e. e.1) es) → (k : K) × IsIn (k, v) es
  value_key v [] h = absurd h
  value_key v (e ∷ es) (inl is) = (e.0, inl (ap (λ x. (e.0, x)) is))
  value_key v (e ∷ es) (inr rest) = let k = value_key v es rest in (k.0, inr k.1)

  -- A key that is below all of some entries is below each.
  below_each : (x k : K) (v : X) (es : List (K × X)) → T (below_all R x es) → IsIn (k, v) es → R x k ≡ Less
  below_each x k v [] b h = absurd h
  below_each x k v (e ∷ es) b (inl is) =
      ap (R x) (ap (λ p. p.0) is) ∙ less (R x e.0) (first (is_lt (R x e.0)) (below_all R x es) b)
  below_each x k v (e ∷ es) b (inr rest) =
      below_each x k v es (second (is_lt (R x e.0)) (below_all R x es) b) rest

  -- In entries in order a look-up finds what stands there under its key.
  entry_found : IsTotalOrder R → (k : K) (v : X) (es : List (K × X)) → T (is_sorted R es) → IsIn (k, v) es
      → find R k es ≡ Some v
  entry_found o k v [] s h = absurd h
  entry_found o k v (e ∷ es) s (inl is) =
      let key : k ≡ e.0 = ap (λ p. p.0) is in
      let value : e.1 ≡ v = sym (ap (λ p. p.1) is) in
      let tied : eq_by_cmp R k e.0 ≡ true = ap (λ x. is_eq (R x e.0)) key ∙ ap is_eq (tied_itself o e.0) in
      ap (λ b. cond b (Some e.1) (find R k es)) tied ∙ ap Some value
  entry_found o k v (e ∷ es) s (inr rest) =
      let below : R e.0 k ≡ Less = below_each e.0 k v es (first (below_all R e.0 es) (is_sorted R es) s) rest in
      let apart : eq_by_cmp R k e.0 ≡ false = ap is_eq (o.antisymm k e.0 ∙ ap ordering_reverse below) in
      ap (λ b. cond b (Some e.1) (find R k es)) apart
      ∙ entry_found o k v es (second (below_all R e.0 es) (is_sorted R es) s) rest

  -- What stands at a key of a map is one of its values.
  pub found_in : (m : map.FinMap R X) (k : K) (v : X) → map.get m k ≡ Some v → IsIn v (map.values m)
  found_in m k v h = found_value k (map.entries m) v (sym (map.get-entries m k) ∙ h)

  -- A value of a map stands at a key of it.
  pub in_found : IsTotalOrder R → (m : map.FinMap R X) (v : X) → IsIn v (map.values m)
      → (k : K) × (map.get m k ≡ Some v)
  in_found o m v h =
      let k = value_key v (map.entries m) h in
      (k.0, map.get-entries m k.0 ∙ entry_found o k.0 v (map.entries m) (map.entries_sorted m) k.1)

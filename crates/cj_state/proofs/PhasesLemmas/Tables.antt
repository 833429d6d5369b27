-- A map's entries, seen as a finite map.
use Rattle.std.proofs.Common.{◌≡◌, ℕ, cond, List, [], ◌∷◌, length, arith, Option, Some, None, refl, sym, ap, ◌∙◌, Result, Ok, Err, IsSome, OnOk, OnErr, subst}
use Rattle.std.specs.Ordering.{nat_cmp, eq_by_cmp}
use Rattle.std.specs.BTreeMap.{is_at}
use Rattle.std.specs.Map.{lookup}
use Rattle.std.specs.Cmp.{nat_cmp_total, eq_by_cmp_equiv}
use Rattle.std.specs.FinMap.{FinMap, empty, get, get-empty, insert, remove, find, from_entries, get-from_entries, get-insert, get-remove, same_map, nat_cmp-IsAntisymmetric}

-- Whether two keys are the same is asked alike in either order.
turned : (k q : ℕ) → eq_by_cmp nat_cmp k q ≡ eq_by_cmp nat_cmp q k
turned k q = (eq_by_cmp_equiv nat_cmp_total).symm k q

module _ {X : Type 0} where
  -- For get_is: what the map's search finds at a key of some entries is what a look-up finds.
  pub find_is : (q : ℕ) (es : List (ℕ × X)) → find nat_cmp q es ≡ lookup (is_at (nat_cmp q)) es
  find_is q [] = refl
  find_is q (e ∷ es) = ap (cond (eq_by_cmp nat_cmp q e.0) (Some e.1)) (find_is q es)

  -- The map of some entries has at a key what a look-up in them finds.
  pub get_is : (q : ℕ) (es : List (ℕ × X)) → get (from_entries {R = nat_cmp} es) q ≡ lookup (is_at (nat_cmp q)) es
  get_is q es = get-from_entries nat_cmp_total es q ∙ find_is q es

  -- For InFlightSyncs::replace: where a look-up finds v at k and else what it did, v is inserted at
  -- k.
  pub inserted : (es fs : List (ℕ × X)) (k : ℕ) (v : X)
      → ((q : ℕ) → lookup (is_at (nat_cmp q)) fs ≡ cond (is_at (nat_cmp k) q) (Some v) (lookup (is_at (nat_cmp q)) es))
      → from_entries {R = nat_cmp} fs ≡ insert (from_entries es) k v
  inserted es fs k v h =
      same_map nat_cmp_total nat_cmp-IsAntisymmetric _ _
      (λ q. get_is q fs ∙ h q ∙ ap (λ b. cond b (Some v) (lookup (is_at (nat_cmp q)) es)) (turned k q)
      ∙ sym (get-insert nat_cmp_total _ k v q ∙ ap (cond (eq_by_cmp nat_cmp q k) (Some v)) (get_is q es)))

  -- Where a look-up finds nothing at k and else what it found before, the map has k removed.
  pub removed : (es fs : List (ℕ × X)) (k : ℕ) → ((q : ℕ) → lookup (is_at (nat_cmp q)) fs
      ≡ cond (is_at (nat_cmp k) q) None (lookup (is_at (nat_cmp q)) es))
      → from_entries {R = nat_cmp} fs ≡ remove (from_entries es) k
  removed es fs k h =
      same_map nat_cmp_total nat_cmp-IsAntisymmetric _ _
      (λ q. get_is q fs ∙ h q ∙ ap (λ b. cond b None (lookup (is_at (nat_cmp q)) es)) (turned k q)
      ∙ sym (get-remove nat_cmp_total _ k q ∙ ap (cond (eq_by_cmp nat_cmp q k) None) (get_is q es)))

-- Where there are no entries, the map is empty.
pub no_rows : {X : Type 0} (es : List (ℕ × X)) → length es ≡ 0 → from_entries {R = nat_cmp} es ≡ empty
no_rows [] h = refl
no_rows (e ∷ es) h = absurd (omega (arith, h))

-- a map with an entry isn't empty
pub none_left : {X : Type 0} (es : List (ℕ × X)) → from_entries {R = nat_cmp} es ≡ empty → es ≡ []
none_left {X = X} [] h = refl
none_left {X = X} (e ∷ es) h =
    let there : get (from_entries {R = nat_cmp} (e ∷ es)) e.0 ≡ Some e.1 =
    get-from_entries nat_cmp_total (e ∷ es) e.0 ∙ ap (λ b. cond b (Some e.1) (find nat_cmp e.0 es))
    ((eq_by_cmp_equiv nat_cmp_total).refl e.0) in
    absurd (cc (sym there ∙ ap (λ (m : FinMap nat_cmp X). get m e.0) h ∙ get-empty nat_cmp e.0))

-- a write that can fail only at a new key does not fail at one that is there
pub present : {A E X : Type 0} {U : Type 0} (r : Result A E) {a b : Option X} → a ≡ b → IsSome a → OnErr r (b ≡ None)
    → OnOk r U → U
present (Ok x) same some absent done = done
present (Err e) same some absent done = cc (subst IsSome (same ∙ absent) some)

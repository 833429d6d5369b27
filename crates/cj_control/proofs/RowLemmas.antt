-- What the entries of a map with numbers for keys are as a finite map.
use Rattle.std.proofs.Common.{◌≡◌, ℕ, arith, List, [], ◌∷◌, Bool, true, false, Some, None, cond, refl, sym, ap, subst, ◌∙◌}
use Rattle.std.specs.Ordering.{nat_cmp, eq_by_cmp}
use Rattle.std.specs.FinMap as map
use Rattle.std.specs.FinMap.{find, nat_cmp-IsAntisymmetric}
use Rattle.std.specs.Map.{lookup}
use Rattle.std.specs.BTreeMap.{BTreeMap, is_at}
use Rattle.std.specs.BTreeMap as tree
use Rattle.std.specs.Cmp.{nat_cmp_total, eq_by_cmp_equiv}
use Rattle.std.specs.Prelude.{All, Contains, IfSome, Option}
use Rattle.std.proofs.lemmas.List.Elements.{All-contains_itself, All-map, All-weaker}
use Rattle.std.proofs.lemmas.Map.Lookups.{exact_unsigned}
use Rattle.std.proofs.lemmas.Map.Views.{IfSome-lookup_from_All, btree_map_get_iff}
use Rattle.cj_control.specs.declared.rows.FencedSync.{FencedSync}
use Rattle.std.proofs.lemmas.Bool.Decides.{nat_tests}
use Rattle.cj_fence.specs.declared.call.Call.{Call}
use Rattle.cj_control.specs.Syncs.{IsFree, RowAsks, Rows, Waits}

-- What a finite map finds at a number among entries is what a look-up in them finds.
find-lookup : {X : Type 0} (es : List (ℕ × X)) (q : ℕ) → find nat_cmp q es ≡ lookup (is_at (nat_cmp q)) es
find-lookup [] q = refl
find-lookup (e ∷ es) q = ap (cond (is_at (nat_cmp q) e.0) (Some e.1)) (find-lookup es q)

-- For SyncRows::get: the map of entries has at a number what a look-up in them finds.
pub found_row : {X : Type 0} (es : List (ℕ × X)) (q : ℕ)
    → map.get (map.from_entries {R = nat_cmp} es) q ≡ lookup (is_at (nat_cmp q)) es
found_row es q = map.get-from_entries nat_cmp_total es q ∙ find-lookup es q

-- For SyncRows::insert: where a look-up finds v at k and else what it did, v is inserted at k.
pub put_row : {X : Type 0} (es fs : List (ℕ × X)) (k : ℕ) (v : X)
    → ((q : ℕ) → lookup (is_at (nat_cmp q)) fs ≡ cond (is_at (nat_cmp k) q) (Some v) (lookup (is_at (nat_cmp q)) es))
    → map.from_entries {R = nat_cmp} fs ≡ map.insert (map.from_entries es) k v
put_row es fs k v h = map.same_map nat_cmp_total nat_cmp-IsAntisymmetric _ _ (λ q.
    found_row fs q ∙ h q
    ∙ ap (λ b. cond b (Some v) (lookup (is_at (nat_cmp q)) es)) ((eq_by_cmp_equiv nat_cmp_total).symm k q)
    ∙ sym (map.get-insert nat_cmp_total (map.from_entries es) k v q
    ∙ ap (cond (is_at (nat_cmp q) k) (Some v)) (found_row es q)))

-- For SyncRows::take: where a look-up finds nothing at k and else what it did, k is removed.
pub gone_row : {X : Type 0} (es fs : List (ℕ × X)) (k : ℕ)
    → ((q : ℕ) → lookup (is_at (nat_cmp q)) fs ≡ cond (is_at (nat_cmp k) q) None (lookup (is_at (nat_cmp q)) es))
    → map.from_entries {R = nat_cmp} fs ≡ map.remove (map.from_entries es) k
gone_row es fs k h = map.same_map nat_cmp_total nat_cmp-IsAntisymmetric _ _ (λ q.
    found_row fs q ∙ h q
    ∙ ap (λ b. cond b None (lookup (is_at (nat_cmp q)) es)) ((eq_by_cmp_equiv nat_cmp_total).symm k q)
    ∙ sym (map.get-remove nat_cmp_total (map.from_entries es) k q
    ∙ ap (cond (is_at (nat_cmp q) k) None) (found_row es q)))

-- For Ledger::ask and Ledger::hear: what is taken out and put back is put.
pub put_back : {X : Type 0} (m : map.FinMap nat_cmp X) (k : ℕ) (v : X)
    → map.insert (map.remove m k) k v ≡ map.insert m k v
put_back m k v = map.same_map nat_cmp_total nat_cmp-IsAntisymmetric _ _ (λ q.
    map.get-insert nat_cmp_total (map.remove m k) k v q
    ∙ ap (cond (is_at (nat_cmp q) k) (Some v)) (map.get-remove nat_cmp_total m k q)
    ∙ twice (is_at (nat_cmp q) k) (Some v) None (map.get m q)
    ∙ sym (map.get-insert nat_cmp_total m k v q))
  where
    twice : {A : Type 0} (b : Bool) (x y z : A) → cond b x (cond b y z) ≡ cond b x z
    twice true x y z = refl
    twice false x y z = refl

-- A key is itself by the order's test.
itself : (k : ℕ) → eq_by_cmp nat_cmp k k ≡ true
itself k = grind (arith, nat_tests)

-- What was put is there.
put_there : {X : Type 0} (m : map.FinMap nat_cmp X) (k : ℕ) (v : X) → map.get (map.insert m k v) k ≡ Some v
put_there m k v = map.get-insert nat_cmp_total m k v k ∙ ap (λ b. cond b (Some v) (map.get m k)) (itself k)

-- For Ledger::ask: a sync that asked waits.
pub asked_waits : (y : ℕ) (call : Call) (id : Option ℕ) (m n : Rows) → RowAsks y call id m n → Waits y id n
asked_waits y call id m n a = record {
  sync = record a.sync { asked = Some call; id = id };
  is = ap (λ (x : Rows). map.get x y) a.after ∙ put_there m y (record a.sync { asked = Some call; id = id });
  call = call;
  asked = refl;
  by = refl;
}

-- For SyncRows::is_free: the names of the values are those of the rows.
module _ (m : BTreeMap ℕ FencedSync) (sorted : tree.IsOrdered nat_cmp m) (n : List ℕ) where
  abbrev IsOther : FencedSync → Type 0
  IsOther f = f.name ≡ n → ⊥

  pub free_there : All IsOther (tree.values m) → IsFree n (map.from_entries m.entries)
  free_there a = record {
    none = λ y f is. subst (λ (o : Option FencedSync). IfSome o IsOther) (sym (found_row m.entries y) ∙ is)
        (IfSome-lookup_from_All IsOther (is_at (nat_cmp y)) m.entries a);
  }

  pub free_back : IsFree n (map.from_entries m.entries) → All IsOther (tree.values m)
  free_back free = All-map IsOther (λ e. e.1) m.entries
      (All-weaker (Contains m.entries) (λ e. IsOther e.1) each m.entries (All-contains_itself m.entries))
    where
      each : (e : ℕ × FencedSync) → Contains m.entries e → IsOther e.1
      each (k, f) there = free.none k f (found_row m.entries k
          ∙ (btree_map_get_iff nat_cmp_total exact_unsigned m sorted k f).1 there)

-- A list of keys as a set.
use Rattle.std.proofs.Common.{◌≡◌, Bool, true, false, cond, ◌&&◌, ◌||◌, List, [], ◌∷◌, map as map_list, Option, Some, None, is_some, refl, sym, ap, ◌∙◌}
use Rattle.std.specs.Ordering.{nat_cmp, eq_by_cmp, is_eq, ordering_then}
use Rattle.std.specs.declared.cmp.Ordering.{Ordering}
use Rattle.std.specs.declared.cmp.Ordering.TheVariants.{Less, Equal, Greater}
use Rattle.std.specs.Cmp.{eq_by_cmp_equiv}
use Rattle.std.specs.Cmp.Lexicographic.{slice_cmp, texts_ties}
use Rattle.std.specs.FinMap as map
use Rattle.std.specs.FinMap.{find}
use Rattle.cj_types.specs.Keys.{Place, place_cmp}
use Rattle.cj_table.proofs.Order.{places_total, places_exact}
use Rattle.cj_table.proofs.Puts.{alike}
use Rattle.cj_queue.specs.Queue.{has}
use Rattle.cj_queue.specs.Parts.{key_eq, keys_of, stands_in}

-- ---- keys

-- Two orders, of which the second is asked where the first ties, tie just where both do.
both_eq : (o r : Ordering) → is_eq (ordering_then o r) ≡ (is_eq o && is_eq r)
both_eq Less r = refl
both_eq Equal r = refl
both_eq Greater r = refl

-- A key's == says that two keys are equal just where they tie in the order of keys.
pub eq_is : (j k : Place) → key_eq j k ≡ eq_by_cmp place_cmp j k
eq_is j k =
    (λ i. texts_ties j.namespace k.namespace i && texts_ties j.name k.name i)
    ∙ sym (both_eq (slice_cmp nat_cmp j.namespace k.namespace) (slice_cmp nat_cmp j.name k.name))

-- Two keys tie in the order of keys whichever of them is named first.
by_turned : (j k : Place) → eq_by_cmp place_cmp j k ≡ eq_by_cmp place_cmp k j
by_turned j k = (eq_by_cmp_equiv places_total).symm j k

-- Of the three orders only Equal is a tie.
tie_true : (o : Ordering) → is_eq o ≡ true → o ≡ Equal
tie_true Less e = absurd (cc e)
tie_true Equal e = refl
tie_true Greater e = absurd (cc e)

-- Two keys that are equal by == are the same key.
pub eq_true : (j k : Place) → key_eq j k ≡ true → j ≡ k
eq_true j k e = places_exact j k (tie_true (place_cmp j k) (sym (eq_is j k) ∙ e))

-- A key is equal to itself by ==.
pub eq_self : (k : Place) → key_eq k k ≡ true
eq_self k = eq_is k k ∙ (eq_by_cmp_equiv places_total).refl k

-- The == of two keys is the same whichever of them is named first.
pub eq_turned : (j k : Place) → key_eq j k ≡ key_eq k j
eq_turned j k = eq_is j k ∙ by_turned j k ∙ sym (eq_is k j)

-- ---- look-ups by `==`

module _ {X : Type 0} where
  -- After an insert at k, a look-up finds the new value at k and else what it found before.
  pub get_put : (m : map.FinMap place_cmp X) (k : Place) (v : X) (q : Place)
      → map.get (map.insert m k v) q ≡ cond (key_eq k q) (Some v) (map.get m q)
  get_put m k v q = map.get-insert places_total m k v q ∙ ap (λ b. cond b (Some v) (map.get m q))
      (by_turned q k ∙ sym (eq_is k q))

  -- After a removal of k, a look-up finds nothing at k and else what it found before.
  pub get_off : (m : map.FinMap place_cmp X) (k q : Place) → map.get (map.remove m k) q
      ≡ cond (key_eq k q) None (map.get m q)
  get_off m k q = map.get-remove places_total m k q ∙ ap (λ b. cond b None (map.get m q))
      (by_turned q k ∙ sym (eq_is k q))

-- ---- sets

-- What a set has at a key: Some where the key is in it, and else None.
abbrev flag : Bool → Option (Unit {0})
flag true = Some tt
flag false = None

-- The flag of one test or another is Some where the first holds, and else that of the second.
flag_or : (a b : Bool) → flag (a || b) ≡ cond a (Some tt) (flag b)
flag_or true b = refl
flag_or false b = refl

-- A flag is Some just where its test holds.
flag_is : (b : Bool) → is_some (flag b) ≡ b
flag_is true = refl
flag_is false = refl

-- The flag of a choice between two tests is the choice between their flags.
flag_cond : (a b c : Bool) → flag (cond a b c) ≡ cond a (flag b) (flag c)
flag_cond true b c = refl
flag_cond false b c = refl

-- For get_keys: what is found at a key among a list's keys says whether the key stands in the list.
found : (ks : List Place) (q : Place) → find place_cmp q (map_list (λ k. (k, tt {0})) ks) ≡ flag (stands_in ks q)
found [] q = refl
found (k ∷ ks) q =
    (λ i. cond (sym (eq_is q k) i) (Some (tt {0})) (found ks q i)) ∙ sym (flag_or (key_eq q k) (stands_in ks q))

-- The set of a list has Some at a key that stands in the list, and None at any other.
get_keys : (ks : List Place) (q : Place) → map.get (keys_of ks) q ≡ flag (stands_in ks q)
get_keys ks q = map.get-from_entries places_total (map_list (λ k. (k, tt)) ks) q ∙ found ks q

-- A key is in the set of a list just where it stands in the list.
pub has_keys : (ks : List Place) (q : Place) → has (keys_of ks) q ≡ stands_in ks q
has_keys ks q = ap is_some (get_keys ks q) ∙ flag_is (stands_in ks q)

-- a test that holds of a key, or fails, does so of each key that is equal to it
pub at_equal : (f : Place → Bool) (k q : Place) (b : Bool) → f k ≡ b → key_eq k q ≡ true → f q ≡ b
at_equal f k q b e t = ap f (sym (eq_true k q t)) ∙ e

-- Two lists in which the same keys stand have the same set.
pub same_keys : (old new : List Place) → ((q : Place) → stands_in new q ≡ stands_in old q) → keys_of new ≡ keys_of old
same_keys old new h = alike _ _ (λ q. get_keys new q ∙ ap flag (h q) ∙ sym (get_keys old q))

-- Where a list has k and else what another has, its set is the other's with k inserted.
pub keys_put : (old new : List Place) (k : Place)
    → ((q : Place) → stands_in new q ≡ cond (key_eq k q) true (stands_in old q))
    → keys_of new ≡ map.insert (keys_of old) k tt
keys_put old new k h = alike _ _ (λ q.
    get_keys new q ∙ ap flag (h q) ∙ flag_cond (key_eq k q) true (stands_in old q)
    ∙ ap (cond (key_eq k q) (Some tt)) (sym (get_keys old q)) ∙ sym (get_put (keys_of old) k tt q))

-- Where a list lacks k and has else what another has, its set is the other's with k removed.
pub keys_removal : (old new : List Place) (k : Place)
    → ((q : Place) → stands_in new q ≡ cond (key_eq k q) false (stands_in old q))
    → keys_of new ≡ map.remove (keys_of old) k
keys_removal old new k h = alike _ _ (λ q.
    get_keys new q ∙ ap flag (h q) ∙ flag_cond (key_eq k q) false (stands_in old q)
    ∙ ap (cond (key_eq k q) None) (sym (get_keys old q)) ∙ sym (get_off (keys_of old) k q))

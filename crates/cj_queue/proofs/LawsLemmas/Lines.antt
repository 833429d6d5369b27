-- Lists of keys, and sets of keys with one more or one less.
use Rattle.std.proofs.Common.{◌≡◌, ◌≢◌, ◌⊎◌, inl, inr, Bool, true, false, List, [], ◌∷◌, ◌++◌, is_some, refl, sym, ap, ◌∙◌}
use Rattle.std.specs.FinMap as map
use Rattle.cj_types.specs.Keys.{Place}
use Rattle.cj_table.proofs.Apart.{places_apart}
use Rattle.cj_queue.specs.Parts.{key_eq}
use Rattle.cj_queue.specs.Queue.{Keys, has}
use Rattle.cj_queue.proofs.Sets.{eq_true, eq_self}
use Rattle.cj_queue.specs.laws.Rows.{IsIn, AreOnce}

-- A test that is both true and false: from this, anything follows.
pub clash : {A : Type 0} (b : Bool) → b ≡ true → b ≡ false → A
clash true p q = absurd (cc q)
clash false p q = absurd (cc p)

-- Two keys are the same, or they are not.
pub same_or_other : (q k : Place) → (q ≡ k) ⊎ (q ≢ k)
same_or_other q k = by (key_eq q k) refl
  where
    by : (b : Bool) → key_eq q k ≡ b → (q ≡ k) ⊎ (q ≢ k)
    by true e = inl (eq_true q k e)
    by false e = inr (λ h. clash (key_eq q k) (ap (key_eq q) (sym h) ∙ eq_self q) e)

-- ---- lists

-- A key of a list with k put last is one of the list, or k.
pub in_pushed : (q k : Place) (ks : List Place) → IsIn q (ks ++ k ∷ []) → IsIn q ks ⊎ (k ≡ q)
in_pushed q k [] (inl e) = inr e
in_pushed q k [] (inr h) = absurd h
in_pushed q k (x ∷ ks) (inl e) = inl (inl e)
in_pushed q k (x ∷ ks) (inr h) = by (in_pushed q k ks h)
  where
    by : IsIn q ks ⊎ (k ≡ q) → IsIn q (x ∷ ks) ⊎ (k ≡ q)
    by (inl i) = inl (inr i)
    by (inr e) = inr e

-- A key of a list still stands in it with k put last.
pub in_before : (q k : Place) (ks : List Place) → IsIn q ks → IsIn q (ks ++ k ∷ [])
in_before q k [] h = absurd h
in_before q k (x ∷ ks) (inl e) = inl e
in_before q k (x ∷ ks) (inr h) = inr (in_before q k ks h)

-- The key k stands in a list with k put last.
pub in_last : (q k : Place) (ks : List Place) → k ≡ q → IsIn q (ks ++ k ∷ [])
in_last q k [] e = inl e
in_last q k (x ∷ ks) e = inr (in_last q k ks e)

-- Where no key stands twice and k isn't in the list, no key stands twice with k put last.
pub once_pushed : (k : Place) (ks : List Place) → AreOnce ks → (IsIn k ks → ⊥) → AreOnce (ks ++ k ∷ [])
once_pushed k [] once n = (λ h. h, tt)
once_pushed k (x ∷ ks) once n = (λ h. by (in_pushed x k ks h), once_pushed k ks once.1 (λ i. n (inr i)))
  where
    by : IsIn x ks ⊎ (k ≡ x) → ⊥
    by (inl i) = once.0 i
    by (inr e) = n (inl (sym e))

-- ---- sets

-- A key that is inserted into a set is in it.
pub has_new : (m : Keys) (k : Place) → has (map.insert m k tt) k ≡ true
has_new m k = ap is_some ((places_apart (Unit {0})).put_here m k tt)

-- An insert of k into a set changes nothing at any other key.
pub has_apart : (m : Keys) (k q : Place) → q ≢ k → has (map.insert m k tt) q ≡ has m q
has_apart m k q n = ap is_some ((places_apart (Unit {0})).put_other m k q tt n)

-- A key that is removed from a set isn't in it.
pub has_gone : (m : Keys) (k : Place) → has (map.remove m k) k ≡ false
has_gone m k = ap is_some ((places_apart (Unit {0})).removal_here m k)

-- A removal of k from a set changes nothing at any other key.
pub has_other : (m : Keys) (k q : Place) → q ≢ k → has (map.remove m k) q ≡ has m q
has_other m k q n = ap is_some ((places_apart (Unit {0})).removal_other m k q n)

-- A key that is in a set still is after an insert.
pub has_still : (m : Keys) (k q : Place) → has m q ≡ true → has (map.insert m k tt) q ≡ true
has_still m k q h = by (same_or_other q k)
  where
    by : (q ≡ k) ⊎ (q ≢ k) → has (map.insert m k tt) q ≡ true
    by (inl e) = ap (has (map.insert m k tt)) e ∙ has_new m k
    by (inr n) = has_apart m k q n ∙ h

-- A key that isn't in a set still isn't after a removal.
pub has_no_more : (m : Keys) (k q : Place) → has m q ≡ false → has (map.remove m k) q ≡ false
has_no_more m k q h = by (same_or_other q k)
  where
    by : (q ≡ k) ⊎ (q ≢ k) → has (map.remove m k) q ≡ false
    by (inl e) = ap (has (map.remove m k)) e ∙ has_gone m k
    by (inr n) = has_other m k q n ∙ h

-- A fact about each key and value of a map, after an insert and after a removal.
use Rattle.std.proofs.Common.{◌≡◌, inl, inr, Some, None, sym, ◌∙◌, subst}
use Rattle.std.specs.FinMap as map
use Rattle.cj_types.specs.Keys.{Place, place_cmp}
use Rattle.cj_table.proofs.Puts.{at_put, at_removal}

module _ {X : Type 0} (P : Place → X → Type 0) where
  abbrev pub Holds : map.FinMap place_cmp X → Type 0
  Holds m = (k : Place) (x : X) → map.get m k ≡ Some x → P k x

  -- For put_holds: what stands at any key after the insert meets the fact there.
  put_at : (m : map.FinMap place_cmp X) (k : Place) (v : X) (q : Place) (x : X) → P k v → Holds m
      → map.get (map.insert m k v) q ≡ Some x → P q x
  put_at m k v q x new old is = elim (at_put m k v q).1 as (λ _. P q x) [
    | inl h ↦ let e : v ≡ x = cc (h.1, is) in subst (λ z. P z x) (sym h.0) (subst (P k) e new)
    | inr h ↦ old q x (sym h ∙ is)
  ]

  -- With a value put in that meets the fact at its key, all of a map meet it if they did before.
  pub put_holds : (m n : map.FinMap place_cmp X) (k : Place) (v : X) → n ≡ map.insert m k v → P k v → Holds m → Holds n
  put_holds m n k v e new old = subst Holds (sym e) (λ q x is. put_at m k v q x new old is)

  -- For removal_holds: what stands at any key after the removal meets the fact there.
  removal_at : (m : map.FinMap place_cmp X) (k q : Place) (x : X) → Holds m → map.get (map.remove m k) q ≡ Some x
      → P q x
  removal_at m k q x old is = elim (at_removal m k q).1 as (λ _. P q x) [
    | inl h ↦ absurd (let none : map.get (map.remove m k) q ≡ None = h.1 in cc)
    | inr h ↦ old q x (sym h ∙ is)
  ]

  -- With a key removed, all of a map meet the fact if they did before.
  pub removal_holds : (m n : map.FinMap place_cmp X) (k : Place) → n ≡ map.remove m k → Holds m → Holds n
  removal_holds m n k e old = subst Holds (sym e) (λ q x is. removal_at m k q x old is)

  -- All of an empty map meet the fact, as there are none.
  pub empty_holds : (m : map.FinMap place_cmp X) → m ≡ map.empty → Holds m
  empty_holds m e k x is = absurd (let none : map.get m k ≡ None
      = subst (λ (t : map.FinMap place_cmp X). map.get t k ≡ None) (sym e) (map.get-empty place_cmp k) in cc)

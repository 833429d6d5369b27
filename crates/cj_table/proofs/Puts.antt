-- What stands at a key after an insert and after a removal.
use Rattle.std.proofs.Common.{◌≡◌, ◌⊎◌, inl, inr, Bool, true, false, cond, Option, Some, None, refl, sym, ap, ◌∙◌}
use Rattle.std.specs.Ordering.{eq_by_cmp, is_eq}
use Rattle.std.specs.declared.cmp.Ordering.{Ordering}
use Rattle.std.specs.declared.cmp.Ordering.TheVariants.{Less, Equal, Greater}
use Rattle.std.specs.Cmp.{eq_by_cmp_equiv}
use Rattle.std.specs.FinMap as map
use Rattle.cj_types.specs.Keys.{Place, place_cmp}
use Rattle.cj_table.proofs.Order.{places_total, places_exact}

-- Of the three orders only Equal is a tie.
tie_true : (o : Ordering) → is_eq o ≡ true → o ≡ Equal
tie_true Less e = absurd (cc e)
tie_true Equal e = refl
tie_true Greater e = absurd (cc e)

-- Two keys that tie in their order are the same.
pub one_key : (q k : Place) → eq_by_cmp place_cmp q k ≡ true → q ≡ k
one_key q k e = places_exact q k (tie_true (place_cmp q k) e)

module _ {X : Type 0} where
  -- For put_split: what is chosen at q is the new value, where q is k, or what stood there.
  put_either : (t : Bool) (q k : Place) (v : X) (old : Option X) → (t ≡ true → q ≡ k)
      → ((q ≡ k) × (cond t (Some v) old ≡ Some v)) ⊎ (cond t (Some v) old ≡ old)
  put_either true q k v old h = inl (h refl, refl)
  put_either false q k v old h = inr refl

  -- For removal_split: what is chosen at q is nothing, where q is k, or what stood there.
  removal_either : (t : Bool) (q k : Place) (old : Option X) → (t ≡ true → q ≡ k)
      → ((q ≡ k) × (cond t None old ≡ None)) ⊎ (cond t None old ≡ old)
  removal_either true q k old h = inl (h refl, refl)
  removal_either false q k old h = inr refl

  -- After an insert at k, q is k and has the new value, or q has what it had before.
  pub put_split : (m : map.FinMap place_cmp X) (k : Place) (v : X) (q : Place)
      → ((q ≡ k) × (map.get (map.insert m k v) q ≡ Some v)) ⊎ (map.get (map.insert m k v) q ≡ map.get m q)
  put_split m k v q = rw (map.get-insert places_total m k v q)
      (put_either (eq_by_cmp place_cmp q k) q k v (map.get m q) (one_key q k))

  -- After a removal of k, q is k and has nothing, or q has what it had before.
  pub removal_split : (m : map.FinMap place_cmp X) (k q : Place) → ((q ≡ k) × (map.get (map.remove m k) q ≡ None))
      ⊎ (map.get (map.remove m k) q ≡ map.get m q)
  removal_split m k q = rw (map.get-remove places_total m k q)
      (removal_either (eq_by_cmp place_cmp q k) q k (map.get m q) (one_key q k))

  -- the same two, in a form that `grind` matches: its first half shows the look-up
  pub at_put : (m : map.FinMap place_cmp X) (k : Place) (v : X) (q : Place)
      → (map.get (map.insert m k v) q ≡ map.get (map.insert m k v) q)
      × (((q ≡ k) × (map.get (map.insert m k v) q ≡ Some v)) ⊎ (map.get (map.insert m k v) q ≡ map.get m q))
  at_put m k v q = (refl, put_split m k v q)

  -- The second of the two: what removal_split says, behind the look-up itself.
  pub at_removal : (m : map.FinMap place_cmp X) (k q : Place)
      → (map.get (map.remove m k) q ≡ map.get (map.remove m k) q)
      × (((q ≡ k) × (map.get (map.remove m k) q ≡ None)) ⊎ (map.get (map.remove m k) q ≡ map.get m q))
  at_removal m k q = (refl, removal_split m k q)

  -- After an insert, the key has the new value.
  pub put_there : (m : map.FinMap place_cmp X) (k : Place) (v : X) → map.get (map.insert m k v) k ≡ Some v
  put_there m k v = map.get-insert places_total m k v k ∙ ap (λ t. cond t (Some v) (map.get m k))
      ((eq_by_cmp_equiv places_total).refl k)

  -- After a removal, the key has nothing.
  pub removal_there : (m : map.FinMap place_cmp X) (k : Place) → map.get (map.remove m k) k ≡ None
  removal_there m k = map.get-remove places_total m k k ∙ ap (λ t. cond t None (map.get m k))
      ((eq_by_cmp_equiv places_total).refl k)

  -- For remove-insert: where a key had nothing, a put and a removal leave what was there.
  chosen : (t : Bool) (v : X) (old : Option X) → (t ≡ true → old ≡ None) → old ≡ cond t None (cond t (Some v) old)
  chosen true v old h = h refl
  chosen false v old h = refl

  -- maps with the same look-ups are one
  pub alike : (m n : map.FinMap place_cmp X) → ((q : Place) → map.get m q ≡ map.get n q) → m ≡ n
  alike m n h = map.same_map places_total places_exact m n h

  -- Where a key has nothing, an insert at it is undone by its removal.
  pub remove-insert : (m : map.FinMap place_cmp X) (k : Place) (v : X) → map.get m k ≡ None
      → map.remove (map.insert m k v) k ≡ m
  remove-insert m k v none = alike _ _ (λ q.
      map.get-remove places_total (map.insert m k v) k q
      ∙ ap (cond (eq_by_cmp place_cmp q k) None) (map.get-insert places_total m k v q)
      ∙ sym (chosen (eq_by_cmp place_cmp q k) v (map.get m q) (λ t. ap (map.get m) (one_key q k t) ∙ none)))

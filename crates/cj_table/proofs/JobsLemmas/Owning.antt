-- What a write to the index changes under each owner.
use Rattle.std.proofs.Common.{◌≡◌, ℕ, Bool, true, false, ◌&&◌, cond, Option, Some, None, refl, sym, ap, ◌∙◌}
use Rattle.std.specs.declared.cmp.Ordering.{Ordering}
use Rattle.std.specs.declared.cmp.Ordering.TheVariants.{Less, Equal, Greater}
use Rattle.std.specs.Ordering.{is_eq}
use Rattle.std.specs.Cmp.{eq_by_cmp_equiv}
use Rattle.std.specs.BTreeMap.{is_at}
use Rattle.std.specs.FinMap as map
use Rattle.cj_types.specs.Keys.{Place, place_cmp}
use Rattle.cj_table.proofs.Order.{places_total, places_exact}
use Rattle.cj_table.proofs.Puts.{alike}
use Rattle.cj_table.specs.jobs.Slots.{Table}
use Rattle.cj_table.specs.jobs.Index.{Index, or_none, own_slots, Sets}

-- An order that ties is Equal.
tie : (o : Ordering) → is_eq o ≡ true → o ≡ Equal
tie Less e = absurd (cc e)
tie Equal e = refl
tie Greater e = absurd (cc e)

-- Keys that tie are one.
pub one : (k q : Place) → is_at (place_cmp k) q ≡ true → k ≡ q
one k q t = places_exact k q (tie (place_cmp k q) t)

module _ {X : Type 0} where
  -- After a value is put at a key it stands there, and at each other key what stood there before.
  pub get_put : (m : map.FinMap place_cmp X) (k : Place) (v : X) (q : Place) → map.get (map.insert m k v) q
      ≡ cond (is_at (place_cmp k) q) (Some v) (map.get m q)
  get_put m k v q = map.get-insert places_total m k v q ∙ ap (λ b. cond b (Some v) (map.get m q))
      ((eq_by_cmp_equiv places_total).symm q k)

  -- After a key is taken out nothing stands at it, and at each other key what stood there before.
  pub get_removal : (m : map.FinMap place_cmp X) (k q : Place) → map.get (map.remove m k) q
      ≡ cond (is_at (place_cmp k) q) None (map.get m q)
  get_removal m k q = map.get-remove places_total m k q ∙ ap (λ b. cond b None (map.get m q))
      ((eq_by_cmp_equiv places_total).symm q k)

  -- For put_again: what stands there already is chosen in any case.
  either : (b : Bool) (v : X) (old : Option X) → (b ≡ true → old ≡ Some v) → cond b (Some v) old ≡ old
  either true v old h = sym (h refl)
  either false v old h = refl

  -- Where the value stands at the key already, a put changes nothing.
  pub put_again : (m : map.FinMap place_cmp X) (k : Place) (v : X) → map.get m k ≡ Some v → map.insert m k v ≡ m
  put_again m k v e = alike _ _ (λ q. get_put m k v q
      ∙ either (is_at (place_cmp k) q) v (map.get m q) (λ t. ap (map.get m) (sym (one k q t)) ∙ e))

-- For own_put: what is put is the owner's, and the others keep theirs.
put_or : (b : Bool) (w : Table) (old : Option Table) → or_none (cond b (Some w) old) ≡ cond b w (or_none old)
put_or true w old = refl
put_or false w old = refl

-- For own_removal: nothing is the owner's, and the others keep theirs.
removal_or : (b : Bool) (old : Option Table) → or_none (cond b None old) ≡ cond b map.empty (or_none old)
removal_or true old = refl
removal_or false old = refl

-- After w is put at an owner, w is what it has, and each other has what it had.
pub own_put : (s : Index) (owner : Place) (w : Table) (o : Place) → own_slots (map.insert s owner w) o
    ≡ cond (is_at (place_cmp owner) o) w (own_slots s o)
own_put s owner w o = ap or_none (get_put s owner w o) ∙ put_or (is_at (place_cmp owner) o) w (map.get s o)

-- After an owner is taken out it has nothing, and each other has what it had.
pub own_removal : (s : Index) (owner o : Place) → own_slots (map.remove s owner) o
    ≡ cond (is_at (place_cmp owner) o) map.empty (own_slots s o)
own_removal s owner o = ap or_none (get_removal s owner o) ∙ removal_or (is_at (place_cmp owner) o) (map.get s o)

-- For sets_put: at one owner.
put_step : (b : Bool) (was old : Table) (key k : Place) (slot : ℕ) → (b ≡ true → was ≡ old)
    → map.get (cond b (map.insert was key slot) old) k
    ≡ cond (b && is_at (place_cmp key) k) (Some slot) (map.get old k)
put_step true was old key k slot h = get_put was key slot k
    ∙ ap (λ (m : Table). cond (is_at (place_cmp key) k) (Some slot) (map.get m k)) (h refl)
put_step false was old key k slot h = refl

-- For sets_taken: at one owner.
taken_step : (b : Bool) (was old : Table) (key k : Place) → (b ≡ true → was ≡ old)
    → map.get (cond b (map.remove was key) old) k ≡ cond (b && is_at (place_cmp key) k) None (map.get old k)
taken_step true was old key k h = get_removal was key k
    ∙ ap (λ (m : Table). cond (is_at (place_cmp key) k) None (map.get m k)) (h refl)
taken_step false was old key k h = refl

-- For sets_absent: at one owner.
absent_step : (b c : Bool) (old : Table) (k : Place) → (b ≡ true → old ≡ map.empty)
    → map.get old k ≡ cond (b && c) None (map.get old k)
absent_step true true old k h = ap (λ (m : Table). map.get m k) (h refl) ∙ map.get-empty place_cmp k
absent_step true false old k h = refl
absent_step false c old k h = refl

-- For ByOwner::put: the owner's slots with one more, or with another in place of one, put at the owner.
pub sets_put : (s t : Index) (owner key : Place) (w : Table) (slot : ℕ) → t ≡ map.insert s owner w
    → w ≡ map.insert (own_slots s owner) key slot → Sets (Some slot) s t (Some owner) key
sets_put s t owner key w slot e f = λ o k.
    ap (λ (x : Index). map.get (own_slots x o) k) e
    ∙ ap (λ (m : Table). map.get m k) (own_put s owner w o)
    ∙ ap (λ (m : Table). map.get (cond (is_at (place_cmp owner) o) m (own_slots s o)) k) f
    ∙ put_step (is_at (place_cmp owner) o) (own_slots s owner) (own_slots s o) key k slot
    (λ t. ap (own_slots s) (one owner o t))

-- For taken_kept and taken_last: each owner but this one has what it had, and this one not the key.
sets_taken : (s t : Index) (owner key : Place) (w : Table) → w ≡ map.remove (own_slots s owner) key
    → ((o : Place) → own_slots t o ≡ cond (is_at (place_cmp owner) o) w (own_slots s o))
    → Sets None s t (Some owner) key
sets_taken s t owner key w f h = λ o k.
    ap (λ (m : Table). map.get m k) (h o)
    ∙ ap (λ (m : Table). map.get (cond (is_at (place_cmp owner) o) m (own_slots s o)) k) f
    ∙ taken_step (is_at (place_cmp owner) o) (own_slots s owner) (own_slots s o) key k
    (λ t. ap (own_slots s) (one owner o t))

-- For ByOwner::take: the owner's slots without one, put at the owner.
pub taken_kept : (s t : Index) (owner key : Place) (w : Table) → w ≡ map.remove (own_slots s owner) key
    → t ≡ map.insert s owner w → Sets None s t (Some owner) key
taken_kept s t owner key w f e = sets_taken s t owner key w f
    (λ o. ap (λ (x : Index). own_slots x o) e ∙ own_put s owner w o)

-- For taken_last: nothing is chosen for the owner once more.
twice : (b : Bool) (w old : Table) → w ≡ map.empty → cond b map.empty (cond b w old) ≡ cond b w old
twice true w old e = sym e
twice false w old e = refl

-- For ByOwner::take: the owner taken out, where without the key it has no slot.
pub taken_last : (s t u : Index) (owner key : Place) (w : Table) → w ≡ map.remove (own_slots s owner) key
    → t ≡ map.insert s owner w → w ≡ map.empty → u ≡ map.remove t owner → Sets None s u (Some owner) key
taken_last s t u owner key w f e none g = sets_taken s u owner key w f (λ o.
    ap (λ (x : Index). own_slots x o) g
    ∙ own_removal t owner o
    ∙ ap (λ (x : Index). cond (is_at (place_cmp owner) o) map.empty (own_slots x o)) e
    ∙ ap (cond (is_at (place_cmp owner) o) map.empty) (own_put s owner w o)
    ∙ twice (is_at (place_cmp owner) o) w (own_slots s o) none)

-- For ByOwner::take: an owner that has no slots.
pub sets_absent : (s t : Index) (owner key : Place) → map.get s owner ≡ None → t ≡ s → Sets None s t (Some owner) key
sets_absent s t owner key none e = λ o k.
    ap (λ (x : Index). map.get (own_slots x o) k) e
    ∙ absent_step (is_at (place_cmp owner) o) (is_at (place_cmp key) k) (own_slots s o) k
    (λ t. ap (own_slots s) (sym (one owner o t)) ∙ ap or_none none)

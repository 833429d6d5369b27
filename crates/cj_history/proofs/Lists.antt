-- Two listings of the same objects are one list.
use Rattle.std.proofs.Common.{◌≡◌, Bool, true, false, cond, List, [], ◌∷◌, Option, Some, None, refl, sym, ap, subst, ◌∙◌}
use Rattle.std.specs.Prelude.{if◌then◌else◌}
use Rattle.std.specs.List.{AllByRecursion}
use Rattle.std.specs.Ordering.{is_eq}
use Rattle.std.specs.declared.cmp.Ordering.{Ordering}
use Rattle.std.specs.declared.cmp.Ordering.TheVariants.{Less, Equal, Greater}
use Rattle.cj_types.specs.Keys.{Place, place_cmp}
use Rattle.cj_table.proofs.Order.{places_total}
use Rattle.cj_queue.specs.Parts.{key_eq}
use Rattle.cj_queue.proofs.Sets.{eq_is, eq_true, eq_self}
use Rattle.cj_history.specs.store.Lists.{found, Rises, IsListing}

-- An order that is Less is no tie.
never_less : (o : Ordering) → o ≡ Less → is_eq o ≡ true → ⊥
never_less Less e h = absurd (cc h)
never_less Equal e h = absurd (cc e)
never_less Greater e h = absurd (cc e)

-- No key is less than itself.
not_below_itself : (k : Place) → place_cmp k k ≡ Less → ⊥
not_below_itself k e = never_less (place_cmp k k) e (sym (eq_is k k) ∙ eq_self k)

-- Of two keys it can't be that each is less than the other.
pub not_both : (j k : Place) → place_cmp j k ≡ Less → place_cmp k j ≡ Less → ⊥
not_both j k e f = not_below_itself j (places_total.trans j k j e f)

-- key gives the key of an object.
module _ {X : Type 0} (key : X → Place) where
  -- each object of the list has a greater key than this one
  abbrev Above : Place → List X → Type 0
  Above q xs = AllByRecursion (λ y. place_cmp q (key y) ≡ Less) xs

  -- If the first object is above q and what the rest finds is so, what the list finds is above q.
  below_case : (q : Place) (y : X) (ys : List X) (k : Place) (x : X) (b : Bool) → key_eq (key y) k ≡ b
      → place_cmp q (key y) ≡ Less → (found key ys k ≡ Some x → place_cmp q k ≡ Less)
      → (if b then Some y else found key ys k) ≡ Some x → place_cmp q k ≡ Less
  below_case q y ys k x true t f rest e = ap (place_cmp q) (sym (eq_true (key y) k t)) ∙ f
  below_case q y ys k x false t f rest e = rest e

  -- what is found above a key has a greater one
  found_above : (q : Place) (xs : List X) (k : Place) (x : X) → Above q xs → found key xs k ≡ Some x
      → place_cmp q k ≡ Less
  found_above q [] k x a e = absurd (cc e)
  found_above q (y ∷ ys) k x a e = below_case q y ys k x (key_eq (key y) k) refl a.0 (found_above q ys k x a.1) e

  -- A key that is below all objects of a list finds none of them.
  none_above : (q : Place) (xs : List X) → Above q xs → found key xs q ≡ None
  none_above q xs a = by (found key xs q) refl
    where
      by : (o : Option X) → found key xs q ≡ o → o ≡ None
      by None e = refl
      by (Some x) e = absurd (not_below_itself q (found_above q xs q x a e))

  -- The key of the first object of a list finds that object.
  found_first : (x : X) (xs : List X) → found key (x ∷ xs) (key x) ≡ Some x
  found_first x xs = ap (λ b. cond b (Some x) (found key xs (key x))) (eq_self (key x))

  -- the one is first in its list, and stands in the other: as its first, or behind it
  data Stands (x y : X) : Type 0 where
    first : y ≡ x → Stands x y
    behind : place_cmp (key y) (key x) ≡ Less → Stands x y

  -- An object that a list finds by its key is the first of the list, or has a greater key.
  stands : (x y : X) (ys : List X) (b : Bool) → key_eq (key y) (key x) ≡ b → Above (key y) ys
      → (if b then Some y else found key ys (key x)) ≡ Some x → Stands x y
  stands x y ys true t a e = first (cc e)
  stands x y ys false t a e = behind (found_above (key y) ys (key x) x a e)

  -- Two objects that each are first in a list and stand in the other's are the same.
  heads : (x y : X) → Stands x y → Stands y x → x ≡ y
  heads x y (first e) s = sym e
  heads x y (behind f) (first e) = e
  heads x y (behind f) (behind g) = absurd (not_both (key x) (key y) g f)

  -- Two lists that find the same at a key with x in front of both do so without it.
  tail_case : (x : X) (xs ys : List X) (k : Place) (b : Bool) → key_eq (key x) k ≡ b → Above (key x) xs
      → Above (key x) ys
      → (if b then Some x else found key xs k) ≡ (if b then Some x else found key ys k)
      → found key xs k ≡ found key ys k
  tail_case x xs ys k true t a b e = (let same = eq_true (key x) k t in ap (found key xs) (sym same)
      ∙ none_above (key x) xs a ∙ sym (ap (found key ys) (sym same) ∙ none_above (key x) ys b))
  tail_case x xs ys k false t a b e = e

  -- Two lists in the order of keys that find the same at each key are one list.
  pub one_list : (xs ys : List X) → Rises key xs → Rises key ys → ((k : Place) → found key xs k ≡ found key ys k)
      → xs ≡ ys
  one_list [] [] r s same = refl
  one_list [] (y ∷ ys) r s same = absurd (cc (same (key y), found_first y ys))
  one_list (x ∷ xs) [] r s same = absurd (cc (same (key x), found_first x xs))
  one_list (x ∷ xs) (y ∷ ys) r s same =
      let e : x ≡ y =
      heads x y
      (stands x y ys (key_eq (key y) (key x)) refl s.0 (sym (same (key x)) ∙ found_first x xs))
      (stands y x xs (key_eq (key x) (key y)) refl r.0 (same (key y) ∙ found_first y ys)) in
      let above : Above (key x) ys = subst (λ (z : X). Above (key z) ys) (sym e) s.0 in
      let tails : xs ≡ ys =
      one_list xs ys r.1 s.1
      (λ k. tail_case x xs ys k (key_eq (key x) k) refl r.0 above (same k
      ∙ ap (λ (z : X). if key_eq (key z) k then Some z else found key ys k) (sym e))) in
      ap (λ (z : X). z ∷ xs) e ∙ ap (λ (zs : List X). y ∷ zs) tails

  -- Two listings of the objects that stand at the keys are one list.
  pub one_listing : (now : Place → Option X) (xs ys : List X) → IsListing key now xs → IsListing key now ys → xs ≡ ys
  one_listing now xs ys a b = one_list xs ys a.order b.order (λ k. a.objects k ∙ sym (b.objects k))

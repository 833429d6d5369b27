-- The values of a map by key are a listing of what stands there, and so are those that pass a test.
use Rattle.std.proofs.Common.{◌≡◌, Bool, true, false, cond, ◌&&◌, List, [], ◌∷◌, map as map_list, Option, Some, None, refl, sym, ap, subst, ◌∙◌}
use Rattle.std.specs.Prelude.{T, if◌then◌else◌}
use Rattle.std.specs.List.{AllByRecursion, filter}
use Rattle.std.specs.FinMap as map
use Rattle.std.specs.FinMap.{find, is_sorted}
use Rattle.std.specs.FinMap.Entries.{below_all}
use Rattle.std.specs.Ordering.{eq_by_cmp, is_eq, is_lt}
use Rattle.std.specs.Cmp.{eq_by_cmp_equiv}
use Rattle.std.specs.declared.cmp.Ordering.{Ordering}
use Rattle.std.specs.declared.cmp.Ordering.TheVariants.{Less, Equal, Greater}
use Rattle.cj_types.specs.Keys.{Place, place_cmp}
use Rattle.cj_table.proofs.Order.{places_total}
use Rattle.cj_table.proofs.Puts.{one_key}
use Rattle.cj_queue.specs.Parts.{key_eq}
use Rattle.cj_queue.proofs.Sets.{eq_is, eq_turned}
use Rattle.cj_history.specs.store.Lists.{found, Rises, IsListing, passing}

-- Where two hold together, the first holds.
first : (a b : Bool) → T (a && b) → T a
first true b p = tt
first false b p = p

-- Where two hold together, the second holds.
second : (a b : Bool) → T (a && b) → T b
second true b p = p
second false b p = absurd p

-- An order that is tested to be less is Less.
is_less : (o : Ordering) → T (is_lt o) → o ≡ Less
is_less Less t = refl
is_less Equal t = absurd t
is_less Greater t = absurd t

-- key gives the key of an object, and p is a test of objects.
module _ {X : Type 0} (key : X → Place) (p : X → Bool) where
  -- A key that is below those of all entries is found in none of them.
  below_none : (q : Place) (es : List (Place × X)) → T (below_all place_cmp q es) → find place_cmp q es ≡ None
  below_none q [] h = refl
  below_none q (e ∷ es) h =
      ap (λ o. cond (is_eq o) (Some e.1) (find place_cmp q es)) (is_less (place_cmp q e.0) (first _ _ h))
      ∙ below_none q es (second _ _ h)

  -- the object of each entry has the key of the entry
  abbrev AreKeyed : List (Place × X) → Type 0
  AreKeyed [] = Unit {0}
  AreKeyed (e ∷ es) = (key e.1 ≡ e.0) × AreKeyed es

  -- A look-up that gives an object can't give nothing too.
  clash : {A : Type 0} (x : X) (o : Option X) → o ≡ Some x → o ≡ None → A
  clash x o a b = absurd (cc (sym a ∙ b))

  -- A key that is found among entries isn't that of an entry whose key isn't found there.
  other : (e : Place × X) (es : List (Place × X)) (q : Place) (x : X) (b : Bool) → eq_by_cmp place_cmp q e.0 ≡ b
      → find place_cmp e.0 es ≡ None → find place_cmp q es ≡ Some x → b ≡ false
  other e es q x true t none h = clash x (find place_cmp q es) h
      (ap (λ (k : Place). find place_cmp k es) (one_key q e.0 t) ∙ none)
  other e es q x false t none h = refl

  -- Where each object that is found has the key it is found at, sorted entries are keyed.
  rows_keyed : (es : List (Place × X)) → T (is_sorted place_cmp es)
      → ((q : Place) (x : X) → find place_cmp q es ≡ Some x → key x ≡ q) → AreKeyed es
  rows_keyed [] s h = tt
  rows_keyed (e ∷ es) s h = (
    h e.0 e.1 (ap (λ b. cond b (Some e.1) (find place_cmp e.0 es)) ((eq_by_cmp_equiv places_total).refl e.0)),
    rows_keyed es (second _ _ s) (λ q x f. h q x
        (ap (λ b. cond b (Some e.1) (find place_cmp q es))
        (other e es q x (eq_by_cmp place_cmp q e.0) refl (below_none e.0 es (first _ _ s)) f) ∙ f)),
  )

  -- What holds of each object that is found holds of the object of each sorted entry.
  rows_all : (P : X → Type 0) (es : List (Place × X)) → T (is_sorted place_cmp es)
      → ((q : Place) (x : X) → find place_cmp q es ≡ Some x → P x) → AllByRecursion P (map_list (λ e. e.1) es)
  rows_all P [] s h = tt
  rows_all P (e ∷ es) s h = (
    h e.0 e.1 (ap (λ b. cond b (Some e.1) (find place_cmp e.0 es)) ((eq_by_cmp_equiv places_total).refl e.0)),
    rows_all P es (second _ _ s) (λ q x f. h q x
        (ap (λ b. cond b (Some e.1) (find place_cmp q es))
        (other e es q x (eq_by_cmp place_cmp q e.0) refl (below_none e.0 es (first _ _ s)) f) ∙ f)),
  )

  -- What holds of what stands at each key of a map holds of each of its values.
  pub values_all : (P : X → Type 0) (m : map.FinMap place_cmp X)
      → ((q : Place) (x : X) → map.get m q ≡ Some x → P x) → AllByRecursion P (map.values m)
  values_all P m h = rows_all P (map.entries m) (map.entries_sorted m) (λ q x f. h q x (map.get-entries m q ∙ f))

  -- the objects of the entries that pass the test
  abbrev Passed : List (Place × X) → List X
  Passed es = filter p (map_list (λ e. e.1) es)

  -- ---- the order

  -- A key below some objects is below them with one more that it is below, kept or not.
  below_case : (q : Place) (e : Place × X) (xs : List X) (b : Bool) → place_cmp q (key e.1) ≡ Less
      → AllByRecursion (λ y. place_cmp q (key y) ≡ Less) xs
      → AllByRecursion (λ y. place_cmp q (key y) ≡ Less) (if b then e.1 ∷ xs else xs)
  below_case q e xs true f rest = (f, rest)
  below_case q e xs false f rest = rest

  -- A key below those of all entries is below their objects that pass the test.
  all_below : (q : Place) (es : List (Place × X)) → T (below_all place_cmp q es) → AreKeyed es
      → AllByRecursion (λ y. place_cmp q (key y) ≡ Less) (Passed es)
  all_below q [] h a = tt
  all_below q (e ∷ es) h a = below_case q e (Passed es) (p e.1) (ap (place_cmp q) a.0
      ∙ is_less (place_cmp q e.0) (first _ _ h)) (all_below q es (second _ _ h) a.1)

  -- Objects in order stay so with one in front that is below them, kept or not.
  order_case : (e : Place × X) (xs : List X) (b : Bool) → AllByRecursion (λ y. place_cmp (key e.1) (key y) ≡ Less) xs
      → Rises key xs
      → Rises key (if b then e.1 ∷ xs else xs)
  order_case e xs true f rest = (f, rest)
  order_case e xs false f rest = rest

  -- The objects of sorted entries that pass the test are in the order of their keys.
  in_order : (es : List (Place × X)) → T (is_sorted place_cmp es) → AreKeyed es → Rises key (Passed es)
  in_order [] s a = tt
  in_order (e ∷ es) s a =
      order_case e (Passed es) (p e.1)
      (subst (λ (q : Place). AllByRecursion (λ y. place_cmp q (key y) ≡ Less) (Passed es)) (sym a.0)
      (all_below e.0 es (first _ _ s) a.1))
      (in_order es (second _ _ s) a.1)

  -- ---- the objects

  -- If the objects that pass are found as the entries are, so they are with one entry more.
  found_case : (e : Place × X) (es : List (Place × X)) (k : Place) (b c : Bool) → p e.1 ≡ b → key_eq (key e.1) k ≡ c
      → (c ≡ true → find place_cmp k es ≡ None) → found key (Passed es) k ≡ passing p (find place_cmp k es)
      → found key (if b then e.1 ∷ Passed es else Passed es) k ≡ passing p (cond c (Some e.1) (find place_cmp k es))
  found_case e es k true true f g none rest = ap (λ t. cond t (Some e.1) (found key (Passed es) k)) g
      ∙ sym (ap (λ t. cond t (Some e.1) None) f)
  found_case e es k true false f g none rest = ap (λ t. cond t (Some e.1) (found key (Passed es) k)) g ∙ rest
  found_case e es k false true f g none rest = rest ∙ ap (passing p) (none refl)
      ∙ sym (ap (λ t. cond t (Some e.1) None) f)
  found_case e es k false false f g none rest = rest

  -- The object of a keyed entry has the key k just where k ties with the entry's key.
  same_key : (e : Place × X) (k : Place) → key e.1 ≡ e.0 → key_eq (key e.1) k ≡ eq_by_cmp place_cmp k e.0
  same_key e k a = ap (λ q. key_eq q k) a ∙ eq_turned e.0 k ∙ eq_is k e.0

  -- Among the objects that pass, a key finds what its entry has, if that passes.
  is_found : (es : List (Place × X)) → T (is_sorted place_cmp es) → AreKeyed es → (k : Place)
      → found key (Passed es) k ≡ passing p (find place_cmp k es)
  is_found [] s a k = refl
  is_found (e ∷ es) s a k =
      found_case e es k (p e.1) (eq_by_cmp place_cmp k e.0) refl (same_key e k a.0)
      (λ t. ap (λ q. find place_cmp q es) (one_key k e.0 t) ∙ below_none e.0 es (first _ _ s))
      (is_found es (second _ _ s) a.1 k)

  -- The values of a map that pass a test are a listing of what passes it at each key.
  pub passed_listing : (m : map.FinMap place_cmp X) (now : Place → Option X) → ((k : Place) → map.get m k ≡ now k)
      → ((k : Place) (x : X) → now k ≡ Some x → key x ≡ k)
      → IsListing key (λ k. passing p (now k)) (filter p (map.values m))
  passed_listing m now same keyed =
      let rows = rows_keyed (map.entries m) (map.entries_sorted m)
      (λ q x f. keyed q x (sym (same q) ∙ map.get-entries m q ∙ f)) in
      record {
        order = in_order (map.entries m) (map.entries_sorted m) rows;
        objects = λ k. is_found (map.entries m) (map.entries_sorted m) rows k
            ∙ ap (passing p) (sym (map.get-entries m k) ∙ same k);
      }

-- A test that each object passes leaves a list as it is.
all_pass : {X : Type 0} (xs : List X) → filter (λ x. true) xs ≡ xs
all_pass [] = refl
all_pass (x ∷ xs) = ap (λ (ys : List _). x ∷ ys) (all_pass xs)

-- A test that each object passes leaves what stands at a key.
none_kept_out : {X : Type 0} (o : Option X) → passing (λ x. true) o ≡ o
none_kept_out None = refl
none_kept_out (Some x) = refl

-- The values of a map by key are a listing of what stands at its keys.
pub all_listing : {X : Type 0} (key : X → Place) (m : map.FinMap place_cmp X) (now : Place → Option X)
    → ((k : Place) → map.get m k ≡ now k) → ((k : Place) (x : X) → now k ≡ Some x → key x ≡ k)
    → IsListing key now (map.values m)
all_listing {X} key m now same keyed =
    let l = passed_listing key (λ x. true) m now same keyed in
    record {
      order = subst (λ (xs : List X). Rises key xs) (all_pass (map.values m)) l.order;
      objects = λ k. ap (λ (xs : List X). found key xs k) (sym (all_pass (map.values m))) ∙ l.objects k
          ∙ none_kept_out (now k);
    }

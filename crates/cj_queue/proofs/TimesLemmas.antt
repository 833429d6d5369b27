-- What one write to both maps does to their agreement.
use Rattle.std.proofs.Common.{◌≡◌, ℕ, ◌<◌, Bool, true, false, cond, eqb, Some, None, Option, refl, sym, ap, ◌∙◌, subst, arith}
use Rattle.std.specs.Prelude.{T, Result, Ok, Err, OnOk, OnErr}
use Rattle.std.specs.Result.{is_err}
use Rattle.std.specs.Map.{lookup}
use Rattle.std.proofs.Common.{List}
use Rattle.std.proofs.lemmas.Bool.Decides.{nat_tests}
use Rattle.std.specs.declared.cmp.Ordering.{Ordering}
use Rattle.std.specs.declared.cmp.Ordering.TheVariants.{Less, Equal, Greater}
use Rattle.std.specs.Ordering.{nat_cmp, ordering_then, is_eq}
use Rattle.std.specs.BTreeMap.{BTreeMap, is_at, get}
use Rattle.cj_types.specs.Keys.{Place, place_cmp}
use Rattle.cj_queue.specs.Times.{timed_cmp, Times, time_of, waits_at, at_time, Agrees, SetsTime, SameTimes, Leaves}
use Rattle.cj_table.proofs.Order.{places_exact}
use Rattle.cj_queue.specs.Parts.{key_eq}
use Rattle.cj_queue.proofs.Sets.{eq_is}

-- ---- look-ups by `==`

-- A look-up by == finds the time that one by the order of keys does.
pub timed : (es : Times) (k : Place) → lookup (key_eq k) es ≡ time_of es k
timed es k = λ i. lookup (λ q. eq_is k q i) es

-- new has w at the key by ==, and at every other key what old has
abbrev pub SetsKey : Times → Times → Place → Option ℕ → Type 0
SetsKey old new k w = (q : Place) → lookup (key_eq q) new ≡ cond (key_eq k q) w (lookup (key_eq q) old)

-- What a map by == has after a write, the times have.
pub times_set : (es fs : Times) (k : Place) (w : Option ℕ) → SetsKey es fs k w → (q : Place)
    → time_of fs q ≡ cond (is_at (place_cmp k) q) w (time_of es q)
times_set es fs k w h q = sym (timed fs q) ∙ h q ∙ (λ i. cond (eq_is k q i) w (timed es q i))

-- For take_first: a key of the order waits for its time.
pub time_there : (o : Option ℕ) (t : ℕ) → at_time o t ≡ Some tt → o ≡ Some t
time_there None t e = absurd (cc e)
time_there (Some s) t e = by (eqb s t) refl e
  where
    by : (b : Bool) → eqb s t ≡ b → cond b (Some (tt {0})) None ≡ Some tt → Some s ≡ Some t
    by true h f = let same : s ≡ t = grind (arith, nat_tests, h) in ap (λ n. Some n) same
    by false h f = absurd (cc f)

-- ---- the two maps

-- An order that ties is Equal.
equal : (r : Ordering) → T (is_eq r) → r ≡ Equal
equal Less p = absurd p
equal Equal p = refl
equal Greater p = absurd p

-- Two orders, the second asked where the first ties, tie where the first does and the second too.
eq_then : (o r : Ordering) → is_eq (ordering_then o r) ≡ cond (is_eq o) (is_eq r) false
eq_then Less r = refl
eq_then Equal r = refl
eq_then Greater r = refl

-- Two numbers tie in their order just where they are equal.
eq_nat : (x y : ℕ) → is_eq (nat_cmp x y) ≡ eqb x y
eq_nat x y = grind (arith, nat_tests)

-- A time and key tie with another time and key just where the times are equal and the keys tie.
timed_is : (a t : ℕ) (k q : Place) → is_at (timed_cmp (a, k)) (t, q) ≡ cond (eqb a t) (is_at (place_cmp k) q) false
timed_is a t k q = eq_then (nat_cmp a t) (place_cmp k q) ∙ ap (λ b. cond b (is_at (place_cmp k) q) false) (eq_nat a t)

-- What the times have at a key, they have at each key that ties with it.
tied : (m : Times) (k q : Place) (o : Option ℕ) → time_of m k ≡ o → T (is_at (place_cmp k) q)
    → time_of m q ≡ o
tied m k q o h t = subst (λ q. time_of m q ≡ o) (places_exact k q (equal _ t)) h

-- A choice by a test that is spelled out as true or false is the choice by the test.
pick : (b : Bool) (x y : Option (Unit {0})) → cond (cond b true false) x y ≡ cond b x y
pick true x y = refl
pick false x y = refl

-- A choice by a test that is false in either case is its second part.
drop_false : (b : Bool) (x y : Option (Unit {0})) → cond (cond b false false) x y ≡ y
drop_false true x y = refl
drop_false false x y = refl

-- For agrees_new: with the new entry, the order says of each time what the key's new time says.
new_step : (e : Bool) (a t : ℕ) (old : Option ℕ) → (T e → old ≡ None)
    → cond (cond (eqb a t) e false) (Some tt) (at_time old t) ≡ at_time (cond e (Some a) old) t
new_step true a t old f = ap (λ o. cond (cond (eqb a t) true false) (Some tt) (at_time o t)) (f tt)
    ∙ pick (eqb a t) (Some tt) None
new_step false a t old f = drop_false (eqb a t) (Some tt) (at_time old t)

-- For earlier_step: of the two times of the key that moved, only the new one has an entry.
moved : (b1 b2 : Bool) (x : Option (Unit {0})) → (T b1 → T b2 → ⊥)
    → cond (cond b2 true false) None (cond (cond b1 true false) x (cond b2 x None)) ≡ cond b1 x None
moved true true x f = absurd (f tt tt)
moved true false x f = refl
moved false true x f = refl
moved false false x f = refl

-- A test that holds is true.
true_of : (b : Bool) → T b → b ≡ true
true_of true h = refl
true_of false h = absurd h

-- No time is equal both to one time and to a later one.
apart : (a b t : ℕ) → a < b → T (eqb a t) → T (eqb b t) → ⊥
apart a b t lt x y =
    let p : eqb a t ≡ true = true_of _ x in
    let q : eqb b t ≡ true = true_of _ y in
    grind (arith, nat_tests, p, q)

-- For agrees_earlier: with the entry moved from b to a, the order says what the new times say.
earlier_step : (e : Bool) (a b t : ℕ) (old : Option ℕ) → a < b → (T e → old ≡ Some b)
    → cond (cond (eqb b t) e false) None (cond (cond (eqb a t) e false) (Some tt) (at_time old t))
    ≡ at_time (cond e (Some a) old) t
earlier_step true a b t old lt f =
    ap (λ o. cond (cond (eqb b t) true false) None (cond (cond (eqb a t) true false) (Some tt) (at_time o t))) (f tt)
    ∙ moved (eqb a t) (eqb b t) (Some tt) (apart a b t lt)
earlier_step false a b t old lt f = drop_false (eqb b t) None _ ∙ drop_false (eqb a t) (Some tt) (at_time old t)

-- New has w at this time and key, and at every other what old has.
abbrev pub SetsOrder : BTreeMap (ℕ × Place) (Unit {0}) → BTreeMap (ℕ × Place) (Unit {0}) → ℕ → Place → Option (Unit {0})
    → Type 0
SetsOrder old new a k w = (p : ℕ × Place) → get timed_cmp new p ≡ cond (is_at (timed_cmp (a, k)) p) w
    (get timed_cmp old p)

-- For put_new: the two maps agree after a key that didn't wait is put into both with its time.
pub agrees_new : (times new : Times) (order last : BTreeMap (ℕ × Place) (Unit {0})) (k : Place) (a : ℕ)
    → Agrees times order → time_of times k ≡ None → SetsTime times new k a → SetsOrder order last a k (Some tt)
    → Agrees new last
agrees_new times new order last k a agree none sets orders = record {
  same = λ q t.
      orders (t, q)
      ∙ ap (λ b. cond b (Some tt) (waits_at order t q)) (timed_is a t k q)
      ∙ ap (λ w. cond (cond (eqb a t) (is_at (place_cmp k) q) false) (Some tt) w) (agree.same q t)
      ∙ new_step (is_at (place_cmp k) q) a t (time_of times q) (tied times k q None none)
      ∙ ap (λ o. at_time o t) (sym (sets q));
}

-- For put_earlier: the two maps agree after a key's time and its entry moved to an earlier time.
pub agrees_earlier : (times new : Times) (order middle last : BTreeMap (ℕ × Place) (Unit {0})) (k : Place)
    (a b : ℕ) → a < b → Agrees times order → time_of times k ≡ Some b → SetsTime times new k a
    → SetsOrder order middle a k (Some tt) → SetsOrder middle last b k None → Agrees new last
agrees_earlier times new order middle last k a b lt agree waits sets adds drops = record {
  same = λ q t.
      drops (t, q)
      ∙ ap (λ c. cond c None (waits_at middle t q)) (timed_is b t k q)
      ∙ ap (λ w. cond (cond (eqb b t) (is_at (place_cmp k) q) false) None w)
      (adds (t, q) ∙ ap (λ c. cond c (Some tt) (waits_at order t q)) (timed_is a t k q)
      ∙ ap (λ w. cond (cond (eqb a t) (is_at (place_cmp k) q) false) (Some tt) w) (agree.same q t))
      ∙ earlier_step (is_at (place_cmp k) q) a b t (time_of times q) lt (tied times k q (Some b) waits)
      ∙ ap (λ o. at_time o t) (sym (sets q));
}

-- For taken_back: a time that is put in where none was and taken out again leaves what was there.
if_tied : (b : Bool) (a : ℕ) (o : Option ℕ) → (T b → o ≡ None) → cond b None (cond b (Some a) o) ≡ o
if_tied true a o f = sym (f tt)
if_tied false a o f = refl

-- a key that was put in is taken out again
pub taken_back : (times middle new : Times) (k : Place) (a : ℕ) → time_of times k ≡ None
    → SetsTime times middle k a → ((q : Place) → time_of new q ≡ cond (is_at (place_cmp k) q) None (time_of middle q))
    → SameTimes times new
taken_back times middle new k a none sets drops q =
    drops q ∙ ap (cond (is_at (place_cmp k) q) None) (sets q) ∙ if_tied (is_at (place_cmp k) q) a (time_of times q)
    (tied times k q None none)

-- The two maps still agree where every time and every entry of the order is as it was.
pub agrees_same : (times new : Times) (order last : BTreeMap (ℕ × Place) (Unit {0})) → Agrees times order
    → SameTimes times new → ((p : ℕ × Place) → get timed_cmp last p ≡ get timed_cmp order p) → Agrees new last
agrees_same times new order last agree same kept =
    record { same = λ q t. kept (t, q) ∙ agree.same q t ∙ ap (λ o. at_time o t) (sym (same q)) }

-- What a result promises if it is Ok holds where it is no error.
pub ok_of : {A E : Type 0} (r : Result A E) (P : Type 0) → is_err r ≡ false → OnOk r P → P
ok_of (Ok x) P e h = h
ok_of (Err x) P e h = cc

-- What a result promises if it is an error holds where it is one.
pub err_of : {A E : Type 0} (r : Result A E) (P : Type 0) → is_err r ≡ true → OnErr r P → P
err_of (Ok x) P e h = cc
err_of (Err x) P e h = h

-- An order with the same entries has the same at each time and key.
pub order_kept : (old new : BTreeMap (ℕ × Place) (Unit {0})) → new.entries ≡ old.entries → (p : ℕ × Place)
    → get timed_cmp new p ≡ get timed_cmp old p
order_kept old new e p = ap (λ (es : List ((ℕ × Place) × Unit {0})). lookup (is_at (timed_cmp p)) es) e

-- a write at a key that is there does not fail
pub ok_since : {A E : Type 0} (r : Result A E) (o : Option ℕ) (b : ℕ) → OnErr r (o ≡ None) → o ≡ Some b
    → is_err r ≡ false
ok_since (Ok x) o b h w = refl
ok_since (Err x) o b h w = cc

-- For take_first: the two maps agree after a key that waits is taken out of both.
pub agrees_removal : (times new : Times) (order last : BTreeMap (ℕ × Place) (Unit {0})) (k : Place) (b : ℕ)
    → Agrees times order → time_of times k ≡ Some b → Leaves times new k → SetsOrder order last b k None
    → Agrees new last
agrees_removal times new order last k b agree waits leaves drops = record {
  same = λ q t.
      drops (t, q)
      ∙ ap (λ c. cond c None (waits_at order t q)) (timed_is b t k q)
      ∙ ap (λ w. cond (cond (eqb b t) (is_at (place_cmp k) q) false) None w) (agree.same q t)
      ∙ removal_step (is_at (place_cmp k) q) b t (time_of times q) (tied times k q (Some b) waits)
      ∙ ap (λ o. at_time o t) (sym (leaves q));
}
  where
    gone : (b : Bool) → cond (cond b true false) None (cond b (Some (tt {0})) None) ≡ None
    gone true = refl
    gone false = refl

    removal_step : (e : Bool) (b t : ℕ) (old : Option ℕ) → (T e → old ≡ Some b)
        → cond (cond (eqb b t) e false) None (at_time old t) ≡ at_time (cond e None old) t
    removal_step true b t old f = ap (λ o. cond (cond (eqb b t) true false) None (at_time o t)) (f tt) ∙ gone (eqb b t)
    removal_step false b t old f = drop_false (eqb b t) None (at_time old t)

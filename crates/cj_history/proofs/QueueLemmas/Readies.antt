-- The keys that a tick adds: just those whose time is not above it, by time, then key.
use Rattle.std.proofs.Common.{◌≡◌, ℕ, ◌<◌, ◌==◌, ◌⊎◌, inl, inr, Bool, true, false, cond, ◌&&◌, ◌||◌, List, [], ◌∷◌, map as map_list, Option, Some, None, refl, sym, ap, ◌∙◌, subst, arith}
use Rattle.std.specs.Prelude.{T, nat_le}
use Rattle.std.proofs.lemmas.Bool.{eqb-true, eq-eqb}
use Rattle.std.proofs.lemmas.Bool.Decides.{nat_tests}
use Rattle.std.specs.declared.cmp.Ordering.{Ordering}
use Rattle.std.specs.declared.cmp.Ordering.TheVariants.{Less, Equal, Greater}
use Rattle.std.specs.Ordering.{nat_cmp, ordering_then, is_eq, is_lt, eq_by_cmp}
use Rattle.std.specs.Cmp.{eq_by_cmp_equiv}
use Rattle.std.specs.FinMap as map
use Rattle.std.specs.FinMap.{find}
use Rattle.std.specs.FinMap.Entries.{below_all}
use Rattle.cj_types.specs.Keys.{Place, place_cmp}
use Rattle.cj_queue.specs.Parts.{key_eq, stands_in}
use Rattle.cj_queue.specs.Times.{Waiting, timed_cmp, by_time, ready, ready_in, at_time, without, waits_for, earlier}
use Rattle.cj_queue.proofs.Sets.{eq_true, eq_self, eq_turned, get_put, get_off}
use Rattle.cj_queue.proofs.Ready.{by_time_at, timed_total, timed_exact}
use Rattle.cj_history.specs.queue.LookBacks.{Before, RisesBy, is_within, time_of}
use Rattle.cj_history.proofs.QueueLemmas.Rows.{on, either, itself, further}

abbrev firsts : List ((ℕ × Place) × Unit {0}) → List (ℕ × Place)
firsts es = map_list (λ e. e.0) es

-- An order that is tested to be a tie is Equal.
tied_is : (r : Ordering) → is_eq r ≡ true → r ≡ Equal
tied_is Less e = cc (e)
tied_is Equal e = refl
tied_is Greater e = cc (e)

-- Two pairs of a time and a key that are found equal are the same pair.
same_pair : (p q : ℕ × Place) → eq_by_cmp timed_cmp p q ≡ true → p ≡ q
same_pair p q e = timed_exact p q (tied_is (timed_cmp p q) e)

-- A pair of a time and a key is found equal to itself.
hits : (p : ℕ × Place) → eq_by_cmp timed_cmp p p ≡ true
hits p = (eq_by_cmp_equiv timed_total).refl p

-- What is found in the rest of the entries is found too with one more entry before them.
kept : (b : Bool) (o : Option (Unit {0})) → o ≡ Some tt → cond b (Some (tt {0})) o ≡ Some tt
kept true o e = refl
kept false o e = e

-- The key of the first entry is found at that entry's time.
found_first : (e : (ℕ × Place) × Unit {0}) (es : List ((ℕ × Place) × Unit {0})) (k : Place) → key_eq k e.0.1 ≡ true
    → find timed_cmp (e.0.0, k) (e ∷ es) ≡ Some tt
found_first e es k h = subst (λ j. find timed_cmp (e.0.0, j) (e ∷ es) ≡ Some tt) (sym (eq_true k e.0.1 h))
    (on (eq_by_cmp timed_cmp e.0 e.0) (Some e.1) (find timed_cmp e.0 es) (hits e.0))

-- a key among the ready ones stands there at a time that is not above now
gives : (es : List ((ℕ × Place) × Unit {0})) (now : ℕ) (k : Place) → stands_in (ready_in (firsts es) now) k ≡ true
    → (t : ℕ) × (nat_le t now ≡ true) × (find timed_cmp (t, k) es ≡ Some tt)
gives [] now k m = cc (m)
gives (e ∷ es) now k m = by (λ n. let g = gives es now k n in
    (g.0, g.1, kept (eq_by_cmp timed_cmp (g.0, k) e.0) (find timed_cmp (g.0, k) es) g.2)) (nat_le e.0.0 now) refl m
  where
    by : (stands_in (ready_in (firsts es) now) k ≡ true → (t : ℕ) × (nat_le t now ≡ true)
        × (find timed_cmp (t, k) (e ∷ es) ≡ Some tt)) → (b : Bool) → nat_le e.0.0 now ≡ b
        → stands_in (cond b (e.0.1 ∷ ready_in (firsts es) now) (ready_in (firsts es) now)) k ≡ true
        → (t : ℕ) × (nat_le t now ≡ true) × (find timed_cmp (t, k) (e ∷ es) ≡ Some tt)
    by tail true le n = either (key_eq k e.0.1) (stands_in (ready_in (firsts es) now) k) _ n
        (λ a. (e.0.0, le, found_first e es k a)) tail
    by tail false le n = tail n

-- A key of the list stays in it, whether or not another key is put before it.
in_both : (b : Bool) (x : Place) (xs : List Place) (k : Place) → stands_in xs k ≡ true
    → stands_in (cond b (x ∷ xs) xs) k ≡ true
in_both true x xs k e = further x xs k e
in_both false x xs k e = e

-- A key that is found at a time not above now stands among the ready ones.
has_it : (es : List ((ℕ × Place) × Unit {0})) (now t : ℕ) (k : Place) → find timed_cmp (t, k) es ≡ Some tt
    → nat_le t now ≡ true → stands_in (ready_in (firsts es) now) k ≡ true
has_it [] now t k f le = cc (f)
has_it (e ∷ es) now t k f le = by (λ g. has_it es now t k g le) (eq_by_cmp timed_cmp (t, k) e.0) refl f
  where
    by : (find timed_cmp (t, k) es ≡ Some tt → stands_in (ready_in (firsts es) now) k ≡ true) → (b : Bool)
        → eq_by_cmp timed_cmp (t, k) e.0 ≡ b → cond b (Some e.1) (find timed_cmp (t, k) es) ≡ Some tt
        → stands_in (ready_in (firsts (e ∷ es)) now) k ≡ true
    by rest true h g =
        let same = same_pair (t, k) e.0 h in
        subst (λ (p : ℕ × Place). stands_in (cond (nat_le p.0 now) (p.1 ∷ ready_in (firsts es) now)
        (ready_in (firsts es) now)) k ≡ true) same
        (ap (λ l. stands_in l k) (on (nat_le t now) (k ∷ ready_in (firsts es) now) (ready_in (firsts es) now) le)
        ∙ itself k (ready_in (firsts es) now))
    by rest false h g = in_both (nat_le e.0.0 now) e.0.1 (ready_in (firsts es) now) k (rest g)

-- A key that is found waiting at a time waits for that time.
time_is : (o : Option ℕ) (t : ℕ) → at_time o t ≡ Some tt → o ≡ Some t
time_is None t e = cc (e)
time_is (Some s) t e = by (s == t) refl e
  where
    by : (b : Bool) → (s == t) ≡ b → cond b (Some (tt {0})) None ≡ Some tt → Some s ≡ Some t
    by true h g = ap (λ x. Some x) (eqb-true s t h)
    by false h g = cc (g)

-- A key that waits for a time is found waiting at it.
time_here : (t : ℕ) → at_time (Some t) t ≡ Some tt
time_here t = on (t == t) (Some (tt {0})) None (eq-eqb t t refl)

-- Two truth values are the same where each one follows from the other.
same_truth : (a b : Bool) → (a ≡ true → b ≡ true) → (b ≡ true → a ≡ true) → a ≡ b
same_truth true true f g = refl
same_truth true false f g = sym (f refl)
same_truth false true f g = g refl
same_truth false false f g = refl

-- A time and a key stand in the map by time just where the key waits for that time.
found_at : (m : Waiting) (t : ℕ) (k : Place) → find timed_cmp (t, k) (map.entries (by_time m)) ≡ at_time (map.get m k) t
found_at m t k = sym (map.get-entries (by_time m) (t, k)) ∙ by_time_at m t k

-- A key is among the ready ones just where it waits for a time that is not above now.
pub members : (m : Waiting) (now : ℕ) (k : Place) → stands_in (ready m now) k ≡ is_within (map.get m k) now
members m now k = same_truth _ _ there back
  where
    there : stands_in (ready m now) k ≡ true → is_within (map.get m k) now ≡ true
    there n = let g = gives (map.entries (by_time m)) now k n in ap (λ o. is_within o now)
        (time_is (map.get m k) g.0 (sym (found_at m g.0 k) ∙ g.2)) ∙ g.1

    by : (o : Option ℕ) → map.get m k ≡ o → is_within o now ≡ true → stands_in (ready m now) k ≡ true
    by None e w = cc (w)
    by (Some t) e w = has_it (map.entries (by_time m)) now t k (found_at m t k ∙ ap (λ o. at_time o t) e ∙ time_here t)
        w

    back : is_within (map.get m k) now ≡ true → stands_in (ready m now) k ≡ true
    back w = by (map.get m k) refl w

-- ---- their order

-- Where two hold together, the first holds.
first : (a b : Bool) → T (a && b) → T a
first true b p = tt
first false b p = p

-- Where two hold together, the second holds.
second : (a b : Bool) → T (a && b) → T b
second true b p = p
second false b p = absurd p

-- An order that is tested to be less is Less.
less : (o : Ordering) → T (is_lt o) → o ≡ Less
less Less p = refl
less Equal p = absurd p
less Greater p = absurd p

-- A pair that is below all entries comes before each pair that is found among them.
below_found : (es : List ((ℕ × Place) × Unit {0})) (p q : ℕ × Place) → T (below_all timed_cmp p es)
    → find timed_cmp q es ≡ Some tt → timed_cmp p q ≡ Less
below_found [] p q h f = cc (f)
below_found (e ∷ es) p q h f = by (λ i. below_found es p q (second _ _ h) i) (eq_by_cmp timed_cmp q e.0) refl f
  where
    by : (find timed_cmp q es ≡ Some tt → timed_cmp p q ≡ Less) → (b : Bool) → eq_by_cmp timed_cmp q e.0 ≡ b
        → cond b (Some e.1) (find timed_cmp q es) ≡ Some tt → timed_cmp p q ≡ Less
    by rest true g i = subst (λ x. timed_cmp p x ≡ Less) (sym (same_pair q e.0 g))
        (less (timed_cmp p e.0) (first _ _ h))
    by rest false g i = rest i

-- What is less by a number, then an order, has the lesser number, or the same one and is Less.
split : (s t : ℕ) (o : Ordering) → ordering_then (nat_cmp s t) o ≡ Less → (s < t) ⊎ ((s ≡ t) × (o ≡ Less))
split s t o h = by (nat_cmp s t) refl h
  where
    by : (r : Ordering) → nat_cmp s t ≡ r → ordering_then r o ≡ Less → (s < t) ⊎ ((s ≡ t) × (o ≡ Less))
    by Less e g = inl (grind (arith, nat_tests, e))
    by Equal e g = inr (map.nat_cmp-IsAntisymmetric s t e, g)
    by Greater e g = cc (g)

-- The ready keys among sorted entries rise, by their times and then as keys.
rises_in : (es : List ((ℕ × Place) × Unit {0})) (now n : ℕ) (tm : Place → Option ℕ) → T (map.is_sorted timed_cmp es)
    → ((t : ℕ) (k : Place) → find timed_cmp (t, k) es ≡ Some tt → tm k ≡ Some t)
    → RisesBy (λ k. (n, time_of (tm k))) (ready_in (firsts es) now)
rises_in [] now n tm s all = tt
rises_in (e ∷ es) now n tm s all = by (rises_in es now n tm (second _ _ s)
    (λ t k f. all t k (kept (eq_by_cmp timed_cmp (t, k) e.0) (find timed_cmp (t, k) es) f))) (nat_le e.0.0 now)
  where
    deeper : (t : ℕ) (k : Place) → find timed_cmp (t, k) es ≡ Some tt → tm k ≡ Some t
    deeper t k f = all t k (kept (eq_by_cmp timed_cmp (t, k) e.0) (find timed_cmp (t, k) es) f)

    head : (y : Place) → stands_in (ready_in (firsts es) now) y ≡ true →
        Before (n, time_of (tm e.0.1)) e.0.1 (n, time_of (tm y)) y
    head y m =
        let g = gives es now y m in
        let a : tm e.0.1 ≡ Some e.0.0 = all e.0.0 e.0.1 (found_first e es e.0.1 (eq_self e.0.1)) in
        let b : tm y ≡ Some g.0 = deeper g.0 y g.2 in
        subst (λ (p : Option ℕ × Option ℕ). Before (n, time_of p.0) e.0.1 (n, time_of p.1) y) (λ i. (sym a i, sym b i))
        (inr (refl, split e.0.0 g.0 (place_cmp e.0.1 y) (below_found es e.0 (g.0, y) (first _ _ s) g.2)))

    by : RisesBy (λ k. (n, time_of (tm k))) (ready_in (firsts es) now) → (b : Bool)
        → RisesBy (λ k. (n, time_of (tm k))) (cond b (e.0.1 ∷ ready_in (firsts es) now) (ready_in (firsts es) now))
    by rest true = (head, rest)
    by rest false = rest

-- The keys that a tick adds stand in the order of their times, and of the keys at one time.
pub rises : (m : Waiting) (now n : ℕ) → RisesBy (λ k. (n, time_of (map.get m k))) (ready m now)
rises m now n = rises_in (map.entries (by_time m)) now n (map.get m) (map.entries_sorted (by_time m))
    (λ t k f. time_is (map.get m k) t (sym (found_at m t k) ∙ f))

-- ---- what waits

-- With some keys taken out, these wait for nothing and each other key waits as before.
pub get_without : (ks : List Place) (m : Waiting) (k : Place) → map.get (without m ks) k
    ≡ cond (stands_in ks k) None (map.get m k)
get_without [] m k = refl
get_without (x ∷ ks) m k =
    get_without ks (map.remove m x) k ∙ ap (cond (stands_in ks k) None) (get_off m x k
    ∙ ap (λ b. cond b None (map.get m k)) (eq_turned x k))
    ∙ joined (key_eq k x) (stands_in ks k) (map.get m k)
  where
    joined : (a b : Bool) (o : Option ℕ) → cond b None (cond a None o) ≡ cond (a || b) None o
    joined true true o = refl
    joined true false o = refl
    joined false b o = refl

-- A delayed add makes its key wait for the earlier of its old and its new time, and no other key.
pub get_waits : (m : Waiting) (u : Place) (at : ℕ) (k : Place) → map.get (waits_for m u at) k
    ≡ cond (key_eq k u) (Some (earlier (map.get m k) at)) (map.get m k)
get_waits m u at k =
    get_put m u (earlier (map.get m u) at) k ∙ ap (λ b. cond b (Some (earlier (map.get m u) at)) (map.get m k))
    (eq_turned u k)
    ∙ same (key_eq k u) (λ t. ap (λ q. earlier (map.get m q) at) (sym (eq_true k u t)))
  where
    same : (b : Bool) → (b ≡ true → earlier (map.get m u) at ≡ earlier (map.get m k) at)
        → cond b (Some (earlier (map.get m u) at)) (map.get m k)
        ≡ cond b (Some (earlier (map.get m k) at)) (map.get m k)
    same true f = ap (λ x. Some x) (f refl)
    same false f = refl

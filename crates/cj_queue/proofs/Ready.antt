-- The map by time and key that agrees with the times has the keys of `by_time`.
use Rattle.std.proofs.Common.{◌≡◌, ℕ, ◌==◌, ◌<◌, ◌≤◌, ◌+◌, length, Result, Ok, Err, Bool, true, false, cond, ◌&&◌, List, [], ◌∷◌, map as map_list, Option, Some, None, refl, sym, ap, ◌∙◌, subst, arith}
use Rattle.std.specs.Prelude.{T, nat_le, OnOk, OnErr, IfSome, IfNone}
use Rattle.std.proofs.lemmas.Bool.Decides.{nat_tests}
use Rattle.std.specs.declared.cmp.Ordering.{Ordering}
use Rattle.std.specs.declared.cmp.Ordering.TheVariants.{Less, Equal, Greater}
use Rattle.std.specs.Ordering.{nat_cmp, ordering_then, is_eq, is_lt, eq_by_cmp}
use Rattle.std.specs.Cmp.{IsTotalOrder, on_total, then_total, nat_cmp_total}
use Rattle.std.specs.FinMap as map
use Rattle.std.specs.FinMap.{find}
use Rattle.std.specs.FinMap.Entries.{below_all}
use Rattle.std.specs.BTreeMap.{BTreeMap}
use Rattle.std.specs.List.Sorted.{IsStrictlySortedBy}
use Rattle.cj_types.specs.Keys.{Place, place_cmp}
use Rattle.cj_queue.specs.Times.{timed_cmp, Waiting, Times, by_time, ready_in, at_time, time_of, earlier, waits_for, Agrees, SetsTime, SameTimes}
use Rattle.cj_table.proofs.Order.{places_total, places_exact}
use Rattle.std.specs.List.{AllByRecursion}
use Rattle.std.proofs.lemmas.Map.Keys.{sorted_head, sorted_tail}
use Rattle.cj_table.proofs.Puts.{alike}
use Rattle.cj_table.proofs.Gets.{get_rows, rows_entries, inserted, same_rows}

-- Times with keys are in a total order, by time, then key.
pub timed_total : IsTotalOrder timed_cmp
timed_total = then_total (on_total (λ p. p.0) nat_cmp_total) (on_total (λ p. p.1) places_total)

-- Where two orders, one asked after the other, give Equal, each of them is Equal.
both_equal : (o p : Ordering) → ordering_then o p ≡ Equal → (o ≡ Equal) × (p ≡ Equal)
both_equal Less p h = cc
both_equal Equal p h = (refl, h)
both_equal Greater p h = cc

-- Two times with keys that tie in their order are the same.
pub timed_exact : map.IsAntisymmetric timed_cmp
timed_exact x y h =
    let parts = both_equal (nat_cmp x.0 y.0) (place_cmp x.1 y.1) h in
    let a : x.0 ≡ y.0 = map.nat_cmp-IsAntisymmetric _ _ parts.0 in
    let b : x.1 ≡ y.1 = places_exact _ _ parts.1 in
    λ i. (a i, b i)

-- ---- look-ups by time

-- Two orders, of which the second is asked where the first ties, tie just where both do.
both_ties : (o r : Ordering) → is_eq (ordering_then o r) ≡ (is_eq o && is_eq r)
both_ties Less r = refl
both_ties Equal r = refl
both_ties Greater r = refl

-- Two numbers tie in their order just where the second is equal to the first.
ties_nat : (x y : ℕ) → is_eq (nat_cmp x y) ≡ (y == x)
ties_nat x y = grind (arith, nat_tests)

-- An order that ties is Equal.
equal : (r : Ordering) → T (is_eq r) → r ≡ Equal
equal Less p = absurd p
equal Equal p = refl
equal Greater p = absurd p

-- A test that is true holds.
true_T : (b : Bool) → b ≡ true → T b
true_T true e = tt
true_T false e = cc (e)

-- Of two tests that hold together, the first holds.
first : (a b : Bool) → T (a && b) → T a
first true b p = tt
first false b p = p

-- Of two tests that hold together, the second holds.
second : (a b : Bool) → T (a && b) → T b
second true b p = p
second false b p = absurd p

-- What is less is no tie.
less_apart : (o : Ordering) → T (is_lt o) → is_eq o ≡ false
less_apart Less p = refl
less_apart Equal p = absurd p
less_apart Greater p = absurd p

-- A choice by a test that fails is its second part.
skip : {A : Type 0} (b : Bool) (x y : A) → b ≡ false → cond b x y ≡ y
skip true x y e = cc (e)
skip false x y e = refl

-- A key that is below the keys of some entries isn't found among them.
below_absent : (k : Place) (es : List (Place × ℕ)) → T (below_all place_cmp k es) → find place_cmp k es ≡ None
below_absent k [] h = refl
below_absent k (e ∷ es) h = skip (eq_by_cmp place_cmp k e.0) (Some e.1) (find place_cmp k es)
    (less_apart (place_cmp k e.0) (first _ _ h)) ∙ below_absent k es (second _ _ h)

-- For swapped: where the key is that of the first entry, the time alone decides.
head_time : (a : Bool) → cond (a && true) (Some (tt {0})) None ≡ cond a (Some tt) None
head_time true = refl
head_time false = refl

-- For swapped: where the key isn't that of the first entry, this one is passed over.
off_head : {A : Type 0} (a : Bool) (x y : A) → cond (a && false) x y ≡ y
off_head true x y = refl
off_head false x y = refl

-- an entry is found among the swapped ones where the key has just its time
pub swapped : (es : List (Place × ℕ)) (t : ℕ) (k : Place) → T (map.is_sorted place_cmp es)
    → find timed_cmp (t, k) (map_list (λ e. ((e.1, e.0), tt {0})) es) ≡ at_time (find place_cmp k es) t
swapped [] t k s = refl
swapped (e ∷ es) t k s =
    ap (λ b. cond b (Some (tt {0})) (find timed_cmp (t, k) (map_list (λ e. ((e.1, e.0), tt)) es)))
    (both_ties (nat_cmp t e.1) (place_cmp k e.0) ∙ ap (λ b. b && eq_by_cmp place_cmp k e.0) (ties_nat t e.1))
    ∙ ap (cond ((e.1 == t) && eq_by_cmp place_cmp k e.0) (Some tt)) (swapped es t k (second _ _ s))
    ∙ at_head (eq_by_cmp place_cmp k e.0) refl
  where
    at_head : (b : Bool) → eq_by_cmp place_cmp k e.0 ≡ b
        → cond ((e.1 == t) && eq_by_cmp place_cmp k e.0) (Some (tt {0})) (at_time (find place_cmp k es) t)
        ≡ at_time (cond (eq_by_cmp place_cmp k e.0) (Some e.1) (find place_cmp k es)) t
    at_head true h =
        let same : k ≡ e.0 = places_exact k e.0 (equal _ (true_T _ h)) in
        let none : find place_cmp k es ≡ None = below_absent k es
        (subst (λ j. T (below_all place_cmp j es)) (sym same) (first _ _ s)) in
        (λ i. cond ((e.1 == t) && h i) (Some (tt {0})) (at_time (none i) t)) ∙ head_time (e.1 == t)
        ∙ (λ i. at_time (cond (sym h i) (Some e.1) (find place_cmp k es)) t)
    at_head false h =
        (λ i. cond ((e.1 == t) && h i) (Some (tt {0})) (at_time (find place_cmp k es) t))
        ∙ off_head (e.1 == t) (Some tt) (at_time (find place_cmp k es) t)
        ∙ (λ i. at_time (cond (sym h i) (Some e.1) (find place_cmp k es)) t)

-- The map by time has a time and key just where the key waits for that time.
pub by_time_at : (m : Waiting) (t : ℕ) (k : Place) → map.get (by_time m) (t, k) ≡ at_time (map.get m k) t
by_time_at m t k =
    map.get-from_entries timed_total (map_list (λ e. ((e.1, e.0), tt)) (map.entries m)) (t, k)
    ∙ swapped (map.entries m) t k (map.entries_sorted m)
    ∙ ap (λ o. at_time o t) (sym (map.get-entries m k))

-- For Waits::count_ready and take_ready: where both maps agree, the order's keys are those of by_time of the times.
pub order_keys : (times : Times) (order : BTreeMap (ℕ × Place) (Unit {0})) → Agrees times order
    → IsStrictlySortedBy timed_cmp (map_list (λ e. e.0) order.entries)
    → map_list (λ e. e.0) order.entries ≡ map.keys (by_time (map.from_entries times))
order_keys times order agree sorted =
    let m : Waiting = map.from_entries times in
    let same : map.from_entries {R = timed_cmp} order.entries ≡ by_time m =
    map.same_map timed_total timed_exact _ _ (λ p.
    get_rows timed_total timed_exact order.entries p ∙ agree.same p.1 p.0
    ∙ ap (λ o. at_time o p.0) (sym (get_rows places_total places_exact times p.1)) ∙ sym (by_time_at m p.0 p.1))
    in
    ap (map_list (λ (e : (ℕ × Place) × Unit {0}). e.0))
    (sym (rows_entries timed_total timed_exact order.entries sorted)) ∙ ap
    (λ (n : map.FinMap timed_cmp (Unit {0})). map.keys n) same

-- ---- the list of those that are ready

-- What comes behind a time that is above now, in the order by time, then key, isn't ready.
not_later : (s t now : ℕ) (o : Ordering) → now < s → ordering_then (nat_cmp s t) o ≡ Less → nat_le t now ≡ false
not_later s t now o lt h = by (nat_cmp s t) refl h
  where
    by : (r : Ordering) → nat_cmp s t ≡ r → ordering_then r o ≡ Less → nat_le t now ≡ false
    by Less e g = grind (arith, nat_tests, e, lt)
    by Equal e g = grind (arith, nat_tests, e, lt)
    by Greater e g = cc (g)

-- Where each entry comes behind one whose time is above now, none is ready.
pub late : (ps : List (ℕ × Place)) (p : ℕ × Place) (now : ℕ) → AllByRecursion (λ y. timed_cmp p y ≡ Less) ps → now < p.0
    → ready_in ps now ≡ []
late [] p now h lt = refl
late (y ∷ ps) p now h lt = skip (nat_le y.0 now) (y.1 ∷ ready_in ps now) (ready_in ps now)
    (not_later p.0 y.0 now (place_cmp p.1 y.1) lt h.0) ∙ late ps p now h.1 lt

-- Where the first of sorted entries has a time above now, none is ready.
pub all_late : (ps : List (ℕ × Place)) (p : ℕ × Place) (now : ℕ) → IsStrictlySortedBy timed_cmp (p ∷ ps) → now < p.0
    → ready_in (p ∷ ps) now ≡ []
all_late ps p now h lt =
    skip (nat_le p.0 now) (p.1 ∷ ready_in ps now) (ready_in ps now) (grind (arith, nat_tests, lt))
    ∙ late ps p now (sorted_head timed_cmp p ps h) lt

-- A choice by a test that holds is its first part.
taken : {A : Type 0} (b : Bool) (x y : A) → b ≡ true → cond b x y ≡ x
taken true x y e = refl
taken false x y e = cc (e)

-- Where the first entry's time isn't above now, its key is the first that is ready.
pub ready_head : (rest next : List (ℕ × Place)) (p : ℕ × Place) (now : ℕ) → rest ≡ p ∷ next → p.0 ≤ now
    → ready_in rest now ≡ p.1 ∷ ready_in next now
ready_head rest next p now e le =
    ap (λ ps. ready_in ps now) e
    ∙ taken (nat_le p.0 now) (p.1 ∷ ready_in next now) (ready_in next now) (grind (arith, nat_tests, le))

-- Where the first entry's time is above now, none is ready.
pub ready_none : (rest next : List (ℕ × Place)) (p : ℕ × Place) (now : ℕ) → rest ≡ p ∷ next
    → IsStrictlySortedBy timed_cmp rest → now < p.0 → ready_in rest now ≡ []
ready_none rest next p now e sorted lt =
    ap (λ ps. ready_in ps now) e ∙ all_late next p now (subst (IsStrictlySortedBy timed_cmp) e sorted) lt

-- For count_until: no more entries are ready than there are.
pub few_ready : (ps : List (ℕ × Place)) (now : ℕ) → length (ready_in ps now) ≤ length ps
few_ready [] now = omega arith
few_ready (p ∷ ps) now = by (nat_le p.0 now) (few_ready ps now)
  where
    by : (b : Bool) → length (ready_in ps now) ≤ length ps
        → length (cond b (p.1 ∷ ready_in ps now) (ready_in ps now)) ≤ length (p ∷ ps)
    by true h = omega (arith, h)
    by false h = omega (arith, h)

-- For count_until: with an entry that is ready, those counted and the ready ones to come are still all.
pub count_step : (count total : ℕ) (rest next : List (ℕ × Place)) (p : ℕ × Place) (now : ℕ)
    → count + length (ready_in rest now) ≡ total → rest ≡ p ∷ next → p.0 ≤ now
    → (count + 1) + length (ready_in next now) ≡ total
count_step count total rest next p now inv e le =
    omega (arith, inv, ap (λ (ks : List Place). length ks) (ready_head rest next p now e le))

-- For count_until: where the next entry's time is above now, those counted are all.
pub count_stop : (count total : ℕ) (rest next : List (ℕ × Place)) (p : ℕ × Place) (now : ℕ)
    → count + length (ready_in rest now) ≡ total → rest ≡ p ∷ next → IsStrictlySortedBy timed_cmp rest → now < p.0
    → count ≡ total
count_stop count total rest next p now inv e sorted lt =
    omega (arith, inv, ap (λ (ks : List Place). length ks) (ready_none rest next p now e sorted lt))

-- For count_until: where there is another entry that is ready, so many aren't counted yet.
pub count_below : (count total : ℕ) (rest next : List (ℕ × Place)) (p : ℕ × Place) (now : ℕ)
    → count + length (ready_in rest now) ≡ total → rest ≡ p ∷ next → p.0 ≤ now → count < total
count_below count total rest next p now inv e le =
    omega (arith, inv, ap (λ (ks : List Place). length ks) (ready_head rest next p now e le))

-- ---- the keys that a tick adds

-- For add_ready: with one key less to come, there is a turn less.
pub turns_left : (xs ys : List Place) (k : Place) (n i : ℕ) → xs ≡ k ∷ ys → length xs + i ≡ n
    → length ys + (i + 1) ≡ n
turns_left xs ys k n i e h = omega (arith, h, ap (λ (ks : List Place). length ks) e)

-- For add_ready: and one place less is needed.
pub places_left : (xs ys : List Place) (k : Place) (room left : ℕ) → xs ≡ k ∷ ys → length xs ≤ room → room ≤ left + 1
    → length ys ≤ left
places_left xs ys k room left e h less = omega (arith, h, less, ap (λ (ks : List Place). length ks) e)

-- For add_ready: there is room for a key that is to come.
pub place_for : (xs ys : List Place) (k : Place) (room : ℕ) → xs ≡ k ∷ ys → length xs ≤ room → 0 < room
place_for xs ys k room e h = omega (arith, h, ap (λ (ks : List Place). length ks) e)

-- For add_ready: after the last turn no key is to come.
pub none_left : (xs : List Place) (n i : ℕ) → length xs + i ≡ n → n ≤ i → xs ≡ []
none_left [] n i h le = refl
none_left (k ∷ xs) n i h le = absurd (omega (arith, h, le))

-- ---- sorted entries

-- For count_until: sorted entries stay sorted without the first of them.
pub rest_sorted : (rest next : List (ℕ × Place)) (p : ℕ × Place) → rest ≡ p ∷ next → IsStrictlySortedBy timed_cmp rest
    → IsStrictlySortedBy timed_cmp next
rest_sorted rest next p e sorted = sorted_tail timed_cmp p next (subst (IsStrictlySortedBy timed_cmp) e sorted)

-- ---- a key that waits

-- Where a result promises P if it is Ok, and Q follows from P, it promises Q if it is Ok.
pub on_ok : {A E : Type 0} (r : Result A E) (P Q : Type 0) → (P → Q) → OnOk r P → OnOk r Q
on_ok (Ok x) P Q f h = f h
on_ok (Err x) P Q f h = h

-- Where a result promises P if it is an error, and Q follows from P, it promises Q if it is one.
pub on_err : {A E : Type 0} (r : Result A E) (P Q : Type 0) → (P → Q) → OnErr r P → OnErr r Q
on_err (Ok x) P Q f h = h
on_err (Err x) P Q f h = f h

-- Where an option promises P of what it has, and Q follows from P, it promises Q.
pub on_some : {A : Type 0} (r : Option A) (P Q : A → Type 0) → ((x : A) → P x → Q x) → IfSome r P → IfSome r Q
on_some None P Q f h = h
on_some (Some x) P Q f h = f x h

-- Where an option promises P if it is None, and Q follows from P, it promises Q if it is None.
pub on_none : {A : Type 0} (r : Option A) (P Q : Type 0) → (P → Q) → IfNone r P → IfNone r Q
on_none None P Q f h = f h
on_none (Some x) P Q f h = h

-- Where the times have a new one at a key and are else the same, the map has it inserted there.
pub set_is : (old new : Times) (k : Place) (at : ℕ) → SetsTime old new k at
    → map.from_entries {R = place_cmp} new ≡ map.insert (map.from_entries old) k at
set_is old new k at sets = inserted places_total places_exact old new k at sets

-- Where the times are the same at each key, they are the same map.
pub same_is : (old new : Times) → SameTimes old new → map.from_entries {R = place_cmp} new
    ≡ map.from_entries old
same_is old new same = same_rows places_total places_exact old new same

-- The map of the times has at a key what a look-up in them finds.
pub get_time : (times : Times) (k : Place) (o : Option ℕ) → time_of times k ≡ o
    → map.get (map.from_entries {R = place_cmp} times) k ≡ o
get_time times k o e = get_rows places_total places_exact times k ∙ e

-- the key is put in with the earlier time
pub waits_at_time : (times : Times) (k : Place) (at time : ℕ) (o : Option ℕ) → time_of times k ≡ o
    → time ≡ earlier o at → waits_for (map.from_entries times) k at
    ≡ map.insert (map.from_entries times) k time
waits_at_time times k at time o e kept = ap (λ t. map.insert (map.from_entries {R = place_cmp} times) k t)
    (ap (λ p. earlier p at) (get_time times k o e) ∙ sym kept)

-- For put_again: to choose v at its key, where v stands there already, changes nothing.
same_pick : (b : Bool) (v : ℕ) (old : Option ℕ) → (b ≡ true → old ≡ Some v) → cond b (Some v) old ≡ old
same_pick true v old f = sym (f refl)
same_pick false v old f = refl

-- Of the three orders only Equal is a tie.
tie_true : (o : Ordering) → is_eq o ≡ true → o ≡ Equal
tie_true Less e = absurd (cc e)
tie_true Equal e = refl
tie_true Greater e = absurd (cc e)

-- what stands at the key may be put in again
pub put_again : (m : Waiting) (k : Place) (v : ℕ) → map.get m k ≡ Some v → map.insert m k v ≡ m
put_again m k v e = alike _ _ (λ q.
    map.get-insert places_total m k v q
    ∙ same_pick (eq_by_cmp place_cmp q k) v (map.get m q)
    (λ t. ap (map.get m) (places_exact q k (tie_true (place_cmp q k) t)) ∙ e))

-- a key that waits for no later time stays
pub waits_on : (times : Times) (k : Place) (at time before : ℕ) → time_of times k ≡ Some before
    → time ≡ earlier (Some before) at → before ≤ time → waits_for (map.from_entries times) k at
    ≡ map.from_entries times
waits_on times k at time before e kept le =
    let same : time ≡ before = omega (arith, kept, le) in
    waits_at_time times k at time (Some before) e kept
    ∙ ap (λ t. map.insert (map.from_entries {R = place_cmp} times) k t) same
    ∙ put_again (map.from_entries times) k before (get_time times k (Some before) e)

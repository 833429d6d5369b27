-- A mirror that is fed from a window, or reset, has the Jobs that as many writes left.
use Rattle.std.proofs.Common.{◌≡◌, ◌≢◌, ◌⊎◌, inl, inr, ℕ, zero, suc, ◌+◌, ◌-◌, ◌≤◌, min, nat_lt, Bool, true, false, cond, ◌&&◌, List, [], ◌∷◌, ◌++◌, length, take, drop, fold, map as map_list, Option, Some, None, Result, Ok, Err, refl, sym, ap, subst, ◌∙◌, arith, length-drop}
use Rattle.std.specs.Prelude.{T, if◌then◌else◌}
use Rattle.std.specs.FinMap as map
use Rattle.std.specs.FinMap.{find, is_sorted}
use Rattle.std.specs.FinMap.Entries.{below_all}
use Rattle.std.specs.Ordering.{eq_by_cmp, is_eq, is_lt}
use Rattle.std.specs.Cmp.{eq_by_cmp_equiv}
use Rattle.std.specs.declared.cmp.Ordering.{Ordering}
use Rattle.std.specs.declared.cmp.Ordering.TheVariants.{Less, Equal, Greater}
use Rattle.std.proofs.Math.Seq.{take-length, take-nil}
use Rattle.std.proofs.lemmas.List.{drop-take, take-append-drop, take_min, length-take}
use Rattle.std.proofs.lemmas.List.Sums.{fold-append}
use Rattle.cj_base.specs.declared.refusal.Refusal.{Refusal}
use Rattle.cj_base.specs.declared.refusal.Refusal.TheVariants.{Expired}
use Rattle.cj_types.specs.Keys.{Place, place_cmp}
use Rattle.cj_types.specs.declared.event.Object.TheVariants as Kind
use Rattle.cj_types.specs.declared.event.Event.{Event}
use Rattle.cj_types.specs.declared.event.Event.TheVariants.{Added, Modified, Deleted}
use Rattle.cj_types.specs.declared.job.Job.{Job}
use Rattle.cj_table.proofs.Apart.{places_apart}
use Rattle.cj_table.proofs.Order.{places_total}
use Rattle.cj_table.proofs.Puts.{alike, one_key}
use Rattle.cj_watch.specs.Numbers.{IsNumbered}
use Rattle.cj_watch.proofs.Logs.{tells_all}
use Rattle.cj_watch.proofs.Numbered.{numbered_drop, numbered_take}
use Rattle.cj_watch.specs.mirror.Lagging.{Jobs, with_job, told, told_all, listed, mirror_of, fed_with, reset_to}
use Rattle.cj_watch.specs.mirror.Laws.{jobs_after, mirror_after, caught_up, MirrorsFollow}

-- ---- each Job stands at its own key

abbrev IsKeyed : Jobs → Type 0
IsKeyed m = (q : Place) (j : Job) → map.get m q ≡ Some j → j.key ≡ q

-- With a Job put at its own key, each Job still stands at its own key.
put_keyed : (m : Jobs) (v : Job) → IsKeyed m → IsKeyed (with_job m v)
put_keyed m v h q j e = by ((places_apart Job).after_put m v.key q v j e)
  where
    by : ((q ≡ v.key) × (v ≡ j)) ⊎ ((q ≢ v.key) × (map.get m q ≡ Some j)) → j.key ≡ q
    by (inl s) = ap (λ (x : Job). x.key) (sym s.1) ∙ sym s.0
    by (inr s) = h q j s.1

-- With a key taken out, each Job still stands at its own key.
removal_keyed : (m : Jobs) (k : Place) → IsKeyed m → IsKeyed (map.remove m k)
removal_keyed m k h q j e = h q j ((places_apart Job).after_removal m k q j e).1

-- After an event each Job still stands at its own key.
told_keyed : (m : Jobs) (e : Event) → IsKeyed m → IsKeyed (told m e)
told_keyed m (Added (Kind.Cron c)) h = h
told_keyed m (Added (Kind.Job j)) h = put_keyed m j h
told_keyed m (Modified (Kind.Cron c)) h = h
told_keyed m (Modified (Kind.Job j)) h = put_keyed m j h
told_keyed m (Deleted (Kind.Cron c)) h = h
told_keyed m (Deleted (Kind.Job j)) h = removal_keyed m j.key h

-- After several events, one after the other, each Job still stands at its own key.
all_keyed : (m : Jobs) (es : List Event) → IsKeyed m → IsKeyed (told_all m es)
all_keyed m [] h = h
all_keyed m (e ∷ es) h = all_keyed (told m e) es (told_keyed m e h)

-- Of the Jobs that events leave from the first write on, each stands at its own key.
after_keyed : (es : List Event) → IsKeyed (jobs_after es)
after_keyed es = all_keyed map.empty es (λ q j e. absurd (cc (sym (map.get-empty place_cmp q) ∙ e)))

-- ---- the list of such Jobs makes them again

-- Where two hold together, the first holds.
first : (a b : Bool) → T (a && b) → T a
first true b p = tt
first false b p = p

-- Where two hold together, the second holds.
second : (a b : Bool) → T (a && b) → T b
second true b p = p
second false b p = absurd p

-- An order that is tested to be less is no tie.
is_less : (o : Ordering) → T (is_lt o) → is_eq o ≡ false
is_less Less t = refl
is_less Equal t = absurd t
is_less Greater t = absurd t

-- A key that is below all rows is found in none of them.
below_none : (q : Place) (es : List (Place × Job)) → T (below_all place_cmp q es) → find place_cmp q es ≡ None
below_none q [] h = refl
below_none q (e ∷ es) h =
    ap (λ b. cond b (Some e.1) (find place_cmp q es)) (is_less (place_cmp q e.0) (first _ _ h))
    ∙ below_none q es (second _ _ h)

-- In each of these rows the Job has the row's key.
AreKeyed : List (Place × Job) → Type 0
AreKeyed [] = Unit {0}
AreKeyed (e ∷ es) = ((e.1).key ≡ e.0) × AreKeyed es

-- What is found can't be missing too.
clash : {A : Type 0} (j : Job) (o : Option Job) → o ≡ Some j → o ≡ None → A
clash j o a b = absurd (cc (sym a ∙ b))

-- A key that is found in later rows isn't the key of the first row.
other : (e : Place × Job) (es : List (Place × Job)) (q : Place) (j : Job) (b : Bool) → eq_by_cmp place_cmp q e.0 ≡ b
    → find place_cmp e.0 es ≡ None → find place_cmp q es ≡ Some j → b ≡ false
other e es q j true t none h = clash j (find place_cmp q es) h
    (ap (λ (k : Place). find place_cmp k es) (one_key q e.0 t) ∙ none)
other e es q j false t none h = refl

-- In sorted rows each Job has its row's key, where each that is found at a key has that key.
rows_keyed : (es : List (Place × Job)) → T (is_sorted place_cmp es)
    → ((q : Place) (j : Job) → find place_cmp q es ≡ Some j → j.key ≡ q) → AreKeyed es
unfolding AreKeyed
rows_keyed [] s h = tt
rows_keyed (e ∷ es) s h = (
  h e.0 e.1 (ap (λ b. cond b (Some e.1) (find place_cmp e.0 es)) ((eq_by_cmp_equiv places_total).refl e.0)),
  rows_keyed es (second _ _ s) (λ q j f. h q j (ap (λ b. cond b (Some e.1) (find place_cmp q es))
      (other e es q j (eq_by_cmp place_cmp q e.0) refl (below_none e.0 es (first _ _ s)) f) ∙ f)),
)

-- The list of the rows' Jobs makes Jobs that have at each key what the rows have there.
listed_rows : (es : List (Place × Job)) → AreKeyed es → (q : Place) → map.get (listed (map_list (λ e. e.1) es)) q
    ≡ find place_cmp q es
unfolding AreKeyed
listed_rows [] h q = map.get-empty place_cmp q
listed_rows (e ∷ es) h q =
    map.get-insert places_total (listed (map_list (λ e. e.1) es)) (e.1).key e.1 q
    ∙ ap (λ (k : Place). cond (eq_by_cmp place_cmp q k) (Some e.1) (map.get (listed (map_list (λ e. e.1) es)) q)) h.0
    ∙ ap (cond (eq_by_cmp place_cmp q e.0) (Some e.1)) (listed_rows es h.1 q)

-- The list of Jobs that each stand at their own key makes the same Jobs again.
listed_again : (m : Jobs) → IsKeyed m → listed (map.values m) ≡ m
listed_again m h =
    let keyed = rows_keyed (map.entries m) (map.entries_sorted m) (λ q j e. h q j (map.get-entries m q ∙ e)) in
    alike _ _ (λ q. listed_rows (map.entries m) keyed q ∙ sym (map.get-entries m q))

-- ---- parts of the events

-- The first n of the first n and more are the first n.
take_first : {X : Type 0} (n m : ℕ) (xs : List X) → take n (take (n + m) xs) ≡ take n xs
take_first zero m xs = refl
take_first (suc n) m [] = ap (take (suc n)) (take-nil (suc n + m)) ∙ refl
take_first (suc n) m (x ∷ xs) = let e : suc n + m ≡ suc (n + m)
    = omega arith in ap (λ k. take (suc n) (take k (x ∷ xs))) e ∙ ap (λ (ys : List _). x ∷ ys) (take_first n m xs)

-- The first n and the m after them are together the first n and m, as far as there are so many.
take_two : {X : Type 0} (xs : List X) (n m : ℕ) → take n xs ++ take m (drop n xs) ≡ take (min (length xs) (n + m)) xs
take_two xs n m =
    let same : min (length xs) (n + m) ≡ min (n + m) (length xs) = omega arith in
    ap (λ ys. ys ++ take m (drop n xs)) (sym (take_first n m xs)) ∙ ap (λ ys. take n (take (n + m) xs) ++ ys)
    (sym (drop-take n m xs))
    ∙ take-append-drop n (take (n + m) xs) ∙ sym (take_min (n + m) xs) ∙ ap (λ k. take k xs) (sym same)

-- ---- the whole

-- The mirror of the first n events that is fed the next m is that of the first n and m.
told_further : (es : List Event) (n m : ℕ) → n ≤ length es → fed_with (mirror_after es n) (take m (drop n es))
    ≡ mirror_after es (min (length es) (n + m))
told_further es n m h =
    let count : n + length (take m (drop n es)) ≡ min (length es) (n + m) =
    omega (arith, h, length-take m (drop n es), length-drop n es) in
    ap (λ (j : Jobs). mirror_of j (n + length (take m (drop n es))))
    (sym (fold-append told map.empty (take n es) (take m (drop n es))) ∙ ap (fold told map.empty) (take_two es n m))
    ∙ ap (mirror_of (jobs_after (take (min (length es) (n + m)) es))) count

-- A mirror that is reset to the Jobs that all events leave is the mirror of all events.
again : (es : List Event) → reset_to (map.values (jobs_after es)) (length es) ≡ mirror_after es (length es)
again es = ap (λ (j : Jobs). mirror_of j (length es)) (listed_again (jobs_after es) (after_keyed es)
    ∙ ap jobs_after (sym (take-length es)))

-- For mirrors_follow: reset where events are gone, else fed, it is the mirror of next_fed writes.
by_test : (es : List Event) (w n m : ℕ) (b : Bool) → n ≤ length es
    → caught_up (mirror_after es n) (if b then Err (Expired (length es - w)) else Ok (take m (drop n es)))
    (map.values (jobs_after es)) (length es)
    ≡ mirror_after es (if b then length es else min (length es) (n + m))
by_test es w n m true h = again es
by_test es w n m false h = told_further es n m h

-- For mirrors_follow: the versions of events that are told follow on the n that were fed.
is_told : (es : List Event) (w n m : ℕ) (b : Bool) (told : List Event) → IsNumbered 0 es
    → (if b then Err (Expired (length es - w)) else Ok (take m (drop n es))) ≡ Ok told → IsNumbered n told
is_told es w n m true told h e = absurd (cc e)
is_told es w n m false told h e =
    let same : take m (drop n es) ≡ told = cc e in
    subst (λ (xs : List Event). IsNumbered n xs) same
    (numbered_take n m (drop n es) (subst (λ k. IsNumbered k (drop n es)) (omega arith) (numbered_drop 0 n es h)))

-- For mirror_laws: fed or reset, a mirror has the Jobs that as many writes left.
pub mirrors_follow : MirrorsFollow
mirrors_follow w es n m h le = record {
  follows = ap (λ (r : Result (List Event) Refusal). caught_up (mirror_after es n) r (map.values (jobs_after es))
      (length es)) (tells_all w es n m h)
      ∙ by_test es w n m (nat_lt (n + w) (length es)) le;
  next = λ told e. is_told es w n m (nat_lt (n + w) (length es)) told h (sym (tells_all w es n m h) ∙ e);
}

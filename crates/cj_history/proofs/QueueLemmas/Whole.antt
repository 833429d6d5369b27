-- What a call leaves of the queue is what the operations with its operation say.
use Rattle.std.proofs.Common.{◌≡◌, ℕ, ◌+◌, ◌*◌, ◌^◌, ◌<◌, ◌≤◌, ◌==◌, inl, Bool, true, false, cond, not, ◌&&◌, ◌||◌, List, [], ◌∷◌, length, Option, Some, None, is_some, refl, sym, ap, ◌∙◌, subst, arith}
use Rattle.std.specs.Prelude.{min, max, nat_le, unwrap_or}
use Rattle.std.proofs.Math.Pow.{pow_mono}
use Rattle.std.proofs.lemmas.Bool.{cond_both}
use Rattle.std.proofs.lemmas.Bool.Decides.{nat_tests}
use Rattle.std.specs.FinMap.{FinMap, get, insert, remove, get-empty}
use Rattle.cj_types.specs.Keys.{Place, place_cmp}
use Rattle.cj_queue.specs.Parts.{key_eq, stands_in}
use Rattle.cj_queue.specs.Times.{ready, waits_for}
use Rattle.cj_queue.specs.Queue.{new_queue, Queue, first, row_add, ended, added_after, added_where, forgotten, failures_of, delay, with_row, with_waiting}
use Rattle.cj_queue.proofs.Sets.{eq_true, eq_self, eq_turned, get_put, get_off}
use Rattle.cj_state.specs.WorkerCalls.{next_ms}
use Rattle.cj_history.specs.queue.Deeds.{Deed, adds, ticks, takes, ends, fails, shuts, nothing, Operation}
use Rattle.cj_history.specs.queue.LookBacks.{is_take, is_by, is_shut, marks, counts, later_in, is_within, waits_in, adds_in, time_of, time_in, holder, dirty, queued, since, shut, mark, failures, ready_at}
use Rattle.cj_history.specs.queue.Laws.{IsQueue}
use Rattle.cj_history.specs.queue.Calls.{called, sits}
use Rattle.cj_history.proofs.QueueLemmas.Turns.{May}
use Rattle.cj_history.proofs.QueueLemmas.Rows.{on, off, line_by, ranked, row_same, row_add_is, row_adds_is, row_take_is, rises_alike, itself}
use Rattle.cj_history.proofs.QueueLemmas.Readies.{members, rises, get_without}
use Rattle.cj_history.proofs.QueueLemmas.Holders.{holds, holder_after, MayTake, tie_step, free}
use Rattle.cj_history.proofs.QueueLemmas.Steps.{Part, end_part}

abbrev held_by : (Place → Option ℕ) → Place → Bool
held_by O k = is_some (O k)

abbrev late_by : Deed → ℕ → (Place → Option ℕ) → (Place → ℕ) → Place → Option ℕ
late_by d v O F k = later_in d (is_by (O k) v) (F k)

abbrev dirty_after : Deed → ℕ → (Place → Bool) → (Place → Option ℕ) → (Place → ℕ) → (Place → Option ℕ) → ℕ → Bool
    → Place → Bool
dirty_after d v D O F W m s k = (not s && adds_in d k m (late_by d v O F k) (W k)) || (not (is_take d k) && D k)

abbrev held_after : Deed → ℕ → (Place → Option ℕ) → Place → Bool
held_after d v O k = is_some (holder_after d v k (O k))

abbrev rank_in : Deed → ℕ → (Place → Option ℕ) → Place → ℕ × ℕ
rank_in d n W k = (n, time_in d (W k))

abbrev since_after : Deed → ℕ → ℕ → (Place → Bool) → (Place → Option ℕ) → (Place → ℕ × ℕ) → (Place → ℕ)
    → (Place → Option ℕ) → ℕ → Bool → Place → ℕ × ℕ
since_after d v n D O R F W m s k = ranked (line_by D (held_by O) k)
    (line_by (dirty_after d v D O F W m s) (held_after d v O) k) (rank_in d n W k) (R k)

abbrev waits_after : Deed → ℕ → (Place → Option ℕ) → (Place → ℕ) → (Place → Option ℕ) → ℕ → Bool → Place → Option ℕ
waits_after d v O F W m s k = waits_in d s m (late_by d v O F k) (W k)

abbrev After : Deed → ℕ → ℕ → (Place → Bool) → (Place → Option ℕ) → (Place → ℕ × ℕ) → (Place → ℕ) → (Place → Option ℕ)
    → ℕ → Bool → Queue → Type 0
After d v n D O R F W m s q = Part (dirty_after d v D O F W m s) (held_after d v O) (since_after d v n D O R F W m s)
    (waits_after d v O F W m s) (marks d m) (is_shut d || s) q

-- ---- the first of the line

-- A line with a first key is that key and those behind it.
pub first_is : (l : List Place) (j : Place) → first l ≡ Some j → (ys : List Place) × (l ≡ j ∷ ys)
first_is [] j e = absurd (cc e)
first_is (x ∷ ys) j e = (ys, ap (λ k. k ∷ ys) (let i : x ≡ j = cc in i))

-- ---- one entry

-- An end that went well adds its key again at the next time of its CronJob, if there is one.
later_ends : (x : Option ℕ) (b : Bool) (f : ℕ) → later_in (ends x) b f ≡ cond b (next_ms x) None
later_ends None true f = refl
later_ends None false f = refl
later_ends (Some t) true f = refl
later_ends (Some t) false f = refl

-- An end of a sync that is to be tried again adds its key again after the delay of its failures.
later_fails : (now : ℕ) (b : Bool) (f : ℕ) → later_in (fails now) b f ≡ cond b (Some (now + delay f)) None
later_fails now true f = refl
later_fails now false f = refl

-- After an end a key is held just where it was and is not the one that the end frees.
gone : (b : Bool) (o : Option ℕ) → is_some (cond b None o) ≡ (not b && is_some o)
gone true o = refl
gone false o = refl

-- After a take a key is held just where it was or is the taken one.
took : (b : Bool) (v : ℕ) (o : Option ℕ) → is_some (cond b (Some v) o) ≡ (b || is_some o)
took true v o = refl
took false v o = refl

-- A key that is held by a given caller is held.
some_by : (o : Option ℕ) (v : ℕ) → is_by o v ≡ true → is_some o ≡ true
some_by None v e = e
some_by (Some u) v e = refl

-- The delay of failures counted to 18 is the delay of all of them.
delay_min : (f : ℕ) → delay (min f 18) ≡ delay f
delay_min f = by (nat_le f 18) refl
  where
    by : (b : Bool) → nat_le f 18 ≡ b → delay (min f 18) ≡ delay f
    by true e = let le : f ≤ 18 = grind (arith, nat_tests, e) in ap delay (omega (arith, le))
    by false e =
        let gt : 18 ≤ f = grind (arith, nat_tests, e) in
        let same : min f 18 ≡ 18 = omega (arith, gt) in
        let big : 2 ^ 18 ≤ 2 ^ f = pow_mono gt in
        let lots : 1000000 ≤ 5 * 2 ^ f = omega (arith, big) in
        let all : min (5 * 2 ^ f) 1000000 ≡ 1000000 = omega (arith, lots) in
        ap delay same ∙ sym all

-- Two delayed adds of one key are the same where their times for that key are.
same_at : (b : Bool) (x y : Option ℕ) → (b ≡ true → x ≡ y) → cond b x None ≡ cond b y None
same_at true x y f = f refl
same_at false x y f = refl

-- A key that waits for nothing waits for nothing after a tick.
none_within : (o : Option ℕ) (n : ℕ) → o ≡ None → cond (is_within o n) None o ≡ o
none_within o n e = ap (λ x. cond (is_within x n) None x) e ∙ sym e

-- What a deed's call leaves of all but the failures is what the look-backs say after the deed.
pub step : (d : Deed) (v n : ℕ) (D : Place → Bool) (O : Place → Option ℕ) (R : Place → ℕ × ℕ) (F : Place → ℕ) (W : Place
    → Option ℕ) (m : ℕ) (s : Bool) (t : Option Place) (q : Queue)
    → ((k : Place) → (R k).0 < n) → ((k : Place) → s ≡ true → W k ≡ None) → ((k : Place) → is_by (O k) v ≡ holds t k)
    → May d t q.row.line
    → ((k : Place) → failures_of q k ≡ min (F k) 18)
    → Part D (held_by O) R W m s q → After d v n D O R F W m s (called d t q)
step (adds j) v n D O R F W m true t q low quiet tie fit fs is =
    subst (After (adds j) v n D O R F W m true) (sym (on q.shut q _ is.shut)) (record {
      row = row_same D (held_by O) (dirty_after (adds j) v D O F W m true) (held_after (adds j) v O) R
          (since_after (adds j) v n D O R F W m true) (rank_in (adds j) n W)
          (λ k. refl) q.row q.row is.row refl is.row.dirty is.row.held (λ k. refl);
      waits = is.waits;
      tick = is.tick;
      shut = is.shut;
    })
step (adds j) v n D O R F W m false t q low quiet tie fit fs is =
    subst (After (adds j) v n D O R F W m false) (sym (off q.shut q _ is.shut)) (record {
      row = row_add_is D (held_by O) (dirty_after (adds j) v D O F W m false) R
          (since_after (adds j) v n D O R F W m false) (rank_in (adds j) n W) q.row j (λ k. refl) (λ k. refl)
          (λ k x y. inl (low k)) is.row;
      waits = is.waits;
      tick = is.tick;
      shut = is.shut;
    })
step (ticks ms) v n D O R F W m true t q low quiet tie fit fs is =
    subst (After (ticks ms) v n D O R F W m true) (sym (on q.shut _ _ is.shut)) (record {
      row = row_same D (held_by O) (dirty_after (ticks ms) v D O F W m true) (held_after (ticks ms) v O) R
          (since_after (ticks ms) v n D O R F W m true) (rank_in (ticks ms) n W)
          (λ k. refl) q.row q.row is.row refl is.row.dirty is.row.held (λ k. refl);
      waits = λ k. is.waits k ∙ sym (none_within (W k) ms (quiet k refl));
      tick = ap (λ x. max x ms) is.tick;
      shut = is.shut;
    })
step (ticks ms) v n D O R F W m false t q low quiet tie fit fs is =
    subst (After (ticks ms) v n D O R F W m false) (sym (off q.shut _ _ is.shut)) (record {
      row = row_adds_is (ready q.waiting ms) D (held_by O) (dirty_after (ticks ms) v D O F W m false) R
          (since_after (ticks ms) v n D O R F W m false) (rank_in (ticks ms) n W) q.row
          (λ k. ap (λ b. b || D k) (sym (due k))) (λ k. refl) (λ k x y z. inl (low k))
          (rises_alike (ready q.waiting ms) (λ k. (n, time_of (get q.waiting k))) (rank_in (ticks ms) n W)
          (λ k x. ap (λ o. (n, time_of o)) (sym (is.waits k))) (rises q.waiting ms n))
          is.row;
      waits = λ k. get_without (ready q.waiting ms) q.waiting k ∙ (λ i. cond (due k i) None (is.waits k i));
      tick = ap (λ x. max x ms) is.tick;
      shut = is.shut;
    })
  where
    due : (k : Place) → stands_in (ready q.waiting ms) k ≡ is_within (W k) ms
    due k = members q.waiting ms k ∙ ap (λ o. is_within o ms) (is.waits k)
step (takes j) v n D O R F W m s t q low quiet tie fit fs is =
    let g = first_is q.row.line j fit.1 in
    record {
      row = row_take_is D (held_by O) (dirty_after (takes j) v D O F W m s) (held_after (takes j) v O) R
          (since_after (takes j) v n D O R F W m s) (rank_in (takes j) n W) q.row j g.0 g.1
          (λ k. clean s (not (key_eq k j) && D k)) (λ k. took (key_eq k j) v (O k)) (λ k. refl) is.row;
      waits = λ k. is.waits k ∙ stay s (W k);
      tick = is.tick;
      shut = is.shut;
    }
  where
    clean : (s b : Bool) → ((not s && false) || b) ≡ b
    clean true b = refl
    clean false b = refl

    stay : (s : Bool) (w : Option ℕ) → w ≡ cond s w w
    stay true w = refl
    stay false w = refl
step (ends x) v n D O R F W m s None q low quiet tie fit fs is = absurd (cc (fit.1))
step (ends x) v n D O R F W m s (Some u) q low quiet tie fit fs is =
    end_part D (held_by O) (held_after (ends x) v O) (dirty_after (ends x) v D O F W m s) R
    (since_after (ends x) v n D O R F W m s) (rank_in (ends x) n W) W (waits_after (ends x) v O F W m s)
    (late_by (ends x) v O F) m s
    q (forgotten (ended q u) u) u (next_ms x) is refl refl refl refl
    (some_by (O u) v (tie u ∙ eq_self u))
    (λ k. gone (is_by (O k) v) (O k) ∙ ap (λ b. not b && is_some (O k)) (tie k))
    (λ k. later_ends x (is_by (O k) v) (F k) ∙ ap (λ b. cond b (next_ms x) None) (tie k))
    (λ k. refl) (λ k. refl) (λ k. refl) (λ k z. inl (low k))
step (fails now) v n D O R F W m s None q low quiet tie fit fs is = absurd (cc (fit.1))
step (fails now) v n D O R F W m s (Some u) q low quiet tie fit fs is =
    let at = now + delay (failures_of q u) in
    let p =
    end_part D (held_by O) (held_after (fails now) v O) (dirty_after (fails now) v D O F W m s) R
    (since_after (fails now) v n D O R F W m s) (rank_in (fails now) n W) W (waits_after (fails now) v O F W m s)
    (late_by (fails now) v O F) m s
    q (ended q u) u (Some at) is refl refl refl refl
    (some_by (O u) v (tie u ∙ eq_self u))
    (λ k. gone (is_by (O k) v) (O k) ∙ ap (λ b. not b && is_some (O k)) (tie k))
    (λ k. later_fails now (is_by (O k) v) (F k) ∙ ap (λ b. cond b (Some (now + delay (F k))) None) (tie k)
    ∙ same_at (key_eq k u) (Some (now + delay (F k))) (Some at)
    (λ e. ap (λ f. Some (now + f)) (ap (λ i. delay (F i)) (eq_true k u e) ∙ sym (delay_min (F u))
    ∙ ap delay (sym (fs u)))))
    (λ k. refl) (λ k. refl) (λ k. refl) (λ k z. inl (low k)) in
    record { row = p.row; waits = p.waits; tick = p.tick; shut = p.shut }
step shuts v n D O R F W m s t q low quiet tie fit fs is =
    record {
      row = row_same D (held_by O) (dirty_after shuts v D O F W m s) (held_after shuts v O) R
          (since_after shuts v n D O R F W m s) (rank_in shuts n W) (λ k. refl) q.row q.row is.row refl
          (λ k. is.row.dirty k ∙ sym (still s (D k))) is.row.held
          (λ k. ap (λ b. b && not (is_some (O k))) (still s (D k)));
      waits = λ k. get-empty place_cmp k;
      tick = is.tick;
      shut = refl;
    }
  where
    still : (s b : Bool) → ((not s && false) || b) ≡ b
    still true b = refl
    still false b = refl
step nothing v n D O R F W m s t q low quiet tie fit fs is =
    record {
      row = row_same D (held_by O) (dirty_after nothing v D O F W m s) (held_after nothing v O) R
          (since_after nothing v n D O R F W m s) (rank_in nothing n W) (λ k. refl) q.row q.row is.row refl
          (λ k. is.row.dirty k ∙ sym (still s (D k))) is.row.held
          (λ k. ap (λ b. b && not (is_some (O k))) (still s (D k)));
      waits = λ k. is.waits k ∙ stay s (W k);
      tick = is.tick;
      shut = is.shut;
    }
  where
    still : (s b : Bool) → ((not s && false) || b) ≡ b
    still true b = refl
    still false b = refl

    stay : (s : Bool) (w : Option ℕ) → w ≡ cond s w w
    stay true w = refl
    stay false w = refl

-- ---- failures

-- Where three queues have a queue's failures, so has the one of them that is chosen.
same_failures : (a b : Bool) (q x y z : Queue) → x.failures ≡ q.failures → y.failures ≡ q.failures
    → z.failures ≡ q.failures → (cond a x (cond b y z)).failures ≡ q.failures
same_failures true b q x y z e f g = e
same_failures false true q x y z e f g = f
same_failures false false q x y z e f g = g

-- A delayed add leaves the failures as they are.
after_failures : (q : Queue) (u : Place) (at : ℕ) → (added_after q u at).failures ≡ q.failures
after_failures q u at = same_failures q.shut (nat_le at q.tick) q q (with_row q (row_add q.row u))
    (with_waiting q (waits_for q.waiting u at)) refl refl refl

-- A delayed add that there may be or not leaves the failures as they are.
where_failures : (q : Queue) (u : Place) (at : Option ℕ) → (added_where q u at).failures ≡ q.failures
where_failures q u None = refl
where_failures q u (Some at) = after_failures q u at

-- Where two queues have a queue's failures, so has the one of them that is chosen.
one_of : (a : Bool) (q x y : Queue) → x.failures ≡ q.failures → y.failures ≡ q.failures
    → (cond a x y).failures ≡ q.failures
one_of true q x y e f = e
one_of false q x y e f = f

-- With a key's count removed, that key has no failures, and each other key those of before.
removed_failures : (m : FinMap place_cmp ℕ) (u k : Place) → unwrap_or (get (remove m u) k) 0
    ≡ cond (key_eq k u) 0 (unwrap_or (get m k) 0)
removed_failures m u k = ap (λ o. unwrap_or o 0) (get_off m u k ∙ ap (λ b. cond b None (get m k)) (eq_turned u k))
    ∙ over (key_eq k u)
  where
    over : (b : Bool) → unwrap_or (cond b None (get m k)) 0 ≡ cond b 0 (unwrap_or (get m k) 0)
    over true = refl
    over false = refl

-- With a count put for a key, that key has so many failures, and each other key those of before.
put_failures : (m : FinMap place_cmp ℕ) (u k : Place) (f : ℕ) → unwrap_or (get (insert m u f) k) 0
    ≡ cond (key_eq k u) f (unwrap_or (get m k) 0)
put_failures m u k f = ap (λ o. unwrap_or o 0) (get_put m u f k ∙ ap (λ b. cond b (Some f) (get m k)) (eq_turned u k))
    ∙ over (key_eq k u)
  where
    over : (b : Bool) → unwrap_or (cond b (Some f) (get m k)) 0 ≡ cond b f (unwrap_or (get m k) 0)
    over true = refl
    over false = refl

-- For failures_step, an end that went well: its key counts from 0 again, the others as before.
count_ok : (x : Option ℕ) (b : Bool) (f g : ℕ) → g ≡ min f 18 → cond b 0 g ≡ min (counts (ends x) b f) 18
count_ok x true f g e = refl
count_ok x false f g e = e

-- For failures_step, a sync to be tried again: its key has one failure more, counted to 18.
count_retry : (now : ℕ) (b : Bool) (f g a : ℕ) → g ≡ min f 18 → (b ≡ true → a ≡ min f 18)
    → cond b (min (a + 1) 18) g ≡ min (counts (fails now) b f) 18
count_retry now true f g a e h = let i : a ≡ min f 18 = h refl in omega (arith, i)
count_retry now false f g a e h = e

-- What a deed's call leaves of each key's failures is their count after the deed, counted to 18.
pub failures_step : (d : Deed) (v : ℕ) (O : Place → Option ℕ) (F : Place → ℕ) (t : Option Place) (q : Queue)
    → ((k : Place) → is_by (O k) v ≡ holds t k) → ((k : Place) → failures_of q k ≡ min (F k) 18)
    → (k : Place) → failures_of (called d t q) k ≡ min (counts d (is_by (O k) v) (F k)) 18
failures_step (adds j) v O F t q tie fs k = ap (λ m. unwrap_or (get m k) 0)
    (one_of q.shut q q (with_row q (row_add q.row j)) refl refl) ∙ fs k
failures_step (ticks ms) v O F t q tie fs k = ap (λ m. unwrap_or (get m k) 0) (one_of q.shut q _ _ refl refl) ∙ fs k
failures_step (takes j) v O F t q tie fs k = fs k
failures_step (ends x) v O F None q tie fs k = count_ok x false (F k) (failures_of q k) (fs k)
    ∙ ap (λ b. min (counts (ends x) b (F k)) 18) (sym (tie k))
failures_step (ends x) v O F (Some u) q tie fs k =
    ap (λ m. unwrap_or (get m k) 0) (where_failures (forgotten (ended q u) u) u (next_ms x))
    ∙ removed_failures q.failures u k ∙ count_ok x (key_eq k u) (F k) (failures_of q k) (fs k)
    ∙ ap (λ b. min (counts (ends x) b (F k)) 18) (sym (tie k))
failures_step (fails now) v O F None q tie fs k = count_retry now false (F k) (failures_of q k) 0 (fs k) (λ e. cc (e))
    ∙ ap (λ b. min (counts (fails now) b (F k)) 18) (sym (tie k))
failures_step (fails now) v O F (Some u) q tie fs k =
    let at = now + delay (failures_of q u) in
    let same = after_failures (ended q u) u at in
    (λ i. unwrap_or (get (insert (same i) u (min (unwrap_or (get (same i) u) 0 + 1) 18)) k) 0)
    ∙ put_failures q.failures u k (min (failures_of q u + 1) 18)
    ∙ count_retry now (key_eq k u) (F k) (failures_of q k) (failures_of q u) (fs k)
    (λ e. fs u ∙ ap (λ j. min (F j) 18) (sym (eq_true k u e)))
    ∙ ap (λ b. min (counts (fails now) b (F k)) 18) (sym (tie k))
failures_step shuts v O F t q tie fs k = fs k
failures_step nothing v O F t q tie fs k = fs k

-- ---- every history

-- The place of the operation by which a key became queued is at most the number of operations.
since_low : (h : List Operation) (k : Place) → (since h k).0 < length h + 1
since_low [] k = omega arith
since_low (a ∷ h) k =
    cond_both (queued (a ∷ h) k && not (queued h k)) (length (a ∷ h), time_in a.deed (ready_at h k)) (since h k)
    (λ x. x.0 < length (a ∷ h) + 1) (λ b. omega arith) (λ b. let p = since_low h k in omega arith)

-- The place of the operation by which a key became queued is below that of the next operation.
next_low : (h : List Operation) (a : Operation) (k : Place) → (since h k).0 < length (a ∷ h)
next_low h a k = let p = since_low h k in omega arith

-- For quiet: one operation after the shutdown, or the shutdown itself, leaves nothing that waits.
quiet_step : (d : Deed) (s : Bool) (m : ℕ) (at w : Option ℕ) → (s ≡ true → w ≡ None) → (is_shut d || s) ≡ true
    → waits_in d s m at w ≡ None
quiet_step (adds j) true m at w f e = f refl
quiet_step (adds j) false m at w f e = cc (e)
quiet_step (ticks ms) true m at w f e = none_within w ms (f refl) ∙ f refl
quiet_step (ticks ms) false m at w f e = cc (e)
quiet_step (takes j) true m at w f e = f refl
quiet_step (takes j) false m at w f e = cc (e)
quiet_step (ends x) true m at w f e = f refl
quiet_step (ends x) false m at w f e = cc (e)
quiet_step (fails x) true m at w f e = f refl
quiet_step (fails x) false m at w f e = cc (e)
quiet_step shuts s m at w f e = refl
quiet_step nothing true m at w f e = f refl
quiet_step nothing false m at w f e = cc (e)

-- After a shutdown no key waits for any time.
quiet : (h : List Operation) (k : Place) → shut h ≡ true → ready_at h k ≡ None
quiet [] k e = refl
quiet (a ∷ h) k e = quiet_step a.deed (shut h) (mark h) (later_in a.deed (is_by (holder h k) a.by) (failures h k))
    (ready_at h k) (quiet h k) e

pub record Stands (h : List Operation) (keys : ℕ → Option Place) (q : Queue) : Type 0 where
  pub part : Part (dirty h) (held_by (holder h)) (since h) (ready_at h) (mark h) (shut h) q
  pub failed : (k : Place) → failures_of q k ≡ min (failures h k) 18
  pub tied : (k : Place) (w : ℕ) → is_by (holder h k) w ≡ holds (keys w) k

-- With no operations, the new queue agrees with them, and nobody holds a key.
pub stands_nothing : Stands [] (λ w. None) new_queue
stands_nothing = record {
  part = record {
    row = record {
      dirty = λ k. ap is_some (get-empty place_cmp k);
      held = λ k. ap is_some (get-empty place_cmp k);
      members = λ k. refl;
      order = tt;
    };
    waits = λ k. get-empty place_cmp k;
    tick = refl;
    shut = refl;
  };
  failed = λ k. ap (λ o. unwrap_or o 0) (get-empty place_cmp k);
  tied = λ k w. refl;
}

-- A queue that agrees with the operations and with the holders of keys is what the operations say.
pub is_queue : (h : List Operation) (keys : ℕ → Option Place) (q : Queue) → Stands h keys q → IsQueue h q
is_queue h keys q s = record {
  line = record { members = s.part.row.members; order = s.part.row.order };
  dirty = s.part.row.dirty;
  held = s.part.row.held;
  waits = s.part.waits;
  failed = s.failed;
  tick = s.part.tick;
  shut = s.part.shut;
}

-- one operation more
may_take : (d : Deed) (t : Option Place) (h : List Operation) (keys : ℕ → Option Place) (q : Queue) → Stands h keys q
    → May d t q.row.line → MayTake d t (holder h)
may_take (takes j) t h keys q f may =
    (may.0, (let g = first_is q.row.line j may.1 in free (dirty h j) (holder h j) (sym (f.part.row.members j) ∙ ap (λ l. stands_in l j) g.1 ∙ itself j g.0)))
may_take (ends n) t h keys q f may = tt
may_take (fails n) t h keys q f may = tt
may_take (adds j) t h keys q f may = tt
may_take (ticks n) t h keys q f may = tt
may_take shuts t h keys q f may = tt
may_take nothing t h keys q f may = tt

-- Where a queue agrees with the operations before, the call of the next operation keeps it so.
pub one_more : (h : List Operation) (v : ℕ) (d : Deed) (keys after : ℕ → Option Place) (q : Queue)
    → ((w : ℕ) → after w ≡ cond (v == w) (sits d (keys w)) (keys w))
    → May d (keys v) q.row.line → Stands h keys q → Stands (record { by = v; deed = d } ∷ h) after (called d (keys v) q)
one_more h v d keys after q next may f = record {
  part = step d v (length (record { by = v; deed = d } ∷ h)) (dirty h) (holder h) (since h) (failures h) (ready_at h)
      (mark h) (shut h) (keys v) q
      (next_low h (record { by = v; deed = d })) (quiet h) (λ k. f.tied k v) may f.failed f.part;
  failed = failures_step d v (holder h) (failures h) (keys v) q (λ k. f.tied k v) f.failed;
  tied = λ k w. tie_step d v w k (holder h) keys f.tied (may_take d (keys v) h keys q f may)
      ∙ ap (λ o. holds o k) (sym (next w));
}

-- What one entry makes of the queue, and that the look-backs say the same.
use Rattle.std.proofs.Common.{◌≡◌, ℕ, Bool, true, false, cond, not, ◌&&◌, ◌||◌, Option, Some, None, refl, sym, ap, ◌∙◌, subst}
use Rattle.std.specs.Prelude.{nat_le}
use Rattle.std.specs.FinMap.{get}
use Rattle.cj_types.specs.Keys.{Place}
use Rattle.cj_queue.specs.Parts.{key_eq}
use Rattle.cj_queue.specs.Times.{waits_for, earlier}
use Rattle.cj_queue.specs.Queue.{Queue, row_add, row_end, added_where, with_row, with_waiting}
use Rattle.cj_queue.proofs.Sets.{eq_true}
use Rattle.cj_history.specs.queue.LookBacks.{Before, is_within, waits_more}
use Rattle.cj_history.proofs.QueueLemmas.Rows.{on, off, RowIs, line_by, ranked, row_same, row_add_is, row_end_is}
use Rattle.cj_history.proofs.QueueLemmas.Readies.{get_waits}

-- all but the failures
pub record Part (D H : Place → Bool) (R : Place → ℕ × ℕ) (W : Place → Option ℕ) (m : ℕ) (s : Bool) (q : Queue) : Type 0
  where
    pub row : RowIs D H R q.row
    pub waits : (k : Place) → get q.waiting k ≡ W k
    pub tick : q.tick ≡ m
    pub shut : q.shut ≡ s

-- ---- a delayed add

-- Where there is no delayed add, no key is due by one.
no_time : (b : Bool) (m : ℕ) → is_within (cond b None None) m ≡ false
no_time true m = refl
no_time false m = refl

-- A delayed add of one key is due for that key alone, and where its time is not above the moment.
within_at : (b : Bool) (a m : ℕ) → is_within (cond b (Some a) None) m ≡ (b && nat_le a m)
within_at true a m = refl
within_at false a m = refl

-- A value joined by and with what is true stays as it is.
and_true : (b c : Bool) → c ≡ true → (b && c) ≡ b
and_true true true e = refl
and_true true false e = cc (e)
and_true false c e = refl

-- A value joined by and with what is false is false.
and_false : (b c : Bool) → c ≡ false → (b && c) ≡ false
and_false true true e = cc (e)
and_false true false e = refl
and_false false c e = refl

-- Where there is no delayed add, each key waits as before.
no_wait : (b : Bool) (m : ℕ) (w : Option ℕ) → waits_more (cond b None None) m w ≡ w
no_wait true m w = refl
no_wait false m w = refl

-- A delayed add that is due at once leaves what each key waits for as it is.
wait_at_once : (b : Bool) (a m : ℕ) (w : Option ℕ) → nat_le a m ≡ true → waits_more (cond b (Some a) None) m w ≡ w
wait_at_once true a m w e = on (nat_le a m) w (Some (earlier w a)) e
wait_at_once false a m w e = refl

-- A delayed add that is not due lets its key, and no other, wait for the earlier of its times.
wait_longer : (b : Bool) (a m : ℕ) (w : Option ℕ) → nat_le a m ≡ false → waits_more (cond b (Some a) None) m w
    ≡ cond b (Some (earlier w a)) w
wait_longer true a m w e = off (nat_le a m) w (Some (earlier w a)) e
wait_longer false a m w e = refl

-- A key that stands in the line now just where it did before keeps its rank.
same_rank : (a : Bool) (n s : ℕ × ℕ) → s ≡ ranked a a n s
same_rank true n s = refl
same_rank false n s = refl

-- In the queue q at the moment m, shut if s is true, D are dirty, H held, R ranks and W waits. The
-- delayed adds L, which are of u at at, leave E dirty, the ranks S (N of new keys) and the waits V.
module _ (D H E : Place → Bool) (R S N : Place → ℕ × ℕ) (W V L : Place → Option ℕ) (m : ℕ) (s : Bool) (q : Queue)
    (u : Place) (at : Option ℕ)
    (is : Part D H R W m s q)
    (late : (k : Place) → L k ≡ cond (key_eq k u) at None)
    (more : (k : Place) → E k ≡ ((not s && is_within (L k) m) || D k))
    (ranks : (k : Place) → S k ≡ ranked (line_by D H k) (line_by E H k) (N k) (R k))
    (wait : (k : Place) → V k ≡ cond s (W k) (waits_more (L k) m (W k)))
    (fresh : (k : Place) → line_by D H k ≡ true → D u ≡ false → Before (R k) k (N u) u) where
  -- nothing changes
  idle : ((k : Place) → E k ≡ D k) → ((k : Place) → V k ≡ W k) → Part E H S V m s q
  idle same waits = record {
    row = row_same D H E H R S N ranks q.row q.row is.row refl (λ k. is.row.dirty k ∙ sym (same k)) is.row.held
        (λ k. ap (λ b. b && not (H k)) (same k));
    waits = λ k. is.waits k ∙ sym (waits k);
    tick = is.tick;
    shut = is.shut;
  }

  -- Where u becomes dirty and no wait changes, what is left is the queue with u added at once.
  at_once : ((k : Place) → E k ≡ (key_eq k u || D k)) → ((k : Place) → V k ≡ W k)
      → Part E H S V m s (with_row q (row_add q.row u))
  at_once same waits = record {
    row = row_add_is D H E R S N q.row u same ranks fresh is.row;
    waits = λ k. is.waits k ∙ sym (waits k);
    tick = is.tick;
    shut = is.shut;
  }

  -- Where no key becomes dirty and u is to wait, what is left is q with u waiting for a at most.
  in_time : (a : ℕ) → ((k : Place) → E k ≡ D k) → ((k : Place) → V k ≡ cond (key_eq k u) (Some (earlier (W k) a)) (W k))
      → Part E H S V m s (with_waiting q (waits_for q.waiting u a))
  in_time a same waits = record {
    row = (idle_row).row;
    waits = λ k. get_waits q.waiting u a k ∙ ap (λ o. cond (key_eq k u) (Some (earlier o a)) o) (is.waits k)
        ∙ sym (waits k);
    tick = is.tick;
    shut = is.shut;
  }
    where
      idle_row : Part E H S W m s q
      idle_row = record {
        row = row_same D H E H R S N ranks q.row q.row is.row refl (λ k. is.row.dirty k ∙ sym (same k)) is.row.held
            (λ k. ap (λ b. b && not (H k)) (same k));
        waits = is.waits;
        tick = is.tick;
        shut = is.shut;
      }

-- What a delayed add of a key, if there is one, leaves of the queue, all but the failures.
pub add_part : (D H E : Place → Bool) (R S N : Place → ℕ × ℕ) (W V L : Place
    → Option ℕ) (m : ℕ) (s : Bool) (q : Queue) (u : Place) (at : Option ℕ)
    → Part D H R W m s q
    → ((k : Place) → L k ≡ cond (key_eq k u) at None)
    → ((k : Place) → E k ≡ ((not s && is_within (L k) m) || D k))
    → ((k : Place) → S k ≡ ranked (line_by D H k) (line_by E H k) (N k) (R k))
    → ((k : Place) → V k ≡ cond s (W k) (waits_more (L k) m (W k)))
    → ((k : Place) → line_by D H k ≡ true → D u ≡ false → Before (R k) k (N u) u)
    → Part E H S V m s (added_where q u at)
add_part D H E R S N W V L m true q u None is late more ranks wait fresh =
    idle D H E R S N W V L m true q u None is late more ranks wait fresh more wait
add_part D H E R S N W V L m true q u (Some a) is late more ranks wait fresh =
    subst (Part E H S V m true) (sym (on q.shut q _ is.shut))
    (idle D H E R S N W V L m true q u (Some a) is late more ranks wait fresh more wait)
add_part D H E R S N W V L m false q u None is late more ranks wait fresh =
    idle D H E R S N W V L m false q u None is late more ranks wait fresh
    (λ k. more k ∙ ap (λ b. b || D k) (ap (λ o. is_within o m) (late k) ∙ no_time (key_eq k u) m))
    (λ k. wait k ∙ ap (λ o. waits_more o m (W k)) (late k) ∙ no_wait (key_eq k u) m (W k))
add_part D H E R S N W V L m false q u (Some a) is late more ranks wait fresh =
    subst (Part E H S V m false) (sym (off q.shut q _ is.shut)) (by (nat_le a m) refl)
  where
    by : (b : Bool) → nat_le a m ≡ b → Part E H S V m false
        (cond (nat_le a q.tick) (with_row q (row_add q.row u)) (with_waiting q (waits_for q.waiting u a)))
    by true e =
        subst (Part E H S V m false) (sym (on (nat_le a q.tick) _ _ (ap (nat_le a) is.tick ∙ e)))
        (at_once D H E R S N W V L m false q u (Some a) is late more ranks wait fresh
        (λ k. more k ∙ ap (λ b. b || D k) (ap (λ o. is_within o m) (late k) ∙ within_at (key_eq k u) a m
        ∙ and_true (key_eq k u) (nat_le a m) e))
        (λ k. wait k ∙ ap (λ o. waits_more o m (W k)) (late k) ∙ wait_at_once (key_eq k u) a m (W k) e))
    by false e =
        subst (Part E H S V m false) (sym (off (nat_le a q.tick) _ _ (ap (nat_le a) is.tick ∙ e)))
        (in_time D H E R S N W V L m false q u (Some a) is late more ranks wait fresh a
        (λ k. more k ∙ ap (λ b. b || D k) (ap (λ o. is_within o m) (late k) ∙ within_at (key_eq k u) a m
        ∙ and_false (key_eq k u) (nat_le a m) e))
        (λ k. wait k ∙ ap (λ o. waits_more o m (W k)) (late k) ∙ wait_longer (key_eq k u) a m (W k) e))

-- ---- the end of the work on a key, and then a delayed add of it

-- For end_part: the ranks after the end of the work and then the add are those after both at once.
ranks_end : (d e h g : Bool) (n s : ℕ × ℕ) → (d ≡ true → e ≡ true) → (g ≡ true → h ≡ true)
    → ranked (d && not h) (e && not g) n s ≡ ranked (d && not g) (e && not g) n (ranked (d && not h) (d && not g) n s)
ranks_end true true true true n s p q = refl
ranks_end true true true false n s p q = refl
ranks_end true true false true n s p q = cc (q refl)
ranks_end true true false false n s p q = refl
ranks_end true false h g n s p q = cc (p refl)
ranks_end false true true true n s p q = refl
ranks_end false true true false n s p q = refl
ranks_end false true false true n s p q = cc (q refl)
ranks_end false true false false n s p q = refl
ranks_end false false h g n s p q = refl

-- A key that is held after another's end was held before it.
still : (t h : Bool) → (not t && h) ≡ true → h ≡ true
still true h e = cc (e)
still false h e = e

-- An or is true where its right side is.
or_right : (a b : Bool) → b ≡ true → (a || b) ≡ true
or_right true b e = refl
or_right false b e = e

-- What the end of the work on a key, then a delayed add of it, leaves of all but the failures.
pub end_part : (D H G E : Place → Bool) (R S N : Place → ℕ × ℕ) (W V L : Place → Option ℕ) (m : ℕ) (s : Bool)
    (q p : Queue) (u : Place) (at : Option ℕ)
    → Part D H R W m s q → p.row ≡ row_end q.row u → p.waiting ≡ q.waiting → p.tick ≡ q.tick → p.shut ≡ q.shut
    → H u ≡ true → ((k : Place) → G k ≡ (not (key_eq k u) && H k))
    → ((k : Place) → L k ≡ cond (key_eq k u) at None)
    → ((k : Place) → E k ≡ ((not s && is_within (L k) m) || D k))
    → ((k : Place) → S k ≡ ranked (line_by D H k) (line_by E G k) (N k) (R k))
    → ((k : Place) → V k ≡ cond s (W k) (waits_more (L k) m (W k)))
    → ((k : Place) → line_by D H k ≡ true → Before (R k) k (N u) u)
    → Part E G S V m s (added_where p u at)
end_part D H G E R S N W V L m s q p u at is row_is waits_is tick_is shut_is held less late more ranks wait fresh =
    add_part D G E Q S N W V L m s p u at
    (record {
      row = subst (RowIs D G Q) (sym row_is) (row_end_is D H G R Q N q.row u held less (λ k. refl) fresh is.row);
      waits = λ k. ap (λ w. get w k) waits_is ∙ is.waits k;
      tick = tick_is ∙ is.tick;
      shut = shut_is ∙ is.shut;
    })
    late more
    (λ k. ranks k ∙ ranks_end (D k) (E k) (H k) (G k) (N k) (R k) (λ d. more k
    ∙ or_right (not s && is_within (L k) m) (D k) d) (λ g. still (key_eq k u) (H k) (sym (less k) ∙ g)))
    wait
    (λ k queued clean. subst (λ r. Before r k (N u) u) (sym (old k queued clean)) (fresh k (was k queued clean)))
  where
    Q : Place → ℕ × ℕ
    Q k = ranked (line_by D H k) (line_by D G k) (N k) (R k)

    was_by : (t d h g : Bool) → g ≡ (not t && h) → (t ≡ true → d ≡ false) → (d && not g) ≡ true → (d && not h) ≡ true
    was_by true true h g e f i = cc (f refl)
    was_by true false h g e f i = i
    was_by false d h g e f i = ap (λ b. d && not b) (sym e) ∙ i

    was : (k : Place) → line_by D G k ≡ true → D u ≡ false → line_by D H k ≡ true
    was k queued clean = was_by (key_eq k u) (D k) (H k) (G k) (less k) (λ t. ap D (eq_true k u t) ∙ clean) queued

    keeps : (a b : Bool) (n s : ℕ × ℕ) → a ≡ true → ranked a b n s ≡ s
    keeps true true n s e = refl
    keeps true false n s e = refl
    keeps false b n s e = cc (e)

    old : (k : Place) → line_by D G k ≡ true → D u ≡ false → Q k ≡ R k
    old k queued clean = keeps (line_by D H k) (line_by D G k) (N k) (R k) (was k queued clean)

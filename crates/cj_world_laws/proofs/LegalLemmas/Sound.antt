-- What every state of a history keeps.
use Rattle.std.proofs.Common.{◌≡◌, ◌≢◌, ◌⊎◌, inl, inr, ⊎_elim, ℕ, ◌+◌, ◌≤◌, Bool, true, false, cond, List, [], ◌∷◌, length, refl, sym, ap, subst, ◌∙◌, arith}
use Rattle.std.specs.Prelude.{Option, Some, None}
use Rattle.std.specs.Ordering.{nat_cmp, eq_by_cmp}
use Rattle.std.specs.Cmp.{nat_cmp_total, eq_by_cmp_equiv}
use Rattle.std.specs.FinMap as map
use Rattle.std.proofs.lemmas.Bool.Decides.{nat_tests}
use Rattle.cj_types.specs.Keys.{Place}
use Rattle.cj_types.specs.declared.event.Event.{Event}
use Rattle.cj_types.specs.declared.event.Event.TheVariants.{Added, Modified, Deleted}
use Rattle.cj_types.specs.declared.event.Object.TheVariants as Kind
use Rattle.cj_store.specs.Content.{Content}
use Rattle.cj_store.specs.Change.{after}
use Rattle.cj_queue.specs.Queue.{Keys, has, Row, row_add, row_end}
use Rattle.cj_calls.specs.Rows.{Told}
use Rattle.cj_state.specs.declared.phases.sync.Phase.{Phase}
use Rattle.cj_state.specs.declared.phases.sync.Phase.TheVariants.{Held}
use Rattle.cj_state.specs.declared.phases.sync.InFlight.{InFlight}
use Rattle.cj_state.specs.declared.state.State.{State}
use Rattle.cj_state.specs.Sound.{IsSound}
use Rattle.cj_state.specs.Legal.{state_of}
use Rattle.cj_world_laws.proofs.LegalLemmas.Shapes.{Shape, same, sat, wrote_it, took, left_it, stored, listed, queued, shape}
use Rattle.cj_world_laws.proofs.LegalLemmas.Follows.{Follows, told_of, follows_start, follows_shape}
use Rattle.cj_world_laws.proofs.LegalLemmas.Rows.{RowOk, put_has, put_keeps, removal_other, add_ok, adds_ok, end_ok, take_ok, add_works, adds_works, take_works, first_free}

-- ---- syncs by number

-- Numbers that the order's test takes for equal are equal.
one_number : (q k : ℕ) → eq_by_cmp nat_cmp q k ≡ true → q ≡ k
one_number q k e = grind (arith, nat_tests)

-- For put_sync: by the test of the numbers, a sync is the one put or the one there before.
put_case : (t : Bool) (q k : ℕ) (v : InFlight) (old : Option InFlight) → (t ≡ true → q ≡ k)
    → ((q ≡ k) × (cond t (Some v) old ≡ Some v)) ⊎ (cond t (Some v) old ≡ old)
put_case true q k v old h = inl (h refl, refl)
put_case false q k v old h = inr refl

-- For removal_sync: by the test of the numbers, a sync is gone or the one there before.
removal_case : (t : Bool) (q k : ℕ) (old : Option InFlight) → (t ≡ true → q ≡ k)
    → ((q ≡ k) × (cond t None old ≡ None)) ⊎ (cond t None old ≡ old)
removal_case true q k old h = inl (h refl, refl)
removal_case false q k old h = inr refl

module _ (m : map.FinMap nat_cmp InFlight) (k : ℕ) where
  -- After a sync is put at a number, a number is that one and has the sync, or has what it had.
  put_sync : (v : InFlight) (q : ℕ) → ((q ≡ k) × (map.get (map.insert m k v) q ≡ Some v))
      ⊎ (map.get (map.insert m k v) q ≡ map.get m q)
  put_sync v q = rw (map.get-insert nat_cmp_total m k v q)
      (put_case (eq_by_cmp nat_cmp q k) q k v (map.get m q) (one_number q k))

  -- After a sync is removed, a number is the one it was at and has none, or has what it had.
  removal_sync : (q : ℕ) → ((q ≡ k) × (map.get (map.remove m k) q ≡ None)) ⊎ (map.get (map.remove m k) q ≡ map.get m q)
  removal_sync q = rw (map.get-remove nat_cmp_total m k q)
      (removal_case (eq_by_cmp nat_cmp q k) q k (map.get m q) (one_number q k))

-- Two values that equal options have are equal.
the_same : {X : Type 0} (a b : X) (o p : Option X) → o ≡ Some a → p ≡ Some b → o ≡ p → a ≡ b
the_same a b o p e f g = cc

-- ---- who works on what: each sync's key is worked on, and no two syncs have one key
pub record Sat (m : map.FinMap nat_cmp InFlight) (works : Keys) : Type 0 where
  pub held : (w : ℕ) (a : InFlight) → map.get m w ≡ Some a → has works a.key ≡ true
  pub single : (v w : ℕ) (a b : InFlight) → map.get m v ≡ Some a → map.get m w ≡ Some b → a.key ≡ b.key → v ≡ w

-- each sync of the one has a sync of the other under its number, with its key
abbrev Within : map.FinMap nat_cmp InFlight → map.FinMap nat_cmp InFlight → Type 0
Within m n = (w : ℕ) (a : InFlight) → map.get n w ≡ Some a → (b : InFlight) × (map.get m w ≡ Some b) × (a.key ≡ b.key)

-- Where each sync has its number and key from syncs as Sat says, the syncs are as Sat says too.
within_sat : (m n : map.FinMap nat_cmp InFlight) (works : Keys) → Within m n → Sat m works → Sat n works
within_sat m n works h s = record {
  held = λ w a e. let f = h w a e in ap (has works) f.2 ∙ s.held w f.0 f.1;
  single = λ v w a b e f k. let g = h v a e in let i = h w b f in s.single v w g.0 i.0 g.1 i.1 (sym g.2 ∙ k ∙ i.2);
}

-- A sync with another phase has its number and key still, and the other syncs stay.
again : (m : map.FinMap nat_cmp InFlight) (w : ℕ) (sync : InFlight) (p : Phase) → map.get m w ≡ Some sync
    → Within m (map.insert m w (record { key = sync.key; phase = p }))
again m w sync p at v a e =
    ⊎_elim
    (λ (i : (v ≡ w) × (map.get (map.insert m w (record { key = sync.key; phase = p })) v
    ≡ Some (record { key = sync.key; phase = p }))).
    (sync, ap (map.get m) i.0 ∙ at, ap (λ x. x.key) (the_same a (record { key = sync.key; phase = p }) _ _ e i.1 refl)))
    (λ (i : map.get (map.insert m w (record { key = sync.key; phase = p })) v ≡ map.get m v). (a, sym i ∙ e, refl))
    (put_sync m w (record { key = sync.key; phase = p }) v)

-- With another phase of a sync, each key held is still worked on, and held by one worker.
sat_again : (m : map.FinMap nat_cmp InFlight) (works : Keys) (w : ℕ) (sync : InFlight) (p : Phase) → map.get m w
    ≡ Some sync
    → Sat m works → Sat (map.insert m w (record { key = sync.key; phase = p })) works
sat_again m works w sync p at s = within_sat m _ works (again m w sync p at) s

-- a take
module _ (m : map.FinMap nat_cmp InFlight) (works : Keys) (w : ℕ) (k : Place) (free : has works k ≡ false)
    (s : Sat m works) where
  -- The syncs after the take.
  New : map.FinMap nat_cmp InFlight
  New = map.insert m w (record { key = k; phase = Held })

  abbrev Is : ℕ → InFlight → Type 0
  Is v a = ((v ≡ w) × (a.key ≡ k)) ⊎ (map.get m v ≡ Some a)

  -- After the take each sync is the taker's, with the key taken, or was there before.
  who : (v : ℕ) (a : InFlight) → map.get (map.insert m w (record { key = k; phase = Held })) v ≡ Some a → Is v a
  who v a e =
      ⊎_elim
      (λ (i : (v ≡ w) × (map.get (map.insert m w (record { key = k; phase = Held })) v
      ≡ Some (record { key = k; phase = Held }))).
      inl (i.0, ap (λ x. x.key) (the_same a (record { key = k; phase = Held }) _ _ e i.1 refl)))
      (λ (i : map.get (map.insert m w (record { key = k; phase = Held })) v ≡ map.get m v). inr (sym i ∙ e))
      (put_sync m w (record { key = k; phase = Held }) v)

  -- For sat_take: each such sync's key is worked on, with the key taken among those worked on.
  held_new : (v : ℕ) (a : InFlight) → Is v a → has (map.insert works k tt) a.key ≡ true
  held_new v a (inl i) = ap (has (map.insert works k tt)) i.1 ∙ put_has works k
  held_new v a (inr i) = put_keeps works k a.key (s.held v a i)

  -- For sat_take: no two such syncs have one key, as nobody worked on the key taken.
  single_new : (u v : ℕ) (a b : InFlight) → Is u a → Is v b → a.key ≡ b.key → u ≡ v
  single_new u v a b (inl i) (inl j) e = i.0 ∙ sym j.0
  single_new u v a b (inl i) (inr j) e = absurd (cc (s.held v b j, free, ap (has works) (sym e ∙ i.1)))
  single_new u v a b (inr i) (inl j) e = absurd (cc (s.held u a i, free, ap (has works) (e ∙ j.1)))
  single_new u v a b (inr i) (inr j) e = s.single u v a b i j e

  -- After a take of a free key each key held is worked on, and held by one worker.
  sat_take : Sat (map.insert m w (record { key = k; phase = Held })) (map.insert works k tt)
  sat_take = record {
    held = λ v a e. held_new v a (who v a e);
    single = λ u v a b e f i. single_new u v a b (who u a e) (who v b f) i;
  }

-- an end
module _ (m : map.FinMap nat_cmp InFlight) (works : Keys) (w : ℕ) (sync : InFlight) (at : map.get m w ≡ Some sync)
    (s : Sat m works) where
  -- After the end its worker has no sync.
  none_left : map.get (map.remove m w) w ≡ None
  none_left = map.get-remove nat_cmp_total m w w ∙ ap (λ t. cond t None (map.get m w))
      ((eq_by_cmp_equiv nat_cmp_total).refl w)

  -- Each sync that is there after the end was there before.
  stays : (v : ℕ) (a : InFlight) → map.get (map.remove m w) v ≡ Some a → map.get m v ≡ Some a
  stays v a e =
      ⊎_elim
      (λ (i : (v ≡ w) × (map.get (map.remove m w) v ≡ None)). absurd (cc (e, i.1)))
      (λ (i : map.get (map.remove m w) v ≡ map.get m v). sym i ∙ e)
      (removal_sync m w v)

  -- Each sync that is there after the end has another key than the one that was left.
  other : (v : ℕ) (a : InFlight) → map.get (map.remove m w) v ≡ Some a → a.key ≢ sync.key
  other v a e j =
      let n : v ≡ w = s.single v w a sync (stays v a e) at j in
      let o : map.get (map.remove m w) v ≡ None = ap (map.get (map.remove m w)) n ∙ none_left in
      cc (e, o)

  -- After the end each key held is worked on, and held by one worker.
  sat_end : Sat (map.remove m w) (map.remove works sync.key)
  sat_end = record {
    held = λ v a e. removal_other works sync.key a.key (other v a e) ∙ s.held v a (stays v a e);
    single = λ u v a b e f i. s.single u v a b (stays u a e) (stays v b f) i;
  }

-- ---- the whole state
pub record Whole (s : State) : Type 0 where
  pub counted : s.watch.count ≡ s.store.version
  pub row : RowOk s.queue.row
  pub sat : Sat s.syncs s.queue.row.processing

-- A write adds one to the store's version.
after_version : (s : Content) (e : Event) → (after s e).version ≡ s.version + 1
after_version s (Added (Kind.Cron c)) = refl
after_version s (Added (Kind.Job j)) = refl
after_version s (Modified (Kind.Cron c)) = refl
after_version s (Modified (Kind.Job j)) = refl
after_version s (Deleted (Kind.Cron c)) = refl
after_version s (Deleted (Kind.Job j)) = refl

-- The end of the work on a key, with an add of it or none, keeps the row ok.
end_row : (r : Row) (k : Place) (p : Row) → has r.processing k ≡ true → RowOk r
    → (p ≡ row_end r k) ⊎ (p ≡ row_add (row_end r k) k) → RowOk p
end_row r k p h ok (inl i) = subst RowOk (sym i) (end_ok r k h ok)
end_row r k p h ok (inr i) = subst RowOk (sym i) (add_ok (row_end r k) k (end_ok r k h ok))

-- The end of the work on a key, with an add of it or none, takes it from those worked on.
end_works : (r : Row) (k : Place) (p : Row) → (p ≡ row_end r k) ⊎ (p ≡ row_add (row_end r k) k)
    → p.processing ≡ map.remove r.processing k
end_works r k p (inl i) = ap (λ x. x.processing) i
end_works r k p (inr i) = ap (λ x. x.processing) i ∙ add_works (row_end r k) k

-- A call of any shape keeps what Whole says: the watch's count, the row and who works on what.
pub whole_shape : (s s' : State) (w : ℕ) → Whole s → Shape s w s' → Whole s'
whole_shape s s' w h (same e) = subst Whole (sym e) h
whole_shape s s' w h (sat sync p at e) = subst Whole (sym e) (record {
  counted = h.counted;
  row = h.row;
  sat = sat_again s.syncs s.queue.row.processing w sync p at h.sat;
})
whole_shape s s' w h (wrote_it sync p ev at n e) = subst Whole (sym e) (record {
  counted = ap (λ n. n + 1) h.counted ∙ sym (after_version s.store ev);
  row = h.row;
  sat = sat_again s.syncs s.queue.row.processing w sync p at h.sat;
})
whole_shape s s' w h (took k n f e) = subst Whole (sym e) (record {
  counted = h.counted;
  row = take_ok s.queue.row h.row;
  sat = subst (λ (x : Keys). Sat (map.insert s.syncs w (record { key = k; phase = Held })) x)
      (sym (take_works s.queue.row k f))
      (sat_take s.syncs s.queue.row.processing w k (first_free s.queue.row k h.row f) h.sat);
})
whole_shape s s' w h (left_it sync q at ends e) = subst Whole (sym e) (record {
  counted = h.counted;
  row = end_row s.queue.row sync.key q.row (h.sat.held w sync at) h.row ends;
  sat = subst (λ (x : Keys). Sat (map.remove s.syncs w) x) (sym (end_works s.queue.row sync.key q.row ends))
      (sat_end s.syncs s.queue.row.processing w sync at h.sat);
})
whole_shape s s' w h (stored ev n e) = subst Whole (sym e) (record {
  counted = ap (λ n. n + 1) h.counted ∙ sym (after_version s.store ev);
  row = h.row;
  sat = h.sat;
})
whole_shape s s' w h (listed max e) = subst Whole (sym e) (record { counted = h.counted; row = h.row; sat = h.sat })
whole_shape s s' w h (queued q ks i e) = subst Whole (sym e) (record {
  counted = h.counted;
  row = subst RowOk (sym i) (adds_ok s.queue.row ks h.row);
  sat = subst (λ (x : Keys). Sat s.syncs x) (sym (ap (λ (r : Row). r.processing) i ∙ adds_works s.queue.row ks)) h.sat;
})

-- A call of any shape adds at most one to the store's version.
pub more_by_one : (s s' : State) (w : ℕ) → Shape s w s' → s'.store.version ≤ s.store.version + 1
more_by_one s s' w (same e) = let i = ap (λ (x : State). x.store.version) e in omega arith
more_by_one s s' w (sat sync p at e) = let i = ap (λ (x : State). x.store.version) e in omega arith
more_by_one s s' w (wrote_it sync p ev at n e) =
    let i = ap (λ (x : State). x.store.version) e ∙ after_version s.store ev in omega arith
more_by_one s s' w (took k n f e) = let i = ap (λ (x : State). x.store.version) e in omega arith
more_by_one s s' w (left_it sync q at ends e) = let i = ap (λ (x : State). x.store.version) e in omega arith
more_by_one s s' w (stored ev n e) =
    let i = ap (λ (x : State). x.store.version) e ∙ after_version s.store ev in omega arith
more_by_one s s' w (listed max e) = let i = ap (λ (x : State). x.store.version) e in omega arith
more_by_one s s' w (queued q ks i e) = let j = ap (λ (x : State). x.store.version) e in omega arith

-- A call of any shape leaves the watch's window as it is.
pub same_window : (s s' : State) (w : ℕ) → Shape s w s' → s'.watch.window ≡ s.watch.window
same_window s s' w (same e) = ap (λ (x : State). x.watch.window) e
same_window s s' w (sat sync p at e) = ap (λ (x : State). x.watch.window) e
same_window s s' w (wrote_it sync p ev at n e) = ap (λ (x : State). x.watch.window) e
same_window s s' w (took k n f e) = ap (λ (x : State). x.watch.window) e
same_window s s' w (left_it sync q at ends e) = ap (λ (x : State). x.watch.window) e
same_window s s' w (stored ev n e) = ap (λ (x : State). x.watch.window) e
same_window s s' w (listed max e) = ap (λ (x : State). x.watch.window) e
same_window s s' w (queued q ks i e) = ap (λ (x : State). x.watch.window) e

-- ---- histories

-- Among no syncs no worker has one.
no_sync : (w : ℕ) (a : InFlight) → map.get {R = nat_cmp} map.empty w ≡ Some a → ⊥
no_sync w a e = let n = map.get-empty {X = InFlight} nat_cmp w in cc (e, n)

-- After any history the state is as Whole says.
pub whole_of : (window : ℕ) (h : List Told) → Whole (state_of window h)
whole_of window [] = record {
  counted = refl;
  row = record { free = tt; wanted = tt; once = tt };
  sat = record { held = λ w a e. absurd (no_sync w a e); single = λ v w a b e f i. absurd (no_sync v a e) };
}
whole_of window (e ∷ h) = whole_shape _ _ e.caller.number (whole_of window h)
    (shape (state_of window h) e.caller e.call)

-- After any history some list of events has led to what is stored, watched and listed.
pub followed : (window : ℕ) (h : List Told) → Follows window (state_of window h)
followed window [] = follows_start window
followed window (e ∷ h) = follows_shape window _ _ e.caller.number (followed window h)
    (shape (state_of window h) e.caller e.call)

-- For sound_law: the state that any history leaves is sound.
pub sound_of : (window : ℕ) (h : List Told) → IsSound (state_of window h)
sound_of window h =
    let w = whole_of window h in
    record { counted = w.counted; follows = told_of window _ (followed window h); held = w.sat.held }

-- For sound_law: the store's version is at most the count of the history's entries.
pub version_of_history : (window : ℕ) (h : List Told) → (state_of window h).store.version ≤ length h
version_of_history window [] = omega arith
version_of_history window (e ∷ h) =
    let i = version_of_history window h in
    let j = more_by_one _ _ e.caller.number (shape (state_of window h) e.caller e.call) in
    omega arith

-- For sound_law: after any history the watch has the window that it began with.
pub window_of : (window : ℕ) (h : List Told) → (state_of window h).watch.window ≡ window
window_of window [] = refl
window_of window (e ∷ h) = same_window _ _ e.caller.number (shape (state_of window h) e.caller e.call)
    ∙ window_of window h

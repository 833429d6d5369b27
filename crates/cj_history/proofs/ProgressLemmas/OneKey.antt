-- Where no other key is added or taken, the one that is added is the first of the line.
use Rattle.std.proofs.Common.{◌≡◌, ℕ, Bool, true, false, cond, not, ◌&&◌, ◌||◌, List, [], ◌∷◌, Option, Some, None, is_some, refl, sym, ap, ◌∙◌}
use Rattle.cj_types.specs.Keys.{Place}
use Rattle.cj_queue.specs.Parts.{key_eq, stands_in}
use Rattle.cj_queue.specs.Queue.{Queue, first}
use Rattle.cj_queue.proofs.Sets.{eq_true, eq_self}
use Rattle.cj_history.specs.queue.Deeds.{Deed, adds, ticks, takes, ends, fails, shuts, nothing, Operation}
use Rattle.cj_history.specs.queue.LookBacks.{is_take, is_finish, is_by, is_shut, adds_in, later_in, waits_in, holder, dirty, queued, shut, mark, failures, ready_at}
use Rattle.cj_history.specs.queue.Laws.{IsQueue}
use Rattle.cj_history.proofs.QueueLemmas.Rows.{itself}

-- what is done adds or takes no other key, and is no tick, no retry and no shutdown
abbrev pub IsOfKey : Place → Deed → Type 0
IsOfKey k (adds j) = j ≡ k
IsOfKey k (takes j) = j ≡ k
IsOfKey k (ends n) = Unit {0}
IsOfKey k nothing = Unit {0}
IsOfKey k d = ⊥

-- the queue isn't shut; and nobody holds another key, none is dirty, and none waits
pub record IsAlone (h : List Operation) (k : Place) : Type 0 where
  pub runs : shut h ≡ false
  pub free : (j : Place) → key_eq j k ≡ false → holder h j ≡ None
  pub clean : (j : Place) → key_eq j k ≡ false → dirty h j ≡ false
  pub none : (j : Place) → key_eq j k ≡ false → ready_at h j ≡ None

-- For alone_with: it is no shutdown.
no_shut : (k : Place) (d : Deed) → IsOfKey k d → is_shut d ≡ false
no_shut k (adds j) o = refl
no_shut k (takes j) o = refl
no_shut k (ends n) o = refl
no_shut k nothing o = refl
no_shut k (ticks n) o = absurd o
no_shut k (fails n) o = absurd o
no_shut k shuts o = absurd o

-- For alone_with: nobody takes another key by it.
none_takes : (k j : Place) (d : Deed) (v : ℕ) → IsOfKey k d → key_eq j k ≡ false
    → cond (is_take d j) (Some v) (cond (is_finish d && is_by None v) None None) ≡ None
none_takes k j (adds i) v o e = refl
none_takes k j (takes i) v o e = ap (λ (b : Bool). cond b (Some v) None) (ap (key_eq j) o ∙ e)
none_takes k j (ends n) v o e = refl
none_takes k j nothing v o e = refl
none_takes k j (ticks n) v o e = absurd o
none_takes k j (fails n) v o e = absurd o
none_takes k j shuts v o e = absurd o

-- For alone_with: another key isn't added by it.
none_added : (k j : Place) (d : Deed) (m f : ℕ) → IsOfKey k d → key_eq j k ≡ false
    → (adds_in d j m (later_in d false f) None || (not (is_take d j) && false)) ≡ false
none_added k j (adds i) m f o e = ap (λ (b : Bool). b || false) (ap (key_eq j) o ∙ e)
none_added k j (takes i) m f o e = ap (λ (b : Bool). not b && false) (ap (key_eq j) o ∙ e)
none_added k j (ends None) m f o e = refl
none_added k j (ends (Some t)) m f o e = refl
none_added k j nothing m f o e = refl
none_added k j (ticks n) m f o e = absurd o
none_added k j (fails n) m f o e = absurd o
none_added k j shuts m f o e = absurd o

-- For alone_with: another key doesn't wait after it.
none_waits : (k : Place) (d : Deed) (m f : ℕ) → IsOfKey k d → waits_in d false m (later_in d false f) None ≡ None
none_waits k (adds i) m f o = refl
none_waits k (takes i) m f o = refl
none_waits k (ends None) m f o = refl
none_waits k (ends (Some t)) m f o = refl
none_waits k nothing m f o = refl
none_waits k (ticks n) m f o = absurd o
none_waits k (fails n) m f o = absurd o
none_waits k shuts m f o = absurd o

-- An operation of the key after those that are, of which no other key is held, dirty or waits.
module _ (h : List Operation) (a : Operation) (k : Place) (o : IsOfKey k a.deed) (x : IsAlone h k) where
  -- when another key is added again by the end of its sync
  abbrev late : Place → Option ℕ
  late j = later_in a.deed (is_by (holder h j) a.by) (failures h j)

  -- Nobody holds another key after it.
  still_free : (j : Place) → key_eq j k ≡ false → holder (a ∷ h) j ≡ None
  still_free j e =
      ap (λ (w : Option ℕ). cond (is_take a.deed j) (Some a.by) (cond (is_finish a.deed && is_by w a.by) None w))
      (x.free j e)
      ∙ none_takes k j a.deed a.by o e

  -- None is dirty.
  still_clean : (j : Place) → key_eq j k ≡ false → dirty (a ∷ h) j ≡ false
  still_clean j e =
      let rest : Bool = not (is_take a.deed j) && dirty h j in
      let m : ℕ = mark h in
      let f : ℕ = failures h j in
      ap (λ (b : Bool). (not b && adds_in a.deed j m (late j) (ready_at h j)) || rest) x.runs
      ∙ ap (λ (w : Option ℕ). adds_in a.deed j m (later_in a.deed (is_by w a.by) f) (ready_at h j) || rest) (x.free j e)
      ∙ ap (λ (w : Option ℕ). adds_in a.deed j m (later_in a.deed false f) w || rest) (x.none j e)
      ∙ ap (λ (b : Bool). adds_in a.deed j m (later_in a.deed false f) None || (not (is_take a.deed j) && b))
      (x.clean j e)
      ∙ none_added k j a.deed m f o e

  -- None waits.
  still_none : (j : Place) → key_eq j k ≡ false → ready_at (a ∷ h) j ≡ None
  still_none j e =
      let m : ℕ = mark h in
      let f : ℕ = failures h j in
      ap (λ (b : Bool). waits_in a.deed b m (late j) (ready_at h j)) x.runs
      ∙ ap (λ (w : Option ℕ). waits_in a.deed false m (later_in a.deed (is_by w a.by) f) (ready_at h j)) (x.free j e)
      ∙ ap (λ (w : Option ℕ). waits_in a.deed false m (later_in a.deed false f) w) (x.none j e)
      ∙ none_waits k a.deed m f o

  -- So it is still.
  pub alone_with : IsAlone (a ∷ h) k
  alone_with = record {
    runs = ap (λ (b : Bool). b || shut h) (no_shut k a.deed o) ∙ x.runs;
    free = still_free;
    clean = still_clean;
    none = still_none;
  }

-- Before any operation it is so.
pub alone_first : (k : Place) → IsAlone [] k
alone_first k = record { runs = refl; free = λ j e. refl; clean = λ j e. refl; none = λ j e. refl }

-- A key that is added by its name, where nobody holds it, is the first of the line then.
pub first_is : (h : List Operation) (v : ℕ) (k : Place) (q : Queue) → IsAlone h k → holder h k ≡ None
    → IsQueue (record { by = v; deed = adds k } ∷ h) q
    → first q.row.line ≡ Some k
first_is h v k q x free is = by q.row.line is.line.members
  where
    now : List Operation
    now = record { by = v; deed = adds k } ∷ h

    alone : IsAlone now k
    alone = alone_with h (record { by = v; deed = adds k }) k refl x

    stands : queued now k ≡ true
    stands =
        ap (λ (b : Bool). ((not b && key_eq k k) || (true && dirty h k)) && not (is_some (holder h k))) x.runs
        ∙ ap (λ (b : Bool). (b || (true && dirty h k)) && not (is_some (holder h k))) (eq_self k)
        ∙ ap (λ (o : Option ℕ). not (is_some o)) free

    by : (xs : List Place) → ((j : Place) → stands_in xs j ≡ queued now j) → first xs ≡ Some k
    by [] m = let f : ◌≡◌ {A = Bool} false true = m k ∙ stands in absurd (cc f)
    by (y ∷ ys) m = here (key_eq y k) refl
      where
        here : (b : Bool) → key_eq y k ≡ b → first (y ∷ ys) ≡ Some k
        here true e = ap (λ (j : Place). Some j) (eq_true y k e)
        here false e =
            let f : ◌≡◌ {A = Bool} true false = sym (itself y ys)
            ∙ (m y ∙ ap (λ (b : Bool). b && not (is_some (holder now y))) (alone.clean y e)) in
            absurd (cc f)

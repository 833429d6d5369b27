-- What each change leaves of a row, by key: over any tests of what is dirty and held, and any ranks.
use Rattle.std.proofs.Common.{◌≡◌, ℕ, inl, inr, Bool, true, false, cond, not, ◌&&◌, ◌||◌, List, [], ◌∷◌, ◌++◌, Some, None, is_some, refl, sym, ap, ◌∙◌, subst, arith}
use Rattle.std.specs.FinMap.{get, insert, remove}
use Rattle.std.specs.declared.cmp.Ordering.{Ordering}
use Rattle.std.specs.declared.cmp.Ordering.TheVariants.{Less, Equal, Greater}
use Rattle.std.specs.Ordering.{is_eq}
use Rattle.cj_types.specs.Keys.{Place, place_cmp}
use Rattle.cj_queue.specs.Parts.{key_eq, stands_in}
use Rattle.cj_queue.specs.Queue.{Keys, Row, has, row_add, row_adds, row_end, row_take, take_in}
use Rattle.cj_queue.proofs.Sets.{eq_is, eq_true, eq_self, eq_turned, get_put, get_off}
use Rattle.cj_history.specs.queue.LookBacks.{Before, RisesBy}

-- ---- truth values

-- A choice by what is false is the second of the two.
pub off : {A : Type 0} (b : Bool) (x y : A) → b ≡ false → cond b x y ≡ y
off true x y e = cc (e)
off false x y e = refl

-- A choice by what is true is the first of the two.
pub on : {A : Type 0} (b : Bool) (x y : A) → b ≡ true → cond b x y ≡ x
on true x y e = refl
on false x y e = cc (e)

-- What follows from each of two follows where one of the two is true.
pub either : (a b : Bool) (P : Type 0) → (a || b) ≡ true → (a ≡ true → P) → (b ≡ true → P) → P
either true b P e f g = f refl
either false b P e f g = g e

-- Three values joined by or: it makes no difference which two are joined first.
or_assoc : (a b c : Bool) → (a || (b || c)) ≡ ((a || b) || c)
or_assoc true b c = refl
or_assoc false b c = refl

-- A value joined by or with false stays as it is.
or_false : (b : Bool) → (b || false) ≡ b
or_false true = refl
or_false false = refl

-- An or is true where its right side is.
or_right : (a b : Bool) → b ≡ true → (a || b) ≡ true
or_right true b e = refl
or_right false b e = e

-- The two sides of an or may change places.
or_turned : (a b : Bool) → (a || b) ≡ (b || a)
or_turned true true = refl
or_turned true false = refl
or_turned false true = refl
or_turned false false = refl

-- A function of a choice is the choice between what the function makes of the two.
over : {A B : Type 0} (f : A → B) (b : Bool) (x y : A) → f (cond b x y) ≡ cond b (f x) (f y)
over f true x y = refl
over f false x y = refl

-- ---- sets

-- With a key put in, a set has that key and those that it had.
pub has_put : (s : Keys) (j k : Place) → has (insert s j tt) k ≡ (key_eq k j || has s k)
has_put s j k = ap is_some (get_put s j tt k) ∙ over is_some (key_eq j k) (Some tt) (get s k)
    ∙ ap (λ b. cond b true (has s k)) (eq_turned j k) ∙ or_is (key_eq k j) (has s k)
  where
    or_is : (t b : Bool) → cond t true b ≡ (t || b)
    or_is true b = refl
    or_is false b = refl

-- With a key taken out, a set has those that it had but for that key.
pub has_off : (s : Keys) (j k : Place) → has (remove s j) k ≡ (not (key_eq k j) && has s k)
has_off s j k = ap is_some (get_off s j k) ∙ over is_some (key_eq j k) None (get s k)
    ∙ ap (λ b. cond b false (has s k)) (eq_turned j k) ∙ and_is (key_eq k j) (has s k)
  where
    and_is : (t b : Bool) → cond t false b ≡ (not t && b)
    and_is true b = refl
    and_is false b = refl

-- ---- lists

-- The first key of a list stands in the list.
pub itself : (x : Place) (xs : List Place) → stands_in (x ∷ xs) x ≡ true
itself x xs = ap (λ b. b || stands_in xs x) (eq_self x)

-- A key that stands in the rest of a list stands in the list.
pub further : (x : Place) (xs : List Place) (k : Place) → stands_in xs k ≡ true → stands_in (x ∷ xs) k ≡ true
further x xs k e = or_right (key_eq k x) (stands_in xs k) e

-- With a key put last, a list has that key and those that it had.
pub push_has : (xs : List Place) (j k : Place) → stands_in (xs ++ j ∷ []) k ≡ (stands_in xs k || key_eq k j)
push_has [] j k = or_false (key_eq k j)
push_has (x ∷ xs) j k = ap (λ b. key_eq k x || b) (push_has xs j k) ∙ or_assoc (key_eq k x) (stands_in xs k)
    (key_eq k j)

-- A line that rises by some ranks rises by others too that are the same for its keys.
pub rises_alike : (xs : List Place) (f g : Place → ℕ × ℕ) → ((k : Place) → stands_in xs k ≡ true → g k ≡ f k)
    → RisesBy f xs → RisesBy g xs
rises_alike [] f g e r = tt
rises_alike (x ∷ xs) f g e r = (
  (λ y m. subst (λ (p : (ℕ × ℕ) × (ℕ × ℕ)). Before p.0 x p.1 y)
      (λ i. (sym (e x (itself x xs)) i, sym (e y (further x xs y m)) i)) (r.0 y m)),
  rises_alike xs f g (λ k m. e k (further x xs k m)) r.1,
)

-- A rising line still rises with a key put last, if each of its keys comes before that key.
pub rises_push : (xs : List Place) (f : Place → ℕ × ℕ) (j : Place) → RisesBy f xs
    → ((k : Place) → stands_in xs k ≡ true → Before (f k) k (f j) j) → RisesBy f (xs ++ j ∷ [])
rises_push [] f j r below = ((λ y m. cc (m)), tt)
rises_push (x ∷ xs) f j r below = (
  (λ y m. either (stands_in xs y) (key_eq y j) (Before (f x) x (f y) y) (sym (push_has xs j y) ∙ m)
      (λ a. r.0 y a)
      (λ b. subst (λ z. Before (f x) x (f z) z) (sym (eq_true y j b)) (below x (itself x xs)))),
  rises_push xs f j r.1 (λ k m. below k (further x xs k m)),
)

-- An order that is Less is no tie.
less_apart : (o : Ordering) → o ≡ Less → is_eq o ≡ true → ⊥
less_apart Less e h = cc (h)
less_apart Equal e h = cc (e)
less_apart Greater e h = cc (e)

-- No key stands before itself at one and the same rank.
pub before_itself : (p : ℕ × ℕ) (k : Place) → Before p k p k → ⊥
before_itself p k (inl a) = omega (arith, a)
before_itself p k (inr (e, inl a)) = omega (arith, a)
before_itself p k (inr (e, inr (f, a))) = less_apart (place_cmp k k) a (sym (eq_is k k) ∙ eq_self k)

-- ---- the row by key

abbrev pub line_by : (Place → Bool) → (Place → Bool) → Place → Bool
line_by D H k = D k && not (H k)

pub record RowIs (D H : Place → Bool) (R : Place → ℕ × ℕ) (r : Row) : Type 0 where
  pub dirty : (k : Place) → has r.dirty k ≡ D k
  pub held : (k : Place) → has r.processing k ≡ H k
  pub members : (k : Place) → stands_in r.line k ≡ line_by D H k
  pub order : RisesBy R r.line

-- the rank after keys became queued with the ranks N
abbrev pub ranked : Bool → Bool → ℕ × ℕ → ℕ × ℕ → ℕ × ℕ
ranked was now n s = cond (now && not was) n s

-- A key that stood in the line before keeps its rank.
was_in : (p q : Bool) (n s : ℕ × ℕ) → q ≡ true → ranked q p n s ≡ s
was_in true true n s e = refl
was_in true false n s e = cc (e)
was_in false q n s e = refl

-- A key that stands in the line now just where it did before keeps its rank.
not_new : (p q : Bool) (n s : ℕ × ℕ) → p ≡ q → ranked q p n s ≡ s
not_new true true n s e = refl
not_new true false n s e = cc (e)
not_new false q n s e = refl

-- A key that stands in the line now and did not before gets the new rank.
is_new : (p q : Bool) (n s : ℕ × ℕ) → p ≡ true → q ≡ false → ranked q p n s ≡ n
is_new true false n s e f = refl
is_new true true n s e f = cc (f)
is_new false q n s e f = cc (e)

-- By D and H keys were dirty and held, by E and G they are now; R, and N for new keys, give S.
module _ (D H E G : Place → Bool) (R S N : Place → ℕ × ℕ)
    (ranks : (k : Place) → S k ≡ ranked (line_by D H k) (line_by E G k) (N k) (R k)) where
  -- a change that queues and takes nothing
  pub row_same : (r s : Row) → RowIs D H R r → s.line ≡ r.line → ((k : Place) → has s.dirty k ≡ E k)
      → ((k : Place) → has s.processing k ≡ G k) → ((k : Place) → line_by E G k ≡ line_by D H k) → RowIs E G S s
  row_same r s is line dirty held same = record {
    dirty = dirty;
    held = held;
    members = λ k. ap (λ l. stands_in l k) line ∙ is.members k ∙ sym (same k);
    order = subst (RisesBy S) (sym line) (rises_alike r.line R S (λ k m. ranks k
        ∙ not_new (line_by E G k) (line_by D H k) (N k) (R k) (same k)) is.order);
  }

  -- one key goes last
  pub row_push : (r s : Row) (j : Place) → RowIs D H R r → s.line ≡ r.line ++ j ∷ []
      → ((k : Place) → has s.dirty k ≡ E k) → ((k : Place) → has s.processing k ≡ G k)
      → line_by D H j ≡ false → ((k : Place) → line_by E G k ≡ (key_eq k j || line_by D H k))
      → ((k : Place) → line_by D H k ≡ true → Before (R k) k (N j) j) → RowIs E G S s
  row_push r s j is line dirty held out more fresh =
      let olds : (k : Place) → stands_in r.line k ≡ true → S k ≡ R k = λ k m. ranks k
      ∙ was_in (line_by E G k) (line_by D H k) (N k) (R k) (sym (is.members k) ∙ m) in
      let new : S j ≡ N j = ranks j ∙ is_new (line_by E G j) (line_by D H j) (N j) (R j)
      (more j ∙ ap (λ b. b || line_by D H j) (eq_self j)) out in
      record {
        dirty = dirty;
        held = held;
        members = λ k. ap (λ l. stands_in l k) line ∙ push_has r.line j k ∙ or_turned (stands_in r.line k) (key_eq k j)
            ∙ ap (λ b. key_eq k j || b) (is.members k) ∙ sym (more k);
        order = subst (RisesBy S) (sym line)
            (rises_push r.line S j (rises_alike r.line R S olds is.order)
            (λ k m. subst (λ (p : (ℕ × ℕ) × (ℕ × ℕ)). Before p.0 k p.1 j) (λ i. (sym (olds k m) i, sym new i))
            (fresh k (sym (is.members k) ∙ m))));
      }

  -- the first key goes
  pub row_pop : (r s : Row) (j : Place) (ys : List Place) → RowIs D H R r → r.line ≡ j ∷ ys → s.line ≡ ys
      → ((k : Place) → has s.dirty k ≡ E k) → ((k : Place) → has s.processing k ≡ G k)
      → ((k : Place) → line_by E G k ≡ (not (key_eq k j) && line_by D H k)) → RowIs E G S s
  row_pop r s j ys is whole line dirty held less =
      let rises : RisesBy R (j ∷ ys) = subst (RisesBy R) whole is.order in
      let inside : (k : Place) → (key_eq k j || stands_in ys k) ≡ line_by D H k =
      λ k. sym (ap (λ l. stands_in l k) whole) ∙ is.members k in
      let apart : (k : Place) → key_eq k j ≡ true → stands_in ys k ≡ true
      → ⊥ = λ k a b. before_itself (R j) j (subst (λ z. Before (R j) j (R z) z) (eq_true k j a) (rises.0 k b)) in
      record {
        dirty = dirty;
        held = held;
        members = λ k. ap (λ l. stands_in l k) line ∙ popped (key_eq k j) (stands_in ys k) (line_by D H k)
            (line_by E G k) (inside k) (less k) (apart k);
        order = subst (RisesBy S) (sym line)
            (rises_alike ys R S (λ k m. ranks k ∙ was_in (line_by E G k) (line_by D H k) (N k) (R k)
            (sym (inside k) ∙ or_right (key_eq k j) (stands_in ys k) m)) rises.1);
      }
    where
      popped : (a b q p : Bool) → (a || b) ≡ q → p ≡ (not a && q) → (a ≡ true → b ≡ true → ⊥) → b ≡ p
      popped true true q p e f apart = absurd (apart refl refl)
      popped true false q p e f apart = sym f
      popped false b q p e f apart = e ∙ sym f

-- ---- one add

-- An add of a key that is dirty already makes no difference to what is queued.
dirty_again : (t d h : Bool) → (t ≡ true → d ≡ true) → ((t || d) && not h) ≡ (d && not h)
dirty_again true d h f = ap (λ b. b && not h) (sym (f refl))
dirty_again false d h f = refl

-- An add of a key that is held makes no difference to what is queued.
while_held : (t d h : Bool) → (t ≡ true → h ≡ true) → ((t || d) && not h) ≡ (d && not h)
while_held true true h f = refl
while_held true false true f = refl
while_held true false false f = cc (f refl)
while_held false d h f = refl

-- An add of a key that is not held queues that key, and leaves the others as they are.
new_add : (t d h : Bool) → (t ≡ true → h ≡ false) → ((t || d) && not h) ≡ (t || (d && not h))
new_add true d true f = cc (f refl)
new_add true d false f = refl
new_add false d h f = refl

-- A key that is not dirty is not queued.
off_clean : (d h : Bool) → d ≡ false → (d && not h) ≡ false
off_clean true h e = cc (e)
off_clean false h e = refl

-- A key that is dirty and not held is queued.
and_both : (a b : Bool) → a ≡ true → b ≡ false → (a && not b) ≡ true
and_both true false e f = refl
and_both true true e f = cc (f)
and_both false b e f = cc (e)

-- What an add leaves of a row: the key is dirty, and goes last in the line if it becomes queued.
pub row_add_is : (D H E : Place → Bool) (R S N : Place → ℕ × ℕ) (r : Row) (j : Place)
    → ((k : Place) → E k ≡ (key_eq k j || D k)) → ((k : Place)
    → S k ≡ ranked (line_by D H k) (line_by E H k) (N k) (R k))
    → ((k : Place) → line_by D H k ≡ true → D j ≡ false → Before (R k) k (N j) j)
    → RowIs D H R r → RowIs E H S (row_add r j)
row_add_is D H E R S N r j more ranks fresh is = by (has r.dirty j) (has r.processing j) refl refl
  where
    same : (k : Place) → ((key_eq k j || D k) && not (H k)) ≡ line_by D H k → line_by E H k ≡ line_by D H k
    same k e = ap (λ b. b && not (H k)) (more k) ∙ e

    put : (k : Place) → has (insert r.dirty j tt) k ≡ E k
    put k = has_put r.dirty j k ∙ ap (λ b. key_eq k j || b) (is.dirty k) ∙ sym (more k)

    by : (a b : Bool) → has r.dirty j ≡ a → has r.processing j ≡ b → RowIs E H S (row_add r j)
    by true b a_is b_is =
        subst (RowIs E H S) (sym (on (has r.dirty j) _ _ a_is))
        (row_same D H E H R S N ranks r r is refl
        (λ k. is.dirty k ∙ sym (at (key_eq k j) (D k) (λ t. ap D (eq_true k j t) ∙ sym (is.dirty j) ∙ a_is))
        ∙ sym (more k)) is.held
        (λ k. same k (dirty_again (key_eq k j) (D k) (H k) (λ t. ap D (eq_true k j t) ∙ sym (is.dirty j) ∙ a_is))))
      where
        at : (t d : Bool) → (t ≡ true → d ≡ true) → (t || d) ≡ d
        at true d f = sym (f refl)
        at false d f = refl
    by false true a_is b_is =
        subst (RowIs E H S) (sym (off (has r.dirty j) _ _ a_is))
        (row_same D H E H R S N ranks r _ is (on (has r.processing j) _ _ b_is) put is.held
        (λ k. same k (while_held (key_eq k j) (D k) (H k) (λ t. ap H (eq_true k j t) ∙ sym (is.held j) ∙ b_is))))
    by false false a_is b_is =
        subst (RowIs E H S) (sym (off (has r.dirty j) _ _ a_is))
        (row_push D H E H R S N ranks r _ j is (off (has r.processing j) _ _ b_is) put is.held
        (off_clean (D j) (H j) (sym (is.dirty j) ∙ a_is))
        (λ k. same_new k)
        (λ k q. fresh k q (sym (is.dirty j) ∙ a_is)))
      where
        same_new : (k : Place) → line_by E H k ≡ (key_eq k j || line_by D H k)
        same_new k = ap (λ b. b && not (H k)) (more k) ∙ new_add (key_eq k j) (D k) (H k)
            (λ t. ap H (eq_true k j t) ∙ sym (is.held j) ∙ b_is)

-- ---- several adds, one after the other

-- For row_adds_is: the ranks after the first add and then the others are those after all of them.
ranks_join : (d e f h : Bool) (n s : ℕ × ℕ) → (d ≡ true → e ≡ true) → (e ≡ true → f ≡ true)
    → ranked (d && not h) (f && not h) n s ≡ ranked (e && not h) (f && not h) n (ranked (d && not h) (e && not h) n s)
ranks_join d e f true n s p q = none d e f
  where
    none : (d e f : Bool) → ranked (d && false) (f && false) n s ≡ ranked (e && false) (f && false) n
        (ranked (d && false) (e && false) n s)
    none true true true = refl
    none true true false = refl
    none true false true = refl
    none true false false = refl
    none false true true = refl
    none false true false = refl
    none false false true = refl
    none false false false = refl
ranks_join true true true false n s p q = refl
ranks_join true true false false n s p q = cc (q refl)
ranks_join true false f false n s p q = cc (p refl)
ranks_join false true true false n s p q = refl
ranks_join false true false false n s p q = cc (q refl)
ranks_join false false true false n s p q = refl
ranks_join false false false false n s p q = refl

-- What adds of several keys, one after the other, leave of a row.
pub row_adds_is : (ks : List Place) (D H E : Place → Bool) (R S N : Place → ℕ × ℕ) (r : Row)
    → ((k : Place) → E k ≡ (stands_in ks k || D k))
    → ((k : Place) → S k ≡ ranked (line_by D H k) (line_by E H k) (N k) (R k))
    → ((k : Place) → line_by D H k ≡ true → (y : Place) → stands_in ks y ≡ true → Before (R k) k (N y) y) → RisesBy N ks
    → RowIs D H R r → RowIs E H S (row_adds r ks)
row_adds_is [] D H E R S N r more ranks fresh rises is =
    row_same D H E H R S N ranks r r is refl (λ k. is.dirty k ∙ sym (more k)) is.held
    (λ k. ap (λ b. b && not (H k)) (more k))
row_adds_is (x ∷ ks) D H E R S N r more ranks fresh rises is =
    row_adds_is ks C H E Q S N (row_add r x)
    (λ k. more k ∙ ap (λ b. b || D k) (or_turned (key_eq k x) (stands_in ks k))
    ∙ sym (or_assoc (stands_in ks k) (key_eq k x) (D k)))
    (λ k. ranks k ∙ ranks_join (D k) (C k) (E k) (H k) (N k) (R k) (λ d. or_right (key_eq k x) (D k) d)
    (λ c. more k ∙ sym (or_assoc (key_eq k x) (stands_in ks k) (D k)) ∙ up (key_eq k x) (stands_in ks k) (D k) c))
    (λ k q y m. next k y m q)
    rises.1
    (row_add_is D H C R Q N r x (λ k. refl) (λ k. refl) (λ k q out. fresh k q x (itself x ks)) is)
  where
    C : Place → Bool
    C k = key_eq k x || D k

    Q : Place → ℕ × ℕ
    Q k = ranked (line_by D H k) (line_by C H k) (N k) (R k)

    up : (a b d : Bool) → (a || d) ≡ true → (a || (b || d)) ≡ true
    up true b d e = refl
    up false b d e = or_right b d e

    next : (k y : Place) → stands_in ks y ≡ true → line_by C H k ≡ true → Before (Q k) k (N y) y
    next k y m q = by (line_by D H k) refl
      where
        gone : (a d h : Bool) → ((a || d) && not h) ≡ true → (d && not h) ≡ false → a ≡ true
        gone true d h e f = refl
        gone false d h e f = cc (e, f)

        by : (b : Bool) → line_by D H k ≡ b → Before (Q k) k (N y) y
        by true e = subst (λ p. Before p k (N y) y) (sym (was_in (line_by C H k) (line_by D H k) (N k) (R k) e))
            (fresh k e y (further x ks y m))
        by false e =
            let same : k ≡ x = eq_true k x (gone (key_eq k x) (D k) (H k) q e) in
            subst (λ p. Before p k (N y) y) (sym (is_new (line_by C H k) (line_by D H k) (N k) (R k) q e))
            (subst (λ z. Before (N z) z (N y) y) (sym same) (rises.0 y m))

-- ---- the end of the work on a key, and a take

-- The end of the work on a dirty key queues it, and leaves the others as they are.
done_dirty : (t d h : Bool) → (t ≡ true → d ≡ true) → (t ≡ true → h ≡ true)
    → (d && not (not t && h)) ≡ (t || (d && not h))
done_dirty true d h f g = ap (λ b. b && true) (f refl)
done_dirty false d h f g = refl

-- The end of the work on a key that is not dirty makes no difference to what is queued.
done_clean : (t d h : Bool) → (t ≡ true → d ≡ false) → (d && not (not t && h)) ≡ (d && not h)
done_clean true true h f = cc (f refl)
done_clean true false h f = refl
done_clean false d h f = refl

-- A key that is held is not queued.
held_out : (d h : Bool) → h ≡ true → (d && not h) ≡ false
held_out true true e = refl
held_out true false e = cc (e)
held_out false h e = refl

-- What the end of the work on a held key leaves of a row: the key goes last if it is dirty.
pub row_end_is : (D H G : Place → Bool) (R S N : Place → ℕ × ℕ) (r : Row) (u : Place)
    → H u ≡ true → ((k : Place) → G k ≡ (not (key_eq k u) && H k))
    → ((k : Place) → S k ≡ ranked (line_by D H k) (line_by D G k) (N k) (R k))
    → ((k : Place) → line_by D H k ≡ true → Before (R k) k (N u) u)
    → RowIs D H R r → RowIs D G S (row_end r u)
row_end_is D H G R S N r u held less ranks fresh is = by (has r.dirty u) refl
  where
    removal : (k : Place) → has (remove r.processing u) k ≡ G k
    removal k = has_off r.processing u k ∙ ap (λ b. not (key_eq k u) && b) (is.held k) ∙ sym (less k)

    by : (a : Bool) → has r.dirty u ≡ a → RowIs D G S (row_end r u)
    by true e =
        row_push D H D G R S N ranks r (row_end r u) u is (on (has r.dirty u) _ _ e) is.dirty removal
        (held_out (D u) (H u) held)
        (λ k. ap (λ b. D k && not b) (less k) ∙ done_dirty (key_eq k u) (D k) (H k)
        (λ t. ap D (eq_true k u t) ∙ sym (is.dirty u) ∙ e) (λ t. ap H (eq_true k u t) ∙ held))
        fresh
    by false e =
        row_same D H D G R S N ranks r (row_end r u) is (off (has r.dirty u) _ _ e) is.dirty removal
        (λ k. ap (λ b. D k && not b) (less k) ∙ done_clean (key_eq k u) (D k) (H k)
        (λ t. ap D (eq_true k u t) ∙ sym (is.dirty u) ∙ e))

-- After a take the queued keys are those of before, but for the taken one.
taken_by : (t d h : Bool) → ((not t && d) && not (t || h)) ≡ (not t && (d && not h))
taken_by true d h = refl
taken_by false d h = refl

-- What a take leaves of a row: the first key of the line is held, and no longer dirty.
pub row_take_is : (D H E G : Place → Bool) (R S N : Place → ℕ × ℕ) (r : Row) (j : Place) (ys : List Place)
    → r.line ≡ j ∷ ys → ((k : Place) → E k ≡ (not (key_eq k j) && D k)) → ((k : Place) → G k ≡ (key_eq k j || H k))
    → ((k : Place) → S k ≡ ranked (line_by D H k) (line_by E G k) (N k) (R k))
    → RowIs D H R r → RowIs E G S (row_take r)
row_take_is D H E G R S N r j ys whole less more ranks is =
    subst (RowIs E G S) (sym (ap (take_in r) whole))
    (row_pop D H E G R S N ranks r (take_in r (j ∷ ys)) j ys is whole refl
    (λ k. has_off r.dirty j k ∙ ap (λ b. not (key_eq k j) && b) (is.dirty k) ∙ sym (less k))
    (λ k. has_put r.processing j k ∙ ap (λ b. key_eq k j || b) (is.held k) ∙ sym (more k))
    (λ k. (λ i. less k i && not (more k i)) ∙ taken_by (key_eq k j) (D k) (H k)))

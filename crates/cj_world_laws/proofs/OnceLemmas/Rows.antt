-- What the queue's calls keep of its row.
use Rattle.std.proofs.Common.{◌≡◌, ◌≢◌, ◌⊎◌, inl, inr, ℕ, Bool, true, false, nat_le, List, [], ◌∷◌, ◌++◌, Option, None, Some, is_some, refl, ap, sym, subst, ◌∙◌}
use Rattle.std.specs.Prelude.{if◌then◌else◌, ◌+◌}
use Rattle.std.specs.FinMap as map
use Rattle.cj_types.specs.Keys.{Place}
use Rattle.cj_table.proofs.Puts.{put_split, removal_split, removal_there}
use Rattle.cj_queue.specs.Times.{ready}
use Rattle.cj_world_laws.proofs.OnceLemmas.Lists.{IsIn}
use Rattle.cj_queue.specs.Queue.{Keys, Row, Queue, has, row_add, row_adds, take_in, row_end, added, ended, added_after, ticked, delay, failures_of, forgotten, added_where, finished_ok, finished_retry}
use Rattle.cj_world_laws.proofs.OnceLemmas.Maps.{removal_other, put_other, put_here}
use Rattle.cj_world_laws.proofs.OnceLemmas.Facts.{IsLine}

-- For has_put: a key in a set stays there, be it the one that is put or another.
put_by : (m : Keys) (k q : Place) → has m q ≡ true → ((q ≡ k) × (map.get (map.insert m k tt) q ≡ Some tt))
    ⊎ (map.get (map.insert m k tt) q ≡ map.get m q) → has (map.insert m k tt) q ≡ true
put_by m k q h (inl e) = ap is_some e.1
put_by m k q h (inr e) = ap is_some e ∙ h

-- A key in a set stays there when a key is put in.
has_put : (m : Keys) (k q : Place) → has m q ≡ true → has (map.insert m k tt) q ≡ true
has_put m k q h = put_by m k q h (put_split m k tt q)

-- For has_removal: a key that isn't in a set isn't after a removal, of this key or another.
removal_by : (m : Keys) (k q : Place) → has m q ≡ false → ((q ≡ k) × (map.get (map.remove m k) q ≡ None))
    ⊎ (map.get (map.remove m k) q ≡ map.get m q) → has (map.remove m k) q ≡ false
removal_by m k q h (inl e) = ap is_some e.1
removal_by m k q h (inr e) = ap is_some e ∙ h

-- A key that isn't in a set isn't in it after a removal.
has_removal : (m : Keys) (k q : Place) → has m q ≡ false → has (map.remove m k) q ≡ false
has_removal m k q h = removal_by m k q h (removal_split m k q)

-- The removal of a key leaves another key in the set or out of it.
pub has_other : (m : Keys) (k q : Place) → q ≢ k → has (map.remove m k) q ≡ has m q
has_other m k q n = ap is_some (removal_other m k q n)

-- A key that is put in a set is in it.
pub has_new : (m : Keys) (k : Place) → has (map.insert m k tt) k ≡ true
has_new m k = ap is_some (put_here m k tt)

-- For other files, as has_put: a key in a set stays there when a key is put in.
pub has_old : (m : Keys) (k q : Place) → has m q ≡ true → has (map.insert m k tt) q ≡ true
has_old m k q h = has_put m k q h

-- A key that is put in a set leaves another key in the set or out of it.
has_apart : (m : Keys) (k q : Place) → q ≢ k → has (map.insert m k tt) q ≡ has m q
has_apart m k q n = ap is_some (put_other m k q tt n)

-- A key of the line is dirty.
line_dirty : (r : Row) (ks : List Place) (k : Place) → IsLine r ks → IsIn k ks → has r.dirty k ≡ true
line_dirty r [] k f h = absurd h
line_dirty r (x ∷ ks) k f (inl e) = ap (has r.dirty) (sym e) ∙ f.0
line_dirty r (x ∷ ks) k f (inr h) = line_dirty r ks k f.3 h

-- A key of the line is not being worked on.
line_free : (r : Row) (ks : List Place) (k : Place) → IsLine r ks → IsIn k ks → has r.processing k ≡ false
line_free r [] k f h = absurd h
line_free r (x ∷ ks) k f (inl e) = ap (has r.processing) (sym e) ∙ f.1
line_free r (x ∷ ks) k f (inr h) = line_free r ks k f.3 h

-- The facts of a line hold in another row where its keys are still dirty and not worked on.
line_more : (r t : Row) (ks : List Place) → ((k : Place) → IsIn k ks → has r.dirty k ≡ true → has t.dirty k ≡ true)
    → ((k : Place) → IsIn k ks → has r.processing k ≡ false → has t.processing k ≡ false) → IsLine r ks → IsLine t ks
line_more r t [] d p f = tt
line_more r t (x ∷ ks) d p f = (
  d x (inl refl) f.0,
  p x (inl refl) f.1,
  f.2,
  line_more r t ks (λ k h. d k (inr h)) (λ k h. p k (inr h)) f.3,
)

-- A key in a line with one put last is in the line before, or is the one put last.
in_push : (x k : Place) (ks : List Place) → IsIn x (ks ++ k ∷ []) → IsIn x ks ⊎ (k ≡ x)
in_push x k [] (inl e) = inr e
in_push x k [] (inr h) = absurd h
in_push x k (y ∷ ks) (inl e) = inl (inl e)
in_push x k (y ∷ ks) (inr h) = by (in_push x k ks h)
  where
    by : IsIn x ks ⊎ (k ≡ x) → IsIn x (y ∷ ks) ⊎ (k ≡ x)
    by (inl a) = inl (inr a)
    by (inr e) = inr e

-- The facts of a line hold with a dirty key put last that isn't in it and isn't worked on.
line_push : (r : Row) (ks : List Place) (k : Place) → IsLine r ks → has r.dirty k ≡ true → has r.processing k ≡ false
    → (IsIn k ks → ⊥) → IsLine r (ks ++ k ∷ [])
line_push r [] k f d p n = (d, p, λ h. h, tt)
line_push r (x ∷ ks) k f d p n = (f.0, f.1, λ h. by (in_push x k ks h), line_push r ks k f.3 d p (λ h. n (inr h)))
  where
    by : IsIn x ks ⊎ (k ≡ x) → ⊥
    by (inl h) = f.2 h
    by (inr e) = n (inl (sym e))

-- the line's facts stay, and what is worked on
pub record Lined (r t : Row) : Type 0 where
  pub line : IsLine r r.line → IsLine t t.line
  pub same : t.processing ≡ r.processing

-- A row that isn't changed keeps its line's facts and what is worked on.
pub lined_same : (r : Row) → Lined r r
lined_same r = record { line = λ f. f; same = refl }

-- Two changes of the row, one after the other, keep what each of them keeps.
lined_then : (r t u : Row) → Lined r t → Lined t u → Lined r u
lined_then r t u a b = record { line = λ f. b.line (a.line f); same = b.same ∙ a.same }

-- Of two changes of the row, the one that a test picks keeps what both of them keep.
lined_if : (r t u : Row) (b : Bool) → Lined r t → Lined r u → Lined r (if b then t else u)
lined_if r t u true x y = x
lined_if r t u false x y = y

abbrev dirtied : Row → Place → List Place → Row
dirtied r k l = record { line = l; dirty = map.insert r.dirty k tt; processing = r.processing }

-- For lined_add: an add keeps the line's facts, be the key dirty, worked on, both or neither.
add_by : (r : Row) (k : Place) (b c : Bool) → has r.dirty k ≡ b → has r.processing k ≡ c
    → Lined r (if b then r else dirtied r k (if c then r.line else r.line ++ k ∷ []))
add_by r k true c d p = lined_same r
add_by r k false true d p = record {
  line = λ f. line_more r (dirtied r k r.line) r.line
      (λ q i h. has_put r.dirty k q h) (λ q i h. h) f;
  same = refl;
}
add_by r k false false d p = record {
  line = λ f. line_push (dirtied r k (r.line ++ k ∷ [])) r.line k
      (line_more r (dirtied r k (r.line ++ k ∷ [])) r.line (λ q i h. has_put r.dirty k q h) (λ q i h. h) f)
      (has_new r.dirty k) p
      (λ h. absurd (cc (sym (line_dirty r r.line k f h) ∙ d)));
  same = refl;
}

-- An add of a key keeps the line's facts and what is worked on.
lined_add : (r : Row) (k : Place) → Lined r (row_add r k)
lined_add r k = add_by r k (has r.dirty k) (has r.processing k) refl refl

-- Adds of several keys keep the line's facts and what is worked on.
lined_adds : (r : Row) (ks : List Place) → Lined r (row_adds r ks)
lined_adds r [] = lined_same r
lined_adds r (k ∷ ks) = lined_then r (row_add r k) (row_adds (row_add r k) ks) (lined_add r k)
    (lined_adds (row_add r k) ks)

-- a key is taken
pub line_take : (r : Row) (k : Place) (ks : List Place) → IsLine r (k ∷ ks) → IsLine (take_in r (k ∷ ks)) ks
line_take r k ks f = line_more r (take_in r (k ∷ ks)) ks (λ q i h. has_other r.dirty k q (n q i) ∙ h)
    (λ q i h. has_apart r.processing k q (n q i) ∙ h) f.3
  where
    n : (q : Place) → IsIn q ks → q ≢ k
    n q i e = f.2 (subst (λ z. IsIn z ks) e i)

-- the work on a key ends
end_by : (r : Row) (k : Place) (b : Bool) → has r.dirty k ≡ b → has r.processing k ≡ true → IsLine r r.line
    → IsLine (row_end r k) (if b then r.line ++ k ∷ [] else r.line)
end_by r k false d p f = line_more r (row_end r k) r.line (λ q i h. h) (λ q i h. has_removal r.processing k q h) f
end_by r k true d p f =
    line_push (row_end r k) r.line k (line_more r (row_end r k) r.line (λ q i h. h)
    (λ q i h. has_removal r.processing k q h) f) d gone (λ h. absurd (cc (sym (line_free r r.line k f h) ∙ p)))
  where
    gone : has (map.remove r.processing k) k ≡ false
    gone = ap is_some (removal_there r.processing k)

-- The end of the work on a key that is worked on keeps the line's facts.
pub line_end : (r : Row) (k : Place) → has r.processing k ≡ true → IsLine r r.line
    → IsLine (row_end r k) (row_end r k).line
line_end r k p f = end_by r k (has r.dirty k) refl p f

-- ---- the queue's calls

-- Of two queues, the one that a test picks keeps of the row what both of them keep.
row_if : (a b : Queue) (t : Bool) (r : Row) → Lined r a.row → Lined r b.row → Lined r (if t then a else b).row
row_if a b true r x y = x
row_if a b false r x y = y

-- An add to the queue, shut or not, keeps the line's facts and what is worked on.
pub lined_added : (q : Queue) (k : Place) → Lined q.row (added q k).row
lined_added q k = row_if q (record {
  row = row_add q.row k;
  waiting = q.waiting;
  failures = q.failures;
  tick = q.tick;
  shut = q.shut;
}) q.shut q.row (lined_same q.row) (lined_add q.row k)

-- A tick of the queue, shut or not, keeps the line's facts and what is worked on.
pub lined_ticked : (q : Queue) (now : ℕ) → Lined q.row (ticked q now).row
lined_ticked q now = row_if _ _ q.shut q.row (lined_same q.row) (lined_adds q.row (ready q.waiting now))

-- A delayed add, done at once, put off or shut out, keeps the line's facts.
lined_after : (q : Queue) (k : Place) (at : ℕ) → Lined q.row (added_after q k at).row
lined_after q k at = row_if _ _ q.shut q.row (lined_same q.row)
    (row_if _ _ (nat_le at q.tick) q.row (lined_add q.row k) (lined_same q.row))

-- A delayed add, if there is a next time, keeps the line's facts.
lined_where : (q : Queue) (k : Place) (at : Option ℕ) → Lined q.row (added_where q k at).row
lined_where q k None = lined_same q.row
lined_where q k (Some at) = lined_after q k at

-- The line's facts after the end of the work on a key hold after a sync that went well.
pub lined_ok : (q : Queue) (k : Place) (at : Option ℕ) → Lined (row_end q.row k) (finished_ok q k at).row
lined_ok q k at = lined_where (forgotten (ended q k) k) k at

-- The line's facts after the end of the work on a key hold after a sync that is retried.
pub lined_retry : (q : Queue) (k : Place) (now : ℕ) → Lined (row_end q.row k) (finished_retry q k now).row
lined_retry q k now = lined_after (ended q k) k (now + delay (failures_of q k))

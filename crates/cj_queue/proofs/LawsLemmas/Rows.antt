-- Each call of the row keeps that it is stingy.
use Rattle.std.proofs.Common.{◌≡◌, ◌≢◌, ◌⊎◌, inl, inr, Bool, true, false, List, [], ◌∷◌, ◌++◌, is_some, refl, sym, ap, subst, ◌∙◌}
use Rattle.std.specs.Prelude.{if◌then◌else◌}
use Rattle.std.specs.FinMap as map
use Rattle.cj_types.specs.Keys.{Place, place_cmp}
use Rattle.cj_queue.specs.Queue.{Keys, Row, has, new_row, row_add, row_adds, take_in, row_take, row_end}
use Rattle.cj_queue.specs.laws.Rows.{IsIn, IsStingy, RowsStayStingy}
use Rattle.cj_queue.proofs.LawsLemmas.Lines.{clash, same_or_other, in_pushed, in_before, in_last, once_pushed, has_new, has_apart, has_gone, has_other, has_still, has_no_more}

-- The row of a line, of the dirty keys and of those that are being worked on.
abbrev row : List Place → Keys → Keys → Row
row l d p = record { line = l; dirty = d; processing = p }

-- a key of the line, or the one that was put last
either_of : {A : Type 0} (q k : Place) (l : List Place) → (IsIn q l → A) → (k ≡ q → A) → IsIn q (l ++ k ∷ []) → A
either_of {A} q k l f g i = by (in_pushed q k l i)
  where
    by : IsIn q l ⊎ (k ≡ q) → A
    by (inl j) = f j
    by (inr e) = g e

-- the key itself, or another one
split : {A : Type 0} (q k : Place) → (q ≡ k → A) → (q ≢ k → A) → A
split {A} q k f g = by (same_or_other q k)
  where
    by : (q ≡ k) ⊎ (q ≢ k) → A
    by (inl e) = f e
    by (inr n) = g n

-- ---- an add

-- For add_keeps: an add leaves the row stingy, by whether the key is dirty and being worked on.
add_by : (l : List Place) (d p : Keys) (k : Place) (b c : Bool) → has d k ≡ b → has p k ≡ c → IsStingy (row l d p)
    → IsStingy (if b then row l d p else row (if c then l else l ++ k ∷ []) (map.insert d k tt) p)
add_by l d p k true c hd hp f = f
add_by l d p k false true hd hp f = record {
  once = f.once;
  wanted = λ q i. has_still d k q (f.wanted q i);
  free = f.free;
  listed = λ q a b. split q k (λ e. clash (has p k) hp (ap (has p) (sym e) ∙ b))
      (λ n. f.listed q (sym (has_apart d k q n) ∙ a) b);
}
add_by l d p k false false hd hp f = record {
  once = once_pushed k l f.once (λ i. clash (has d k) (f.wanted k i) hd);
  wanted = λ q. either_of q k l (λ i. has_still d k q (f.wanted q i)) (λ e. ap (has (map.insert d k tt)) (sym e)
      ∙ has_new d k);
  free = λ q. either_of q k l (f.free q) (λ e. ap (has p) (sym e) ∙ hp);
  listed = λ q a b. split q k (λ e. in_last q k l (sym e))
      (λ n. in_before q k l (f.listed q (sym (has_apart d k q n) ∙ a) b));
}

-- An add leaves the row stingy.
pub add_keeps : (r : Row) (k : Place) → IsStingy r → IsStingy (row_add r k)
add_keeps r k f = add_by r.line r.dirty r.processing k (has r.dirty k) (has r.processing k) refl refl f

-- Adds of keys, one after the other, leave the row stingy.
pub adds_keep : (r : Row) (ks : List Place) → IsStingy r → IsStingy (row_adds r ks)
adds_keep r [] f = f
adds_keep r (k ∷ ks) f = adds_keep (row_add r k) ks (add_keeps r k f)

-- Of two rows in which the same keys are being worked on, so they are in the one that is chosen.
works_on : (r s : Row) (b : Bool) → s.processing ≡ r.processing → (if b then r else s).processing ≡ r.processing
works_on r s true e = refl
works_on r s false e = e

-- Adds leave the keys that are being worked on as they are.
adds_same : (r : Row) (ks : List Place) → (row_adds r ks).processing ≡ r.processing
adds_same r [] = refl
adds_same r (k ∷ ks) = adds_same (row_add r k) ks ∙ works_on r _ (has r.dirty k) refl

-- ---- a take

-- For take_keeps: by whether the line has a first key, a take leaves the row stingy.
take_by : (l : List Place) (d p : Keys) → IsStingy (row l d p) → IsStingy (take_in (row l d p) l)
take_by [] d p f = f
take_by (k ∷ l) d p f = record {
  once = f.once.1;
  wanted = λ q i. has_other d k q (apart q i) ∙ f.wanted q (inr i);
  free = λ q i. has_apart p k q (apart q i) ∙ f.free q (inr i);
  listed = λ q a b. split q k
      (λ e. clash (has (map.insert p k tt) q) (ap (has (map.insert p k tt)) e ∙ has_new p k) b)
      (λ n. behind q n (f.listed q (sym (has_other d k q n) ∙ a) (sym (has_apart p k q n) ∙ b)));
}
  where
    apart : (q : Place) → IsIn q l → q ≢ k
    apart q i e = f.once.0 (subst (λ z. IsIn z l) e i)

    behind : (q : Place) → q ≢ k → IsIn q (k ∷ l) → IsIn q l
    behind q n (inl e) = absurd (n (sym e))
    behind q n (inr i) = i

-- A take leaves the row stingy.
pub take_keeps : (r : Row) → IsStingy r → IsStingy (row_take r)
take_keeps r f = take_by r.line r.dirty r.processing f

-- ---- the end of the work on a key

-- For end_keeps: by whether the key is dirty, the end of the work on it leaves the row stingy.
end_by : (l : List Place) (d p : Keys) (k : Place) (b : Bool) → has d k ≡ b → has p k ≡ true → IsStingy (row l d p)
    → IsStingy (row (if b then l ++ k ∷ [] else l) d (map.remove p k))
end_by l d p k false hd hp f = record {
  once = f.once;
  wanted = f.wanted;
  free = λ q i. has_no_more p k q (f.free q i);
  listed = λ q a b. split q k (λ e. clash (has d k) (ap (has d) (sym e) ∙ a) hd)
      (λ n. f.listed q a (sym (has_other p k q n) ∙ b));
}
end_by l d p k true hd hp f = record {
  once = once_pushed k l f.once (λ i. clash (has p k) hp (f.free k i));
  wanted = λ q. either_of q k l (f.wanted q) (λ e. ap (has d) (sym e) ∙ hd);
  free = λ q. either_of q k l (λ i. has_no_more p k q (f.free q i)) (λ e. ap (has (map.remove p k)) (sym e)
      ∙ has_gone p k);
  listed = λ q a b. split q k (λ e. in_last q k l (sym e))
      (λ n. in_before q k l (f.listed q a (sym (has_other p k q n) ∙ b)));
}

-- The end of the work on a key that is being worked on leaves the row stingy.
pub end_keeps : (r : Row) (k : Place) → has r.processing k ≡ true → IsStingy r → IsStingy (row_end r k)
end_keeps r k held f = end_by r.line r.dirty r.processing k (has r.dirty k) refl held f

-- ---- the whole

-- No key is in the empty set.
none_in : (k : Place) → has map.empty k ≡ false
none_in k = ap is_some (map.get-empty {X = Unit {0}} place_cmp k)

-- The row of a new queue is stingy.
pub new_keeps : IsStingy new_row
new_keeps = record {
  once = tt;
  wanted = λ k i. absurd i;
  free = λ k i. absurd i;
  listed = λ k a b. clash (has map.empty k) a (none_in k);
}

-- For row_laws: a new row is stingy, and each call leaves the row so.
pub rows_stay_stingy : RowsStayStingy
rows_stay_stingy = record {
  new = new_keeps;
  add = add_keeps;
  adds = adds_keep;
  take = take_keeps;
  end = end_keeps;
  same = adds_same;
}

-- What a change of the line and the two sets makes of the row.
use Rattle.std.proofs.Common.{◌≡◌, Bool, true, false, cond, ◌||◌, List, [], ◌∷◌, ◌++◌, drop, Some, refl, sym, ap, ◌∙◌}
use Rattle.std.specs.FinMap as map
use Rattle.std.proofs.lemmas.List.Folds.{list_any-append}
use Rattle.cj_types.specs.Keys.{Place}
use Rattle.cj_queue.specs.Queue.{Row, row_add, row_end, row_take, first, has}
use Rattle.cj_queue.specs.Parts.{key_eq, keys_of, stands_in, IsLined}
use Rattle.cj_queue.proofs.Sets.{has_keys, keys_put, keys_removal, same_keys, at_equal, eq_self, eq_turned}
use Rattle.cj_queue.proofs.LineLemmas.{head_once, refuted, true_or_false}

-- the row of a line, of the keys that were added again and of those that are being worked on
abbrev pub row : List Place → List Place → List Place → Row
row l a p = record { line = l; dirty = keys_of (l ++ a); processing = keys_of p }

-- new has k, or lacks it, and else what old has
abbrev pub Sets : List Place → List Place → Place → Bool → Type 0
Sets old new k b = (q : Place) → stands_in new q ≡ cond (key_eq k q) b (stands_in old q)

-- A choice by a test that fails is its second part.
pub off : {A : Type 0} (b : Bool) (x y : A) → b ≡ false → cond b x y ≡ y
off true x y e = absurd (cc e)
off false x y e = refl

-- A choice by a test that holds is its first part.
pub on : {A : Type 0} (b : Bool) (x y : A) → b ≡ true → cond b x y ≡ x
on true x y e = refl
on false x y e = absurd (cc e)

-- Where two tests fail, it is false that one of them holds.
none_of : (a b : Bool) → a ≡ false → b ≡ false → (a || b) ≡ false
none_of true b e f = absurd (cc e)
none_of false b e f = f

-- Where the second of two tests holds, it is true that one of them does.
one_of : (a b : Bool) → b ≡ true → (a || b) ≡ true
one_of true b e = refl
one_of false b e = e

-- A key that is being worked on doesn't stand in the line.
pub out_of_line : (l a p : List Place) (k : Place) → IsLined l a p → stands_in p k ≡ true → stands_in l k ≡ false
out_of_line l a p k lined held = refuted (stands_in l k) (λ t. true_or_false (stands_in p k) held (lined.free k t))

-- A key that isn't being worked on isn't among those that were added again.
pub not_again : (l a p : List Place) (k : Place) → IsLined l a p → stands_in p k ≡ false → stands_in a k ≡ false
not_again l a p k lined free = refuted (stands_in a k) (λ t. true_or_false (stands_in p k) (lined.held k t) free)

-- A key that stands in neither of two lists doesn't stand in the two put together.
neither : (l a : List Place) (k : Place) → stands_in l k ≡ false → stands_in a k ≡ false → stands_in (l ++ a) k ≡ false
neither l a k e f = list_any-append (key_eq k) l a ∙ none_of (stands_in l k) (stands_in a k) e f

-- ---- an add

-- For there: a test that holds wherever t does is the same where t sets it to true.
cond_same : (t y : Bool) → (t ≡ true → y ≡ true) → y ≡ cond t true y
cond_same true y f = f refl
cond_same false y f = refl

-- A list in which k stands needs no change to have k and else what it had.
pub there : (s : List Place) (k : Place) → stands_in s k ≡ true → Sets s s k true
there s k e q = cond_same (key_eq k q) (stands_in s q) (at_equal (stands_in s) k q true e)

-- For put_behind: where t sets the second of two tests to true, it sets to true that one holds.
or_cond : (x t y : Bool) → (x || cond t true y) ≡ cond t true (x || y)
or_cond true true y = refl
or_cond true false y = refl
or_cond false t y = refl

-- Where b has k and else what a has, b behind a line has k and else what a behind the line has.
put_behind : (l a b : List Place) (k : Place) → Sets a b k true → Sets (l ++ a) (l ++ b) k true
put_behind l a b k sets q =
    list_any-append (key_eq q) l b ∙ ap (λ t. stands_in l q || t) (sets q)
    ∙ or_cond (stands_in l q) (key_eq k q) (stands_in a q)
    ∙ ap (cond (key_eq k q) true) (sym (list_any-append (key_eq q) l a))

-- a key that is dirty
add_dirty : (l a p : List Place) (k : Place) → stands_in (l ++ a) k ≡ true → row_add (row l a p) k ≡ row l a p
add_dirty l a p k e = on (has (keys_of (l ++ a)) k) _ _ (has_keys (l ++ a) k ∙ e)

-- An add of a key that stands in the line leaves the row as it is.
pub add_lined : (l a p : List Place) (k : Place) → stands_in l k ≡ true → row_add (row l a p) k ≡ row l a p
add_lined l a p k e = add_dirty l a p k (list_any-append (key_eq k) l a ∙ ap (λ t. t || stands_in a k) e)

-- one that is being worked on
pub add_held : (l a b p : List Place) (k : Place) → stands_in p k ≡ true → Sets a b k true
    → row_add (row l a p) k ≡ row l b p
add_held l a b p k held sets = by (stands_in (l ++ a) k) refl
  where
    put : keys_of (l ++ b) ≡ map.insert (keys_of (l ++ a)) k tt
    put = keys_put (l ++ a) (l ++ b) k (put_behind l a b k sets)

    by : (t : Bool) → stands_in (l ++ a) k ≡ t → row_add (row l a p) k ≡ row l b p
    by true e =
        add_dirty l a p k e
        ∙ λ i. record {
          line = l;
          dirty = (keys_put (l ++ a) (l ++ a) k (there (l ++ a) k e) ∙ sym put) i;
          processing = keys_of p;
        }
    by false e =
        off (has (keys_of (l ++ a)) k) _ _ (has_keys (l ++ a) k ∙ e)
        ∙ λ i. record {
          line = on (has (keys_of p) k) l (l ++ k ∷ []) (has_keys p k ∙ held) i;
          dirty = sym put i;
          processing = keys_of p;
        }

-- one that is neither dirty nor being worked on
-- For put_last: what stands in two lists with k between them is k and what stood in the two.
last_put : (x t y : Bool) → ((x || (t || false)) || y) ≡ cond t true (x || y)
last_put true true y = refl
last_put true false y = refl
last_put false true y = refl
last_put false false y = refl

-- A key stands in a line with k put last, or in a list behind, where it stood there or is k.
in_pushed : (l a : List Place) (k q : Place) → stands_in ((l ++ k ∷ []) ++ a) q
    ≡ ((stands_in l q || (key_eq k q || false)) || stands_in a q)
in_pushed l a k q =
    list_any-append (key_eq q) (l ++ k ∷ []) a ∙ ap (λ t. t || stands_in a q) (list_any-append (key_eq q) l (k ∷ []))
    ∙ ap (λ t. (stands_in l q || (t || false)) || stands_in a q) (eq_turned q k)

-- A line with k put last, together with a list behind it, has k and else what the two had before.
put_last : (l a : List Place) (k : Place) → Sets (l ++ a) ((l ++ k ∷ []) ++ a) k true
put_last l a k q =
    in_pushed l a k q ∙ last_put (stands_in l q) (key_eq k q) (stands_in a q)
    ∙ ap (cond (key_eq k q) true) (sym (list_any-append (key_eq q) l a))

-- An add of a key that is neither dirty nor being worked on puts it last in the line.
pub add_new : (l m a p : List Place) (k : Place) → IsLined l a p → stands_in p k ≡ false → stands_in l k ≡ false
    → m ≡ l ++ k ∷ [] → row_add (row l a p) k ≡ row m a p
add_new l m a p k lined free absent last =
    off (has (keys_of (l ++ a)) k) _ _ (has_keys (l ++ a) k ∙ neither l a k absent (not_again l a p k lined free))
    ∙ (λ i. record {
      line = off (has (keys_of p) k) l (l ++ k ∷ []) (has_keys p k ∙ free) i;
      dirty = sym (keys_put (l ++ a) ((l ++ k ∷ []) ++ a) k (put_last l a k)) i;
      processing = keys_of p;
    })
    ∙ ap (λ n. row n a p) (sym last)

-- ---- the end of the work on a key

-- For end_again: a key that goes from those added again to the line's end is as dirty as before.
moved : (x t y : Bool) → (t ≡ true → y ≡ true) → ((x || (t || false)) || cond t false y) ≡ (x || y)
moved true t y f = refl
moved false true y f = sym (f refl)
moved false false y f = refl

-- the key was added again, and goes last
pub end_again : (l m a b p o : List Place) (k : Place) → stands_in a k ≡ true → m ≡ l ++ k ∷ [] → Sets a b k false
    → Sets p o k false → row_end (row l a p) k ≡ row m b o
end_again l m a b p o k added last removal sets =
    (λ i. record {
      line = on (has (keys_of (l ++ a)) k) (l ++ k ∷ []) l (has_keys (l ++ a) k ∙ list_any-append (key_eq k) l a
          ∙ one_of (stands_in l k) (stands_in a k) added) i;
      dirty = sym (same_keys (l ++ a) ((l ++ k ∷ []) ++ b) same) i;
      processing = sym (keys_removal p o k sets) i;
    })
    ∙ ap (λ n. row n b o) (sym last)
  where
    same : (q : Place) → stands_in ((l ++ k ∷ []) ++ b) q ≡ stands_in (l ++ a) q
    same q =
        in_pushed l b k q ∙ ap (λ t. (stands_in l q || (key_eq k q || false)) || t) (removal q)
        ∙ moved (stands_in l q) (key_eq k q) (stands_in a q) (at_equal (stands_in a) k q true added)
        ∙ sym (list_any-append (key_eq q) l a)

-- The end of the work on a key that wasn't added again leaves line and dirty keys as they are.
pub end_clean : (l a p o : List Place) (k : Place) → IsLined l a p → stands_in p k ≡ true → stands_in a k ≡ false
    → Sets p o k false → row_end (row l a p) k ≡ row l a o
end_clean l a p o k lined held clean sets = λ i. record {
  line = off (has (keys_of (l ++ a)) k) (l ++ k ∷ []) l (has_keys (l ++ a) k
      ∙ neither l a k (out_of_line l a p k lined held) clean) i;
  dirty = keys_of (l ++ a);
  processing = sym (keys_removal p o k sets) i;
}

-- ---- a take

-- For take_is: what stands behind the first key is what stood in the whole line, less that key.
removal_first : (t z : Bool) → (t ≡ true → z ≡ false) → z ≡ cond t false (t || z)
removal_first true z f = f refl
removal_first false z f = refl

-- When the first key leaves the line to be worked on, the row is what row_take says.
pub take_is : (l m a p o : List Place) (k : Place) → IsLined l a p → first l ≡ Some k → m ≡ drop 1 l → Sets p o k true
    → row_take (row l a p) ≡ row m a o
take_is [] m a p o k lined h removal sets = absurd (cc h)
take_is (x ∷ l) m a p o k lined h removal sets =
    (λ i. record {
      line = l;
      dirty = sym (keys_removal (x ∷ l ++ a) (l ++ a) x out) i;
      processing = (ap (λ j. map.insert (keys_of p) j tt) same ∙ sym (keys_put p o k sets)) i;
    })
    ∙ ap (λ n. row n a o) (sym removal)
  where
    same : x ≡ k
    same = cc h

    absent : stands_in (l ++ a) x ≡ false
    absent = neither l a x (head_once x l lined.once)
        (not_again (x ∷ l) a p x lined (lined.free x (ap (λ t. t || stands_in l x) (eq_self x))))

    out : Sets (x ∷ l ++ a) (l ++ a) x false
    out q =
        removal_first (key_eq x q) (stands_in (l ++ a) q) (at_equal (stands_in (l ++ a)) x q false absent)
        ∙ ap (λ t. cond (key_eq x q) false (t || stands_in (l ++ a) q)) (eq_turned x q)

-- ---- the same keys

-- With the same keys added again, the same keys are dirty.
pub same_dirty : (l a b : List Place) → ((q : Place) → stands_in b q ≡ stands_in a q)
    → keys_of (l ++ b) ≡ keys_of (l ++ a)
same_dirty l a b h = same_keys (l ++ a) (l ++ b) (λ q. list_any-append (key_eq q) l b
    ∙ ap (λ t. stands_in l q || t) (h q) ∙ sym (list_any-append (key_eq q) l a))

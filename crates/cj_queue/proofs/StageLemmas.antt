-- What a change of the line and of one key's stage makes of the row.
use Rattle.std.proofs.Common.{◌≡◌, Bool, true, false, cond, ◌&&◌, ◌||◌, List, [], ◌∷◌, ◌++◌, drop, Option, Some, None, is_some, Result, Ok, Err, refl, sym, ap, ◌∙◌, subst}
use Rattle.std.specs.Prelude.{OnOk, OnErr}
use Rattle.std.specs.Map.{keys_of as keys_with}
use Rattle.std.proofs.lemmas.Map.Made.{is_some-lookup}
use Rattle.std.proofs.lemmas.Map.Views.{any-filter_same}
use Rattle.cj_types.specs.Keys.{Place}
use Rattle.cj_queue.specs.declared.stage.Stage.{Stage}
use Rattle.cj_queue.specs.declared.stage.Stage.TheVariants.{Held, Again}
use Rattle.cj_queue.specs.Queue.{has, first as head_of, row_add, row_end, row_take}
use Rattle.cj_queue.specs.Parts.{key_eq, keys_of, stands_in, are_distinct, Busy, stage_of, is_again, added_again, HasStage, IsFree, with_last, row_of, IsLined}
use Rattle.cj_queue.proofs.Sets.{has_keys, at_equal, eq_self, eq_true}
use Rattle.cj_queue.proofs.LineLemmas.{head_once, tail_once, push_once, in_last, true_or_false}
use Rattle.cj_queue.proofs.RowLemmas.{row, Sets, on, off, add_lined, add_held, add_new, end_again, end_clean, take_is, out_of_line, same_dirty}

-- ---- the keys of some stage

-- A key stands among those that are being worked on just where it has a stage.
stands_busy : (es : Busy) (q : Place) → stands_in (keys_with es) q ≡ is_some (stage_of es q)
stands_busy es q = sym (is_some-lookup (key_eq q) es)

-- For stands_again: a key that was added again has a stage.
again_some : (o : Option Stage) → (is_again o && is_some o) ≡ is_again o
again_some None = refl
again_some (Some Held) = refl
again_some (Some Again) = refl

-- A key stands among those that were added again just where its stage says so.
stands_again : (es : Busy) (q : Place) → stands_in (added_again es) q ≡ is_again (stage_of es q)
stands_again es q =
    any-filter_same (key_eq q) (λ k. is_again (stage_of es k)) (is_again (stage_of es q))
    (λ k e. ap (λ j. is_again (stage_of es j)) (sym (eq_true q k e))) (keys_with es)
    ∙ ap (λ b. is_again (stage_of es q) && b) (sym (is_some-lookup (key_eq q) es))
    ∙ again_some (stage_of es q)

-- What a test says of a choice between two stages is the choice between what it says of each.
chosen : (test : Option Stage → Bool) (b : Bool) (s o : Option Stage) → test (cond b s o) ≡ cond b (test s) (test o)
chosen test true s o = refl
chosen test false s o = refl

-- For same_at: a choice by a test between what is b and what is b where it holds.
same_choice : (t b x : Bool) → (t ≡ true → x ≡ b) → cond t b x ≡ x
same_choice true b x f = sym (f refl)
same_choice false b x f = refl

module _ (test : Option Stage → Bool) (keys : Busy → List Place)
    (stands : (es : Busy) (q : Place) → stands_in (keys es) q ≡ test (stage_of es q)) where
  -- With a new stage at k, the keys whose stage passes a test have k where the new stage passes, and are else the same.
  sets_at : (es fs : Busy) (k : Place) (s : Option Stage) → HasStage es fs k s → Sets (keys es) (keys fs) k (test s)
  sets_at es fs k s h q =
      stands fs q ∙ ap test (h q) ∙ chosen test (key_eq k q) s (stage_of es q)
      ∙ ap (cond (key_eq k q) (test s)) (sym (stands es q))

  -- Where the new stage at k passes a test just as the old one did, the same keys pass.
  same_at : (es fs : Busy) (k : Place) (s : Option Stage) → HasStage es fs k s → test (stage_of es k) ≡ test s
      → (q : Place) → stands_in (keys fs) q ≡ stands_in (keys es) q
  same_at es fs k s h same q =
      sets_at es fs k s h q
      ∙ same_choice (key_eq k q) (test s) (stands_in (keys es) q)
      (at_equal (stands_in (keys es)) k q (test s) (stands es k ∙ same))

-- ---- the row

-- Rows of one line in which the same keys were added again and are being worked on are the same.
same_row : (l a b p o : List Place) → ((q : Place) → stands_in b q ≡ stands_in a q)
    → ((q : Place) → stands_in o q ≡ stands_in p q) → row l a p ≡ row l b o
same_row l a b p o again held = λ i. record {
  line = l;
  dirty = sym (same_dirty l a b again) i;
  processing = sym (same_dirty [] p o held) i;
}

-- For lined_of: a key that was added again is being worked on.
again_held : (o : Option Stage) → is_again o ≡ true → is_some o ≡ true
again_held None e = absurd (cc e)
again_held (Some Held) e = refl
again_held (Some Again) e = refl

-- What the stages say of the three lists.
lined_of : (l : List Place) (es : Busy) → IsFree l es → IsLined l (added_again es) (keys_with es)
lined_of l es free = record {
  free = λ k t. stands_busy es k ∙ ap is_some (free.free k t);
  held = λ k t. stands_busy es k ∙ again_held (stage_of es k) (sym (stands_again es k) ∙ t);
  once = free.once;
}

-- For Work::is_processing: a key is being worked on in the row just where it has a stage.
pub held_at : (es : Busy) (k : Place) → has (keys_of (keys_with es)) k ≡ is_some (stage_of es k)
held_at es k = has_keys (keys_with es) k ∙ stands_busy es k

-- ---- an add

-- Where one of two things is so, and what is wanted follows from either, it is so.
either : (t x : Bool) (P : Type 0) → cond t true x ≡ true → (t ≡ true → P) → (t ≡ false → x ≡ true → P) → P
either true x P e f g = f refl
either false x P e f g = g refl e

-- For Work::add: what an add makes of the row where nobody works on the key.
pub added_free : (l : List Place) (es : Busy) (k : Place) → IsFree l es → stage_of es k ≡ None
    → row_add (row_of l es) k ≡ row_of (with_last l k) es
added_free l es k free none = by (stands_in l k) refl
  where
    by : (t : Bool) → stands_in l k ≡ t → row_add (row_of l es) k ≡ row_of (with_last l k) es
    by true e =
        add_lined l (added_again es) (keys_with es) k e
        ∙ ap (λ n. row_of n es) (sym (on (stands_in l k) l (l ++ k ∷ []) e))
    by false e =
        add_new l (with_last l k) (added_again es) (keys_with es) k (lined_of l es free)
        (stands_busy es k ∙ ap is_some none) e (off (stands_in l k) l (l ++ k ∷ []) e)

-- For Work::add and end: the keys of the line are still free, and in it once, with one that is free put last.
pub free_last : (l : List Place) (es : Busy) (k : Place) → IsFree l es → stage_of es k ≡ None
    → IsFree (with_last l k) es
free_last l es k free none = by (stands_in l k) refl
  where
    last : stands_in l k ≡ false → IsFree (l ++ k ∷ []) es
    last e = record {
      free = λ q t. either (key_eq k q) (stands_in l q) (stage_of es q ≡ None) (sym (in_last l k q) ∙ t)
          (λ same. ap (stage_of es) (sym (eq_true k q same)) ∙ none) (λ _ there. free.free q there);
      once = push_once l k free.once e;
    }

    by : (t : Bool) → stands_in l k ≡ t → IsFree (with_last l k) es
    by true e = subst (λ n. IsFree n es) (sym (on (stands_in l k) l (l ++ k ∷ []) e)) free
    by false e = subst (λ n. IsFree n es) (sym (off (stands_in l k) l (l ++ k ∷ []) e)) (last e)

-- For Work::add: what an add makes of the row where somebody works on the key.
pub added_held : (l : List Place) (es fs : Busy) (k : Place) → is_some (stage_of es k) ≡ true
    → HasStage es fs k (Some Again) → row_add (row_of l es) k ≡ row_of l fs
added_held l es fs k held h =
    add_held l (added_again es) (added_again fs) (keys_with es) k (stands_busy es k ∙ held)
    (sets_at is_again added_again stands_again es fs k (Some Again) h)
    ∙ same_row l (added_again fs) (added_again fs) (keys_with es) (keys_with fs) (λ q. refl)
    (same_at is_some keys_with stands_busy es fs k (Some Again) h held)

-- What isn't some is none.
pub none_of : (o : Option Stage) → is_some o ≡ false → o ≡ None
none_of None e = refl
none_of (Some s) e = absurd (cc e)

-- For Work::add and end: what a result promises if it is Ok holds where it is.
pub ok_part : {A E : Type 0} (r : Result A E) (x : A) (P : Type 0) → r ≡ Ok x → OnOk r P → P
ok_part (Ok y) x P e h = h
ok_part (Err y) x P e h = absurd (cc e)

-- For Work::add_key: the keys of the line are still free, with the key put last or not.
pub free_add : {A E : Type 0} (r : Result A E) (l m : List Place) (es : Busy) (k : Place) → IsFree l es
    → stage_of es k ≡ None → OnOk r (m ≡ with_last l k) → OnErr r (m ≡ l) → IsFree m es
free_add (Ok x) l m es k free none ok err = subst (λ n. IsFree n es) (sym ok) (free_last l es k free none)
free_add (Err x) l m es k free none ok err = subst (λ n. IsFree n es) (sym err) free

-- ---- a take

-- The first key of the line stands in it.
head_there : (l m : List Place) (k : Place) → l ≡ k ∷ m → stands_in l k ≡ true
head_there l m k first = ap (λ n. stands_in n k) first ∙ ap (λ t. t || stands_in m k) (eq_self k)

-- For Work::take: what a take makes of the row.
pub taken : (l m : List Place) (es fs : Busy) (k : Place) → IsFree l es → l ≡ k ∷ m → HasStage es fs k (Some Held)
    → row_take (row_of l es) ≡ row_of m fs
taken l m es fs k free first h =
    take_is l m (added_again es) (keys_with es) (keys_with fs) k (lined_of l es free) (ap head_of first)
    (sym (ap (drop 1) first)) (sets_at is_some keys_with stands_busy es fs k (Some Held) h)
    ∙ same_row m (added_again es) (added_again fs) (keys_with fs) (keys_with fs)
    (same_at is_again added_again stands_again es fs k (Some Held) h
    (ap is_again (free.free k (head_there l m k first)))) (λ q. refl)

-- For free_taken: of two tests the second holds.
or_second : (a b : Bool) → b ≡ true → (a || b) ≡ true
or_second true b e = refl
or_second false b e = e

-- For Work::take: the rest of the line is free where its first key is being worked on.
pub free_taken : (l m : List Place) (es fs : Busy) (k : Place) → IsFree l es → l ≡ k ∷ m
    → HasStage es fs k (Some Held) → IsFree m fs
free_taken l m es fs k free first h = record {
  free = λ q t. h q ∙ by q (key_eq k q) refl t;
  once = tail_once k m whole;
}
  where
    whole : are_distinct (k ∷ m) ≡ true
    whole = ap are_distinct (sym first) ∙ free.once

    by : (q : Place) (t : Bool) → key_eq k q ≡ t → stands_in m q ≡ true → cond t (Some Held) (stage_of es q) ≡ None
    by q true e there =
        absurd (true_or_false (stands_in m q) there (at_equal (stands_in m) k q false (head_once k m whole) e))
    by q false e there =
        free.free q (ap (λ n. stands_in n q) first ∙ or_second (key_eq q k) (stands_in m q) there)

-- ---- the end of the work

-- For Work::end: the key has no stage then.
pub none_at : (es fs : Busy) (k : Place) → HasStage es fs k None → stage_of fs k ≡ None
none_at es fs k h = h k ∙ ap (λ t. cond t None (stage_of es k)) (eq_self k)

-- For Work::end: the keys of the line are still free.
pub free_ended : (l : List Place) (es fs : Busy) (k : Place) → IsFree l es → HasStage es fs k None → IsFree l fs
free_ended l es fs k free h = record {
  free = λ q t. h q ∙ by q (key_eq k q) t;
  once = free.once;
}
  where
    by : (q : Place) (t : Bool) → stands_in l q ≡ true → cond t None (stage_of es q) ≡ None
    by q true there = refl
    by q false there = free.free q there

-- For Work::end: a key that was added again goes last.
pub ended_again : (l : List Place) (es fs : Busy) (k : Place) → IsFree l es → is_again (stage_of es k) ≡ true
    → HasStage es fs k None → row_end (row_of l es) k ≡ row_of (with_last l k) fs
ended_again l es fs k free again h =
    end_again l (with_last l k) (added_again es) (added_again fs) (keys_with es) (keys_with fs) k
    (stands_again es k ∙ again) (off (stands_in l k) l (l ++ k ∷ []) out)
    (sets_at is_again added_again stands_again es fs k None h)
    (sets_at is_some keys_with stands_busy es fs k None h)
  where
    out : stands_in l k ≡ false
    out = out_of_line l (added_again es) (keys_with es) k (lined_of l es free)
        (stands_busy es k ∙ again_held (stage_of es k) again)

-- For Work::end: what the end of a key that wasn't added again makes of the row.
pub ended_clean : (l : List Place) (es fs : Busy) (k : Place) → IsFree l es → is_some (stage_of es k) ≡ true
    → is_again (stage_of es k) ≡ false → HasStage es fs k None → row_end (row_of l es) k ≡ row_of l fs
ended_clean l es fs k free held clean h =
    end_clean l (added_again es) (keys_with es) (keys_with fs) k (lined_of l es free)
    (stands_busy es k ∙ held) (stands_again es k ∙ clean)
    (sets_at is_some keys_with stands_busy es fs k None h)
    ∙ same_row l (added_again es) (added_again fs) (keys_with fs) (keys_with fs)
    (same_at is_again added_again stands_again es fs k None h clean) (λ q. refl)

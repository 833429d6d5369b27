-- A line that is kept in two sets, of which the first has the older keys in reverse.
use Rattle.std.proofs.Common.{◌≡◌, ◌-◌, Bool, true, false, ◌||◌, List, [], ◌∷◌, ◌++◌, reverse, length, slice_get, Some, Result, Ok, Err, refl, sym, ap, ◌∙◌, arith}
use Rattle.std.specs.List.{slice_range}
use Rattle.std.specs.Prelude.{IfOk}
use Rattle.std.specs.Result.{is_err}
use Rattle.std.proofs.lemmas.List.{append_assoc, reverse-append}
use Rattle.std.proofs.lemmas.List.Folds.{list_any-append}
use Rattle.std.proofs.lemmas.Option.{slice_get_within}
use Rattle.indexmap.proofs.MapLemmas.{split_last}
use Rattle.cj_types.specs.Keys.{Place}
use Rattle.cj_queue.specs.Queue.{first}
use Rattle.cj_queue.specs.Parts.{key_eq, stands_in, line_of, with_last}
use Rattle.cj_queue.proofs.RowLemmas.{on, off}

-- For stands_reversed: which of two tests is asked first makes no difference.
turned : (a b : Bool) → (a || (b || false)) ≡ (b || a)
turned true true = refl
turned true false = refl
turned false true = refl
turned false false = refl

-- The same keys stand in a list and in its reverse.
stands_reversed : (ks : List Place) (q : Place) → stands_in (reverse ks) q ≡ stands_in ks q
stands_reversed [] q = refl
stands_reversed (k ∷ ks) q =
    ap (λ n. stands_in n q) (reverse-append (k ∷ []) ks)
    ∙ list_any-append (key_eq q) (reverse ks) (k ∷ [])
    ∙ ap (λ t. t || (key_eq q k || false)) (stands_reversed ks q)
    ∙ turned (stands_in ks q) (key_eq q k)

-- A key stands in the line where it stands in one of the two sets.
stands_line : (f b : List Place) (q : Place) → stands_in (line_of f b) q ≡ (stands_in f q || stands_in b q)
stands_line f b q =
    list_any-append (key_eq q) (reverse f) b ∙ ap (λ t. t || stands_in b q) (stands_reversed f q)

-- For Line::add: a key that stands in front isn't put last.
pub in_front : (f b : List Place) (k : Place) → stands_in f k ≡ true → line_of f b ≡ with_last (line_of f b) k
in_front f b k e = sym (on (stands_in (line_of f b) k) (line_of f b) (line_of f b ++ k ∷ [])
    (stands_line f b k ∙ ap (λ t. t || stands_in b k) e))

-- For Line::add: a key that doesn't stand in front is put last in the line just where it is put last in back.
pub behind_front : (f b : List Place) (k : Place) → stands_in f k ≡ false
    → line_of f (with_last b k) ≡ with_last (line_of f b) k
behind_front f b k e = by (stands_in b k) refl
  where
    there : (t : Bool) → stands_in b k ≡ t → stands_in (line_of f b) k ≡ t
    there t h = stands_line f b k ∙ (λ i. e i || h i)

    by : (t : Bool) → stands_in b k ≡ t → line_of f (with_last b k) ≡ with_last (line_of f b) k
    by true h =
        ap (line_of f) (on (stands_in b k) b (b ++ k ∷ []) h)
        ∙ sym (on (stands_in (line_of f b) k) (line_of f b) (line_of f b ++ k ∷ []) (there true h))
    by false h =
        ap (line_of f) (off (stands_in b k) b (b ++ k ∷ []) h)
        ∙ sym (append_assoc (reverse f) b (k ∷ []))
        ∙ sym (off (stands_in (line_of f b) k) (line_of f b) (line_of f b ++ k ∷ []) (there false h))

-- No key stands in what is empty.
pub none_stands : (ks : List Place) (k : Place) → length ks ≡ 0 → stands_in ks k ≡ false
none_stands [] k e = refl
none_stands (x ∷ ks) k e = absurd (omega (arith, e))

-- The line, where k is the last key in front.
pub line_last : (f b : List Place) (k : Place) → line_of (f ++ k ∷ []) b ≡ k ∷ line_of f b
line_last f b k = ap (λ n. n ++ b) (reverse-append f (k ∷ []))

-- For Line::first: where front has a last key, this is the line's first.
pub first_front : (f b : List Place) (k : Place) → slice_get f (length f - 1) ≡ Some k → first (line_of f b) ≡ Some k
first_front f b k e =
    let within = slice_get_within f (length f - 1) k e in
    let rest = slice_range f 0 (length f - 1) in
    ap (λ n. first (line_of n b)) (split_last f k e (omega (arith, within)))
    ∙ ap first (line_last rest b k)

-- For Line::add: what a result that isn't an error promises.
pub ok_keys : {A E : Type 0} (r : Result A E) (P : Type 0) → is_err r ≡ false → IfOk r (λ _. P) → P
ok_keys (Ok x) P e h = h
ok_keys (Err x) P e h = absurd (cc e)

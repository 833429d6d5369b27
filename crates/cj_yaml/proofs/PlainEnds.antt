-- Where a plain text ends that is printed.
use Rattle.std.proofs.Common.{◌≡◌, ℕ, ◌+◌, ◌-◌, ◌<◌, ◌≤◌, ◌==◌, ◌&&◌, ◌||◌, not, List, [], ◌∷◌, ◌++◌, length, drop, get_or, Bool, true, false, true≢false, refl, sym, ap, ◌∙◌, subst, arith, get_or-drop}
use Rattle.std.proofs.lemmas.Bool.{and_parts, eqb-true, ne_eqb}
use Rattle.std.proofs.lemmas.List.{drop_all, drop_more, get_or_append_left, get_or-append-add, length-append, length-drop, nil_from_length}
use Rattle.cj_yaml.specs.OnLines.{StandsPlain, ends_plain, is_blank, is_gap, is_quote, stops_plain}
use Rattle.cj_yaml.specs.Words.{begins_plain, is_plain_byte, is_plain_rest, may_be_behind}

-- What is left of a plain text at an offset, and how far its end is.
pub record Left (text : List ℕ) (from at : ℕ) (t rest : List ℕ) : Type 0 where
  pub before : ℕ
  pub left : List ℕ
  pub there : drop at text ≡ left ++ rest
  pub plain : is_plain_rest before left ≡ true
  pub ends : ends_plain rest ≡ true
  pub count : at + length left ≡ from + length t

-- All is left.
pub left_first : (text : List ℕ) (from : ℕ) (t rest : List ℕ) → StandsPlain text from t rest
    → Left text from from t rest
left_first text from t rest s =
    record {
      before = 32;
      left = t;
      there = s.there;
      plain = (and_parts (begins_plain (get_or t 0 0)) (is_plain_rest 32 t) s.plain).1;
      ends = s.ends;
      count = refl;
    }

-- A byte that may stand in a plain text isn't one that may not.
other_byte : (x k : ℕ) → is_plain_byte x ≡ true → is_plain_byte k ≡ false → (x == k) ≡ false
other_byte x k is other = ne_eqb x k (λ (e : x ≡ k). true≢false (sym is ∙ ap is_plain_byte e ∙ other))

-- What may stand there is no gap but a space.
no_gap : (x : ℕ) → is_plain_byte x ≡ true → (x == 32) ≡ false → is_gap x ≡ false
no_gap x is space =
    rw (space, other_byte x 9 is refl, other_byte x 10 is refl, other_byte x 13 is refl, other_byte x 0 is refl)
    refl

-- What is not true is false.
pub not_true : (b : Bool) → not b ≡ true → b ≡ false
not_true false e = refl
not_true true e = absurd (true≢false (sym e))

-- For colon_passes: behind a `:`.
behind_colon : (u rest : List ℕ) → is_plain_rest 58 u ≡ true → is_gap (get_or (u ++ rest) 0 0) ≡ false
behind_colon [] rest is = absurd (true≢false (sym is))
behind_colon (y ∷ v) rest is =
    let both = and_parts (may_be_behind 58 y) (is_plain_rest y v) is in
    let byte = and_parts (is_plain_byte y) (not (y == 32)) both.0 in
    no_gap y byte.0 (not_true (y == 32) byte.1)

-- For passes: a `:` has no gap behind it.
colon_passes : (x : ℕ) (u rest : List ℕ) (b : Bool) → (x == 58) ≡ b → is_plain_rest x u ≡ true
    → (b && is_gap (get_or (u ++ rest) 0 0)) ≡ false
colon_passes x u rest false e is = refl
colon_passes x u rest true e is =
    behind_colon u rest (subst (λ n. is_plain_rest n u ≡ true) (eqb-true x 58 e) is)

-- A plain text doesn't end at one of its bytes.
passes : (x before : ℕ) (u rest : List ℕ) (blank : Bool) → is_plain_rest before (x ∷ u) ≡ true
    → stops_plain x (get_or (u ++ rest) 0 0) blank ≡ false
passes x before u rest blank is =
    let both = and_parts (may_be_behind before x) (is_plain_rest x u) is in
    let byte = (and_parts (is_plain_byte x) (not ((before == 58) && (x == 32))) both.0).0 in
    rw (other_byte x 10 byte refl, other_byte x 13 byte refl, colon_passes x u rest (x == 58) refl both.1, other_byte x 35 byte refl) refl

-- For rest_stops: of four tests the first or the third is met.
one_of : (a b c d : Bool) → (a || c) ≡ true → (a || b || c || d) ≡ true
one_of true b c d e = refl
one_of false true c d e = refl
one_of false false true d e = refl
one_of false false false d e = absurd (true≢false (sym e))

-- A plain text ends at what is behind it.
rest_stops : (rest : List ℕ) (blank : Bool) → ends_plain rest ≡ true
    → stops_plain (get_or rest 0 0) (get_or rest 1 0) blank ≡ true
rest_stops rest blank e =
    one_of (get_or rest 0 0 == 10) (get_or rest 0 0 == 13) ((get_or rest 0 0 == 58) && is_gap (get_or rest 1 0))
    ((get_or rest 0 0 == 35) && blank) e

-- The byte at an offset is the first of what is left there, and so on.
pub byte_at : (s xs : List ℕ) (i k n : ℕ) → i + k ≡ n → drop i s ≡ xs → get_or s n 0 ≡ get_or xs k 0
byte_at s xs i k n e same =
    ap (λ (j : ℕ). get_or s j 0) (sym e) ∙ sym (get_or-drop i s k 0) ∙ ap (λ ys. get_or ys k 0) same

-- What is behind the first byte.
abbrev tail : List ℕ → List ℕ
tail [] = []
tail (x ∷ xs) = xs

-- For left_stops: nothing is left where it stops.
none_left : (s : List ℕ) (at before b next : ℕ) (left rest : List ℕ) (blank : Bool) → drop at s ≡ left ++ rest
    → is_plain_rest before left ≡ true → b ≡ get_or s at 0 → next ≡ get_or s (at + 1) 0
    → stops_plain b next blank ≡ true → length left ≡ 0
none_left s at before b next [] rest blank there plain p q stop = refl
none_left s at before b next (x ∷ u) rest blank there plain p q stop =
    let first : b ≡ x = p ∙ byte_at s (x ∷ (u ++ rest)) at 0 at (omega arith) there in
    let second : next ≡ get_or (u ++ rest) 0 0 = q ∙ byte_at s (x ∷ (u ++ rest)) at 1 (at + 1) refl there in
    let same : stops_plain b next blank ≡ stops_plain x (get_or (u ++ rest) 0 0) blank = rw (first, second) refl in
    absurd (true≢false (sym stop ∙ same ∙ passes x before u rest blank plain))

-- For plain_end: the text ends where it stops.
pub left_stops : (s : List ℕ) (from at b next : ℕ) (t rest : List ℕ) (blank : Bool) → Left s from at t rest
    → b ≡ get_or s at 0 → next ≡ get_or s (at + 1) 0 → stops_plain b next blank ≡ true → at ≡ from + length t
left_stops s from at b next t rest blank l p q stop =
    let none = none_left s at l.before b next l.left rest blank l.there l.plain p q stop in
    let count = l.count in
    omega (arith, none, count)

-- For left_goes_on: of what is left.
one_less : (s : List ℕ) (from at before b next : ℕ) (t left rest : List ℕ) (blank : Bool) → at < length s
    → drop at s ≡ left ++ rest → is_plain_rest before left ≡ true → ends_plain rest ≡ true
    → at + length left ≡ from + length t → b ≡ get_or s at 0 → next ≡ get_or s (at + 1) 0
    → stops_plain b next blank ≡ false → Left s from (at + 1) t rest
one_less s from at before b next t [] rest blank h there plain ends count p q go =
    let first : b ≡ get_or rest 0 0 = p ∙ byte_at s rest at 0 at (omega arith) there in
    let second : next ≡ get_or rest 1 0 = q ∙ byte_at s rest at 1 (at + 1) refl there in
    let same : stops_plain b next blank ≡ stops_plain (get_or rest 0 0) (get_or rest 1 0) blank = rw (first, second) refl in
    absurd (true≢false (sym (rest_stops rest blank ends) ∙ sym same ∙ go))
one_less s from at before b next t (x ∷ u) rest blank h there plain ends count p q go =
    record {
      before = x;
      left = u;
      there = ap tail (sym (drop_more s at 0 h) ∙ there);
      plain = (and_parts (may_be_behind before x) (is_plain_rest x u) plain).1;
      ends = ends;
      count = omega (arith, count);
    }

-- For plain_end: one byte more.
pub left_goes_on : (s : List ℕ) (from at b next : ℕ) (t rest : List ℕ) (blank : Bool) → at < length s
    → Left s from at t rest → b ≡ get_or s at 0 → next ≡ get_or s (at + 1) 0 → stops_plain b next blank ≡ false
    → Left s from (at + 1) t rest
left_goes_on s from at b next t rest blank h l p q go =
    one_less s from at l.before b next t l.left rest blank h l.there l.plain l.ends l.count p q go

-- For left_over: the end ends no plain text.
no_end : (left rest : List ℕ) → [] ≡ left ++ rest → ends_plain rest ≡ true → ⊥
no_end [] rest e ends = true≢false (sym ends ∙ ap ends_plain (sym e))
no_end (x ∷ u) rest e ends = absurd (omega (arith, ap length e))

-- For plain_end: something is left at the end of a plain text.
pub left_over : (s : List ℕ) (from at : ℕ) (t rest : List ℕ) → length s ≤ at → Left s from at t rest → ⊥
left_over s from at t rest h l = no_end l.left rest (sym (drop_all at s h) ∙ l.there) l.ends

-- For last_shown: the last byte of those behind one that may stand there.
last_byte : (x : ℕ) (u : List ℕ) → is_plain_byte x ≡ true → is_plain_rest x u ≡ true
    → is_blank (get_or (x ∷ u) (length u) 0) ≡ false
last_byte x [] byte is =
    let both = and_parts (not (x == 32)) (not (x == 58)) is in
    rw (not_true (x == 32) both.0, other_byte x 9 byte refl) refl
last_byte x (y ∷ v) byte is =
    let both = and_parts (may_be_behind x y) (is_plain_rest y v) is in
    last_byte y v (and_parts (is_plain_byte y) (not ((x == 58) && (y == 32))) both.0).0 both.1

-- A plain text has a byte, and the last one is no blank.
last_shown : (t : List ℕ) → is_plain_rest 32 t ≡ true
    → (0 < length t) × (is_blank (get_or t (length t - 1) 0) ≡ false)
last_shown [] is = absurd (true≢false (sym is))
last_shown (x ∷ u) is =
    let both = and_parts (may_be_behind 32 x) (is_plain_rest x u) is in
    let last : length u ≡ length (x ∷ u) - 1 = omega arith in (
      omega arith,
      subst (λ (j : ℕ). is_blank (get_or (x ∷ u) j 0) ≡ false) last
          (last_byte x u (and_parts (is_plain_byte x) (not ((32 == 58) && (x == 32))) both.0).0 both.1),
    )

-- A byte of the front of what is left.
front_byte : (t rest : List ℕ) (k : ℕ) → k < length t → get_or (t ++ rest) k 0 ≡ get_or t k 0
front_byte t rest k h = get_or_append_left t rest 0 k h

-- The first byte behind the front.
front_over : (t rest : List ℕ) → get_or (t ++ rest) (length t) 0 ≡ get_or rest 0 0
front_over t rest =
    let there : length t ≡ length t + 0 = omega arith in
    ap (λ (j : ℕ). get_or (t ++ rest) j 0) there ∙ get_or-append-add t rest 0 0

-- For plain_on_line: no blank is before the end.
pub end_shown : (s : List ℕ) (at end : ℕ) (t rest : List ℕ) → StandsPlain s at t rest → end ≡ at + length t
    → (at < end) × (is_blank (get_or s (end - 1) 0) ≡ false)
end_shown s at end t rest p e =
    let last = last_shown t (and_parts (begins_plain (get_or t 0 0)) (is_plain_rest 32 t) p.plain).1 in
    let some = last.0 in
    let same : get_or s (end - 1) 0 ≡ get_or t (length t - 1) 0 =
    byte_at s (t ++ rest) at (length t - 1) (end - 1) (omega (arith, e, some)) p.there
    ∙ front_byte t rest (length t - 1) (omega (arith, some)) in
    (omega (arith, e, some), ap is_blank same ∙ last.1)

-- What begins a plain text is no quote.
begins_no_quote : (b : ℕ) → begins_plain b ≡ true → is_quote b ≡ false
begins_no_quote b begins =
    rw (
      ne_eqb b 34 (λ (e : b ≡ 34). true≢false (sym begins ∙ ap begins_plain e)),
      ne_eqb b 39 (λ (e : b ≡ 39). true≢false (sym begins ∙ ap begins_plain e)),
    ) refl

-- For is_key: no plain text begins with a quote.
pub no_quote : (s : List ℕ) (at first : ℕ) (t rest : List ℕ) → StandsPlain s at t rest → first ≡ get_or s at 0
    → is_quote first ≡ false
no_quote s at first t rest p e =
    let some = (last_shown t (and_parts (begins_plain (get_or t 0 0)) (is_plain_rest 32 t) p.plain).1).0 in
    let is : first ≡ get_or t 0 0 =
    e ∙ byte_at s (t ++ rest) at 0 at (omega arith) p.there ∙ front_byte t rest 0 some in
    ap is_quote is
    ∙ begins_no_quote (get_or t 0 0) (and_parts (begins_plain (get_or t 0 0)) (is_plain_rest 32 t) p.plain).0

-- For is_key: what stands behind a plain text.
pub byte_behind : (s : List ℕ) (at end b : ℕ) (t rest : List ℕ) → StandsPlain s at t rest → end ≡ at + length t
    → b ≡ get_or s end 0 → b ≡ get_or rest 0 0
byte_behind s at end b t rest p e same =
    same ∙ byte_at s (t ++ rest) at (length t) end (sym e) p.there ∙ front_over t rest

-- For part: nothing stands past the end.
pub none_past : (s : List ℕ) (from to : ℕ) (t rest : List ℕ) → drop from s ≡ t ++ rest → to ≡ from + length t
    → length s < to → [] ≡ t
none_past s from to t rest there e past =
    let all : length s - from ≡ length t + length rest =
    sym (length-drop from s) ∙ ap length there ∙ length-append t rest in
    sym (nil_from_length t (omega (arith, all, e, past)))

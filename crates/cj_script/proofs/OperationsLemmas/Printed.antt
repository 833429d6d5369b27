-- The instant that a text is printed of.
use Rattle.std.proofs.Common.{◌≡◌, ◌≢◌, ◌≤◌, ◌∙◌, ℕ, zero, suc, List, Bool, true, false, if◌then◌else◌, Option, Some, None, IfSome, refl, sym, ap, arith}
use Rattle.std.specs.Str.{bytes_eq}
use Rattle.std.proofs.lemmas.Slice.Eq.{bytes_eq-Decides}
use Rattle.cj_base.specs.Instant.{last_second}
use Rattle.cj_zone.specs.TimeText.{time_text_of}
use Rattle.cj_script.specs.operations.Instants.{instant_of, printed_by}

-- What is not true is false.
not_true : (b : Bool) → (b ≡ true → ⊥) → b ≡ false
not_true true h = absurd (h refl)
not_true false h = refl

-- A text that is not an instant's printed form tests as other.
other : (t : ℕ) (text : List ℕ) → (text ≡ time_text_of t → ⊥) → bytes_eq text (time_text_of t) ≡ false
other t text h = not_true _ (λ e. h ((bytes_eq-Decides text (time_text_of t)).0 e))

-- Where the instant in hand fails the test and no instant before has the text, none has it.
test_none : (b : Bool) (t : ℕ) (rest : Option ℕ) → b ≡ false → rest ≡ None → (if b then Some t else rest) ≡ None
test_none true t rest e h = absurd (cc e)
test_none false t rest e h = h

-- a text that no instant up to n has
pub printed-none : (n : ℕ) (text : List ℕ) → ((t : ℕ) → t ≤ n → text ≡ time_text_of t → ⊥) → printed_by n text ≡ None
unfolding printed_by
printed-none zero text h = test_none _ 0 None (other 0 text (h 0 (omega arith))) refl
printed-none (suc n) text h =
    test_none _ (suc n) (printed_by n text) (other (suc n) text (h (suc n) (omega arith)))
    (printed-none n text (λ t le is. h t (omega arith) is))

-- An instant is found, be it the one in hand that passes the test or one before.
test_some : (b : Bool) (u t : ℕ) (rest : Option ℕ) → (b ≡ true → u ≡ t) → (b ≡ false → rest ≡ Some t)
    → (if b then Some u else rest) ≡ Some t
test_some true u t rest h k = ap (λ x. Some x) (h refl)
test_some false u t rest h k = k refl

-- An instant that the text is printed of is not one that fails the test.
not_other : (t u : ℕ) (text : List ℕ) → text ≡ time_text_of t → bytes_eq text (time_text_of u) ≡ false → t ≡ u → ⊥
not_other t u text is e same =
    let yes : bytes_eq text (time_text_of u) ≡ true = (bytes_eq-Decides text (time_text_of u)).1
    (is ∙ ap time_text_of same) in
    absurd (cc (e, yes))

-- For printed-some: an instant that is not the last in hand is one of those before.
below : (t n : ℕ) → t ≤ suc n → t ≢ suc n → t ≤ n
below t n le ne = omega arith

-- a text that one of them has
pub printed-some : (n t : ℕ) (text : List ℕ) → t ≤ n → text ≡ time_text_of t
    → ((u : ℕ) → u ≤ n → text ≡ time_text_of u → u ≡ t) → printed_by n text ≡ Some t
unfolding printed_by
printed-some zero t text le is only =
    test_some _ 0 t None (λ e. only 0 (omega arith) ((bytes_eq-Decides text (time_text_of 0)).0 e))
    (λ e. absurd (not_other t 0 text is e (omega arith)))
printed-some (suc n) t text le is only =
    test_some _ (suc n) t (printed_by n text) (λ e. only (suc n) (omega arith)
    ((bytes_eq-Decides text (time_text_of (suc n))).0 e))
    (λ e. printed-some n t text (below t n le (not_other t (suc n) text is e)) is (λ u h. only u (omega arith)))

-- what is read of a text
pub read-as : (r : Option ℕ) (text : List ℕ) → IfSome r (λ t. text ≡ time_text_of t) → IfSome r (λ t. t ≤ last_second)
    → ((t : ℕ) → t ≤ last_second → text ≡ time_text_of t → r ≡ Some t) → r ≡ instant_of text
unfolding instant_of
read-as None text found in_range only = sym (printed-none last_second text (λ t le is. absurd (cc (only t le is))))
read-as (Some t) text found in_range only =
    sym (printed-some last_second t text in_range found (λ u le is. cc (only u le is)))

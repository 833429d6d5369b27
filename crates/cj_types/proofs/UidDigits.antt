-- A text against that of a uid.
use Rattle.std.proofs.Common.{◌≡◌, ◌∙◌, ap, sym, refl, ℕ, suc, ◌/◌, ◌%◌, nat_eq, Bool, true, false, ◌&&◌, List, [], ◌∷◌, ◌++◌, take, drop, length, arith, eq-eqb}
use Rattle.std.specs.Str.{bytes_eq}
use Rattle.std.proofs.lemmas.Bool.{eqb-true}
use Rattle.std.proofs.lemmas.Bool.Decides.{nat_tests}
use Rattle.std.proofs.lemmas.Slice.Eq.{bytes_eq-Decides}
use Rattle.std.proofs.lemmas.List.{take-append-drop}
use Rattle.cj_types.specs.Uids.{hex_digit, hex_digits}

-- What is false beside anything is false.
and_false : (a : Bool) → (a && false) ≡ false
and_false true = refl
and_false false = refl

-- Of three tests the first two may change places.
and_swap : (a b c : Bool) → (a && (b && c)) ≡ (b && (a && c))
and_swap true b c = refl
and_swap false b c = sym (and_false b)

-- Lists with one more at the end are the same where those are, and what stands before them.
last_eq : (xs ys : List ℕ) (a b : ℕ) → bytes_eq (xs ++ a ∷ []) (ys ++ b ∷ []) ≡ (nat_eq a b && bytes_eq xs ys)
last_eq [] [] a b = refl
last_eq [] (y ∷ []) a b = and_false (nat_eq a y) ∙ sym (and_false (nat_eq a b))
last_eq [] (y ∷ z ∷ ys) a b = and_false (nat_eq a y) ∙ sym (and_false (nat_eq a b))
last_eq (x ∷ []) [] a b = and_false (nat_eq x b) ∙ sym (and_false (nat_eq a b))
last_eq (x ∷ z ∷ xs) [] a b = and_false (nat_eq x b) ∙ sym (and_false (nat_eq a b))
last_eq (x ∷ xs) (y ∷ ys) a b =
    ap (λ t. nat_eq x y && t) (last_eq xs ys a b) ∙ and_swap (nat_eq x y) (nat_eq a b) (bytes_eq xs ys)

-- With the last digit apart, by a test of the digits before it.
some_digits : (bytes rest : List ℕ) (last k count number : ℕ) (b : Bool) → bytes ≡ rest ++ last ∷ []
    → count ≡ suc k → b ≡ bytes_eq rest (hex_digits k (number / 16))
    → (nat_eq last (hex_digit (number % 16)) && b) ≡ bytes_eq bytes (hex_digits count number)
unfolding hex_digits
some_digits bytes rest last k count number b e s r =
    ap (λ t. nat_eq last (hex_digit (number % 16)) && t) r
    ∙ sym (last_eq rest (hex_digits k (number / 16)) last (hex_digit (number % 16)))
    ∙ ap (λ l. bytes_eq l (hex_digits (suc k) number)) (sym e)
    ∙ ap (λ n. bytes_eq bytes (hex_digits n number)) (sym s)

-- For are_digits: where the last digit is the number's, as the digits before it are.
pub same_digit : (bytes rest : List ℕ) (last digit k count number : ℕ) (b : Bool) → bytes ≡ rest ++ last ∷ []
    → count ≡ suc k → digit ≡ hex_digit (number % 16) → last ≡ digit → b ≡ bytes_eq rest (hex_digits k (number / 16))
    → b ≡ bytes_eq bytes (hex_digits count number)
same_digit bytes rest last digit k count number b e s d l r =
    ap (λ t. t && b) (sym (eq-eqb last (hex_digit (number % 16)) (l ∙ d)))
    ∙ some_digits bytes rest last k count number b e s r

-- For are_digits: where the last digit is another one, they aren't the number's.
pub other_digit : (bytes rest : List ℕ) (last digit k count number : ℕ) → bytes ≡ rest ++ last ∷ []
    → count ≡ suc k → digit ≡ hex_digit (number % 16) → (last ≡ digit → ⊥)
    → nat_eq last digit ≡ bytes_eq bytes (hex_digits count number)
other_digit bytes rest last digit k count number e s d n = by (nat_eq last digit) refl
  where
    before : Bool
    before = bytes_eq rest (hex_digits k (number / 16))

    by : (b : Bool) → nat_eq last digit ≡ b → b ≡ bytes_eq bytes (hex_digits count number)
    by true y = absurd (n (eqb-true last digit y))
    by false y = ap (λ t. t && before) (sym (ap (nat_eq last) (sym d) ∙ y))
        ∙ some_digits bytes rest last k count number before e s refl

-- Nothing isn't a list with one more at the end.
none_eq : (ys : List ℕ) (b : ℕ) → bytes_eq [] (ys ++ b ∷ []) ≡ false
none_eq [] b = refl
none_eq (y ∷ ys) b = refl

-- For are_digits: no digits are not some.
pub no_digits : (bytes : List ℕ) (k count number : ℕ) → length bytes ≡ 0 → count ≡ suc k
    → false ≡ bytes_eq bytes (hex_digits count number)
unfolding hex_digits
no_digits [] k count number e s =
    sym (none_eq (hex_digits k (number / 16)) (hex_digit (number % 16)))
    ∙ ap (λ n. bytes_eq [] (hex_digits n number)) (sym s)
no_digits (x ∷ xs) k count number e s = absurd (cc)

-- A number with one more isn't 0.
not_zero : (n : ℕ) → nat_eq (suc n) 0 ≡ false
not_zero n = grind (arith, nat_tests)

-- For are_digits: of a count of 0 there are none.
pub all_digits : (bytes : List ℕ) (count number : ℕ) → count ≡ 0
    → nat_eq (length bytes) 0 ≡ bytes_eq bytes (hex_digits count number)
unfolding hex_digits
all_digits [] count number e = ap (λ n. bytes_eq [] (hex_digits n number)) (sym e)
all_digits (x ∷ xs) count number e = not_zero (length xs) ∙ ap (λ n. bytes_eq (x ∷ xs) (hex_digits n number)) (sym e)

-- Lists with the same front are compared as what stands behind it.
front_eq : (front xs ys : List ℕ) → bytes_eq (front ++ xs) (front ++ ys) ≡ bytes_eq xs ys
front_eq [] xs ys = refl
front_eq (x ∷ front) xs ys =
    ap (λ b. b && bytes_eq (front ++ xs) (front ++ ys)) (eq-eqb x x refl) ∙ front_eq front xs ys

-- For Uid::has_text: a text that begins with the front is compared by what stands behind it.
pub with_front : (front text digits rest : List ℕ) → bytes_eq (take (length front) text) front ≡ true
    → digits ≡ drop (length front) text → bytes_eq digits rest ≡ bytes_eq text (front ++ rest)
with_front front text digits rest s d =
    let e : take (length front) text ≡ front = (bytes_eq-Decides (take (length front) text) front).0 s in
    let t : front ++ digits ≡ text = ap (λ l. front ++ l) d ∙ ap (λ l. l ++ drop (length front) text) (sym e)
    ∙ take-append-drop (length front) text in
    sym (front_eq front digits rest) ∙ ap (λ l. bytes_eq l (front ++ rest)) t

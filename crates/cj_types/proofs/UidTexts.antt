-- Texts of uids differ where the uids do.
use Rattle.std.proofs.Common.{◌≡◌, ℕ, zero, suc, ◌^◌, ◌/◌, ◌%◌, ◌<◌, List, [], ◌∷◌, ◌++◌, refl, arith}
use Rattle.std.specs.Prelude.{codes}
use Rattle.std.proofs.lemmas.Bool.Decides.{nat_tests}
use Rattle.std.proofs.lemmas.List.{append_cancel_left}
use Rattle.cj_types.specs.Apart.{AreApart}
use Rattle.cj_types.specs.Uids.{hex_digit, hex_digits}

-- Numbers below 16 with the same hexadecimal digit are the same.
digit_by : (a b : ℕ) → a < 16 → b < 16 → hex_digit a ≡ hex_digit b → a ≡ b
digit_by a b x y e = grind (arith, nat_tests)

-- Lists that are the same have the same last item, and the same items before it.
last_same : (xs ys : List ℕ) (a b : ℕ) → xs ++ a ∷ [] ≡ ys ++ b ∷ [] → (xs ≡ ys) × (a ≡ b)
last_same [] [] a b e = (refl, cc e)
last_same [] (y ∷ []) a b e = absurd (cc e)
last_same [] (y ∷ z ∷ ys) a b e = absurd (cc e)
last_same (x ∷ []) [] a b e = absurd (cc e)
last_same (x ∷ z ∷ xs) [] a b e = absurd (cc e)
last_same (x ∷ xs) (y ∷ ys) a b e =
    let h : x ≡ y = cc e in
    let t : xs ++ a ∷ [] ≡ ys ++ b ∷ [] = cc e in
    let r = last_same xs ys a b t in
    (λ i. h i ∷ r.0 i, r.1)

-- Numbers of at most k hexadecimal digits that have the same k digits are the same.
digits_same : (k m n : ℕ) → m < 16 ^ k → n < 16 ^ k → hex_digits k m ≡ hex_digits k n → m ≡ n
unfolding hex_digits
digits_same zero m n a b e = omega arith
digits_same (suc k) m n a b e =
    let r = last_same (hex_digits k (m / 16)) (hex_digits k (n / 16)) (hex_digit (m % 16)) (hex_digit (n % 16)) e in
    let d : m % 16 ≡ n % 16 = digit_by (m % 16) (n % 16) (omega arith) (omega arith) r.1 in
    let q : m / 16 ≡ n / 16 = digits_same k (m / 16) (n / 16) (omega arith) (omega arith) r.0 in
    omega arith

-- For uid_laws: no two uids have the same text.
pub uids_apart : AreApart
uids_apart m n a b e = digits_same 12 m n (omega arith) (omega arith)
    (append_cancel_left (codes "00000000-0000-0000-0000-") _ _ e)
